-- The commands of the program with their words, as a parse sees them.
use Rattle.std.specs.Prelude.{◌≡◌, Bool, true, false, List, [], ◌∷◌, Some, codes}
use Rattle.clap.specs.Walk.{Rule, Text}
use Rattle.clap.specs.Simple.{App, Shape, app_of, new_rule, new_shape}
use Rattle.clap.specs.declared.builder.action.ArgAction.TheVariants.{Set, SetTrue, Append}
use Rattle.clap.specs.declared.builder.command.Command.{Command}
use Rattle.clap.specs.declared.builder.command.Command.TheViews.{out-Command}

-- `--name VALUE`
abbrev pub option_rule : Bool → Text → Rule
option_rule required name = record (new_rule name) { long = Some name; action = Some Set; required = required }

-- `--name` alone
abbrev pub flag_rule : Text → Rule
flag_rule name = record (new_rule name) { long = Some name; action = Some SetTrue }

-- a positional word
abbrev pub place_rule : Text → Rule
place_rule name = record (new_rule name) { action = Some Set; required = true }

-- one positional word or more
abbrev pub places_rule : Text → Rule
places_rule name = record (new_rule name) { action = Some Append; required = true }

abbrev pub shape_with : Text → List Rule → Shape
shape_with name rules = record (new_shape name) { rules = rules }

abbrev pub input : Rule
input = place_rule (codes "input")

abbrev pub output : Rule
output = place_rule (codes "output")

abbrev pub simulate_shape : Shape
simulate_shape = shape_with (codes "simulate") (flag_rule (codes "pcm") ∷ option_rule false (codes "seed") ∷ input ∷ output ∷ [])

abbrev pub decode_shape : Shape
decode_shape = shape_with (codes "decode") (input ∷ output ∷ [])

abbrev pub encode_shape : Shape
encode_shape = shape_with (codes "encode") (input ∷ output ∷ [])

abbrev pub render_shape : Shape
render_shape = shape_with (codes "render") (option_rule false (codes "seed") ∷ input ∷ output ∷ [])

abbrev pub verify_shape : Shape
verify_shape = shape_with (codes "verify") (output ∷ place_rule (codes "player") ∷ places_rule (codes "filer") ∷ [])

abbrev pub make_shape : Shape
make_shape = shape_with (codes "make") (place_rule (codes "seed") ∷ place_rule (codes "count") ∷ place_rule (codes "filers") ∷ output ∷ [])

abbrev pub serve_shape : Shape
serve_shape = shape_with (codes "serve")
    (option_rule false (codes "ring") ∷ option_rule false (codes "delay") ∷ option_rule false (codes "seed") ∷ option_rule false (codes "ticks")
    ∷ option_rule false (codes "report") ∷ option_rule false (codes "ssrc") ∷ option_rule false (codes "sequence") ∷ option_rule false (codes "stamp") ∷ option_rule false (codes "elastic")
    ∷ option_rule true (codes "reply") ∷ option_rule true (codes "speaker") ∷ option_rule true (codes "microphone") ∷ option_rule true (codes "journals")
    ∷ places_rule (codes "listen") ∷ [])

abbrev pub gate_top : Shape
gate_top = record (new_shape (codes "gsmgate")) {
  is_leaf = false;
  no_binary_name = true;
  disable_help_flag = true;
  disable_help_subcommand = true;
  disable_version_flag = true;
  subcommand_required = true;
}

-- the whole program
abbrev pub gate_app : App
gate_app = record {
  top = gate_top;
  subs = simulate_shape ∷ decode_shape ∷ encode_shape ∷ render_shape ∷ verify_shape ∷ make_shape ∷ serve_shape ∷ [];
}

-- the command has these subcommands, and no global argument
pub record IsApp (a : App) (c : Command) : Type 0 where
  pub app : app_of c ≡ a
  pub local : (out-Command c).has_globals ≡ false

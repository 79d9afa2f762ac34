-- A line of the program is read as its command reads the words behind the first.
use Rattle.std.proofs.Common.{◌≡◌, true, false, List, [], ◌∷◌, Option, Some, None, refl, sym, ap, ap₂, ◌∙◌, codes, option_map}
use Rattle.std.specs.Prelude.{fold, find, is_some}
use Rattle.std.specs.Option.{option_map_or}
use Rattle.clap.specs.Walk.{Row, Text, Walk, answers_to, idle, nothing_held, settled, walk, walk_from, walked, with_default}
use Rattle.clap.specs.Simple.{Shape, App, built, built_leaf, entered, inherited, label_of, names_of, rows_at, subcommand_of}
use Rattle.clap.specs.Kinds.{Kinds, or_else}
use Rattle.clap.specs.Faults.{check_fault, defaults_fault, entered_fault, fault_of, level_fault, settle_fault, walk_fault}
use Rattle.clap.proofs.OnLiterals.{clap_on_literals}
use Rattle.clap.proofs.WalkLemmas.{walk_stopped}
use Rattle.clap.proofs.FaultLemmas.{stopped_fault}
use Rattle.command_line.specs.Table.{gate_app, gate_top, simulate_shape, decode_shape, encode_shape, render_shape, verify_shape, make_shape, serve_shape}
use Rattle.command_line.proofs.Words.{state}
use Rattle.command_line.specs.Lines.{is_none, line_by, line_of}
use Rattle.command_line.proofs.Accepted.{line_taken}
use Rattle.command_line.proofs.Ends.{IsRead}

abbrev pub leaf : Shape → Shape
leaf s = built_leaf (inherited (record gate_top { is_built = true }) s)

abbrev program : App
program = built gate_app

abbrev top_state : Walk
top_state = state [] None idle 1

abbrev stopped_at : Text → List Text → Walk
stopped_at name ws = record top_state { stopped = Some (name, ws) }

-- the first word names the command; each field is refl at a literal name
pub record IsSub (name : Text) (s : Shape) : Type 0 where
  pub walks : (ws : List Text) → walk [] (names_of program) nothing_held (name ∷ ws) ≡ fold (walked [] (names_of program)) (stopped_at name []) ws
  pub passes : (ws : List Text) → walk_fault program.top (names_of program) (walk_from nothing_held) (name ∷ ws) ≡ walk_fault program.top (names_of program) (stopped_at name []) ws
  pub found : find (λ (t : Shape). answers_to name (label_of t)) program.subs ≡ Some (leaf s)
  pub is_named : (leaf s).name ≡ name

pub line_read : (name : Text) (s : Shape) (ws : List Text) (rows : List Row) → IsSub name s → IsRead (leaf s) ws rows
    → (fault_of gate_app (name ∷ ws) ≡ []) × (subcommand_of gate_app (name ∷ ws) ≡ Some (name, rows))
unfolding clap_on_literals
line_read name s ws rows sub read =
    let a = program in
    let words = name ∷ ws in
    let top = stopped_at name ws in
    let stop : walk [] (names_of a) nothing_held words ≡ top = sub.walks ws ∙ sym (walk_stopped [] (names_of a) top_state name [] ws) in
    let fine : walk_fault a.top (names_of a) (walk_from nothing_held) words ≡ [] = sub.passes ws ∙ stopped_fault a.top (names_of a) top_state (name, []) ws in
    let below : entered_fault a (Some (name, ws)) ≡ [] = ap (λ (o : Option Shape). option_map_or (λ t. level_fault t [] nothing_held ws false []) o []) sub.found ∙ read.fault in
    let has : entered a (Some (name, ws)) ≡ Some (name, rows) =
    ap (λ (o : Option Shape). option_map (λ t. rows_at t ws) o) sub.found ∙ ap₂ (λ (n : Text) (r : List Row). Some (n, r)) sub.is_named read.rows_are in (
      ap (λ (w : Walk). or_else (walk_fault a.top (names_of a) (walk_from nothing_held) words) (rest_of w (entered_fault a w.stopped) (entered a w.stopped))) stop
          ∙ ap (λ (ks : Kinds). or_else ks (rest_of top (entered_fault a (Some (name, ws))) (entered a (Some (name, ws))))) fine
          ∙ ap (λ (ks : Kinds). rest_of top ks (entered a (Some (name, ws)))) below
          ∙ ap (λ (o : Option (Text × List Row)). rest_of top [] o) has,
      ap (λ (w : Walk). entered a w.stopped) stop ∙ has,
    )
  where
    rest_of : Walk → Kinds → Option (Text × List Row) → Kinds
    rest_of w below found = or_else below (or_else (settle_fault program.top.rules program.top.args_override_self w.held)
        (or_else (defaults_fault (settled program.top.rules w.held).rows program.top.rules) (check_fault program.top (fold with_default (settled program.top.rules w.held).rows program.top.rules) (is_some found))))

-- what a line says whose command reads its words
pub line_says : (name : Text) (s : Shape) (ws : List Text) (rows : List Row) → IsSub name s → IsRead (leaf s) ws rows → line_of (name ∷ ws) ≡ line_by name rows
line_says name s ws rows sub read =
    let line = line_read name s ws rows sub read in
    line_taken (name ∷ ws) (Some (name, rows)) (ap is_none line.0) (sym line.1)

pub simulate_sub : IsSub (codes "simulate") simulate_shape
unfolding clap_on_literals
simulate_sub = record { walks = λ ws. refl; passes = λ ws. refl; found = refl; is_named = refl }

pub decode_sub : IsSub (codes "decode") decode_shape
unfolding clap_on_literals
decode_sub = record { walks = λ ws. refl; passes = λ ws. refl; found = refl; is_named = refl }

pub encode_sub : IsSub (codes "encode") encode_shape
unfolding clap_on_literals
encode_sub = record { walks = λ ws. refl; passes = λ ws. refl; found = refl; is_named = refl }

pub render_sub : IsSub (codes "render") render_shape
unfolding clap_on_literals
render_sub = record { walks = λ ws. refl; passes = λ ws. refl; found = refl; is_named = refl }

pub verify_sub : IsSub (codes "verify") verify_shape
unfolding clap_on_literals
verify_sub = record { walks = λ ws. refl; passes = λ ws. refl; found = refl; is_named = refl }

pub make_sub : IsSub (codes "make") make_shape
unfolding clap_on_literals
make_sub = record { walks = λ ws. refl; passes = λ ws. refl; found = refl; is_named = refl }

pub serve_sub : IsSub (codes "serve") serve_shape
unfolding clap_on_literals
serve_sub = record { walks = λ ws. refl; passes = λ ws. refl; found = refl; is_named = refl }

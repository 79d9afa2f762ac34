-- Which words are a line of the program, and what it says.
use Rattle.std.specs.Prelude.{ℕ, ◌+◌, ◌-◌, ◌^◌, ◌==◌, ◌&&◌, min, List, [], ◌∷◌, length, Bool, true, false, codes, nat_le, Option, Some, None, unwrap_or, option_map, option_and_then, if◌then◌else◌}
use Rattle.std.specs.Str.{bytes_eq}
use Rattle.clap.specs.Walk.{Row, all_of, first_of}
use Rattle.clap.specs.Kinds.{Kinds}
use Rattle.clap.specs.Simple.{subcommand_of}
use Rattle.clap.specs.Faults.{fault_of}
use Rattle.command_line.specs.Table.{gate_app}
use Rattle.command_line.specs.Values.{number_in, number_or, seed_or}
use Rattle.command_line.specs.declared.line.Command.{Command}
use Rattle.command_line.specs.declared.line.Command.TheVariants.{Simulate, Decode, Encode, Render, Verify, Make}
use Rattle.command_line.specs.declared.line.ServeOptions.{ServeOptions}
use Rattle.command_line.specs.declared.line.Line.{Line}
use Rattle.command_line.specs.declared.line.Line.TheVariants.{Files, Serve}
pub use Rattle.command_line.specs.Said.{Text, FilesSaid, ServeSaid}

-- what a line says
abbrev pub Said : Type 0
Said = Line

infixl 10 ◌>>=◌
abbrev pub ◌>>=◌ : {A B : Type 0} → Option A → (A → Option B) → Option B
o >>= f = option_and_then f o

-- ---- the words that were found under a name

-- the word under a name that has one
abbrev pub text_of : Text → List Row → Text
text_of name rows = unwrap_or (first_of name rows) []

-- the words under a name that has one or more
abbrev pub texts_of : Text → List Row → List Text
texts_of name rows = unwrap_or (all_of name rows) []

abbrev pub is_true_text : Option Text → Bool
is_true_text None = false
is_true_text (Some text) = bytes_eq text (codes "true")

-- whether a flag was said
abbrev pub is_flagged : Text → List Row → Bool
is_flagged name rows = is_true_text (first_of name rows)

-- ---- lines over files

-- the voice of a line that says --pcm or not
abbrev pub voice_of : Bool → List ℕ → Option (List ℕ)
voice_of true seed = Some seed
voice_of false seed = None

abbrev pub simulate_of : Bool → Option Text → Option Command
simulate_of spoken seed = option_map (λ (s : List ℕ). Simulate (voice_of spoken s)) (seed_or seed)

abbrev pub render_of : Option Text → Option Command
render_of seed = option_map (λ (s : List ℕ). Render s) (seed_or seed)

-- the generator's seed, its count of events and its filers
unfoldable pub make_of : Text → Text → Text → Option Command
make_of seed count filers = do
  s ← number_in 0 (2 ^ 64 - 1) seed
  c ← number_in 1 1000000 count
  f ← number_in 1 64 filers
  Some (Make s c f)

-- a player's journal is replayed with one filer's or more
abbrev pub verify_of : List Text → Option Command
verify_of filers = if nat_le 1 (length filers) then Some Verify else None

-- the command of this name, with the values of its options
abbrev pub command_of : Text → List Row → Option Command
command_of name rows =
    if bytes_eq name (codes "simulate") then simulate_of (is_flagged (codes "pcm") rows) (first_of (codes "seed") rows)
    else if bytes_eq name (codes "decode") then Some Decode
    else if bytes_eq name (codes "encode") then Some Encode
    else if bytes_eq name (codes "render") then render_of (first_of (codes "seed") rows)
    else if bytes_eq name (codes "verify") then verify_of (texts_of (codes "filer") rows)
    else if bytes_eq name (codes "make") then make_of (text_of (codes "seed") rows) (text_of (codes "count") rows) (text_of (codes "filers") rows)
    else None

abbrev pub one_input : List Row → List Text
one_input rows = text_of (codes "input") rows ∷ []

-- the files that a command reads
abbrev pub inputs_of : Command → List Row → List Text
inputs_of (Simulate voice) rows = one_input rows
inputs_of Decode rows = one_input rows
inputs_of Encode rows = one_input rows
inputs_of (Render seed) rows = one_input rows
inputs_of Verify rows = text_of (codes "player") rows ∷ texts_of (codes "filer") rows
inputs_of (Make seed count filers) rows = []

abbrev pub files_of : List Row → Command → FilesSaid
files_of rows command = record { command = command; inputs = inputs_of command rows; output = text_of (codes "output") rows }

abbrev pub files_line : Text → List Row → Option Said
files_line name rows = option_map (λ (c : Command). Files (files_of rows c)) (command_of name rows)

-- ---- lines of serve

-- the values of the options of serve, where they are said
pub record ServeTexts : Type 0 where
  pub ring : Option Text
  pub delay : Option Text
  pub seed : Option Text
  pub ticks : Option Text
  pub report : Option Text
  pub ssrc : Option Text
  pub sequence : Option Text
  pub stamp : Option Text
  pub elastic : Option Text

-- how many beats a player may let pass at most, where the ring has 2 ^ ring frames
abbrev pub most_elastic : ℕ → ℕ
most_elastic ring = if ring == 0 then 0 else 15

-- the options of serve, where each value is in its range
unfoldable pub options_of : ServeTexts → Option ServeOptions
options_of said = do
  ring ← number_or 0 10 6 said.ring
  delay ← number_or 0 (2 ^ ring - 1) (min 3 (2 ^ ring - 1)) said.delay
  seed ← seed_or said.seed
  ticks ← number_or 1 16000000 15000 said.ticks
  report ← number_or 1 65535 250 said.report
  ssrc ← number_or 0 4294967295 1 said.ssrc
  sequence ← number_or 0 65535 0 said.sequence
  stamp ← number_or 0 4294967295 0 said.stamp
  elastic ← number_or 0 (most_elastic ring) 0 said.elastic
  Some (record { ring = ring; delay = delay; seed = seed; ticks = ticks; report = report; ssrc = ssrc; sequence = sequence; stamp = stamp; elastic = elastic })

abbrev pub serve_texts : List Row → ServeTexts
serve_texts rows = record {
  ring = first_of (codes "ring") rows;
  delay = first_of (codes "delay") rows;
  seed = first_of (codes "seed") rows;
  ticks = first_of (codes "ticks") rows;
  report = first_of (codes "report") rows;
  ssrc = first_of (codes "ssrc") rows;
  sequence = first_of (codes "sequence") rows;
  stamp = first_of (codes "stamp") rows;
  elastic = first_of (codes "elastic") rows;
}

-- a line has one link or more, and at most 64
abbrev pub are_links : List Text → Bool
are_links listen = nat_le 1 (length listen) && nat_le (length listen) 64

abbrev pub serve_of : List Row → ServeOptions → ServeSaid
serve_of rows options = record {
  options = options;
  listen = texts_of (codes "listen") rows;
  reply = text_of (codes "reply") rows;
  speaker = text_of (codes "speaker") rows;
  microphone = text_of (codes "microphone") rows;
  journals = text_of (codes "journals") rows;
}

abbrev pub serve_line : List Row → Option Said
serve_line rows =
    if are_links (texts_of (codes "listen") rows) then option_map (λ (o : ServeOptions). Serve (serve_of rows o)) (options_of (serve_texts rows)) else None

-- ---- lines

abbrev pub is_none : Kinds → Bool
is_none [] = true
is_none (k ∷ ks) = false

-- the program's command takes the words
abbrev pub is_taken : List Text → Bool
is_taken words = is_none (fault_of gate_app words)

-- what the command of this name says with these words under its names
abbrev pub line_by : Text → List Row → Option Said
line_by name rows = if bytes_eq name (codes "serve") then serve_line rows else files_line name rows

abbrev pub line_in : Option (Text × List Row) → Option Said
line_in None = None
line_in (Some found) = line_by found.0 found.1

-- what the words say, where they are a line of the program
unfoldable pub line_of : List Text → Option Said
line_of words = if is_taken words then line_in (subcommand_of gate_app words) else None

-- ---- what was handed in for a line

abbrev pub has_inputs : Option Said → ℕ → Bool
has_inputs None inputs = false
has_inputs (Some (Files said)) inputs = length said.inputs == inputs
has_inputs (Some (Serve said)) inputs = false

abbrev pub has_links : Option Said → ℕ → ℕ → Bool
has_links None links journals = false
has_links (Some (Files said)) links journals = false
has_links (Some (Serve said)) links journals = length said.listen == links && journals == links + 1

-- whether the words are a line over files, with as many inputs as were handed in
abbrev pub fits_files : List Text → ℕ → Bool
fits_files words inputs = has_inputs (line_of words) inputs

-- whether the words are a line of serve, with as many links as were handed in and one journal more
abbrev pub fits_serve : List Text → ℕ → ℕ → Bool
fits_serve words links journals = has_links (line_of words) links journals

-- Plain lines: the command's word, options as two words each, and then the words of the places.
use Rattle.std.specs.Prelude.{◌≡◌, ℕ, ◌==◌, ◌||◌, not, Bool, true, false, List, [], ◌∷◌, ◌++◌, Option, Some, None, codes, option_map, unwrap_or, if◌then◌else◌}
use Rattle.std.specs.Str.{bytes_eq}
use Rattle.command_line.specs.Values.{seed_or}
use Rattle.command_line.specs.Lines.{Said, Text, ServeTexts, are_links, line_of, make_of, options_of, voice_of}
use Rattle.command_line.specs.declared.line.Command.{Command}
use Rattle.command_line.specs.declared.line.Command.TheVariants.{Simulate, Decode, Encode, Render, Verify}
use Rattle.command_line.specs.declared.line.ServeOptions.{ServeOptions}
use Rattle.command_line.specs.declared.line.Line.TheVariants.{Files, Serve}

-- the word does not begin with a dash
abbrev pub is_word : Text → Bool
is_word [] = true
is_word (x ∷ xs) = not (x == 45)

abbrev pub AreWords : List Text → Type 0
AreWords [] = Unit {0}
AreWords (w ∷ ws) = (is_word w ≡ true) × AreWords ws

-- this command over these files
abbrev pub over_files : List Text → Text → Command → Said
over_files inputs output command = Files (record { command = command; inputs = inputs; output = output })

-- ---- decode, encode: IN OUT

abbrev pub PlainDecode : Type 0
PlainDecode = (input output : Text) → is_word input ≡ true → is_word output ≡ true
    → line_of (codes "decode" ∷ input ∷ output ∷ []) ≡ Some (over_files (input ∷ []) output Decode)

abbrev pub PlainEncode : Type 0
PlainEncode = (input output : Text) → is_word input ≡ true → is_word output ≡ true
    → line_of (codes "encode" ∷ input ∷ output ∷ []) ≡ Some (over_files (input ∷ []) output Encode)

-- ---- simulate [--pcm] [--seed HEX] IN OUT

-- an option of simulate, as it is said
pub data SimulateOption : Type 0 where
  pcm : SimulateOption
  seeded : Text → SimulateOption

abbrev pub simulate_name : SimulateOption → Text
simulate_name pcm = codes "pcm"
simulate_name (seeded text) = codes "seed"

abbrev pub simulate_words : List SimulateOption → List Text
simulate_words [] = []
simulate_words (pcm ∷ os) = codes "--pcm" ∷ simulate_words os
simulate_words (seeded text ∷ os) = codes "--seed" ∷ (text ∷ simulate_words os)

abbrev pub has_word : SimulateOption → Bool
has_word pcm = true
has_word (seeded text) = is_word text

-- an option of this name was said
abbrev pub simulate_has : Text → List SimulateOption → Bool
simulate_has name [] = false
simulate_has name (o ∷ os) = bytes_eq (simulate_name o) name || simulate_has name os

-- each value is a word, and no option is said that was said before
abbrev pub SimulateOnce : List SimulateOption → List SimulateOption → Type 0
SimulateOnce before [] = Unit {0}
SimulateOnce before (o ∷ os) = (has_word o ≡ true) × (simulate_has (simulate_name o) before ≡ false) × SimulateOnce (before ++ o ∷ []) os

-- --pcm is among the options
abbrev pub says_pcm : List SimulateOption → Bool
says_pcm [] = false
says_pcm (pcm ∷ os) = true
says_pcm (seeded text ∷ os) = says_pcm os

-- the seed among the options
abbrev pub seed_said : List SimulateOption → Option Text
seed_said [] = None
seed_said (pcm ∷ os) = seed_said os
seed_said (seeded text ∷ os) = Some text

-- a seed that is said has to be one, whether --pcm is said or not
abbrev pub PlainSimulate : Type 0
PlainSimulate = (os : List SimulateOption) (input output : Text) → SimulateOnce [] os → is_word input ≡ true → is_word output ≡ true
    → line_of (codes "simulate" ∷ (simulate_words os ++ (input ∷ output ∷ [])))
    ≡ option_map (λ (seed : List ℕ). over_files (input ∷ []) output (Simulate (voice_of (says_pcm os) seed))) (seed_or (seed_said os))

-- ---- render [--seed HEX] IN OUT

abbrev pub seed_words : Option Text → List Text
seed_words None = []
seed_words (Some text) = codes "--seed" ∷ (text ∷ [])

abbrev pub is_word_or_none : Option Text → Bool
is_word_or_none None = true
is_word_or_none (Some text) = is_word text

abbrev pub PlainRender : Type 0
PlainRender = (said : Option Text) (input output : Text) → is_word_or_none said ≡ true → is_word input ≡ true → is_word output ≡ true
    → line_of (codes "render" ∷ (seed_words said ++ (input ∷ output ∷ [])))
    ≡ option_map (λ (seed : List ℕ). over_files (input ∷ []) output (Render seed)) (seed_or said)

-- ---- verify OUT PLAYER FILER...

abbrev pub PlainVerify : Type 0
PlainVerify = (output player filer : Text) (filers : List Text) → is_word output ≡ true → is_word player ≡ true → AreWords (filer ∷ filers)
    → line_of (codes "verify" ∷ output ∷ player ∷ filer ∷ filers) ≡ Some (over_files (player ∷ filer ∷ filers) output Verify)

-- ---- make SEED COUNT FILERS OUT

abbrev pub PlainMake : Type 0
PlainMake = (seed count filers output : Text) → is_word seed ≡ true → is_word count ≡ true → is_word filers ≡ true → is_word output ≡ true
    → line_of (codes "make" ∷ seed ∷ count ∷ filers ∷ output ∷ []) ≡ option_map (over_files [] output) (make_of seed count filers)

-- ---- serve OPTIONS LISTEN...

-- the options of serve
pub data ServeOption : Type 0 where
  ring : ServeOption
  delay : ServeOption
  seed : ServeOption
  ticks : ServeOption
  report : ServeOption
  ssrc : ServeOption
  sequence : ServeOption
  stamp : ServeOption
  elastic : ServeOption
  reply : ServeOption
  speaker : ServeOption
  microphone : ServeOption
  journals : ServeOption

abbrev pub serve_name : ServeOption → Text
serve_name ring = codes "ring"
serve_name delay = codes "delay"
serve_name seed = codes "seed"
serve_name ticks = codes "ticks"
serve_name report = codes "report"
serve_name ssrc = codes "ssrc"
serve_name sequence = codes "sequence"
serve_name stamp = codes "stamp"
serve_name elastic = codes "elastic"
serve_name reply = codes "reply"
serve_name speaker = codes "speaker"
serve_name microphone = codes "microphone"
serve_name journals = codes "journals"

-- the names and the values that are said
abbrev pub named : List (ServeOption × Text) → List (Text × Text)
named [] = []
named (o ∷ os) = (serve_name o.0, o.1) ∷ named os

-- `--name value` for each
abbrev pub option_words : List (Text × Text) → List Text
option_words [] = []
option_words (o ∷ os) = (45 ∷ 45 ∷ o.0) ∷ (o.1 ∷ option_words os)

-- the name was said
abbrev pub is_said : Text → List (Text × Text) → Bool
is_said name [] = false
is_said name (o ∷ os) = bytes_eq o.0 name || is_said name os

-- the value that was said under the name
abbrev pub value_of : Text → List (Text × Text) → Option Text
value_of name [] = None
value_of name (o ∷ os) = if bytes_eq o.0 name then Some o.1 else value_of name os

-- each value is a word, and no option is said that was said before
abbrev pub ServeOnce : List (Text × Text) → List (ServeOption × Text) → Type 0
ServeOnce before [] = Unit {0}
ServeOnce before (o ∷ os) = (is_word o.1 ≡ true) × (is_said (serve_name o.0) before ≡ false) × ServeOnce (before ++ (serve_name o.0, o.1) ∷ []) os

abbrev pub texts_said : List (Text × Text) → ServeTexts
texts_said os = record {
  ring = value_of (codes "ring") os;
  delay = value_of (codes "delay") os;
  seed = value_of (codes "seed") os;
  ticks = value_of (codes "ticks") os;
  report = value_of (codes "report") os;
  ssrc = value_of (codes "ssrc") os;
  sequence = value_of (codes "sequence") os;
  stamp = value_of (codes "stamp") os;
  elastic = value_of (codes "elastic") os;
}

-- the value of an option that has to be said
abbrev pub place_of : Text → List (Text × Text) → Text
place_of name os = unwrap_or (value_of name os) []

-- what a line of serve with these options and links says
abbrev pub served : List (Text × Text) → List Text → ServeOptions → Said
served os listen options = Serve (record {
  options = options;
  listen = listen;
  reply = place_of (codes "reply") os;
  speaker = place_of (codes "speaker") os;
  microphone = place_of (codes "microphone") os;
  journals = place_of (codes "journals") os;
})

abbrev pub PlainServe : Type 0
PlainServe = (os : List (ServeOption × Text)) (link : Text) (links : List Text) → ServeOnce [] os → AreWords (link ∷ links)
    → is_said (codes "reply") (named os) ≡ true → is_said (codes "speaker") (named os) ≡ true
    → is_said (codes "microphone") (named os) ≡ true → is_said (codes "journals") (named os) ≡ true
    → line_of (codes "serve" ∷ (option_words (named os) ++ (link ∷ links)))
    ≡ (if are_links (link ∷ links) then option_map (served (named os) (link ∷ links)) (options_of (texts_said (named os))) else None)

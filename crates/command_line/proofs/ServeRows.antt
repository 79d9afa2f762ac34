-- What is found in a plain line of serve.
use Rattle.std.proofs.Common.{◌≡◌, ◌||◌, not, cond, Bool, true, false, List, [], ◌∷◌, ◌++◌, Option, Some, None, refl, ap, ◌∙◌, ap₂, subst, codes, option_map}
use Rattle.std.specs.Prelude.{find, unwrap_or, option_and_then, slice_get}
use Rattle.std.specs.Option.{option_map_or}
use Rattle.std.specs.Str.{bytes_eq}
use Rattle.clap.specs.Facts.{explicit_source}
use Rattle.clap.specs.Walk.{Row, first_of, Text, has_row}
use Rattle.clap.specs.Kinds.{check_kinds}
use Rattle.clap.specs.Faults.{check_fault}
use Rattle.clap.specs.Takes.{is_given}
use Rattle.command_line.specs.Table.{serve_shape}
use Rattle.command_line.specs.Plain.{ServeOnce, ServeOption, is_said, named, place_of, serve_name, served, texts_said, value_of}
use Rattle.command_line.specs.Plain.{ring, delay, seed, ticks, report, ssrc, sequence, stamp, elastic, reply, speaker, microphone, journals}
use Rattle.command_line.specs.Lines.{Said, ServeTexts, are_links, options_of, serve_line, serve_texts, text_of, texts_of}
use Rattle.command_line.specs.declared.line.ServeOptions.{ServeOptions}
use Rattle.command_line.specs.declared.line.Line.TheVariants.{Serve}
use Rattle.command_line.proofs.Rows.{find_new, option_rows, row}
use Rattle.command_line.proofs.Words.{IsOption}
use Rattle.command_line.proofs.Runs.{OptionsFit}
use Rattle.command_line.proofs.Places.{IsPlace, places_at}
use Rattle.command_line.proofs.Program.{leaf}

abbrev is_required : ServeOption → Bool
is_required ring = false
is_required delay = false
is_required seed = false
is_required ticks = false
is_required report = false
is_required ssrc = false
is_required sequence = false
is_required stamp = false
is_required elastic = false
is_required reply = true
is_required speaker = true
is_required microphone = true
is_required journals = true

known : (o : ServeOption) → IsOption (leaf serve_shape).rules (is_required o) (serve_name o)
known ring = record { dashes = refl; long = refl; found = refl; known = refl; same = refl }
known delay = record { dashes = refl; long = refl; found = refl; known = refl; same = refl }
known seed = record { dashes = refl; long = refl; found = refl; known = refl; same = refl }
known ticks = record { dashes = refl; long = refl; found = refl; known = refl; same = refl }
known report = record { dashes = refl; long = refl; found = refl; known = refl; same = refl }
known ssrc = record { dashes = refl; long = refl; found = refl; known = refl; same = refl }
known sequence = record { dashes = refl; long = refl; found = refl; known = refl; same = refl }
known stamp = record { dashes = refl; long = refl; found = refl; known = refl; same = refl }
known elastic = record { dashes = refl; long = refl; found = refl; known = refl; same = refl }
known reply = record { dashes = refl; long = refl; found = refl; known = refl; same = refl }
known speaker = record { dashes = refl; long = refl; found = refl; known = refl; same = refl }
known microphone = record { dashes = refl; long = refl; found = refl; known = refl; same = refl }
known journals = record { dashes = refl; long = refl; found = refl; known = refl; same = refl }

said_row : (name : Text) (os : List (Text × Text)) → has_row name (option_rows os) ≡ is_said name os
said_row name [] = refl
said_row name (o ∷ os) = ap (λ (b : Bool). bytes_eq o.0 name || b) (said_row name os)

rows_more : (os : List (Text × Text)) (name v : Text) → option_rows (os ++ (name, v) ∷ []) ≡ option_rows os ++ row name (v ∷ []) ∷ []
rows_more [] name v = refl
rows_more (o ∷ os) name v = ap (λ rs. row o.0 (o.1 ∷ []) ∷ rs) (rows_more os name v)

pub options_fit : (before : List (Text × Text)) (os : List (ServeOption × Text)) → ServeOnce before os → OptionsFit (leaf serve_shape).rules (option_rows before) (named os)
options_fit before [] h = tt
options_fit before (o ∷ os) h =
    let name = serve_name o.0 in (
      is_required o.0,
      known o.0,
      h.0,
      said_row name before ∙ h.1,
      subst (λ (rs : List Row). OptionsFit (leaf serve_shape).rules rs (named os)) (rows_more before name o.1) (options_fit (before ++ (name, o.1) ∷ []) os h.2),
    )

pub given : (name : Text) (os : List (Text × Text)) (rs : List Row) → is_said name os ≡ true → is_given name (option_rows os ++ rs) ≡ true
given name [] rs h = cc
given name (o ∷ os) rs h = go (given name os rs) (bytes_eq o.0 name) h
  where
    go : (is_said name os ≡ true → is_given name (option_rows os ++ rs) ≡ true) → (b : Bool) → (b || is_said name os) ≡ true
        → option_map_or (λ (r : Row). explicit_source r.source) (cond b (Some (row o.0 (o.1 ∷ []))) (find (λ (r : Row). bytes_eq r.id name) (option_rows os ++ rs))) false ≡ true
    go more true e = refl
    go more false e = more e

-- no option is named listen
not_listen : (o : ServeOption) → bytes_eq (serve_name o) (codes "listen") ≡ false
not_listen ring = refl
not_listen delay = refl
not_listen seed = refl
not_listen ticks = refl
not_listen report = refl
not_listen ssrc = refl
not_listen sequence = refl
not_listen stamp = refl
not_listen elastic = refl
not_listen reply = refl
not_listen speaker = refl
not_listen microphone = refl
not_listen journals = refl

pub no_listen : (os : List (ServeOption × Text)) → has_row (codes "listen") (option_rows (named os)) ≡ false
no_listen [] = refl
no_listen (o ∷ os) = ap (λ (b : Bool). b || has_row (codes "listen") (option_rows (named os))) (not_listen o.0) ∙ no_listen os

pub given_last : (os : List (ServeOption × Text)) (ws : List Text) → is_given (codes "listen") (option_rows (named os) ++ row (codes "listen") ws ∷ []) ≡ true
given_last [] ws = refl
given_last (o ∷ os) ws =
    ap (λ (b : Bool). option_map_or (λ (r : Row). explicit_source r.source) (cond b (Some (row (serve_name o.0) (o.1 ∷ []))) (find (λ (r : Row). bytes_eq r.id (codes "listen")) (option_rows (named os) ++ row (codes "listen") ws ∷ []))) false) (not_listen o.0)
    ∙ given_last os ws

pub serve_check : (rows : List Row) → is_given (codes "reply") rows ≡ true → is_given (codes "speaker") rows ≡ true → is_given (codes "microphone") rows ≡ true → is_given (codes "journals") rows ≡ true → is_given (codes "listen") rows ≡ true
    → check_fault (leaf serve_shape) rows false ≡ []
serve_check rows a b c d e =
    ap (λ (g : Bool). check_kinds false false (not g || (not (is_given (codes "speaker") rows) || (not (is_given (codes "microphone") rows) || (not (is_given (codes "journals") rows) || (not (is_given (codes "listen") rows) || false)))))) a
    ∙ ap (λ (g : Bool). check_kinds false false (not g || (not (is_given (codes "microphone") rows) || (not (is_given (codes "journals") rows) || (not (is_given (codes "listen") rows) || false))))) b
    ∙ ap (λ (g : Bool). check_kinds false false (not g || (not (is_given (codes "journals") rows) || (not (is_given (codes "listen") rows) || false)))) c
    ∙ ap (λ (g : Bool). check_kinds false false (not g || (not (is_given (codes "listen") rows) || false))) d
    ∙ ap (λ (g : Bool). check_kinds false false (not g || false)) e

pub serve_listen : IsPlace (leaf serve_shape).rules 1 (codes "listen") (places_at 1 (codes "listen"))
serve_listen = record { found = refl; known = refl; same = refl }

-- ---- what is found under the names

-- an option's value is found under its name
first_found : (name : Text) (os : List (Text × Text)) (ws : List Text) → bytes_eq (codes "listen") name ≡ false
    → first_of name (option_rows os ++ row (codes "listen") ws ∷ []) ≡ value_of name os
first_found name [] ws other = ap (λ (b : Bool). option_and_then (λ (r : Row). slice_get r.values 0) (cond b (Some (row (codes "listen") ws)) None)) other
first_found name (o ∷ os) ws other = go (first_found name os ws other) (bytes_eq o.0 name)
  where
    go : first_of name (option_rows os ++ row (codes "listen") ws ∷ []) ≡ value_of name os → (b : Bool)
        → option_and_then (λ (r : Row). slice_get r.values 0) (cond b (Some (row o.0 (o.1 ∷ []))) (find (λ (r : Row). bytes_eq r.id name) (option_rows os ++ row (codes "listen") ws ∷ []))) ≡ cond b (Some o.1) (value_of name os)
    go next true = refl
    go next false = next

links_found : (os : List (ServeOption × Text)) (ws : List Text) → texts_of (codes "listen") (option_rows (named os) ++ row (codes "listen") ws ∷ []) ≡ ws
links_found os ws = ap (λ (o : Option Row). unwrap_or (option_map (λ (r : Row). r.values) o) []) (find_new (codes "listen") (option_rows (named os)) (row (codes "listen") ws ∷ []) (no_listen os))

texts_found : (os : List (Text × Text)) (ws : List Text) → serve_texts (option_rows os ++ row (codes "listen") ws ∷ []) ≡ texts_said os
texts_found os ws =
    let rows = option_rows os ++ row (codes "listen") ws ∷ [] in
    ap (λ (x : Option Text). text_set x (first_of (codes "delay") rows) (first_of (codes "seed") rows) (first_of (codes "ticks") rows) (first_of (codes "report") rows) (first_of (codes "ssrc") rows) (first_of (codes "sequence") rows) (first_of (codes "stamp") rows) (first_of (codes "elastic") rows)) (first_found (codes "ring") os ws refl)
    ∙ ap (λ (x : Option Text). text_set (value_of (codes "ring") os) x (first_of (codes "seed") rows) (first_of (codes "ticks") rows) (first_of (codes "report") rows) (first_of (codes "ssrc") rows) (first_of (codes "sequence") rows) (first_of (codes "stamp") rows) (first_of (codes "elastic") rows)) (first_found (codes "delay") os ws refl)
    ∙ ap (λ (x : Option Text). text_set (value_of (codes "ring") os) (value_of (codes "delay") os) x (first_of (codes "ticks") rows) (first_of (codes "report") rows) (first_of (codes "ssrc") rows) (first_of (codes "sequence") rows) (first_of (codes "stamp") rows) (first_of (codes "elastic") rows)) (first_found (codes "seed") os ws refl)
    ∙ ap (λ (x : Option Text). text_set (value_of (codes "ring") os) (value_of (codes "delay") os) (value_of (codes "seed") os) x (first_of (codes "report") rows) (first_of (codes "ssrc") rows) (first_of (codes "sequence") rows) (first_of (codes "stamp") rows) (first_of (codes "elastic") rows)) (first_found (codes "ticks") os ws refl)
    ∙ ap (λ (x : Option Text). text_set (value_of (codes "ring") os) (value_of (codes "delay") os) (value_of (codes "seed") os) (value_of (codes "ticks") os) x (first_of (codes "ssrc") rows) (first_of (codes "sequence") rows) (first_of (codes "stamp") rows) (first_of (codes "elastic") rows)) (first_found (codes "report") os ws refl)
    ∙ ap (λ (x : Option Text). text_set (value_of (codes "ring") os) (value_of (codes "delay") os) (value_of (codes "seed") os) (value_of (codes "ticks") os) (value_of (codes "report") os) x (first_of (codes "sequence") rows) (first_of (codes "stamp") rows) (first_of (codes "elastic") rows)) (first_found (codes "ssrc") os ws refl)
    ∙ ap (λ (x : Option Text). text_set (value_of (codes "ring") os) (value_of (codes "delay") os) (value_of (codes "seed") os) (value_of (codes "ticks") os) (value_of (codes "report") os) (value_of (codes "ssrc") os) x (first_of (codes "stamp") rows) (first_of (codes "elastic") rows)) (first_found (codes "sequence") os ws refl)
    ∙ ap (λ (x : Option Text). text_set (value_of (codes "ring") os) (value_of (codes "delay") os) (value_of (codes "seed") os) (value_of (codes "ticks") os) (value_of (codes "report") os) (value_of (codes "ssrc") os) (value_of (codes "sequence") os) x (first_of (codes "elastic") rows)) (first_found (codes "stamp") os ws refl)
    ∙ ap (λ (x : Option Text). text_set (value_of (codes "ring") os) (value_of (codes "delay") os) (value_of (codes "seed") os) (value_of (codes "ticks") os) (value_of (codes "report") os) (value_of (codes "ssrc") os) (value_of (codes "sequence") os) (value_of (codes "stamp") os) x) (first_found (codes "elastic") os ws refl)
  where
    text_set : (a b c d e f g h k : Option Text) → ServeTexts
    text_set a b c d e f g h k = record { ring = a; delay = b; seed = c; ticks = d; report = e; ssrc = f; sequence = g; stamp = h; elastic = k }

place_found : (name : Text) (os : List (Text × Text)) (ws : List Text) → bytes_eq (codes "listen") name ≡ false → text_of name (option_rows os ++ row (codes "listen") ws ∷ []) ≡ place_of name os
place_found name os ws other = ap (λ (o : Option Text). unwrap_or o []) (first_found name os ws other)

-- a line of these words and these options
abbrev with_words : List Text → Text → Text → Text → Text → ServeOptions → Said
with_words listen to out into prefix options = Serve (record { options = options; listen = listen; reply = to; speaker = out; microphone = into; journals = prefix })

abbrev with_texts : List Text → ServeTexts → Text → Text → Text → Text → Option Said
with_texts listen said to out into prefix = cond (are_links listen) (option_map (with_words listen to out into prefix) (options_of said)) None

-- what the rows of a plain line say
pub rows_say : (os : List (ServeOption × Text)) (ws : List Text)
    → serve_line (option_rows (named os) ++ row (codes "listen") ws ∷ []) ≡ cond (are_links ws) (option_map (served (named os) ws) (options_of (texts_said (named os)))) None
rows_say os ws =
    let texts = named os in
    let rows = option_rows texts ++ row (codes "listen") ws ∷ [] in
    ap₂ (λ (l : List Text) (t : ServeTexts). with_texts l t (text_of (codes "reply") rows) (text_of (codes "speaker") rows) (text_of (codes "microphone") rows) (text_of (codes "journals") rows)) (links_found os ws) (texts_found texts ws)
    ∙ ap₂ (λ (x y : Text). with_texts ws (texts_said texts) x y (text_of (codes "microphone") rows) (text_of (codes "journals") rows)) (place_found (codes "reply") texts ws refl) (place_found (codes "speaker") texts ws refl)
    ∙ ap₂ (λ (x y : Text). with_texts ws (texts_said texts) (place_of (codes "reply") texts) (place_of (codes "speaker") texts) x y) (place_found (codes "microphone") texts ws refl) (place_found (codes "journals") texts ws refl)

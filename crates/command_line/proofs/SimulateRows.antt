-- What is found in a plain line of simulate.
use Rattle.std.proofs.Common.{◌≡◌, ℕ, ◌||◌, not, cond, Bool, true, false, List, [], ◌∷◌, ◌++◌, Option, Some, None, refl, sym, ap, ◌∙◌, ap₂, subst, codes, option_map}
use Rattle.std.specs.Prelude.{find, fold, drop, unwrap_or, option_and_then, slice_get}
use Rattle.clap.specs.Simple.{filled}
use Rattle.clap.specs.declared.builder.value_parser.Reading.TheVariants as reading
use Rattle.clap.specs.declared.parser.matches.ValueSource.TheVariants.{DefaultValue}
use Rattle.std.specs.Option.{option_map_or}
use Rattle.std.specs.Str.{bytes_eq}
use Rattle.clap.specs.Facts.{explicit_source}
use Rattle.clap.specs.Walk.{Row, Rule, Text, first_of, has_row, more_values, with_default, with_values}
use Rattle.clap.specs.Kinds.{Kinds, check_kinds, or_else}
use Rattle.clap.specs.Faults.{check_fault, defaults_fault}
use Rattle.clap.specs.Takes.{is_given}
use Rattle.command_line.specs.Table.{flag_rule, simulate_shape}
use Rattle.command_line.specs.Plain.{SimulateOnce, SimulateOption, has_word, over_files, pcm, says_pcm, seed_said, seeded, simulate_has, simulate_name}
use Rattle.command_line.proofs.Rows.{default_row, find_new, find_other, row}
use Rattle.command_line.proofs.Words.{at_row-new}
use Rattle.command_line.proofs.Ends.{no_defaults}
use Rattle.command_line.proofs.Program.{leaf}
use Rattle.command_line.specs.Values.{seed_or}
use Rattle.command_line.specs.Lines.{files_line, files_of, is_flagged, is_true_text, text_of, voice_of}
use Rattle.command_line.specs.declared.line.Command.{Command}
use Rattle.command_line.specs.declared.line.Command.TheVariants.{Simulate}
use Rattle.command_line.specs.declared.line.Line.TheVariants.{Files}

abbrev pub simulate_row : SimulateOption → Row
simulate_row pcm = row (codes "pcm") (codes "true" ∷ [])
simulate_row (seeded text) = row (codes "seed") (text ∷ [])

abbrev pub simulate_rows : List SimulateOption → List Row
simulate_rows [] = []
simulate_rows (o ∷ os) = simulate_row o ∷ simulate_rows os

-- the same as rows
abbrev pub AreOnceIn : List Row → List SimulateOption → Type 0
AreOnceIn before [] = Unit {0}
AreOnceIn before (o ∷ os) = (has_word o ≡ true) × (has_row (simulate_name o) before ≡ false) × AreOnceIn (before ++ simulate_row o ∷ []) os

has_rows : (name : Text) (os : List SimulateOption) → has_row name (simulate_rows os) ≡ simulate_has name os
has_rows name [] = refl
has_rows name (pcm ∷ os) = ap (λ (b : Bool). bytes_eq (codes "pcm") name || b) (has_rows name os)
has_rows name (seeded text ∷ os) = ap (λ (b : Bool). bytes_eq (codes "seed") name || b) (has_rows name os)

rows_more : (os : List SimulateOption) (o : SimulateOption) → simulate_rows (os ++ o ∷ []) ≡ simulate_rows os ++ simulate_row o ∷ []
rows_more [] o = refl
rows_more (x ∷ xs) o = ap (λ (rs : List Row). simulate_row x ∷ rs) (rows_more xs o)

pub once_in : (before os : List SimulateOption) → SimulateOnce before os → AreOnceIn (simulate_rows before) os
once_in before [] h = tt
once_in before (o ∷ os) h =
    (h.0, has_rows (simulate_name o) before ∙ h.1, subst (λ (rs : List Row). AreOnceIn rs os) (rows_more before o) (once_in (before ++ o ∷ []) os h.2))

-- the options have no row of another name, so what follows them is found
pub other_row : (name : Text) (others : (o : SimulateOption) → bytes_eq (simulate_row o).id name ≡ false) (os : List SimulateOption) (rs : List Row) → has_row name (simulate_rows os ++ rs) ≡ has_row name rs
other_row name others [] rs = refl
other_row name others (o ∷ os) rs = ap (λ (b : Bool). b || has_row name (simulate_rows os ++ rs)) (others o) ∙ other_row name others os rs

pub other_given : (name : Text) (others : (o : SimulateOption) → bytes_eq (simulate_row o).id name ≡ false) (os : List SimulateOption) (rs : List Row) → is_given name (simulate_rows os ++ rs) ≡ is_given name rs
other_given name others [] rs = refl
other_given name others (o ∷ os) rs =
    ap (λ (b : Bool). option_map_or (λ (r : Row). explicit_source r.source) (cond b (Some (simulate_row o)) (find (λ (r : Row). bytes_eq r.id name) (simulate_rows os ++ rs))) false) (others o)
    ∙ other_given name others os rs

pub row_input : (o : SimulateOption) → bytes_eq (simulate_row o).id (codes "input") ≡ false
row_input pcm = refl
row_input (seeded v) = refl

pub row_output : (o : SimulateOption) → bytes_eq (simulate_row o).id (codes "output") ≡ false
row_output pcm = refl
row_output (seeded v) = refl

abbrev pub final_rows : List Row → List Row
final_rows rows = cond (has_row (codes "pcm") rows) rows (rows ++ default_row (codes "pcm") (codes "false" ∷ []) ∷ [])

always_nil : (b : Bool) → cond {A = Kinds} (b || false) [] [] ≡ []
always_nil true = refl
always_nil false = refl

pub ends : (rows : List Row) → (defaults_fault rows (leaf simulate_shape).rules ≡ []) × (fold with_default rows (leaf simulate_shape).rules ≡ final_rows rows)
unfolding defaults_fault
ends rows =
    let flag : Rule = filled (flag_rule (codes "pcm")) in
    let others : List Rule = drop 1 (leaf simulate_shape).rules in
    let rest = no_defaults others (with_default rows flag) refl in (
      ap (λ (ks : Kinds). or_else ks (defaults_fault (with_default rows flag) others)) (always_nil (has_row (codes "pcm") rows)) ∙ rest.0,
      rest.1 ∙ go (has_row (codes "pcm") rows) refl,
    )
  where
    go : (b : Bool) → has_row (codes "pcm") rows ≡ b → cond b rows (with_values (codes "pcm") reading.AsWritten DefaultValue (codes "false" ∷ []) rows) ≡ cond b rows (rows ++ default_row (codes "pcm") (codes "false" ∷ []) ∷ [])
    go true e = refl
    go false e = at_row-new (codes "pcm") (more_values DefaultValue (codes "false" ∷ [])) (default_row (codes "pcm") (codes "false" ∷ []) ∷ []) rows e

given-more : (name : Text) (rows more : List Row) → is_given name rows ≡ true → is_given name (rows ++ more) ≡ true
given-more name [] more h = cc
given-more name (r ∷ rs) more h = go (given-more name rs more) (bytes_eq r.id name) h
  where
    go : (is_given name rs ≡ true → is_given name (rs ++ more) ≡ true) → (b : Bool) → option_map_or (λ (x : Row). explicit_source x.source) (cond b (Some r) (find (λ (x : Row). bytes_eq x.id name) rs)) false ≡ true
        → option_map_or (λ (x : Row). explicit_source x.source) (cond b (Some r) (find (λ (x : Row). bytes_eq x.id name) (rs ++ more))) false ≡ true
    go next true e = e
    go next false e = next e

pub final_given : (name : Text) (rows : List Row) → is_given name rows ≡ true → is_given name (final_rows rows) ≡ true
final_given name rows h = go (has_row (codes "pcm") rows)
  where
    go : (b : Bool) → is_given name (cond b rows (rows ++ default_row (codes "pcm") (codes "false" ∷ []) ∷ [])) ≡ true
    go true = h
    go false = given-more name rows _ h

pub check : (rows : List Row) → is_given (codes "input") rows ≡ true → is_given (codes "output") rows ≡ true → check_fault (leaf simulate_shape) rows false ≡ []
check rows a b =
    ap (λ (g : Bool). check_kinds false false (not g || (not (is_given (codes "output") rows) || false))) a
    ∙ ap (λ (g : Bool). check_kinds false false (not g || false)) b

-- ---- what is found under the names

other_found : (name : Text) (others : (o : SimulateOption) → bytes_eq (simulate_row o).id name ≡ false) (os : List SimulateOption) (rs : List Row)
    → find (λ (r : Row). bytes_eq r.id name) (simulate_rows os ++ rs) ≡ find (λ (r : Row). bytes_eq r.id name) rs
other_found name others [] rs = refl
other_found name others (o ∷ os) rs = ap (λ (b : Bool). cond b (Some (simulate_row o)) (find (λ (r : Row). bytes_eq r.id name) (simulate_rows os ++ rs))) (others o) ∙ other_found name others os rs

-- the default of --pcm has no other name
final_first : (name : Text) (rows : List Row) → bytes_eq (codes "pcm") name ≡ false → first_of name (final_rows rows) ≡ first_of name rows
final_first name rows other = go (has_row (codes "pcm") rows)
  where
    go : (b : Bool) → first_of name (cond b rows (rows ++ default_row (codes "pcm") (codes "false" ∷ []) ∷ [])) ≡ first_of name rows
    go true = refl
    go false = ap (option_and_then (λ (r : Row). slice_get r.values 0)) (find_other name rows (default_row (codes "pcm") (codes "false" ∷ [])) other)

abbrev pub places : Text → Text → List Row
places input output = row (codes "input") (input ∷ []) ∷ row (codes "output") (output ∷ []) ∷ []

seed_found : (os : List SimulateOption) (input output : Text) → first_of (codes "seed") (simulate_rows os ++ places input output) ≡ seed_said os
seed_found [] input output = refl
seed_found (pcm ∷ os) input output = seed_found os input output
seed_found (seeded text ∷ os) input output = refl

pcm_row : (os : List SimulateOption) (input output : Text) → has_row (codes "pcm") (simulate_rows os ++ places input output) ≡ says_pcm os
pcm_row [] input output = refl
pcm_row (pcm ∷ os) input output = refl
pcm_row (seeded text ∷ os) input output = pcm_row os input output

pcm_found : (os : List SimulateOption) (input output : Text) → says_pcm os ≡ true → first_of (codes "pcm") (simulate_rows os ++ places input output) ≡ Some (codes "true")
pcm_found [] input output h = cc
pcm_found (pcm ∷ os) input output h = refl
pcm_found (seeded text ∷ os) input output h = pcm_found os input output h

flag_found : (os : List SimulateOption) (input output : Text) → is_flagged (codes "pcm") (final_rows (simulate_rows os ++ places input output)) ≡ says_pcm os
flag_found os input output = go (has_row (codes "pcm") rows) refl ∙ pcm_row os input output
  where
    rows : List Row
    rows = simulate_rows os ++ places input output

    last : List Row
    last = default_row (codes "pcm") (codes "false" ∷ []) ∷ []

    go : (b : Bool) → has_row (codes "pcm") rows ≡ b → is_flagged (codes "pcm") (cond b rows (rows ++ last)) ≡ b
    go true e = ap is_true_text (pcm_found os input output (sym (pcm_row os input output) ∙ e))
    go false e = ap (λ (o : Option Row). is_true_text (option_and_then (λ (r : Row). slice_get r.values 0) o)) (find_new (codes "pcm") rows last e)

place_found : (name : Text) (others : (o : SimulateOption) → bytes_eq (simulate_row o).id name ≡ false) (os : List SimulateOption) (tail : List Row) → bytes_eq (codes "pcm") name ≡ false
    → text_of name (final_rows (simulate_rows os ++ tail)) ≡ text_of name tail
place_found name others os tail other =
    ap (λ (o : Option Text). unwrap_or o []) (final_first name (simulate_rows os ++ tail) other)
    ∙ ap (λ (o : Option Row). unwrap_or (option_and_then (λ (r : Row). slice_get r.values 0) o) []) (other_found name others os tail)

said : (rows : List Row) (spoken : Bool) (input output : Text) (seed : Option (List ℕ)) → text_of (codes "input") rows ≡ input → text_of (codes "output") rows ≡ output
    → option_map (λ (c : Command). Files (files_of rows c)) (option_map (λ (x : List ℕ). Simulate (voice_of spoken x)) seed)
    ≡ option_map (λ (x : List ℕ). over_files (input ∷ []) output (Simulate (voice_of spoken x))) seed
said rows spoken input output None i o = refl
said rows spoken input output (Some x) i o = ap₂ (λ (a b : Text). Some (over_files (a ∷ []) b (Simulate (voice_of spoken x)))) i o

-- what the rows of a plain line say
pub rows_say : (os : List SimulateOption) (input output : Text)
    → files_line (codes "simulate") (final_rows (simulate_rows os ++ places input output))
    ≡ option_map (λ (x : List ℕ). over_files (input ∷ []) output (Simulate (voice_of (says_pcm os) x))) (seed_or (seed_said os))
rows_say os input output =
    let rows = final_rows (simulate_rows os ++ places input output) in
    let seed : first_of (codes "seed") rows ≡ seed_said os = final_first (codes "seed") (simulate_rows os ++ places input output) refl ∙ seed_found os input output in
    ap₂ (λ (b : Bool) (o : Option Text). option_map (λ (c : Command). Files (files_of rows c)) (option_map (λ (x : List ℕ). Simulate (voice_of b x)) (seed_or o))) (flag_found os input output) seed
    ∙ said rows (says_pcm os) input output (seed_or (seed_said os)) (place_found (codes "input") row_input os (places input output) refl) (place_found (codes "output") row_output os (places input output) refl)

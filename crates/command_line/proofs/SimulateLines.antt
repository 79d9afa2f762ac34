-- Plain lines of simulate.
use Rattle.std.proofs.Common.{◌≡◌, true, false, List, [], ◌∷◌, ◌++◌, Option, Some, None, refl, sym, ap, ◌∙◌, append-nil, append_assoc, subst, codes}
use Rattle.std.specs.Prelude.{fold}
use Rattle.clap.specs.Walk.{Row, Text, Walk, has_row, idle, settled_rows, walked}
use Rattle.clap.specs.Faults.{settle_fault}
use Rattle.clap.specs.Takes.{is_given}
use Rattle.command_line.specs.Table.{simulate_shape}
use Rattle.command_line.specs.Plain.{PlainSimulate, SimulateOption, pcm, seeded, simulate_words}
use Rattle.command_line.proofs.Rows.{row}
use Rattle.command_line.proofs.Words.{IsOption, held, option_turn, option_walked, state, used_fault, used_rows, value_turn, value_walked}
use Rattle.command_line.proofs.Runs.{Walks, one_turn}
use Rattle.command_line.proofs.Flags.{IsAlone, alone_turn, alone_walked}
use Rattle.command_line.proofs.Places.{IsPlace, place_at, place_walk}
use Rattle.command_line.proofs.Ends.{leaf_ends}
use Rattle.command_line.proofs.Program.{leaf, line_says, simulate_sub}
use Rattle.command_line.proofs.SimulateRows.{AreOnceIn, check, ends, final_given, final_rows, once_in, other_given, other_row, row_input, row_output, rows_say, simulate_rows}

pcm_known : IsAlone (leaf simulate_shape).rules (codes "pcm")
pcm_known = record { dashes = refl; long = refl; found = refl }

seed_known : IsOption (leaf simulate_shape).rules false (codes "seed")
seed_known = record { dashes = refl; long = refl; found = refl; known = refl; same = refl }

options : (rows : List Row) (pending : Option (Text × List Text)) (os : List SimulateOption) (rest : List Text)
    → AreOnceIn (settled_rows (leaf simulate_shape).rules pending rows) os → settle_fault (leaf simulate_shape).rules false (held rows pending) ≡ []
    → Walks (leaf simulate_shape) (state rows pending idle 1) (simulate_words os) rest (settled_rows (leaf simulate_shape).rules pending rows ++ simulate_rows os) idle 1
options rows pending [] rest once fine = record { done = rows; pending = pending; rows_are = sym (append-nil _); fine = fine; walk_is = refl; fault_is = refl }
options rows pending (pcm ∷ os) rest once fine =
    let s = leaf simulate_shape in
    let c = s.rules in
    let now = settled_rows c pending rows in
    let after = now ++ row (codes "pcm") (codes "true" ∷ []) ∷ [] in
    let more = options after None os rest once.2 refl in
    let step = alone_walked c (codes "pcm") rows pending 1 pcm_known once.1 in
    record {
      done = more.done;
      pending = more.pending;
      rows_are = more.rows_are ∙ append_assoc now (row (codes "pcm") (codes "true" ∷ []) ∷ []) (simulate_rows os);
      fine = more.fine;
      walk_is = ap (λ (w : Walk). fold (walked c []) w (simulate_words os ++ rest)) step ∙ more.walk_is;
      fault_is = one_turn s _ _ (codes "--pcm") (simulate_words os ++ rest) step (alone_turn s (codes "pcm") rows pending 1 pcm_known once.1 fine) ∙ more.fault_is;
    }
options rows pending (seeded v ∷ os) rest once fine =
    let s = leaf simulate_shape in
    let c = s.rules in
    let name = codes "seed" in
    let now = settled_rows c pending rows in
    let then : settled_rows c (Some (name, v ∷ [])) now ≡ now ++ row name (v ∷ []) ∷ [] = used_rows c false name v now seed_known once.1 in
    let more = options now (Some (name, v ∷ [])) os rest (subst (λ (r : List Row). AreOnceIn r os) (sym then) once.2) (used_fault c false false name v now seed_known once.1) in
    let first = option_walked c false name rows pending 1 seed_known in
    let second = value_walked c false name v now 1 seed_known once.0 in
    record {
      done = more.done;
      pending = more.pending;
      rows_are = more.rows_are ∙ ap (λ (r : List Row). r ++ simulate_rows os) then ∙ append_assoc now (row name (v ∷ []) ∷ []) (simulate_rows os);
      fine = more.fine;
      walk_is = ap (λ (w : Walk). fold (walked c []) (walked c [] w v) (simulate_words os ++ rest)) first ∙ ap (λ (w : Walk). fold (walked c []) w (simulate_words os ++ rest)) second ∙ more.walk_is;
      fault_is = one_turn s _ _ (codes "--seed") (v ∷ (simulate_words os ++ rest)) first (option_turn s false name rows pending 1 seed_known ∙ fine)
          ∙ one_turn s _ _ v (simulate_words os ++ rest) second (value_turn s false name v now 1 seed_known once.0) ∙ more.fault_is;
    }

input_known : IsPlace (leaf simulate_shape).rules 1 (codes "input") (place_at 1 (codes "input"))
input_known = record { found = refl; known = refl; same = refl }

output_known : IsPlace (leaf simulate_shape).rules 2 (codes "output") (place_at 2 (codes "output"))
output_known = record { found = refl; known = refl; same = refl }

pub plain_simulate : PlainSimulate
plain_simulate os input output once input_word output_word =
    let s = leaf simulate_shape in
    let start = state [] None idle 1 in
    let given = simulate_rows os in
    let first = options [] None os (input ∷ output ∷ []) (once_in [] os once) refl in
    let new_input : has_row (codes "input") given ≡ false = sym (ap (has_row (codes "input")) (append-nil given)) ∙ other_row (codes "input") row_input os [] in
    let one = place_walk s start (simulate_words os) (output ∷ []) given 1 (codes "input") input input_known input_word new_input first in
    let new_output : has_row (codes "output") (given ++ row (codes "input") (input ∷ []) ∷ []) ≡ false = other_row (codes "output") row_output os _ in
    let two = place_walk s start (simulate_words os ++ input ∷ []) [] (given ++ row (codes "input") (input ∷ []) ∷ []) 2 (codes "output") output output_known output_word new_output one in
    let tail = row (codes "input") (input ∷ []) ∷ row (codes "output") (output ∷ []) ∷ [] in
    let rows = given ++ tail in
    let words = simulate_words os ++ (input ∷ output ∷ []) in
    let words_are : (simulate_words os ++ input ∷ []) ++ output ∷ [] ≡ words = append_assoc (simulate_words os) (input ∷ []) (output ∷ []) in
    let rows_are : (given ++ row (codes "input") (input ∷ []) ∷ []) ++ row (codes "output") (output ∷ []) ∷ [] ≡ rows = append_assoc given (row (codes "input") (input ∷ []) ∷ []) (row (codes "output") (output ∷ []) ∷ []) in
    let whole : Walks s start words [] rows idle 3 = subst (λ (ws : List Text). Walks s start ws [] rows idle 3) words_are (subst (λ (rs : List Row). Walks s start ((simulate_words os ++ input ∷ []) ++ output ∷ []) [] rs idle 3) rows_are two) in
    let has_input : is_given (codes "input") rows ≡ true = other_given (codes "input") row_input os tail in
    let has_output : is_given (codes "output") rows ≡ true = other_given (codes "output") row_output os tail in
    let read = leaf_ends s words rows (final_rows rows) idle 3 whole (ends rows) (check (final_rows rows) (final_given (codes "input") rows has_input) (final_given (codes "output") rows has_output)) in
    line_says (codes "simulate") simulate_shape words (final_rows rows) simulate_sub read ∙ rows_say os input output

-- Runs of words that are walked without a fault.
use Rattle.std.proofs.Common.{◌≡◌, ℕ, Bool, true, false, List, [], ◌∷◌, ◌++◌, Option, Some, refl, sym, ap, ◌∙◌, append-nil, append_assoc, subst}
use Rattle.std.specs.Prelude.{fold}
use Rattle.clap.specs.Walk.{Row, Rule, Text, Waiting, Walk, has_row, idle, settled_rows, walked}
use Rattle.clap.specs.Simple.{Shape}
use Rattle.clap.specs.Kinds.{Kinds, or_else}
use Rattle.clap.specs.Faults.{settle_fault, turn_fault, walk_fault}
use Rattle.command_line.specs.Plain.{is_word, option_words}
use Rattle.command_line.proofs.Rows.{row, option_rows}
use Rattle.command_line.proofs.Words.{IsOption, held, state, option_walked, option_turn, value_walked, value_turn, used_rows, used_fault}

-- each is known, is said once and has a value that does not begin with `-`
abbrev pub OptionsFit : List Rule → List Row → List (Text × Text) → Type 0
OptionsFit c rows [] = Unit {0}
OptionsFit c rows (o ∷ os) = (required : Bool) × IsOption c required o.0 × (is_word o.1 ≡ true) × (has_row o.0 rows ≡ false) × OptionsFit c (rows ++ row o.0 (o.1 ∷ []) ∷ []) os

-- the words before rest are walked, without a fault, to a state with these rows
pub record Walks (s : Shape) (from : Walk) (words rest : List Text) (rows : List Row) (waiting : Waiting) (position : ℕ) : Type 0 where
  pub done : List Row
  pub pending : Option (Text × List Text)
  pub rows_are : settled_rows s.rules pending done ≡ rows
  pub fine : settle_fault s.rules s.args_override_self (held done pending) ≡ []
  pub walk_is : fold (walked s.rules []) from (words ++ rest) ≡ fold (walked s.rules []) (state done pending waiting position) rest
  pub fault_is : walk_fault s [] from (words ++ rest) ≡ walk_fault s [] (state done pending waiting position) rest

pub one_turn : (s : Shape) (w after : Walk) (word : Text) (rest : List Text) → walked s.rules [] w word ≡ after → turn_fault s [] w word ≡ [] → walk_fault s [] w (word ∷ rest) ≡ walk_fault s [] after rest
unfolding walk_fault
one_turn s w after word rest e f = ap (λ (ks : Kinds). or_else ks (walk_fault s [] (walked s.rules [] w word) rest)) f ∙ ap (λ (v : Walk). walk_fault s [] v rest) e

pub options_walk : (s : Shape) (rows : List Row) (pending : Option (Text × List Text)) (position : ℕ) (os : List (Text × Text)) (rest : List Text)
    → OptionsFit s.rules (settled_rows s.rules pending rows) os → settle_fault s.rules s.args_override_self (held rows pending) ≡ []
    → Walks s (state rows pending idle position) (option_words os) rest (settled_rows s.rules pending rows ++ option_rows os) idle position
options_walk s rows pending position [] rest fit fine = record { done = rows; pending = pending; rows_are = sym (append-nil _); fine = fine; walk_is = refl; fault_is = refl }
options_walk s rows pending position (o ∷ os) rest fit fine =
    let c = s.rules in
    let name = o.0 in
    let v = o.1 in
    let now = settled_rows c pending rows in
    let then : settled_rows c (Some (name, v ∷ [])) now ≡ now ++ row name (v ∷ []) ∷ [] = used_rows c fit.0 name v now fit.1 fit.3 in
    let more = options_walk s now (Some (name, v ∷ [])) position os rest (subst (λ (r : List Row). OptionsFit c r os) (sym then) fit.4) (used_fault c s.args_override_self fit.0 name v now fit.1 fit.3) in
    let first = option_walked c fit.0 name rows pending position fit.1 in
    let second = value_walked c fit.0 name v now position fit.1 fit.2 in
    record {
      done = more.done;
      pending = more.pending;
      rows_are = more.rows_are ∙ ap (λ (r : List Row). r ++ option_rows os) then ∙ append_assoc now (row name (v ∷ []) ∷ []) (option_rows os);
      fine = more.fine;
      walk_is = ap (λ (w : Walk). fold (walked c []) (walked c [] w v) (option_words os ++ rest)) first ∙ ap (λ (w : Walk). fold (walked c []) w (option_words os ++ rest)) second ∙ more.walk_is;
      fault_is = one_turn s _ _ (45 ∷ 45 ∷ name) (v ∷ (option_words os ++ rest)) first (option_turn s fit.0 name rows pending position fit.1 ∙ fine)
          ∙ one_turn s _ _ v (option_words os ++ rest) second (value_turn s fit.0 name v now position fit.1 fit.2) ∙ more.fault_is;
    }

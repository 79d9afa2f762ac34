-- A run of the synthesis filter solves the equations in two indices.
use Rattle.std.proofs.Common.{◌≡◌, ℕ, zero, suc, ◌+◌, ◌<◌, ℤ, pos, List, [], ◌∷◌, length, refl, sym, ap, arith}
use Rattle.fixed_arith.specs.Word.{add_words, sub_words, mult_r_words}
use Rattle.fixed_arith.specs.Signal.{at}
use Rattle.lar_filter.specs.Runs.{Runs}
use Rattle.lar_filter.specs.Lattice.{StepsTo}
use Rattle.lar_filter.specs.Trace.{since, coefficients_at, sample_at, Traces}

-- what stood before time t, told from the step at time 0
pub since_kept : (i t : ℕ) (before mid : List ℤ) (v0 : ℤ) (v1 : ℕ → ℤ) → at mid i ≡ v0 → since v0 v1 t ≡ since (at mid i) v1 t
since_kept i t before mid v0 v1 kept = ap (λ (first : ℤ). since first v1 t) (sym kept)

cons_top : (before : List ℤ) (input : List ℤ × ℤ) (inputs : List (List ℤ × ℤ)) (y : ℤ) (ys mid after : List ℤ) (step : StepsTo input.0 before input.1 y mid) (rest : Traces mid inputs ys after)
    → (t : ℕ) → t < length (input ∷ inputs) → since (step.s 8) (rest.s 8) t ≡ sample_at (input ∷ inputs) t
cons_top before input inputs y ys mid after step rest zero h = step.lattice.top
cons_top before input inputs y ys mid after step rest (suc t) h = rest.top t (omega arith)

cons_down : (before : List ℤ) (input : List ℤ × ℤ) (inputs : List (List ℤ × ℤ)) (y : ℤ) (ys mid after : List ℤ) (step : StepsTo input.0 before input.1 y mid) (rest : Traces mid inputs ys after)
    → (i t : ℕ) → i < 8 → t < length (input ∷ inputs)
    → since (step.s i) (rest.s i) t ≡ sub_words (since (step.s (i + 1)) (rest.s (i + 1)) t) (mult_r_words (at (coefficients_at (input ∷ inputs) t) i) (since (at before i) (λ u. since (step.v i) (rest.v i) u) t))
cons_down before input inputs y ys mid after step rest i zero b h = step.lattice.down i b
cons_down before input inputs y ys mid after step rest i (suc t) b h =
    rw (since_kept i t before mid (step.v i) (rest.v i) (step.kept i (omega arith))) (rest.down i t b (omega arith))

cons_up : (before : List ℤ) (input : List ℤ × ℤ) (inputs : List (List ℤ × ℤ)) (y : ℤ) (ys mid after : List ℤ) (step : StepsTo input.0 before input.1 y mid) (rest : Traces mid inputs ys after)
    → (i t : ℕ) → i < 8 → t < length (input ∷ inputs)
    → since (step.v (i + 1)) (rest.v (i + 1)) t ≡ add_words (since (at before i) (λ u. since (step.v i) (rest.v i) u) t) (mult_r_words (at (coefficients_at (input ∷ inputs) t) i) (since (step.s i) (rest.s i) t))
cons_up before input inputs y ys mid after step rest i zero b h = step.lattice.up i b
cons_up before input inputs y ys mid after step rest i (suc t) b h =
    rw (since_kept i t before mid (step.v i) (rest.v i) (step.kept i (omega arith))) (rest.up i t b (omega arith))

cons_foot : (before : List ℤ) (input : List ℤ × ℤ) (inputs : List (List ℤ × ℤ)) (y : ℤ) (ys mid after : List ℤ) (step : StepsTo input.0 before input.1 y mid) (rest : Traces mid inputs ys after)
    → (t : ℕ) → t < length (input ∷ inputs) → since (step.v 0) (rest.v 0) t ≡ since (step.s 0) (rest.s 0) t
cons_foot before input inputs y ys mid after step rest zero h = step.lattice.foot
cons_foot before input inputs y ys mid after step rest (suc t) h = rest.foot t (omega arith)

cons_output : (before : List ℤ) (input : List ℤ × ℤ) (inputs : List (List ℤ × ℤ)) (y : ℤ) (ys mid after : List ℤ) (step : StepsTo input.0 before input.1 y mid) (rest : Traces mid inputs ys after)
    → (t : ℕ) → t < length (input ∷ inputs) → at (y ∷ ys) t ≡ since (step.s 0) (rest.s 0) t
cons_output before input inputs y ys mid after step rest zero h = step.output
cons_output before input inputs y ys mid after step rest (suc t) h = rest.output t (omega arith)

Traces-cons : (before : List ℤ) (input : List ℤ × ℤ) (inputs : List (List ℤ × ℤ)) (y : ℤ) (ys mid after : List ℤ) → StepsTo input.0 before input.1 y mid → Traces mid inputs ys after
    → Traces before (input ∷ inputs) (y ∷ ys) after
Traces-cons before input inputs y ys mid after step rest = record {
  s = λ i t. since (step.s i) (rest.s i) t;
  v = λ i t. since (step.v i) (rest.v i) t;
  top = cons_top before input inputs y ys mid after step rest;
  down = cons_down before input inputs y ys mid after step rest;
  up = cons_up before input inputs y ys mid after step rest;
  foot = cons_foot before input inputs y ys mid after step rest;
  count = ap suc rest.count;
  output = cons_output before input inputs y ys mid after step rest;
  kept = λ i h. rw (since_kept i (length inputs) before mid (step.v i) (rest.v i) (step.kept i h)) (rest.kept i h);
}

pub Traces-from_run : (before : List ℤ) (inputs : List (List ℤ × ℤ)) (ys after : List ℤ) → Runs StepsTo before inputs ys after → Traces before inputs ys after
Traces-from_run before [] [] after run = record {
  s = λ i t. pos 0;
  v = λ i t. pos 0;
  top = λ t h. absurd (omega arith);
  down = λ i t b h. absurd (omega arith);
  up = λ i t b h. absurd (omega arith);
  foot = λ t h. absurd (omega arith);
  count = refl;
  output = λ t h. absurd (omega arith);
  kept = λ i h. ap (λ (xs : List ℤ). at xs i) run;
}
Traces-from_run before [] (y ∷ ys) after run = absurd run
Traces-from_run before (input ∷ inputs) [] after run = absurd run
Traces-from_run before (input ∷ inputs) (y ∷ ys) after run =
    Traces-cons before input inputs y ys run.0 after run.1 (Traces-from_run run.0 inputs ys after run.2)

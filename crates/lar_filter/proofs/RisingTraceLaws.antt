-- A run of the analysis filter solves the equations in two indices.
use Rattle.std.proofs.Common.{◌≡◌, ℕ, zero, suc, ◌+◌, ◌<◌, ℤ, pos, List, [], ◌∷◌, length, refl, ap, arith}
use Rattle.fixed_arith.specs.Word.{add_words, mult_r_words}
use Rattle.fixed_arith.specs.Signal.{at}
use Rattle.lar_filter.specs.Runs.{Runs}
use Rattle.lar_filter.specs.Rising.{RisesTo}
use Rattle.lar_filter.specs.Trace.{since, coefficients_at, sample_at}
use Rattle.lar_filter.specs.RisingTrace.{RisesOver}
use Rattle.lar_filter.proofs.TraceLaws.{since_kept}

cons_d_foot : (before : List ℤ) (input : List ℤ × ℤ) (inputs : List (List ℤ × ℤ)) (y : ℤ) (ys mid after : List ℤ) (step : RisesTo input.0 before input.1 y mid) (rest : RisesOver mid inputs ys after)
    → (t : ℕ) → t < length (input ∷ inputs) → since (step.d 0) (rest.d 0) t ≡ sample_at (input ∷ inputs) t
cons_d_foot before input inputs y ys mid after step rest zero h = step.lattice.d_foot
cons_d_foot before input inputs y ys mid after step rest (suc t) h = rest.d_foot t (omega arith)

cons_w_foot : (before : List ℤ) (input : List ℤ × ℤ) (inputs : List (List ℤ × ℤ)) (y : ℤ) (ys mid after : List ℤ) (step : RisesTo input.0 before input.1 y mid) (rest : RisesOver mid inputs ys after)
    → (t : ℕ) → t < length (input ∷ inputs) → since (step.w 0) (rest.w 0) t ≡ sample_at (input ∷ inputs) t
cons_w_foot before input inputs y ys mid after step rest zero h = step.lattice.w_foot
cons_w_foot before input inputs y ys mid after step rest (suc t) h = rest.w_foot t (omega arith)

cons_d_up : (before : List ℤ) (input : List ℤ × ℤ) (inputs : List (List ℤ × ℤ)) (y : ℤ) (ys mid after : List ℤ) (step : RisesTo input.0 before input.1 y mid) (rest : RisesOver mid inputs ys after)
    → (i t : ℕ) → i < 8 → t < length (input ∷ inputs)
    → since (step.d (i + 1)) (rest.d (i + 1)) t ≡ add_words (since (step.d i) (rest.d i) t) (mult_r_words (at (coefficients_at (input ∷ inputs) t) i) (since (at before i) (λ u. since (step.w i) (rest.w i) u) t))
cons_d_up before input inputs y ys mid after step rest i zero b h = step.lattice.d_up i b
cons_d_up before input inputs y ys mid after step rest i (suc t) b h =
    rw (since_kept i t before mid (step.w i) (rest.w i) (step.kept i (omega arith))) (rest.d_up i t b (omega arith))

cons_w_up : (before : List ℤ) (input : List ℤ × ℤ) (inputs : List (List ℤ × ℤ)) (y : ℤ) (ys mid after : List ℤ) (step : RisesTo input.0 before input.1 y mid) (rest : RisesOver mid inputs ys after)
    → (i t : ℕ) → i < 8 → t < length (input ∷ inputs)
    → since (step.w (i + 1)) (rest.w (i + 1)) t ≡ add_words (since (at before i) (λ u. since (step.w i) (rest.w i) u) t) (mult_r_words (at (coefficients_at (input ∷ inputs) t) i) (since (step.d i) (rest.d i) t))
cons_w_up before input inputs y ys mid after step rest i zero b h = step.lattice.w_up i b
cons_w_up before input inputs y ys mid after step rest i (suc t) b h =
    rw (since_kept i t before mid (step.w i) (rest.w i) (step.kept i (omega arith))) (rest.w_up i t b (omega arith))

cons_output : (before : List ℤ) (input : List ℤ × ℤ) (inputs : List (List ℤ × ℤ)) (y : ℤ) (ys mid after : List ℤ) (step : RisesTo input.0 before input.1 y mid) (rest : RisesOver mid inputs ys after)
    → (t : ℕ) → t < length (input ∷ inputs) → at (y ∷ ys) t ≡ since (step.d 8) (rest.d 8) t
cons_output before input inputs y ys mid after step rest zero h = step.output
cons_output before input inputs y ys mid after step rest (suc t) h = rest.output t (omega arith)

RisesOver-cons : (before : List ℤ) (input : List ℤ × ℤ) (inputs : List (List ℤ × ℤ)) (y : ℤ) (ys mid after : List ℤ) → RisesTo input.0 before input.1 y mid → RisesOver mid inputs ys after
    → RisesOver before (input ∷ inputs) (y ∷ ys) after
RisesOver-cons before input inputs y ys mid after step rest = record {
  d = λ i t. since (step.d i) (rest.d i) t;
  w = λ i t. since (step.w i) (rest.w i) t;
  d_foot = cons_d_foot before input inputs y ys mid after step rest;
  w_foot = cons_w_foot before input inputs y ys mid after step rest;
  d_up = cons_d_up before input inputs y ys mid after step rest;
  w_up = cons_w_up before input inputs y ys mid after step rest;
  count = ap suc rest.count;
  output = cons_output before input inputs y ys mid after step rest;
  kept = λ i h. rw (since_kept i (length inputs) before mid (step.w i) (rest.w i) (step.kept i h)) (rest.kept i h);
}

pub RisesOver-from_run : (before : List ℤ) (inputs : List (List ℤ × ℤ)) (ys after : List ℤ) → Runs RisesTo before inputs ys after → RisesOver before inputs ys after
RisesOver-from_run before [] [] after run = record {
  d = λ i t. pos 0;
  w = λ i t. pos 0;
  d_foot = λ t h. absurd (omega arith);
  w_foot = λ t h. absurd (omega arith);
  d_up = λ i t b h. absurd (omega arith);
  w_up = λ i t b h. absurd (omega arith);
  count = refl;
  output = λ t h. absurd (omega arith);
  kept = λ i h. ap (λ (xs : List ℤ). at xs i) run;
}
RisesOver-from_run before [] (y ∷ ys) after run = absurd run
RisesOver-from_run before (input ∷ inputs) [] after run = absurd run
RisesOver-from_run before (input ∷ inputs) (y ∷ ys) after run =
    RisesOver-cons before input inputs y ys run.0 after run.1 (RisesOver-from_run run.0 inputs ys after run.2)

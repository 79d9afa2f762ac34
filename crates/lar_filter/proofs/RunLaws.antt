-- Runs grow at their ends, whatever a step of the filter is.
use Rattle.std.proofs.Common.{◌≡◌, ◌≢◌, ℕ, ◌+◌, ◌<◌, ◌≤◌, ℤ, pos, List, [], ◌∷◌, ◌++◌, take, length, set, refl, ◌∙◌, ap, arith, get_or-set_other}
use Rattle.std.proofs.Math.Seq.{take-length}
use Rattle.std.proofs.lemmas.List.{take_more, take_more_set, map-append}
use Rattle.fixed_arith.specs.Signal.{at}
use Rattle.lar_filter.specs.Runs.{Runs, inputs_of}

-- one more sample
pub Runs-append : (Step : List ℤ → List ℤ → ℤ → ℤ → List ℤ → Type 0) (before : List ℤ) (inputs : List (List ℤ × ℤ)) (ys mid : List ℤ) (input : List ℤ × ℤ) (y : ℤ) (after : List ℤ)
    → Runs Step before inputs ys mid → Step input.0 mid input.1 y after → Runs Step before (inputs ++ input ∷ []) (ys ++ y ∷ []) after
Runs-append Step before [] [] mid input y after run step = (after, rw run at step, refl)
Runs-append Step before [] (z ∷ ys) mid input y after run step = absurd run
Runs-append Step before (first ∷ inputs) [] mid input y after run step = absurd run
Runs-append Step before (first ∷ inputs) (z ∷ ys) mid input y after run step = (run.0, run.1, Runs-append Step run.0 inputs ys mid input y after run.2 step)

-- two runs are one
pub Runs-join : (Step : List ℤ → List ℤ → ℤ → ℤ → List ℤ → Type 0) (start : List ℤ) (inputs : List (List ℤ × ℤ)) (ys mid : List ℤ) (more : List (List ℤ × ℤ)) (zs after : List ℤ)
    → Runs Step start inputs ys mid → Runs Step mid more zs after → Runs Step start (inputs ++ more) (ys ++ zs) after
Runs-join Step start [] [] mid more zs after run next = rw run at next
Runs-join Step start [] (y ∷ ys) mid more zs after run next = absurd run
Runs-join Step start (input ∷ inputs) [] mid more zs after run next = absurd run
Runs-join Step start (input ∷ inputs) (y ∷ ys) mid more zs after run next = (run.0, run.1, Runs-join Step run.0 inputs ys mid more zs after run.2 next)

-- the first i samples went through in place, and the others are as they were
pub record RunsInPlace (Step : List ℤ → List ℤ → ℤ → ℤ → List ℤ → Type 0) (rp before old new after : List ℤ) (i : ℕ) : Type 0 where
  pub run : Runs Step before (inputs_of rp (take i old)) (take i new) after
  pub rest : (k : ℕ) → i ≤ k → at new k ≡ at old k

pub RunsInPlace-more : (Step : List ℤ → List ℤ → ℤ → ℤ → List ℤ → Type 0) (rp before old new mid after : List ℤ) (y : ℤ) (i : ℕ) → i < length new → length new ≡ length old
    → RunsInPlace Step rp before old new mid i → Step rp mid (at new i) y after → RunsInPlace Step rp before old (set new i y) after (i + 1)
RunsInPlace-more Step rp before old new mid after y i inside size done step =
    let here : i < length old = omega arith in
    let pair : ℤ → List ℤ × ℤ = λ x. (rp, x) in
    let front : inputs_of rp (take (i + 1) old) ≡ inputs_of rp (take i old) ++ pair (at old i) ∷ [] =
    ap (inputs_of rp) (take_more old i (pos 0) here) ∙ map-append pair (take i old) (at old i ∷ []) in
    record {
      run = rw (front, take_more_set new i y inside)
          (Runs-append Step before (inputs_of rp (take i old)) (take i new) mid (pair (at old i)) y after done.run (rw (done.rest i (omega arith)) at step));
      rest = λ k h. let other : k ≢ i = omega arith in rw get_or-set_other (done.rest k (omega arith));
    }

pub RunsInPlace-whole : (Step : List ℤ → List ℤ → ℤ → ℤ → List ℤ → Type 0) (rp before old new after : List ℤ) (i : ℕ) → i ≡ length old → length new ≡ length old
    → RunsInPlace Step rp before old new after i → Runs Step before (inputs_of rp old) new after
RunsInPlace-whole Step rp before old new after i end size done =
    let same : i ≡ length new = omega arith in
    let olds : take i old ≡ old = rw end (take-length old) in
    let news : take i new ≡ new = rw same (take-length new) in
    rw (olds, news) at done.run

-- A frame goes through a filter in four parts, each with coefficients of its own: GSM 06.10 section 5.2.9.
use Rattle.std.specs.Prelude.{◌≡◌, ℕ, ◌+◌, ◌<◌, ℤ, List, ◌++◌, length, nat_lt, if◌then◌else◌}
use Rattle.fixed_arith.specs.Signal.{at}
use Rattle.lar_filter.specs.Coefficients.{between, coefficient_of}
use Rattle.lar_filter.specs.Runs.{Runs}
use Rattle.lar_filter.specs.Trace.{coefficients_at, sample_at}

-- the part of a frame in which its k-th sample is
unfoldable pub part_of : ℕ → ℕ
part_of k = if nat_lt k 13 then 0 else if nat_lt k 27 then 1 else if nat_lt k 40 then 2 else 3

-- the coefficients of a part of a frame, from the ratios of the frame before and of this one
abbrev pub IsPart : List ℤ → List ℤ → ℕ → List ℤ → Type 0
IsPart before now part rp = (i : ℕ) → i < 8 → at rp i ≡ coefficient_of (between part (at before i) (at now i))

-- the coefficient i + 1 at the k-th sample of a frame, from the ratios of the frame before and of this one
abbrev pub frame_coefficient : List ℤ → List ℤ → ℕ → ℕ → ℤ
frame_coefficient before now i k = coefficient_of (between (part_of k) (at before i) (at now i))

-- inputs of a filter are these values, with the coefficients rp(i, t) of the times from a first one on
pub record IsFed (rp : ℕ → ℕ → ℤ) (first : ℕ) (values : List ℤ) (inputs : List (List ℤ × ℤ)) : Type 0 where
  pub count : length inputs ≡ length values
  pub coefficients : (i k : ℕ) → i < 8 → k < length values → at (coefficients_at inputs k) i ≡ rp i (first + k)
  pub samples : (k : ℕ) → k < length values → sample_at inputs k ≡ at values k

-- The values of a frame went through a filter of this step after the inputs, and all that went through solves the filter's equations.
pub record PassesFrame (Step : List ℤ → List ℤ → ℤ → ℤ → List ℤ → Type 0) (Solves : List ℤ → List (List ℤ × ℤ) → List ℤ → List ℤ → Type 0)
    (before now values start : List ℤ) (inputs : List (List ℤ × ℤ)) (ys after : List ℤ) : Type 0 where
  pub more : List (List ℤ × ℤ)
  pub fed : IsFed (frame_coefficient before now) 0 values more
  pub run : Runs Step start (inputs ++ more) ys after
  pub equations : Solves start (inputs ++ more) ys after

-- After any samples that went through and left the filter so, the values of a frame gave these samples.
abbrev pub ExtendsByFrame : (List ℤ → List ℤ → ℤ → ℤ → List ℤ → Type 0) → (List ℤ → List (List ℤ × ℤ) → List ℤ → List ℤ → Type 0)
    → List ℤ → List ℤ → List ℤ → List ℤ → List ℤ → List ℤ → Type 0
ExtendsByFrame Step Solves before now values kept given after =
    (start : List ℤ) (inputs : List (List ℤ × ℤ)) (ys : List ℤ) → Runs Step start inputs ys kept → PassesFrame Step Solves before now values start inputs (ys ++ given) after

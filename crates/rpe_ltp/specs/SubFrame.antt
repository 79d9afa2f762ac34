-- A sub-frame and its codes: GSM 06.10 sections 5.2.11 to 5.2.15.
use Rattle.std.specs.Prelude.{◌≡◌, ℕ, ◌+◌, ◌*◌, ◌<◌, ℤ, List, ◌++◌, length}
use Rattle.fixed_arith.specs.Signal.{at}
use Rattle.frame_codec.specs.declared.params.SubParams.{SubParams}
use Rattle.rpe_ltp.specs.LagSearch.{IsLagChoice}
use Rattle.rpe_ltp.specs.LongTerm.{remainder_at, Memory, Remembers}
use Rattle.rpe_ltp.specs.Weighting.{weighted_at, IsGrid}
use Rattle.rpe_ltp.specs.PulseCodes.{IsApcm}

-- The codes of a sub-frame with this short-term residual, over the values before it: the lag and its gain, then the grid of the weighted remainder, then
-- the level and the pulses of the values on the grid.
pub record IsCoded (d kept : List ℤ) (sub : SubParams) : Type 0 where
  pub lag : IsLagChoice d kept sub.nc sub.bc
  pub e : List ℤ
  pub left : (k : ℕ) → k < 40 → at e k ≡ remainder_at d kept sub.nc sub.bc k
  pub x : List ℤ
  pub weighted : (k : ℕ) → k < 40 → at x k ≡ weighted_at e k
  pub grid : IsGrid x sub.mc
  pub xm : List ℤ
  pub chosen : (i : ℕ) → i < 13 → at xm i ≡ at x (sub.mc + 3 * i)
  pub pulses : IsApcm xm sub.xmaxc sub.xmc
  pub sizes : (length e ≡ 40) × (length x ≡ 40) × (length xm ≡ 13)

-- The sub-frames have some values that go on with those before, and they are what is kept.
pub record Continues (subs : List SubParams) (values : List ℤ) (kept : Memory) : Type 0 where
  pub more : List ℤ
  pub remembers : Remembers subs (values ++ more) kept

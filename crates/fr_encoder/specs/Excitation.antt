-- The excitation of coded speech, sub-frame by sub-frame over the time of a whole list (GSM 06.10 sections 5.2.11 to 5.2.18).
-- A sub-frame has 40 samples. Each value before time 0 is 0.
use Rattle.std.specs.Prelude.{◌≡◌, ℕ, ◌+◌, ◌*◌, ◌<◌, ◌≤◌, ℤ, List, length, take, drop}
use Rattle.fixed_arith.specs.Word.{sub_words, mult_r_words}
use Rattle.fixed_arith.specs.Signal.{at, past}
use Rattle.frame_codec.specs.declared.params.SubParams.{SubParams}
use Rattle.rpe_ltp.specs.History.{back_at}
use Rattle.rpe_ltp.specs.LongTerm.{gains, sub_at, Memory, Remembers}
use Rattle.rpe_ltp.specs.LagSearch.{IsLagChoice}
use Rattle.rpe_ltp.specs.Weighting.{weighted_at, IsGrid}
use Rattle.rpe_ltp.specs.PulseCodes.{IsApcm}

-- the forty values from time t on
unfoldable pub forty : List ℤ → ℕ → List ℤ
forty values t = take 40 (drop t values)

-- the 120 values before time t, by how far back they are
pub record AreBefore (values : List ℤ) (t : ℕ) (kept : List ℤ) : Type 0 where
  pub size : length kept ≡ 120
  pub each : (back : ℕ) → 1 ≤ back → back ≤ 120 → back_at kept back ≡ past (at values) t back

-- The thirteen pulses of a sub-frame are those of its long-term residual e: x is e weighted, and xM is x on the grid.
pub record IsPulses (e x xm : List ℤ) (sub : SubParams) : Type 0 where
  pub e_size : length e ≡ 40
  pub x_size : length x ≡ 40
  pub weighting : (k : ℕ) → k < 40 → at x k ≡ weighted_at e k
  pub grid : IsGrid x sub.mc
  pub xm_size : length xm ≡ 13
  pub on_grid : (i : ℕ) → i < 13 → at xm i ≡ at x (sub.mc + 3 * i)
  pub codes : IsApcm xm sub.xmaxc sub.xmc

-- The fields of the sub-frame that begins at time t are those of the short-term residual d, where dp is d as a decoder reconstructs it.
pub record IsExcitation (d dp : List ℤ) (t : ℕ) (sub : SubParams) : Type 0 where
  pub kept : List ℤ
  pub e : List ℤ
  pub x : List ℤ
  pub xm : List ℤ
  pub before : AreBefore dp t kept
  pub lag : IsLagChoice (forty d t) kept sub.nc sub.bc
  pub difference : (k : ℕ) → k < 40 → at e k ≡ sub_words (at d (t + k)) (mult_r_words (at gains sub.bc) (past (at dp) (t + k) sub.nc))
  pub pulses : IsPulses e x xm sub

-- The sub-frames so far are those of the residual so far, and what they reconstruct is kept as far as the next one needs it.
pub record Excites (d : List ℤ) (subs : List SubParams) (memory : Memory) : Type 0 where
  pub dp : List ℤ
  pub remembers : Remembers subs dp memory
  pub count : length d ≡ 40 * length subs
  pub each : (j : ℕ) → j < length subs → IsExcitation d dp (40 * j) (sub_at subs j)

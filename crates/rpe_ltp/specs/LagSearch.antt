-- The lag of a sub-frame and the code of its gain: GSM 06.10 section 5.2.11.
use Rattle.std.specs.Prelude.{◌≡◌, ℕ, ◌+◌, ◌-◌, ◌*◌, ◌^◌, ◌≤◌, ◌<◌, ℤ, pos, ◌*ℤ◌, ◌≤ℤ◌, ◌<ℤ◌, int_lt, unsigned_abs, List, [], ◌∷◌, map, if◌then◌else◌, ◌==◌, ◌⊎◌}
use Rattle.std.specs.Int.{int_shr}
use Rattle.fixed_arith.specs.Word.{mult_words, norm_of}
use Rattle.fixed_arith.specs.Sums.{sum_below, greatest_of}
use Rattle.fixed_arith.specs.Signal.{at}
use Rattle.rpe_ltp.specs.History.{back_at}

-- by how many places a residual with this greatest magnitude is shifted down, so that at most nine digits are left (scal)
unfoldable pub lag_scale : ℤ → ℕ
lag_scale top = if unsigned_abs top == 0 then 0 else 6 - norm_of (unsigned_abs top * 65536)

-- the short-term residual of a sub-frame, shifted down (wt)
abbrev pub lag_scaled : List ℤ → List ℤ
lag_scaled d = map (λ x. int_shr x (lag_scale (greatest_of d))) d

-- the cross-correlation of a sub-frame with the values that lie a lag back
unfoldable pub lag_sum : List ℤ → List ℤ → ℕ → ℤ
lag_sum ws kept lag = sum_below (λ k. at ws k *ℤ back_at kept (lag - k)) 40

-- Of the lags from 40 up to an end, the first whose sum is the greatest one and above 0. Where no sum is above 0, the lag is 40 and 0 stands for the sum.
pub record IsFirstGreatest (sums : ℕ → ℤ) (end lag : ℕ) (best : ℤ) : Type 0 where
  pub least : 40 ≤ lag
  pub most : lag ≤ 120
  pub greatest : (l : ℕ) → 40 ≤ l → l < end → sums l ≤ℤ best
  pub first : (l : ℕ) → 40 ≤ l → l < lag → sums l <ℤ best
  pub value : ((best ≡ sums lag) × (pos 0 <ℤ best)) ⊎ ((best ≡ pos 0) × (lag ≡ 40))

-- twice the energy of the forty values that lie a lag back, each over 8 (L_power)
unfoldable pub lag_power : List ℤ → ℕ → ℤ
lag_power kept lag = sum_below (λ k. int_shr (back_at kept (lag - k)) 3 *ℤ int_shr (back_at kept (lag - k)) 3) 40 *ℤ pos 2

-- twice the greatest sum, with the scale taken back as far as the power has it (L_max)
abbrev pub lag_level : ℕ → ℤ → ℤ
lag_level scale best = int_shr (best *ℤ pos 2) (6 - scale)

-- up to which ratio each gain code holds, in units of 1 / 32768 (DLB)
abbrev pub gain_limits : List ℤ
gain_limits = pos 6554 ∷ pos 16384 ∷ pos 26214 ∷ []

-- the first gain code whose limit the ratio of two words does not pass, else 3
abbrev pub gain_step_of : ℤ → ℤ → ℕ
gain_step_of r s =
    if int_lt (mult_words s (at gain_limits 0)) r then
    (if int_lt (mult_words s (at gain_limits 1)) r then (if int_lt (mult_words s (at gain_limits 2)) r then 3 else 2) else 1)
    else 0

-- the high word of x, shifted up as far as the power allows
abbrev pub high_word : ℤ → ℤ → ℤ
high_word power x = int_shr (x *ℤ pos (2 ^ norm_of (unsigned_abs power))) 16

-- the gain code of the level of the greatest sum and of the power (bc)
unfoldable pub gain_code : ℤ → ℤ → ℕ
gain_code level power =
    if int_lt (pos 0) level then (if int_lt level power then gain_step_of (high_word power level) (high_word power power) else 3) else 0

-- the lag and the gain code of a sub-frame (Nc and bc)
pub record IsLagChoice (d kept : List ℤ) (lag gain : ℕ) : Type 0 where
  pub best : ℤ
  pub choice : IsFirstGreatest (lag_sum (lag_scaled d) kept) 121 lag best
  pub coded : gain ≡ gain_code (lag_level (lag_scale (greatest_of d)) best) (lag_power kept lag)

-- the cross-correlation with the forty values from place i of the kept ones on
unfoldable pub sum_by_place : List ℤ → List ℤ → ℕ → ℤ
sum_by_place ws kept i = sum_below (λ k. at ws k *ℤ at kept (i + k)) 40

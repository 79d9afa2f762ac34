-- The weighting filter and the choice of the grid: GSM 06.10 sections 5.2.13 and 5.2.14.
use Rattle.std.specs.Prelude.{ℕ, ◌+◌, ◌-◌, ◌*◌, ◌<◌, ℤ, pos, negsuc, ◌+ℤ◌, ◌*ℤ◌, ◌≤ℤ◌, ◌<ℤ◌, List, [], ◌∷◌, cond, nat_le}
use Rattle.std.specs.Int.{int_shr}
use Rattle.fixed_arith.specs.Word.{clip_word}
use Rattle.fixed_arith.specs.Sums.{sum_below}
use Rattle.fixed_arith.specs.Signal.{at}

-- the value of a sub-frame five places before j, which is 0 outside the sub-frame
abbrev pub five_before : List ℤ → ℕ → ℤ
five_before e j = cond (nat_le 5 j) (at e (j - 5)) (pos 0)

-- the impulse response, in units of 1 / 8192 (H)
abbrev pub response : List ℤ
response = negsuc 133 ∷ negsuc 373 ∷ pos 0 ∷ pos 2054 ∷ pos 5741 ∷ pos 8192 ∷ pos 5741 ∷ pos 2054 ∷ pos 0 ∷ negsuc 373 ∷ negsuc 133 ∷ []

-- eleven values in the middle of the filter, rounded and limited
unfoldable pub weighted : (ℕ → ℤ) → ℤ
weighted f = clip_word (int_shr (sum_below (λ i. at response i *ℤ f i) 11 +ℤ pos 4096) 13)

-- the weighted value at the k-th place of a sub-frame (x)
abbrev pub weighted_at : List ℤ → ℕ → ℤ
weighted_at e k = weighted (λ i. five_before e (k + i))

-- the energy of the thirteen values from place m on, three places apart, each over 4 (EM)
unfoldable pub grid_power : List ℤ → ℕ → ℤ
grid_power x m = sum_below (λ i. int_shr (at x (m + 3 * i)) 2 *ℤ int_shr (at x (m + 3 * i)) 2) 13

-- of the four grids, the first with the greatest energy (Mc)
pub record IsGrid (x : List ℤ) (m : ℕ) : Type 0 where
  pub within : m < 4
  pub greatest : (n : ℕ) → n < 4 → grid_power x n ≤ℤ grid_power x m
  pub first : (n : ℕ) → n < m → grid_power x n <ℤ grid_power x m

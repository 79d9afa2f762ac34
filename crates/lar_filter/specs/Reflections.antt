-- Reflection coefficients from an autocorrelation, by the recursion of Schur: GSM 06.10 section 5.2.5.
use Rattle.std.specs.Prelude.{ℕ, zero, suc, ◌+◌, ◌^◌, ℤ, pos, ◌*ℤ◌, neg_ℤ, int_lt, unsigned_abs, List, [], ◌∷◌, replicate, if◌then◌else◌}
use Rattle.std.specs.Int.{int_shr}
use Rattle.fixed_arith.specs.Word.{add_words, mult_r_words, abs_of_word, div_words, norm_of}

-- the coefficient that a turn gives: the quotient of p(1) by p(0), with the opposite sign
unfoldable pub quotient_of : ℤ → ℤ → ℤ
quotient_of low x = if int_lt (pos 0) x then neg_ℤ (div_words (abs_of_word x) low) else div_words (abs_of_word x) low

-- the values p of the next turn, from those of this turn and its coefficient
unfoldable pub next_p : ℤ → (ℕ → ℤ) → (ℕ → ℤ) → ℕ → ℤ
next_p r p k zero = add_words (p 0) (mult_r_words (p 1) r)
next_p r p k (suc m) = add_words (p (suc m + 1)) (mult_r_words (k (suc m)) r)

-- the values k of the next turn
unfoldable pub next_k : ℤ → (ℕ → ℤ) → (ℕ → ℤ) → ℕ → ℤ
next_k r p k m = add_words (k m) (mult_r_words (p (m + 1)) r)

-- the coefficients of this many turns: all are 0 from the turn on where p(0) is below the magnitude of p(1)
unfoldable pub quotients : ℕ → (ℕ → ℤ) → (ℕ → ℤ) → List ℤ
quotients zero p k = []
quotients (suc turns) p k =
    if int_lt (p 0) (abs_of_word (p 1)) then replicate (suc turns) (pos 0)
    else quotient_of (p 0) (p 1) ∷ quotients turns (next_p (quotient_of (p 0) (p 1)) p k) (next_k (quotient_of (p 0) (p 1)) p k)

-- the high half of a value, shifted left until the first value has its highest digit at place 30
unfoldable pub normal_word : ℤ → ℤ → ℤ
normal_word first x = int_shr (x *ℤ pos (2 ^ norm_of (unsigned_abs first))) 16

-- the eight coefficients, all 0 where the first value is
unfoldable pub reflections : (ℕ → ℤ) → List ℤ
reflections acf =
    if int_lt (pos 0) (acf 0) then quotients 8 (λ m. normal_word (acf 0) (acf m)) (λ m. normal_word (acf 0) (acf m))
    else replicate 8 (pos 0)

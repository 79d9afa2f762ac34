-- From reflection coefficients to the codes of the log area ratios: GSM 06.10 sections 5.2.6 and 5.2.7.
use Rattle.std.specs.Prelude.{ℕ, ℤ, pos, negsuc, ◌-ℤ◌, ◌*ℤ◌, neg_ℤ, int_lt, unsigned_abs, List, [], ◌∷◌, if◌then◌else◌}
use Rattle.std.specs.Int.{int_shr, int_max, int_min}
use Rattle.fixed_arith.specs.Word.{add_words, mult_words, abs_of_word}
use Rattle.fixed_arith.specs.Signal.{at}

-- the ratio of a coefficient's magnitude
unfoldable pub flat : ℤ → ℤ
flat m =
    if int_lt m (pos 22118) then int_shr m 1
    else if int_lt m (pos 31130) then m -ℤ pos 11059
    else (m -ℤ pos 26112) *ℤ pos 4

-- the ratio of a coefficient, with its sign
unfoldable pub ratio_from : ℤ → ℤ
ratio_from r = if int_lt r (pos 0) then neg_ℤ (flat (abs_of_word r)) else flat (abs_of_word r)

-- the code of a coefficient, with the ratio's factor (A), its offset (B), and the least and the greatest code, -32 and 31 or less (MIC, MAC)
unfoldable pub code_from : ℤ → ℤ → ℤ → ℤ → ℤ → ℕ
code_from factor offset least most r =
    unsigned_abs (int_min (int_max (int_shr (add_words (add_words (mult_words factor (ratio_from r)) offset) (pos 256)) 9) least) most -ℤ least)

-- the codes of eight coefficients
abbrev pub codes_from : List ℤ → List ℕ
codes_from r =
    code_from (pos 20480) (pos 0) (negsuc 31) (pos 31) (at r 0)
    ∷ code_from (pos 20480) (pos 0) (negsuc 31) (pos 31) (at r 1)
    ∷ code_from (pos 20480) (pos 2048) (negsuc 15) (pos 15) (at r 2)
    ∷ code_from (pos 20480) (negsuc 2559) (negsuc 15) (pos 15) (at r 3)
    ∷ code_from (pos 13964) (pos 94) (negsuc 7) (pos 7) (at r 4)
    ∷ code_from (pos 15360) (negsuc 1791) (negsuc 7) (pos 7) (at r 5)
    ∷ code_from (pos 8534) (negsuc 340) (negsuc 3) (pos 3) (at r 6)
    ∷ code_from (pos 9036) (negsuc 1143) (negsuc 3) (pos 3) (at r 7)
    ∷ []

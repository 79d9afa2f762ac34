-- From log area ratios to reflection coefficients: GSM 06.10 section 5.2.9.
use Rattle.std.specs.Prelude.{ℕ, zero, suc, ℤ, pos, ◌+ℤ◌, ◌*ℤ◌, neg_ℤ, int_lt, if◌then◌else◌}
use Rattle.std.specs.Int.{int_shr}
use Rattle.fixed_arith.specs.Word.{add_words, abs_of_word}

-- a ratio of the parts 0 to 3 of a frame, between that of the frame before and that of this one
unfoldable pub between : ℕ → ℤ → ℤ → ℤ
between zero before now = add_words (add_words (int_shr before 2) (int_shr now 2)) (int_shr before 1)
between (suc zero) before now = add_words (int_shr before 1) (int_shr now 1)
between (suc (suc zero)) before now = add_words (add_words (int_shr before 2) (int_shr now 2)) (int_shr now 1)
between (suc (suc (suc part))) before now = now

-- the coefficient of a ratio's magnitude
unfoldable pub steepened : ℤ → ℤ
steepened magnitude =
    if int_lt magnitude (pos 11059) then magnitude *ℤ pos 2
    else if int_lt magnitude (pos 20070) then magnitude +ℤ pos 11059
    else add_words (int_shr magnitude 2) (pos 26112)

-- the coefficient of a ratio, with the ratio's sign
unfoldable pub coefficient_of : ℤ → ℤ
coefficient_of ratio = if int_lt ratio (pos 0) then neg_ℤ (steepened (abs_of_word ratio)) else steepened (abs_of_word ratio)

-- De-emphasis, and the samples that come out: GSM 06.10 sections 5.3.5 to 5.3.7.
use Rattle.std.specs.Prelude.{ℕ, zero, suc, ℤ, pos, ◌*ℤ◌, List}
use Rattle.std.specs.Int.{int_shr}
use Rattle.fixed_arith.specs.Word.{add_words, mult_r_words}
use Rattle.fixed_arith.specs.Signal.{at}

-- the next de-emphasised value, from the one before it and what the filter gave
unfoldable pub emphasis_next : ℤ → ℤ → ℤ
emphasis_next before x = add_words x (mult_r_words before (pos 28180))

-- the de-emphasised value after the first n of the values that the filter gave, from the one before them
unfoldable pub emphasis_after : ℤ → List ℤ → ℕ → ℤ
emphasis_after before xs zero = before
emphasis_after before xs (suc n) = emphasis_next (emphasis_after before xs n) (at xs n)

-- the sample of a de-emphasised value: twice the value, with its three lowest bits cleared
unfoldable pub output_of : ℤ → ℤ
output_of value = int_shr (add_words value value) 3 *ℤ pos 8

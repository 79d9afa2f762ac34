-- Sums over an index, and the greatest magnitude of words.
use Rattle.std.specs.Prelude.{ℕ, zero, suc, ℤ, pos, ◌+ℤ◌, List}
use Rattle.std.specs.List.{fold}
use Rattle.std.specs.Int.{int_max}
use Rattle.fixed_arith.specs.Word.{abs_of_word}

-- the sum of f(i) for i below n
unfoldable pub sum_below : (ℕ → ℤ) → ℕ → ℤ
sum_below f zero = pos 0
sum_below f (suc n) = sum_below f n +ℤ f n

-- the greatest magnitude of words, each limited to the words, and 0 where there are none
unfoldable pub greatest_of : List ℤ → ℤ
greatest_of xs = fold (λ m x. int_max m (abs_of_word x)) (pos 0) xs

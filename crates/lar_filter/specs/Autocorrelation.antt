-- Scaling of a frame, and its autocorrelation: GSM 06.10 section 5.2.4.
use Rattle.std.specs.Prelude.{ℕ, zero, suc, ◌+◌, ◌-◌, ◌*◌, ◌/◌, ◌^◌, ◌≤◌, ℤ, pos, ◌*ℤ◌, ◌≤ℤ◌, unsigned_abs, List, map, if◌then◌else◌, ◌==◌}
use Rattle.fixed_arith.specs.Word.{mult_r_words, shift_word_left, norm_of}
use Rattle.fixed_arith.specs.Signal.{at}
use Rattle.fixed_arith.specs.Sums.{sum_below, greatest_of}

-- by how many places a frame with this greatest magnitude is scaled down, 0 to 4 (scalauto)
unfoldable pub scale_of : ℤ → ℕ
scale_of top = if unsigned_abs top == 0 then 0 else 4 - norm_of (unsigned_abs top * 65536)

-- a sample scaled down by this many places, rounded
unfoldable pub scaled_word : ℕ → ℤ → ℤ
scaled_word zero x = x
scaled_word (suc n) x = mult_r_words x (pos (16384 / 2 ^ n))

-- the samples of a frame, scaled down by what its greatest magnitude wants
abbrev pub scaled : List ℤ → List ℤ
scaled xs = map (scaled_word (scale_of (greatest_of xs))) xs

-- the sum of the products of samples that are k places apart, doubled (L_ACF)
unfoldable pub correlation : List ℤ → ℕ → ℤ
correlation xs k = sum_below (λ i. at xs (i + k) *ℤ at xs i) (160 - k) *ℤ pos 2

-- the samples that go on to the filter: scaled down, and up again without their lowest bits
abbrev pub onward : List ℤ → List ℤ
onward xs = map (λ x. shift_word_left x (scale_of (greatest_of xs))) (scaled xs)

-- no value has a magnitude above the first
abbrev pub FirstIsGreatest : List ℤ → Type 0
FirstIsGreatest acf = (k : ℕ) → k ≤ 8 → pos (unsigned_abs (at acf k)) ≤ℤ at acf 0

-- Decoding of the log area ratios: GSM 06.10 section 5.2.8.
use Rattle.std.specs.Prelude.{ℕ, ℤ, pos, negsuc, ◌+ℤ◌, ◌*ℤ◌, List, [], ◌∷◌, slice_index}
use Rattle.fixed_arith.specs.Word.{add_words, sub_words, mult_r_words}
use Rattle.fixed_arith.specs.Signal.{at}

-- the least code of each ratio, -32 to -4 (MIC)
abbrev pub least_codes : List ℤ
least_codes = negsuc 31 ∷ negsuc 31 ∷ negsuc 15 ∷ negsuc 15 ∷ negsuc 7 ∷ negsuc 7 ∷ negsuc 3 ∷ negsuc 3 ∷ []

-- the offset of each ratio: 0, 0, 2048, -2560, 94, -1792, -341, -1144 (B)
abbrev pub offsets : List ℤ
offsets = pos 0 ∷ pos 0 ∷ pos 2048 ∷ negsuc 2559 ∷ pos 94 ∷ negsuc 1791 ∷ negsuc 340 ∷ negsuc 1143 ∷ []

-- the inverse of each ratio's factor, in units of 1 / 32768 (INVA)
abbrev pub inverse_factors : List ℤ
inverse_factors = pos 13107 ∷ pos 13107 ∷ pos 13107 ∷ pos 13107 ∷ pos 19223 ∷ pos 17476 ∷ pos 31454 ∷ pos 29708 ∷ []

-- the ratio of a code: the code with its least one added, times 1024, less twice the offset; then that times the inverse of the factor, twice
unfoldable pub ratio_of : ℤ → ℤ → ℤ → ℕ → ℤ
ratio_of least offset inverse_factor code =
    let half = mult_r_words inverse_factor (sub_words ((pos code +ℤ least) *ℤ pos 1024) (offset *ℤ pos 2)) in
    add_words half half

-- the i-th ratio of a frame's codes
abbrev pub ratio_at : List ℕ → ℕ → ℤ
ratio_at codes i = ratio_of (at least_codes i) (at offsets i) (at inverse_factors i) (slice_index codes i)

-- the ratios of a frame's codes
abbrev pub ratios_of : List ℕ → List ℤ
ratios_of codes =
    ratio_at codes 0 ∷ ratio_at codes 1 ∷ ratio_at codes 2 ∷ ratio_at codes 3 ∷ ratio_at codes 4 ∷ ratio_at codes 5 ∷ ratio_at codes 6 ∷ ratio_at codes 7 ∷ []

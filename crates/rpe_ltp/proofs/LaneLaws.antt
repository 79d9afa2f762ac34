-- Sums and products of eight lanes, lane by lane.
use Rattle.std.proofs.Common.{arith, ◌∙◌, ◌≡◌, ◌≤◌, ◌+◌, ◌*◌, ◌%◌, ◌^◌, ◌<◌, ℕ, ℤ, List, refl, ap, sym, pos, ◌+ℤ◌, ◌*ℤ◌, get_or, length, FitsSigned, w32, to_z, of_z, map, take, drop, replicate}
use Rattle.std.specs.Simd.Lanes.{zip2}
use Rattle.std.proofs.lemmas.Int.{to_z-of_z, ints, int_wrap_fits, wrapping_add-bits, wrapping_mul-bits, fits_signed_from_abs, unsigned_abs-mul}
use Rattle.std.proofs.Math.Nat.{mul-le-mul}
use Rattle.std.specs.Prelude.{unsigned_abs}
use Rattle.std.proofs.lemmas.List.{length-map, get_or-map}
use Rattle.std.proofs.lemmas.Simd.{length-zip2, get_or-zip2, length-chunk, get_or-chunk, length-replicate, get_or-replicate}

bits_below : (z : ℤ) → FitsSigned w32 z → of_z w32 z < 2 ^ 32
bits_below z fits = omega (arith, ints)

lane_product : (w x : ℤ) → FitsSigned w32 w → FitsSigned w32 x → FitsSigned w32 (w *ℤ x) → to_z w32 ((of_z w32 w * of_z w32 x) % 2 ^ 32) ≡ w *ℤ x
lane_product w x fw fx fits =
    wrapping_mul-bits w32 (of_z w32 w) (of_z w32 x) (bits_below w fw) (bits_below x fx)
    ∙ (rw (to_z-of_z w32 w fw, to_z-of_z w32 x fx) (int_wrap_fits w32 (w *ℤ x) fits))

lane_total : (s p : ℤ) (b : ℕ) → FitsSigned w32 s → b < 2 ^ 32 → to_z w32 b ≡ p → FitsSigned w32 (s +ℤ p) → to_z w32 ((of_z w32 s + b) % 2 ^ 32) ≡ s +ℤ p
lane_total s p b fs below is fits =
    wrapping_add-bits w32 (of_z w32 s) b (bits_below s fs) below
    ∙ (rw (to_z-of_z w32 s fs, is) (int_wrap_fits w32 (s +ℤ p) fits))

get_splat : (w : ℤ) (splat : List ℕ) (i : ℕ) → splat ≡ replicate 8 (of_z w32 w) → i < 8 → get_or splat i 0 ≡ of_z w32 w
get_splat w splat i is inside = ap (λ (s : List ℕ). get_or s i 0) is ∙ get_or-replicate 8 i (of_z w32 w) 0 inside

length_splat : (w : ℤ) (splat : List ℕ) → splat ≡ replicate 8 (of_z w32 w) → length splat ≡ 8
length_splat w splat is = ap length is ∙ length-replicate 8 (of_z w32 w)

pub lane_length : (F G : ℕ → ℕ → ℕ) (sums xs : List ℤ) (w : ℤ) (splat : List ℕ) (at : ℕ) → splat ≡ replicate 8 (of_z w32 w) → length sums ≡ 8 → at + 8 ≤ length xs
    → length (zip2 F (map (of_z w32) sums) (zip2 G splat (map (of_z w32) (take 8 (drop at xs))))) ≡ 8
lane_length F G sums xs w splat at is size room =
    let chunk : length (take 8 (drop at xs)) ≡ 8 = length-chunk at 8 xs room in
    let bits : length (map (of_z w32) (take 8 (drop at xs))) ≡ 8 = length-map (take 8 (drop at xs)) (of_z w32) ∙ chunk in
    let held : length (map (of_z w32) sums) ≡ 8 = length-map sums (of_z w32) ∙ size in
    let wide : length splat ≡ 8 = length_splat w splat is in
    let products : length (zip2 G splat (map (of_z w32) (take 8 (drop at xs)))) ≡ 8 = length-zip2 G splat (map (of_z w32) (take 8 (drop at xs))) (wide ∙ sym bits) ∙ wide in
    length-zip2 F (map (of_z w32) sums) (zip2 G splat (map (of_z w32) (take 8 (drop at xs)))) (held ∙ sym products) ∙ held

pub lane_at : (F G : ℕ → ℕ → ℕ) → ((a b : ℕ) → F a b ≡ (a + b) % 2 ^ 32) → ((a b : ℕ) → G a b ≡ (a * b) % 2 ^ 32)
    → (sums xs : List ℤ) (w : ℤ) (splat : List ℕ) (at i : ℕ) → splat ≡ replicate 8 (of_z w32 w) → length sums ≡ 8 → at + 8 ≤ length xs → i < 8
    → FitsSigned w32 w → FitsSigned w32 (get_or sums i (pos 0)) → FitsSigned w32 (get_or xs (at + i) (pos 0))
    → FitsSigned w32 (w *ℤ get_or xs (at + i) (pos 0)) → FitsSigned w32 (get_or sums i (pos 0) +ℤ w *ℤ get_or xs (at + i) (pos 0))
    → get_or (map (to_z w32) (zip2 F (map (of_z w32) sums) (zip2 G splat (map (of_z w32) (take 8 (drop at xs)))))) i (pos 0)
    ≡ get_or sums i (pos 0) +ℤ w *ℤ get_or xs (at + i) (pos 0)
lane_at F G adds multiplies sums xs w splat at i is size room inside fw fs fx product total =
    let piece = take 8 (drop at xs) in
    let chunk : length piece ≡ 8 = length-chunk at 8 xs room in
    let bits : length (map (of_z w32) piece) ≡ 8 = length-map piece (of_z w32) ∙ chunk in
    let held : length (map (of_z w32) sums) ≡ 8 = length-map sums (of_z w32) ∙ size in
    let wide : length splat ≡ 8 = length_splat w splat is in
    let products : length (zip2 G splat (map (of_z w32) piece)) ≡ 8 = length-zip2 G splat (map (of_z w32) piece) (wide ∙ sym bits) ∙ wide in
    let all = lane_length F G sums xs w splat at is size room in
    let x_at : get_or (map (of_z w32) piece) i 0 ≡ of_z w32 (get_or xs (at + i) (pos 0)) =
    get_or-map (of_z w32) piece i (pos 0) 0 (omega arith) ∙ ap (of_z w32) (get_or-chunk at 8 xs i (pos 0) inside) in
    let s_at : get_or (map (of_z w32) sums) i 0 ≡ of_z w32 (get_or sums i (pos 0)) = get_or-map (of_z w32) sums i (pos 0) 0 (omega arith) in
    let p_at : get_or (zip2 G splat (map (of_z w32) piece)) i 0 ≡ (of_z w32 w * of_z w32 (get_or xs (at + i) (pos 0))) % 2 ^ 32 =
    get_or-zip2 G splat (map (of_z w32) piece) i 0 0 0 (omega arith) (omega arith) ∙ multiplies _ _ ∙ (rw (get_splat w splat i is inside, x_at) refl) in
    get_or-map (to_z w32) (zip2 F (map (of_z w32) sums) (zip2 G splat (map (of_z w32) piece))) i 0 (pos 0) (omega arith)
    ∙ ap (to_z w32) (get_or-zip2 F (map (of_z w32) sums) (zip2 G splat (map (of_z w32) piece)) i 0 0 0 (omega arith) (omega arith) ∙ adds _ _ ∙ (rw (s_at, p_at) refl))
    ∙ lane_total (get_or sums i (pos 0)) (w *ℤ get_or xs (at + i) (pos 0)) ((of_z w32 w * of_z w32 (get_or xs (at + i) (pos 0))) % 2 ^ 32) fs (omega arith)
    (lane_product w (get_or xs (at + i) (pos 0)) fw fx product) total

pub total_fits : (a b : ℤ) → unsigned_abs a < 2 ^ 30 → unsigned_abs b < 2 ^ 30 → FitsSigned w32 (a +ℤ b)
total_fits a b small less = fits_signed_from_abs w32 (a +ℤ b) (omega (arith, ints))

-- a product of a value that is scaled down and a word
pub product_below : (w x : ℤ) → unsigned_abs w ≤ 2 ^ 9 → unsigned_abs x ≤ 2 ^ 15 → unsigned_abs (w *ℤ x) ≤ 2 ^ 24
product_below w x ws xs = omega (arith, unsigned_abs-mul w x, mul-le-mul ws xs)

-- lanes that a variable keeps as bits
pub lane_kept : (zs : List ℤ) (j : ℕ) → j < length zs → FitsSigned w32 (get_or zs j (pos 0)) → get_or (map (to_z w32) (map (of_z w32) zs)) j (pos 0) ≡ get_or zs j (pos 0)
lane_kept zs j inside fits =
    let same : length (map (of_z w32) zs) ≡ length zs = length-map zs (of_z w32) in
    get_or-map (to_z w32) (map (of_z w32) zs) j 0 (pos 0) (omega arith) ∙ ap (to_z w32) (get_or-map (of_z w32) zs j (pos 0) 0 inside) ∙ to_z-of_z w32 (get_or zs j (pos 0)) fits

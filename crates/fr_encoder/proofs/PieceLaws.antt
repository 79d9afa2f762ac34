-- One piece more: what was before stays, and the values and coefficients of the new one.
use Rattle.std.proofs.Common.{◌≡◌, ℕ, zero, suc, ◌+◌, ◌-◌, ◌*◌, ◌/◌, ◌%◌, ◌<◌, ◌≤◌, ℤ, pos, List, [], ◌∷◌, ◌++◌, length, take, drop, refl, sym, ◌∙◌, ap, arith, length-append, inl, inr}
use Rattle.std.proofs.lemmas.Bool.{cases_lt}
use Rattle.std.proofs.lemmas.List.{get_or_append_left, get_or-append_right, take-append-le, drop-append-le}
use Rattle.std.proofs.lemmas.Grind.{get_or_head}
use Rattle.std.proofs.Math.Seq.{take-length, drop-append_seam}
use Rattle.std.proofs.Common.{length-drop}
use Rattle.fixed_arith.specs.Signal.{at, past}
use Rattle.lar_filter.specs.Ratios.{ratios_of}
use Rattle.lar_filter.specs.Autocorrelation.{onward}
use Rattle.fr_encoder.specs.ShortTerm.{piece_at, codes_of_piece, codes_at, ratio, coefficient}
use Rattle.lar_filter.specs.Parts.{frame_coefficient}
use Rattle.lar_filter.specs.PartLaws.{past_reached, past_before}

pub piece_at-front : (values more : List ℤ) (f n : ℕ) → length values ≡ 160 * n → f < n → piece_at (values ++ more) f ≡ piece_at values f
unfolding piece_at
piece_at-front values more f n size inside =
    let low : 160 * f ≤ length values = omega arith in
    let enough : 160 ≤ length (drop (160 * f) values) = omega (arith, length-drop (160 * f) values) in
    rw (drop-append-le (160 * f) values more low, take-append-le 160 (drop (160 * f) values) more enough) refl

pub piece_at-last : (values more : List ℤ) (n : ℕ) → length values ≡ 160 * n → length more ≡ 160 → piece_at (values ++ more) n ≡ more
unfolding piece_at
piece_at-last values more n size count =
    ap (λ (k : ℕ). take 160 (drop k (values ++ more))) (sym size) ∙ ap (take 160) (drop-append_seam values more)
    ∙ ap (λ (k : ℕ). take k more) (sym count) ∙ take-length more

pub codes_at-front : (codes : List (List ℕ)) (code : List ℕ) (f : ℕ) → f < length codes → codes_at (codes ++ code ∷ []) f ≡ codes_at codes f
codes_at-front codes code f inside = get_or_append_left codes (code ∷ []) _ f inside

pub codes_at-last : (codes : List (List ℕ)) (code : List ℕ) → codes_at (codes ++ code ∷ []) (length codes) ≡ code
codes_at-last codes code =
    get_or-append_right codes (code ∷ []) (length codes) (length codes) _ refl (omega arith) ∙ get_or_head code [] (length codes - length codes) _ (omega arith)

-- the codes of a piece more
pub coded-more : (codes : List (List ℕ)) (code : List ℕ) (s ys : List ℤ) → length s ≡ 160 * length codes → length ys ≡ 160 → code ≡ codes_of_piece ys
    → ((f : ℕ) → f < length codes → codes_at codes f ≡ codes_of_piece (piece_at s f))
    → (f : ℕ) → f < length codes + 1 → codes_at (codes ++ code ∷ []) f ≡ codes_of_piece (piece_at (s ++ ys) f)
coded-more codes code s ys size count is old f inside = elim (cases_lt f (length codes)) [
  | inl early ↦ codes_at-front codes code f early ∙ old f early ∙ ap codes_of_piece (sym (piece_at-front s ys f (length codes) size early))
  | inr late ↦
      let here : f ≡ length codes = omega arith in
      rw here (codes_at-last codes code ∙ is ∙ ap codes_of_piece (sym (piece_at-last s ys (length codes) size count)))
]

-- the values of a piece more, as they go into the filter
pub onward-more : (n : ℕ) (s ys values more : List ℤ) → length s ≡ 160 * n → length ys ≡ 160 → length values ≡ 160 * n → more ≡ onward ys
    → ((t : ℕ) → t < 160 * n → at values t ≡ at (onward (piece_at s (t / 160))) (t % 160))
    → (t : ℕ) → t < 160 * n + 160 → at (values ++ more) t ≡ at (onward (piece_at (s ++ ys) (t / 160))) (t % 160)
onward-more n s ys values more size count values_size is old t inside = elim (cases_lt t (160 * n)) [
  | inl early ↦
      let here : t < length values = omega arith in
      let piece : t / 160 < n = omega arith in
      get_or_append_left values more (pos 0) t here ∙ old t early ∙ ap (λ (xs : List ℤ). at (onward xs) (t % 160)) (sym (piece_at-front s ys (t / 160) n size piece))
  | inr late ↦
      let piece : t / 160 ≡ n = omega arith in
      let place : t - 160 * n ≡ t % 160 = omega arith in
      get_or-append_right values more (160 * n) t (pos 0) values_size late ∙ ap (λ (xs : List ℤ). at xs (t - 160 * n)) is
      ∙ ap (at (onward ys)) place
      ∙ ap (λ (xs : List ℤ). at (onward xs) (t % 160)) (sym (ap (piece_at (s ++ ys)) piece ∙ piece_at-last s ys n size count))
]

pub ratio-front : (codes : List (List ℕ)) (code : List ℕ) (i f : ℕ) → f < length codes → ratio (codes ++ code ∷ []) i f ≡ ratio codes i f
unfolding ratio
ratio-front codes code i f inside = ap (λ (found : List ℕ). at (ratios_of found) i) (codes_at-front codes code f inside)

pub ratio-last : (codes : List (List ℕ)) (code : List ℕ) (i : ℕ) → ratio (codes ++ code ∷ []) i (length codes) ≡ at (ratios_of code) i
unfolding ratio
ratio-last codes code i = ap (λ (found : List ℕ). at (ratios_of found) i) (codes_at-last codes code)

-- the ratio before a piece is that of the pieces so far
pub ratio_before : (codes : List (List ℕ)) (code : List ℕ) (i f : ℕ) → f ≤ length codes → past (ratio (codes ++ code ∷ []) i) f 1 ≡ past (ratio codes i) f 1
ratio_before codes code i zero inside = past_before (ratio (codes ++ code ∷ []) i) 0 1 (omega arith) ∙ sym (past_before (ratio codes i) 0 1 (omega arith))
ratio_before codes code i (suc f) inside =
    let here : suc f - 1 < length codes = omega arith in
    past_reached (ratio (codes ++ code ∷ []) i) (suc f) 1 (omega arith) ∙ ratio-front codes code i (suc f - 1) here ∙ sym (past_reached (ratio codes i) (suc f) 1 (omega arith))

pub coefficient-front : (codes : List (List ℕ)) (code : List ℕ) (i t : ℕ) → t < 160 * length codes → coefficient (codes ++ code ∷ []) i t ≡ coefficient codes i t
unfolding coefficient
coefficient-front codes code i t inside =
    let here : t / 160 < length codes = omega arith in
    rw (ratio_before codes code i (t / 160) (omega arith), ratio-front codes code i (t / 160) here) refl

pub coefficient-last : (codes : List (List ℕ)) (code : List ℕ) (before : List ℤ) (i k : ℕ) → k < 160 → at before i ≡ past (ratio codes i) (length codes) 1
    → frame_coefficient before (ratios_of code) i k ≡ coefficient (codes ++ code ∷ []) i (160 * length codes + k)
unfolding coefficient
coefficient-last codes code before i k small kept =
    let place : (160 * length codes + k) / 160 ≡ length codes = omega arith in
    let within : (160 * length codes + k) % 160 ≡ k = omega arith in
    rw (place, within, ratio_before codes code i (length codes) (omega arith), ratio-last codes code i, kept) refl

-- the ratio that is kept for the next piece
pub ratio-next : (codes : List (List ℕ)) (code : List ℕ) (i : ℕ) → at (ratios_of code) i ≡ past (ratio (codes ++ code ∷ []) i) (length (codes ++ code ∷ [])) 1
ratio-next codes code i =
    let total : length (codes ++ code ∷ []) ≡ length codes + 1 = omega (arith, length-append codes (code ∷ [])) in
    let place : length codes + 1 - 1 ≡ length codes = omega arith in
    sym (rw (total, past_reached (ratio (codes ++ code ∷ []) i) (length codes + 1) 1 (omega arith), place) (ratio-last codes code i))

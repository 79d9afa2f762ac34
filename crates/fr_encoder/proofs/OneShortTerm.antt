-- The short-term part of coded speech is one: each value of the equations comes from the samples and from earlier values.
use Rattle.std.proofs.Common.{◌≡◌, ℕ, zero, suc, ◌+◌, ◌*◌, ◌/◌, ◌%◌, ◌<◌, ◌≤◌, List, [], length, sym, ap, subst, ◌∙◌, arith}
use Rattle.std.specs.Prelude.{ℤ, pos, ◌-ℤ◌}
use Rattle.std.proofs.lemmas.List.{ext_get_or}
use Rattle.fixed_arith.specs.Signal.{at, past}
use Rattle.fixed_arith.specs.Word.{add_words, mult_r_words}
use Rattle.lar_filter.specs.Autocorrelation.{onward}
use Rattle.fr_encoder.specs.Preprocessing.{emphasised, kept_long, middle_long}
use Rattle.fr_encoder.specs.ShortTerm.{IsShortTerm, codes_at, codes_of_piece, coefficient, piece_at}
use Rattle.fr_encoder.proofs.Earlier.{past-same}

module _ (samples : List ℤ) (a b : List (List ℕ)) (d e : List ℤ) (x : IsShortTerm samples a d) (y : IsShortTerm samples b e) where
  count-same : length a ≡ length b
  count-same = omega (arith, x.whole, y.whole)

  also : (t : ℕ) → t < 160 * length a → t < 160 * length b
  also t within = omega (arith, count-same)

  -- the preprocessing
  so-same : (t : ℕ) → t < 160 * length a → x.so t ≡ y.so t
  so-same t within = x.downscaled t within ∙ sym (y.downscaled t (also t within))

  z-same : (n t : ℕ) → t < n → t < 160 * length a → x.z t ≡ y.z t
  z-same zero t below within = absurd (omega arith)
  z-same (suc n) t below within =
      let kept : past x.z t 1 ≡ past y.z t 1 = past-same x.z y.z t 1 (omega arith) (λ (r : ℕ) (early : r < t). z-same n r (omega arith) (omega arith)) in
      let here : x.so t ≡ y.so t = so-same t within in
      let before : past x.so t 1 ≡ past y.so t 1 = past-same x.so y.so t 1 (omega arith) (λ (r : ℕ) (early : r < t). so-same r (omega arith)) in
      let mid : kept_long (past x.z t 1) (x.so t -ℤ past x.so t 1) ≡ kept_long (past y.z t 1) (y.so t -ℤ past y.so t 1) = λ w. kept_long (kept w) (here w -ℤ before w) in
      x.compensated t within ∙ mid ∙ sym (y.compensated t (also t within))

  mp-same : (t : ℕ) → t < 160 * length a → x.mp t ≡ y.mp t
  mp-same t within = x.middle t within ∙ ap middle_long (z-same (suc t) t (omega arith) within) ∙ sym (y.middle t (also t within))

  s-at : (t : ℕ) → t < 160 * length a → at x.s t ≡ at y.s t
  s-at t within =
      let here : x.mp t ≡ y.mp t = mp-same t within in
      let before : past x.mp t 1 ≡ past y.mp t 1 = past-same x.mp y.mp t 1 (omega arith) (λ (r : ℕ) (early : r < t). mp-same r (omega arith)) in
      let mid : emphasised (x.mp t) (past x.mp t 1) ≡ emphasised (y.mp t) (past y.mp t 1) = λ w. emphasised (here w) (before w) in
      x.emphasis t within ∙ mid ∙ sym (y.emphasis t (also t within))

  s-same : x.s ≡ y.s
  s-same = ext_get_or (pos 0) x.s y.s (omega (arith, x.size, y.size, count-same)) (λ (t : ℕ) (inside : t < length x.s). s-at t (omega (arith, x.size)))

  -- the codes of the ratios
  codes-at : (f : ℕ) → f < length a → codes_at a f ≡ codes_at b f
  codes-at f inside = x.coded f inside ∙ ap (λ (s : List ℤ). codes_of_piece (piece_at s f)) s-same ∙ sym (y.coded f (omega (arith, count-same)))

  pub codes-same : a ≡ b
  codes-same = ext_get_or [] a b count-same codes-at

  -- what goes into the filter
  foot-same : (t : ℕ) → at (onward (piece_at x.s (t / 160))) (t % 160) ≡ at (onward (piece_at y.s (t / 160))) (t % 160)
  foot-same t = ap (λ (s : List ℤ). at (onward (piece_at s (t / 160))) (t % 160)) s-same

  -- the filter goes up from its foot, at one time
  stage-same : (t : ℕ) → t < 160 * length a → ((i : ℕ) → i < 8 → past (x.w i) t 1 ≡ past (y.w i) t 1) → (i : ℕ) → i ≤ 8 → (x.d i t ≡ y.d i t) × (x.w i t ≡ y.w i t)
  stage-same t within back zero low =
      (x.d_foot t within ∙ foot-same t ∙ sym (y.d_foot t (also t within)), x.w_foot t within ∙ foot-same t ∙ sym (y.w_foot t (also t within)))
  stage-same t within back (suc i) low =
      let under : i < 8 = omega arith in
      let next : i + 1 ≡ suc i = omega arith in
      let here = stage-same t within back i (omega arith) in
      let d : x.d i t ≡ y.d i t = here.0 in
      let kept : past (x.w i) t 1 ≡ past (y.w i) t 1 = back i under in
      let rp : coefficient a i t ≡ coefficient b i t = ap (λ (codes : List (List ℕ)). coefficient codes i t) codes-same in
      let d_mid : add_words (x.d i t) (mult_r_words (coefficient a i t) (past (x.w i) t 1)) ≡ add_words (y.d i t) (mult_r_words (coefficient b i t) (past (y.w i) t 1)) =
      λ z. add_words (d z) (mult_r_words (rp z) (kept z)) in
      let w_mid : add_words (past (x.w i) t 1) (mult_r_words (coefficient a i t) (x.d i t)) ≡ add_words (past (y.w i) t 1) (mult_r_words (coefficient b i t) (y.d i t)) =
      λ z. add_words (kept z) (mult_r_words (rp z) (d z)) in (
        subst (λ (j : ℕ). x.d j t ≡ y.d j t) next (x.d_up i t under within ∙ d_mid ∙ sym (y.d_up i t under (also t within))),
        subst (λ (j : ℕ). x.w j t ≡ y.w j t) next (x.w_up i t under within ∙ w_mid ∙ sym (y.w_up i t under (also t within))),
      )

  w-same : (n t i : ℕ) → t < n → t < 160 * length a → i < 8 → x.w i t ≡ y.w i t
  w-same zero t i below within few = absurd (omega arith)
  w-same (suc n) t i below within few =
      (stage-same t within (λ (j : ℕ) (under : j < 8). past-same (x.w j) (y.w j) t 1 (omega arith) (λ (r : ℕ) (early : r < t). w-same n r j (omega arith) (omega arith) under)) i (omega arith)).1

  -- what the filter gives
  top-same : (t : ℕ) → t < 160 * length a → x.d 8 t ≡ y.d 8 t
  top-same t within =
      (stage-same t within (λ (j : ℕ) (under : j < 8). past-same (x.w j) (y.w j) t 1 (omega arith) (λ (r : ℕ) (early : r < t). w-same t r j early (omega arith) under)) 8 (omega arith)).0

  residual-at : (t : ℕ) → t < length d → at d t ≡ at e t
  residual-at t inside =
      let within : t < 160 * length a = omega (arith, x.count) in
      x.output t within ∙ top-same t within ∙ sym (y.output t (also t within))

  pub residual-same : d ≡ e
  residual-same = ext_get_or (pos 0) d e (omega (arith, x.count, y.count, count-same)) residual-at

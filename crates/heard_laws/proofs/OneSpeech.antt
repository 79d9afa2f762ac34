-- Decoded speech of a list of frames is one: each value of the equations comes from earlier ones.
use Rattle.std.proofs.Common.{◌≡◌, ℕ, zero, suc, ◌+◌, ◌-◌, ◌*◌, ◌/◌, ◌<◌, ◌≤◌, List, length, refl, sym, ap, subst, ◌∙◌, inl, inr, arith}
use Rattle.std.specs.Prelude.{ℤ, pos}
use Rattle.std.proofs.lemmas.Bool.Decides.{leb_tells}
use Rattle.std.proofs.lemmas.List.{ext_get_or}
use Rattle.fixed_arith.specs.Signal.{at, past}
use Rattle.fixed_arith.specs.Word.{add_words, sub_words, mult_r_words}
use Rattle.frame_codec.specs.declared.params.SubParams.{SubParams}
use Rattle.frame_codec.specs.Frame.{Fields}
use Rattle.rpe_ltp.specs.LongTerm.{gain_at, lag_after, lag_at, lag_before, residual_at, sub_at}
use Rattle.fr_decoder.specs.Deemphasis.{output_of}
use Rattle.fr_decoder.specs.Speech.{IsSpeech, coefficient, sub_frames}
use Rattle.heard_laws.specs.Sameness.{SpeechIsOne}

-- what lies back in time is the same where all earlier values are
past-same : (f g : ℕ → ℤ) (t back : ℕ) → 1 ≤ back → ((r : ℕ) → r < t → f r ≡ g r) → past f t back ≡ past g t back
past-same f g t back some same = elim (leb_tells back t) [ inl (is, within) ↦ rw is (same (t - back) (omega arith)) | inr (is, before) ↦ rw is refl ]

-- a lag is never 0
lag_after-some : (before nc : ℕ) → 1 ≤ before → 1 ≤ lag_after before nc
unfolding lag_after
lag_after-some before nc some = elim (leb_tells 40 nc) [
  | inl (is, least) ↦ elim (leb_tells nc 120) [ inl (is', most) ↦ rw (is, is') (omega arith) | inr (is', over) ↦ rw (is, is') some ]
  | inr (is, under) ↦ rw is some
]

lag_before-some : (subs : List SubParams) (j : ℕ) → 1 ≤ lag_before subs j
lag_before-some subs zero = omega arith
lag_before-some subs (suc j) = lag_after-some (lag_before subs j) (sub_at subs j).nc (lag_before-some subs j)

lag_at-some : (subs : List SubParams) (j : ℕ) → 1 ≤ lag_at subs j
lag_at-some subs j = lag_after-some (lag_before subs j) (sub_at subs j).nc (lag_before-some subs j)

module _ (frames : List Fields) (a b : List ℤ) (x : IsSpeech frames a) (y : IsSpeech frames b) where
  -- the long-term part
  drp-same : (n t : ℕ) → t < n → t < 160 * length frames → x.drp t ≡ y.drp t
  drp-same zero t below within = absurd (omega arith)
  drp-same (suc n) t below within =
      let back : past x.drp t (lag_at (sub_frames frames) (t / 40)) ≡ past y.drp t (lag_at (sub_frames frames) (t / 40)) =
      past-same x.drp y.drp t (lag_at (sub_frames frames) (t / 40)) (lag_at-some (sub_frames frames) (t / 40)) (λ (r : ℕ) (early : r < t). drp-same n r (omega arith) (omega arith)) in
      x.long_term t within ∙ ap (λ (p : ℤ). add_words (residual_at (sub_frames frames) t) (mult_r_words (gain_at (sub_frames frames) (t / 40)) p)) back ∙ sym (y.long_term t within)

  -- the filter comes down from its top, at one time
  s-same : (t : ℕ) → t < 160 * length frames → ((i : ℕ) → i < 8 → past (x.v i) t 1 ≡ past (y.v i) t 1) → (k i : ℕ) → i + k ≡ 8 → x.s i t ≡ y.s i t
  s-same t within back zero i is =
      let top : i ≡ 8 = omega arith in
      subst (λ (j : ℕ). x.s j t ≡ y.s j t) (sym top) (x.top t within ∙ drp-same (suc t) t (omega arith) within ∙ sym (y.top t within))
  s-same t within back (suc k) i is =
      let below : i < 8 = omega arith in
      let above : x.s (i + 1) t ≡ y.s (i + 1) t = s-same t within back k (i + 1) (omega arith) in
      let kept : past (x.v i) t 1 ≡ past (y.v i) t 1 = back i below in
      let mid : sub_words (x.s (i + 1) t) (mult_r_words (coefficient frames i t) (past (x.v i) t 1)) ≡ sub_words (y.s (i + 1) t) (mult_r_words (coefficient frames i t) (past (y.v i) t 1)) =
      λ z. sub_words (above z) (mult_r_words (coefficient frames i t) (kept z)) in
      x.down i t below within ∙ mid ∙ sym (y.down i t below within)

  -- and goes up again
  v-up : (t : ℕ) → t < 160 * length frames → ((i : ℕ) → i < 8 → past (x.v i) t 1 ≡ past (y.v i) t 1) → (i : ℕ) → i < 8 → x.v i t ≡ y.v i t
  v-up t within back zero below = x.foot t within ∙ s-same t within back 8 0 refl ∙ sym (y.foot t within)
  v-up t within back (suc i) below =
      let under : i < 8 = omega arith in
      let next : i + 1 ≡ suc i = omega arith in
      let rest : i + (8 - i) ≡ 8 = omega arith in
      let here : x.s i t ≡ y.s i t = s-same t within back (8 - i) i rest in
      let kept : past (x.v i) t 1 ≡ past (y.v i) t 1 = back i under in
      let mid : add_words (past (x.v i) t 1) (mult_r_words (coefficient frames i t) (x.s i t)) ≡ add_words (past (y.v i) t 1) (mult_r_words (coefficient frames i t) (y.s i t)) =
      λ z. add_words (kept z) (mult_r_words (coefficient frames i t) (here z)) in
      subst (λ (j : ℕ). x.v j t ≡ y.v j t) next (x.up i t under within ∙ mid ∙ sym (y.up i t under within))

  v-same : (n t i : ℕ) → t < n → t < 160 * length frames → i < 8 → x.v i t ≡ y.v i t
  v-same zero t i below within few = absurd (omega arith)
  v-same (suc n) t i below within few =
      v-up t within (λ (j : ℕ) (under : j < 8). past-same (x.v j) (y.v j) t 1 (omega arith) (λ (r : ℕ) (early : r < t). v-same n r j (omega arith) (omega arith) under)) i few

  -- what the filter gives
  foot-same : (t : ℕ) → t < 160 * length frames → x.s 0 t ≡ y.s 0 t
  foot-same t within = sym (x.foot t within) ∙ v-same (suc t) t 0 (omega arith) within (omega arith) ∙ y.foot t within

  -- the de-emphasised values
  m-same : (n t : ℕ) → t < n → t < 160 * length frames → x.m t ≡ y.m t
  m-same zero t below within = absurd (omega arith)
  m-same (suc n) t below within =
      let kept : past x.m t 1 ≡ past y.m t 1 = past-same x.m y.m t 1 (omega arith) (λ (r : ℕ) (early : r < t). m-same n r (omega arith) (omega arith)) in
      let here : x.s 0 t ≡ y.s 0 t = foot-same t within in
      let mid : add_words (x.s 0 t) (mult_r_words (past x.m t 1) (pos 28180)) ≡ add_words (y.s 0 t) (mult_r_words (past y.m t 1) (pos 28180)) =
      λ z. add_words (here z) (mult_r_words (kept z) (pos 28180)) in
      x.emphasis t within ∙ mid ∙ sym (y.emphasis t within)

  samples-same : (i : ℕ) → i < length a → at a i ≡ at b i
  samples-same i inside =
      let within : i < 160 * length frames = omega (arith, x.count) in
      x.output i within ∙ ap output_of (m-same (suc i) i (omega arith) within) ∙ sym (y.output i within)

  pub samples-one : a ≡ b
  samples-one = ext_get_or (pos 0) a b (x.count ∙ sym y.count) samples-same

pub one_speech : SpeechIsOne
one_speech frames a b x y = samples-one frames a b x y

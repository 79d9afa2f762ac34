-- The excitation of coded speech is one: the lag, the grid, the level and the pulses of a sub-frame come from its residual and from earlier values.
use Rattle.std.proofs.Common.{◌≡◌, ℕ, zero, suc, ◌+◌, ◌-◌, ◌*◌, ◌/◌, ◌%◌, ◌^◌, ◌<◌, ◌≤◌, List, [], length, refl, sym, ap, subst, ◌∙◌, inl, inr, arith}
use Rattle.std.specs.Prelude.{ℤ, pos, ◌<ℤ◌, ◌≤ℤ◌, ◌⊎◌, unsigned_abs, slice_index}
use Rattle.std.proofs.lemmas.Bool.{cases_lt}
use Rattle.std.proofs.lemmas.Int.{ints}
use Rattle.std.proofs.lemmas.List.{ext_get_or}
use Rattle.std.proofs.Math.Nat.{pow-le-pow_right}
use Rattle.fixed_arith.specs.Signal.{at, past}
use Rattle.fixed_arith.specs.Sums.{greatest_of}
use Rattle.fixed_arith.specs.Word.{add_words, mult_r_words, sub_words}
use Rattle.frame_codec.specs.declared.params.SubParams.{SubParams}
use Rattle.rpe_ltp.specs.LagSearch.{IsFirstGreatest, IsLagChoice, gain_code, lag_level, lag_power, lag_scale, lag_scaled, lag_sum}
use Rattle.rpe_ltp.specs.LongTerm.{IsLongTerm, gain_at, gains, lag_at, lag_after, lag_before, residual_at, sub_at}
use Rattle.rpe_ltp.specs.PulseCodes.{HasDigits, IsApcm, IsLevelCode, pulse_code}
use Rattle.rpe_ltp.specs.Pulses.{excitation_at, level_of}
use Rattle.rpe_ltp.specs.Weighting.{IsGrid, grid_power, weighted_at}
use Rattle.fr_encoder.specs.Excitation.{AreBefore, IsExcitation, IsPulses, forty}
use Rattle.fr_encoder.proofs.Earlier.{lag_at-some, past-lag, past-same}

-- ---- the choice of the lag

one_best : (sums : ℕ → ℤ) (l m : ℕ) (p q : ℤ) → IsFirstGreatest sums 121 l p → IsFirstGreatest sums 121 m q → p ≡ q
one_best sums l m p q x y = told x.value y.value
  where
    mine : sums l ≤ℤ q
    mine = y.greatest l x.least (omega (arith, x.most))

    yours : sums m ≤ℤ p
    yours = x.greatest m y.least (omega (arith, y.most))

    told : ((p ≡ sums l) × (pos 0 <ℤ p)) ⊎ ((p ≡ pos 0) × (l ≡ 40)) → ((q ≡ sums m) × (pos 0 <ℤ q)) ⊎ ((q ≡ pos 0) × (m ≡ 40)) → p ≡ q
    told (inl u) (inl v) = omega (arith, ints, mine, yours, u.0, v.0)
    told (inl u) (inr v) = omega (arith, ints, mine, u.0, u.1, v.0)
    told (inr u) (inl v) = omega (arith, ints, yours, u.0, v.0, v.1)
    told (inr u) (inr v) = u.0 ∙ sym v.0

one_lag : (sums : ℕ → ℤ) (l m : ℕ) (p q : ℤ) → IsFirstGreatest sums 121 l p → IsFirstGreatest sums 121 m q → l ≡ m
one_lag sums l m p q x y = told x.value y.value
  where
    same : p ≡ q
    same = one_best sums l m p q x y

    told : ((p ≡ sums l) × (pos 0 <ℤ p)) ⊎ ((p ≡ pos 0) × (l ≡ 40)) → ((q ≡ sums m) × (pos 0 <ℤ q)) ⊎ ((q ≡ pos 0) × (m ≡ 40)) → l ≡ m
    told (inl u) (inl v) = elim (cases_lt l m) [
      | inl before ↦ let less : sums l <ℤ q = y.first l x.least before in absurd (omega (arith, ints, same, u.0))
      | inr behind ↦ elim (cases_lt m l) [
        | inl before ↦ let less : sums m <ℤ p = x.first m y.least before in absurd (omega (arith, ints, same, v.0))
        | inr also ↦ omega arith
      ]
    ]
    told (inl u) (inr v) = absurd (omega (arith, ints, same, u.1, v.0))
    told (inr u) (inl v) = absurd (omega (arith, ints, same, u.0, v.1))
    told (inr u) (inr v) = u.1 ∙ sym v.1

one_choice : (d kept : List ℤ) (l m g h : ℕ) → IsLagChoice d kept l g → IsLagChoice d kept m h → (l ≡ m) × (g ≡ h)
one_choice d kept l m g h x y =
    let lag : l ≡ m = one_lag (lag_sum (lag_scaled d) kept) l m x.best y.best x.choice y.choice in
    let best : x.best ≡ y.best = one_best (lag_sum (lag_scaled d) kept) l m x.best y.best x.choice y.choice in
    let code : gain_code (lag_level (lag_scale (greatest_of d)) x.best) (lag_power kept l) ≡ gain_code (lag_level (lag_scale (greatest_of d)) y.best) (lag_power kept m) =
    λ z. gain_code (lag_level (lag_scale (greatest_of d)) (best z)) (lag_power kept (lag z)) in
    (lag, x.coded ∙ code ∙ sym y.coded)

-- ---- the grid, the level and the pulses

one_grid : (x : List ℤ) (m n : ℕ) → IsGrid x m → IsGrid x n → m ≡ n
one_grid x m n p q = elim (cases_lt m n) [
  | inl before ↦ let less : grid_power x m <ℤ grid_power x n = q.first m before in let most : grid_power x n ≤ℤ grid_power x m = p.greatest n q.within in absurd (omega (arith, ints))
  | inr behind ↦ elim (cases_lt n m) [
    | inl before ↦ let less : grid_power x n <ℤ grid_power x m = p.first n before in let most : grid_power x m ≤ℤ grid_power x n = q.greatest m p.within in absurd (omega (arith, ints))
    | inr also ↦ omega arith
  ]
]

-- a number of i digits is no number of more
too_few : (n i j : ℕ) → HasDigits n i → HasDigits n j → i < j → ⊥
too_few n i j p q less =
    let up : 2 ^ i ≤ 2 ^ (j - 1) = pow-le-pow_right {n = 2} (omega arith) (omega arith) in
    let least : 2 ^ (j - 1) ≤ n = q.least (omega arith) in
    omega (arith, p.below)

one_digits : (n i j : ℕ) → HasDigits n i → HasDigits n j → i ≡ j
one_digits n i j p q = elim (cases_lt i j) [
  | inl less ↦ absurd (too_few n i j p q less)
  | inr behind ↦ elim (cases_lt j i) [ inl more ↦ absurd (too_few n j i q p more) | inr also ↦ omega arith ]
]

one_level : (top c k : ℕ) → IsLevelCode top c → IsLevelCode top k → c ≡ k
one_level top c k x y = x.value ∙ ap (λ (digits : ℕ). top / 2 ^ (digits + 5) + 8 * digits) (one_digits (top / 512) x.digits y.digits x.number y.number) ∙ sym y.value

one_apcm : (xm : List ℤ) (c k : ℕ) (cs ks : List ℕ) → IsApcm xm c cs → IsApcm xm k ks → (c ≡ k) × (cs ≡ ks)
one_apcm xm c k cs ks x y =
    let level : c ≡ k = one_level (unsigned_abs (greatest_of xm)) c k x.level y.level in
    let each : (i : ℕ) → i < length cs → slice_index cs i ≡ slice_index ks i =
    λ i inside. ap unsigned_abs (x.each i (omega (arith, x.count)) ∙ ap (λ (code : ℕ). pulse_code (level_of code) (at xm i)) level ∙ sym (y.each i (omega (arith, x.count)))) in
    (level, ext_get_or 0 cs ks (x.count ∙ sym y.count) each)

-- ---- a sub-frame

-- lists with as many values, all the same
same-list : (n : ℕ) (xs ys : List ℤ) → length xs ≡ n → length ys ≡ n → ((i : ℕ) → i < n → at xs i ≡ at ys i) → xs ≡ ys
same-list n xs ys count also each = ext_get_or (pos 0) xs ys (count ∙ sym also) (λ (i : ℕ) (inside : i < length xs). each i (omega (arith, count)))

one_before : (dp dq : List ℤ) (t : ℕ) (k l : List ℤ) → ((r : ℕ) → r < t → at dp r ≡ at dq r) → AreBefore dp t k → AreBefore dq t l → k ≡ l
one_before dp dq t k l same x y = same-list 120 k l x.size y.size (λ (i : ℕ) (inside : i < 120).
    let place : 120 - (120 - i) ≡ i = omega arith in
    subst (λ (j : ℕ). at k j ≡ at l j) place
    (x.each (120 - i) (omega arith) (omega arith) ∙ past-same (at dp) (at dq) t (120 - i) (omega arith) same ∙ sym (y.each (120 - i) (omega arith) (omega arith))))

one_pulses : (e f xs ys xm ym : List ℤ) (s u : SubParams) → e ≡ f → IsPulses e xs xm s → IsPulses f ys ym u → (s.mc ≡ u.mc) × (s.xmaxc ≡ u.xmaxc) × (s.xmc ≡ u.xmc)
one_pulses e f xs ys xm ym s u is x y =
    let weighted : xs ≡ ys = same-list 40 xs ys x.x_size y.x_size (λ (k : ℕ) (small : k < 40). x.weighting k small ∙ ap (λ (l : List ℤ). weighted_at l k) is ∙ sym (y.weighting k small)) in
    let grid : s.mc ≡ u.mc = one_grid xs s.mc u.mc x.grid (subst (λ (l : List ℤ). IsGrid l u.mc) (sym weighted) y.grid) in
    let chosen : xm ≡ ym = same-list 13 xm ym x.xm_size y.xm_size (λ (i : ℕ) (small : i < 13).
    let place : at xs (s.mc + 3 * i) ≡ at ys (u.mc + 3 * i) = λ z. at (weighted z) (grid z + 3 * i) in
    x.on_grid i small ∙ place ∙ sym (y.on_grid i small)) in
    let codes = one_apcm xm s.xmaxc u.xmaxc s.xmc u.xmc x.codes (subst (λ (l : List ℤ). IsApcm l u.xmaxc u.xmc) (sym chosen) y.codes) in
    (grid, codes.0, codes.1)

one_sub : (d dp dq : List ℤ) (t : ℕ) (s u : SubParams) → ((r : ℕ) → r < t → at dp r ≡ at dq r) → IsExcitation d dp t s → IsExcitation d dq t u → s ≡ u
one_sub d dp dq t s u same x y =
    let kept : x.kept ≡ y.kept = one_before dp dq t x.kept y.kept same x.before y.before in
    let choice = one_choice (forty d t) x.kept s.nc u.nc s.bc u.bc x.lag (subst (λ (l : List ℤ). IsLagChoice (forty d t) l u.nc u.bc) (sym kept) y.lag) in
    let lag : s.nc ≡ u.nc = choice.0 in
    let gain : s.bc ≡ u.bc = choice.1 in
    let left : x.e ≡ y.e = same-list 40 x.e y.e x.pulses.e_size y.pulses.e_size (λ (k : ℕ) (small : k < 40).
    let back : past (at dp) (t + k) s.nc ≡ past (at dq) (t + k) s.nc = past-lag dp dq t k s.nc same x.lag.choice.least small in
    let mid : sub_words (at d (t + k)) (mult_r_words (at gains s.bc) (past (at dq) (t + k) s.nc)) ≡ sub_words (at d (t + k)) (mult_r_words (at gains u.bc) (past (at dq) (t + k) u.nc)) =
    λ z. sub_words (at d (t + k)) (mult_r_words (at gains (gain z)) (past (at dq) (t + k) (lag z))) in
    x.difference k small ∙ ap (λ (p : ℤ). sub_words (at d (t + k)) (mult_r_words (at gains s.bc) p)) back ∙ mid ∙ sym (y.difference k small)) in
    let pulses = one_pulses x.e y.e x.x y.x x.xm y.xm s u left x.pulses y.pulses in
    let grid : s.mc ≡ u.mc = pulses.0 in
    let level : s.xmaxc ≡ u.xmaxc = pulses.1 in
    let codes : s.xmc ≡ u.xmc = pulses.2 in
    λ z. record { nc = lag z; bc = gain z; mc = grid z; xmaxc = level z; xmc = codes z }

-- ---- all sub-frames

lag_before-same : (ss us : List SubParams) (j : ℕ) → ((i : ℕ) → i < j → sub_at ss i ≡ sub_at us i) → lag_before ss j ≡ lag_before us j
lag_before-same ss us zero same = refl
lag_before-same ss us (suc j) same =
    let before : lag_before ss j ≡ lag_before us j = lag_before-same ss us j (λ (i : ℕ) (early : i < j). same i (omega arith)) in
    let here : sub_at ss j ≡ sub_at us j = same j (omega arith) in
    λ z. lag_after (before z) (here z).nc

lag_at-same : (ss us : List SubParams) (j : ℕ) → ((i : ℕ) → i ≤ j → sub_at ss i ≡ sub_at us i) → lag_at ss j ≡ lag_at us j
lag_at-same ss us j same =
    let before : lag_before ss j ≡ lag_before us j = lag_before-same ss us j (λ (i : ℕ) (early : i < j). same i (omega arith)) in
    let here : sub_at ss j ≡ sub_at us j = same j (omega arith) in
    λ z. lag_after (before z) (here z).nc

module _ (d dp dq : List ℤ) (ss us : List SubParams) (count : length ss ≡ length us) (x : IsLongTerm ss dp) (y : IsLongTerm us dq)
    (mine : (j : ℕ) → j < length ss → IsExcitation d dp (40 * j) (sub_at ss j)) (yours : (j : ℕ) → j < length us → IsExcitation d dq (40 * j) (sub_at us j)) where
  -- what sub-frames that are the same reconstruct is the same
  dp-same : (n : ℕ) → n ≤ length ss → ((i : ℕ) → i < n → sub_at ss i ≡ sub_at us i) → (m t : ℕ) → t < m → t < 40 * n → at dp t ≡ at dq t
  dp-same n few same zero t below within = absurd (omega arith)
  dp-same n few same (suc m) t below within =
      let which : t / 40 < n = omega arith in
      let here : sub_at ss (t / 40) ≡ sub_at us (t / 40) = same (t / 40) which in
      let lag : lag_at ss (t / 40) ≡ lag_at us (t / 40) = lag_at-same ss us (t / 40) (λ (i : ℕ) (early : i ≤ t / 40). same i (omega arith)) in
      let back : past (at dp) t (lag_at ss (t / 40)) ≡ past (at dq) t (lag_at ss (t / 40)) =
      past-same (at dp) (at dq) t (lag_at ss (t / 40)) (lag_at-some ss (t / 40)) (λ (r : ℕ) (early : r < t). dp-same n few same m r (omega arith) (omega arith)) in
      let mid : add_words (excitation_at (sub_at ss (t / 40)) (t % 40)) (mult_r_words (at gains (sub_at ss (t / 40)).bc) (past (at dp) t (lag_at ss (t / 40))))
      ≡ add_words (excitation_at (sub_at us (t / 40)) (t % 40)) (mult_r_words (at gains (sub_at us (t / 40)).bc) (past (at dq) t (lag_at ss (t / 40)))) =
      λ z. add_words (excitation_at (here z) (t % 40)) (mult_r_words (at gains (here z).bc) (back z)) in
      x.each t (omega (arith, x.count)) ∙ mid
      ∙ ap (λ (l : ℕ). add_words (residual_at us t) (mult_r_words (gain_at us (t / 40)) (past (at dq) t l))) lag
      ∙ sym (y.each t (omega (arith, y.count, count)))

  subs-at : (n i : ℕ) → n ≤ length ss → i < n → sub_at ss i ≡ sub_at us i
  subs-at zero i few below = absurd (omega arith)
  subs-at (suc n) i few below = elim (cases_lt i n) [
    | inl early ↦ subs-at n i (omega arith) early
    | inr late ↦
        let here : i ≡ n = omega arith in
        subst (λ (j : ℕ). sub_at ss j ≡ sub_at us j) (sym here)
        (one_sub d dp dq (40 * n) (sub_at ss n) (sub_at us n)
        (λ (r : ℕ) (early : r < 40 * n). dp-same n (omega arith) (λ (j : ℕ) (less : j < n). subs-at n j (omega arith) less) (suc r) r (omega arith) early)
        (mine n (omega arith)) (yours n (omega (arith, count))))
  ]

  pub subs-same : ss ≡ us
  subs-same = ext_get_or (record { nc = 0; bc = 0; mc = 0; xmaxc = 0; xmc = [] }) ss us count (λ (i : ℕ) (inside : i < length ss). subs-at (length ss) i (omega arith) inside)

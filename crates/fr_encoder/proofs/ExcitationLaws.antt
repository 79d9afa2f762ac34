-- One sub-frame more of the excitation: what was before stays, and the new one.
use Rattle.std.proofs.Common.{◌≡◌, ℕ, ◌+◌, ◌-◌, ◌*◌, ◌<◌, ◌≤◌, ℤ, pos, List, [], ◌∷◌, ◌++◌, length, take, drop, refl, sym, ◌∙◌, ap, arith, length-append, length-drop, inl, inr}
use Rattle.std.proofs.lemmas.Bool.{cases_lt}
use Rattle.std.proofs.lemmas.List.{get_or_append_left, get_or-append_right, take-append-le, drop-append-le}
use Rattle.std.proofs.lemmas.Grind.{get_or_head}
use Rattle.std.proofs.Math.Seq.{take-length, drop-append_seam}
use Rattle.fixed_arith.specs.Signal.{at, past}
use Rattle.frame_codec.specs.declared.params.SubParams.{SubParams}
use Rattle.rpe_ltp.specs.History.{back_at}
use Rattle.rpe_ltp.specs.LongTerm.{sub_at, Memory, Remembers}
use Rattle.rpe_ltp.specs.SubFrame.{IsCoded, Continues}
use Rattle.fr_encoder.specs.Excitation.{forty, AreBefore, IsExcitation, Excites}
use Rattle.lar_filter.specs.PartLaws.{past_reached, past_before}

-- more values change nothing that stands before
past_front : (values more : List ℤ) (t n : ℕ) → t < length values + n → past (at (values ++ more)) t n ≡ past (at values) t n
past_front values more t n inside = elim (cases_lt t n) [
  | inl before ↦ past_before (at (values ++ more)) t n before ∙ sym (past_before (at values) t n before)
  | inr reached ↦
      let here : t - n < length values = omega arith in
      past_reached (at (values ++ more)) t n reached ∙ get_or_append_left values more (pos 0) (t - n) here ∙ sym (past_reached (at values) t n reached)
]

-- the same value, told from a later time
past_later : (f : ℕ → ℤ) (t n k : ℕ) → past f (t + k) (n + k) ≡ past f t n
past_later f t n k = elim (cases_lt t n) [
  | inl before ↦ past_before f (t + k) (n + k) (omega arith) ∙ sym (past_before f t n before)
  | inr reached ↦
      let same : t + k - (n + k) ≡ t - n = omega arith in
      past_reached f (t + k) (n + k) (omega arith) ∙ ap f same ∙ sym (past_reached f t n reached)
]

AreBefore-front : (values more kept : List ℤ) (t : ℕ) → t ≤ length values → AreBefore values t kept → AreBefore (values ++ more) t kept
AreBefore-front values more kept t inside before = record {
  size = before.size;
  each = λ back least most. before.each back least most ∙ sym (past_front values more t back (omega arith));
}

AreBefore-now : (subs : List SubParams) (values : List ℤ) (memory : Memory) → Remembers subs values memory → AreBefore values (length values) memory.history
AreBefore-now subs values memory remembers = record {
  size = remembers.size;
  each = remembers.last;
}

forty-front : (values more : List ℤ) (t : ℕ) → t + 40 ≤ length values → forty (values ++ more) t ≡ forty values t
unfolding forty
forty-front values more t inside =
    let low : t ≤ length values = omega arith in
    let enough : 40 ≤ length (drop t values) = omega (arith, length-drop t values) in
    rw (drop-append-le t values more low, take-append-le 40 (drop t values) more enough) refl

forty-last : (values more : List ℤ) (t : ℕ) → length values ≡ t → length more ≡ 40 → forty (values ++ more) t ≡ more
unfolding forty
forty-last values more t size count =
    ap (λ (k : ℕ). take 40 (drop k (values ++ more))) (sym size) ∙ ap (take 40) (drop-append_seam values more)
    ∙ ap (λ (k : ℕ). take k more) (sym count) ∙ take-length more

-- what stands a lag back, from within the next sub-frame
back_now : (subs : List SubParams) (values more : List ℤ) (memory : Memory) (lag k : ℕ) → Remembers subs values memory → 40 ≤ lag → lag ≤ 120 → k < 40
    → back_at memory.history (lag - k) ≡ past (at (values ++ more)) (length values + k) lag
back_now subs values more memory lag k remembers least most small =
    let back : lag - k + k ≡ lag = omega arith in
    remembers.last (lag - k) (omega arith) (omega arith)
    ∙ sym (past_later (at values) (length values) (lag - k) k)
    ∙ ap (past (at values) (length values + k)) back
    ∙ sym (past_front values more (length values + k) lag (omega arith))

IsExcitation-front : (d ds dp more : List ℤ) (t : ℕ) (sub : SubParams) → t + 40 ≤ length d → t + 40 ≤ length dp → IsExcitation d dp t sub → IsExcitation (d ++ ds) (dp ++ more) t sub
IsExcitation-front d ds dp more t sub inside reached old = record {
  kept = old.kept;
  e = old.e;
  x = old.x;
  xm = old.xm;
  before = AreBefore-front dp more old.kept t (omega arith) old.before;
  lag = rw (forty-front d ds t inside) old.lag;
  difference = λ k small.
      let here : t + k < length d = omega arith in
      let there : t + k < length dp + sub.nc = omega arith in
      rw (get_or_append_left d ds (pos 0) (t + k) here, past_front dp more (t + k) sub.nc there) (old.difference k small);
  pulses = old.pulses;
}

IsExcitation-last : (d ds dp more : List ℤ) (t : ℕ) (subs : List SubParams) (sub : SubParams) (memory : Memory) → length d ≡ t → length dp ≡ t → length ds ≡ 40 → Remembers subs dp memory
    → IsCoded ds memory.history sub → IsExcitation (d ++ ds) (dp ++ more) t sub
IsExcitation-last d ds dp more t subs sub memory size count ds_size remembers fits = record {
  kept = memory.history;
  e = fits.e;
  x = fits.x;
  xm = fits.xm;
  before = AreBefore-front dp more memory.history t (omega arith) (rw count at (AreBefore-now subs dp memory remembers));
  lag = rw (forty-last d ds t size ds_size) fits.lag;
  difference = λ k small.
      let place : t + k - t ≡ k = omega arith in
      let value : at (d ++ ds) (t + k) ≡ at ds k = get_or-append_right d ds t (t + k) (pos 0) size (omega arith) ∙ ap (at ds) place in
      let back : back_at memory.history (sub.nc - k) ≡ past (at (dp ++ more)) (length dp + k) sub.nc =
      back_now subs dp more memory sub.nc k remembers fits.lag.choice.least fits.lag.choice.most small in
      let time : length dp + k ≡ t + k = omega arith in
      rw (value, ← time, ← back) (fits.left k small);
  pulses = record {
    e_size = fits.sizes.0;
    x_size = fits.sizes.1;
    weighting = fits.weighted;
    grid = fits.grid;
    xm_size = fits.sizes.2;
    on_grid = fits.chosen;
    codes = fits.pulses;
  };
}

sub_at-front : (subs : List SubParams) (sub : SubParams) (j : ℕ) → j < length subs → sub_at (subs ++ sub ∷ []) j ≡ sub_at subs j
sub_at-front subs sub j inside = get_or_append_left subs (sub ∷ []) _ j inside

sub_at-last : (subs : List SubParams) (sub : SubParams) → sub_at (subs ++ sub ∷ []) (length subs) ≡ sub
sub_at-last subs sub =
    get_or-append_right subs (sub ∷ []) (length subs) (length subs) _ refl (omega arith) ∙ get_or_head sub [] (length subs - length subs) _ (omega arith)

Excites-more : (d ds : List ℤ) (subs : List SubParams) (sub : SubParams) (old next : Memory) (excites : Excites d subs old) (more : List ℤ) → length ds ≡ 40
    → IsCoded ds old.history sub → Remembers (subs ++ sub ∷ []) (excites.dp ++ more) next → Excites (d ++ ds) (subs ++ sub ∷ []) next
Excites-more d ds subs sub old next excites more size coded remembers =
    let total : length (subs ++ sub ∷ []) ≡ length subs + 1 = omega (arith, length-append subs (sub ∷ [])) in
    let dp_size : length excites.dp ≡ 40 * length subs = excites.remembers.solved.count in
    record {
      dp = excites.dp ++ more;
      remembers = remembers;
      count = omega (arith, length-append d ds, excites.count);
      each = λ j inside. elim (cases_lt j (length subs)) [
        | inl early ↦ rw (sub_at-front subs sub j early)
            (IsExcitation-front d ds excites.dp more (40 * j) (sub_at subs j) (omega (arith, excites.count)) (omega (arith, dp_size)) (excites.each j early))
        | inr late ↦
            let here : j ≡ length subs = omega arith in
            rw (here, sub_at-last subs sub)
            (IsExcitation-last d ds excites.dp more (40 * length subs) subs sub old excites.count dp_size size excites.remembers coded)
      ];
    }

pub Excites-next : (d ds : List ℤ) (subs : List SubParams) (sub : SubParams) (old next : Memory) → Excites d subs old → length ds ≡ 40 → IsCoded ds old.history sub
    → ((values : List ℤ) → Remembers subs values old → Continues (subs ++ sub ∷ []) values next) → Excites (d ++ ds) (subs ++ sub ∷ []) next
Excites-next d ds subs sub old next excites size coded goes_on =
    let continues : Continues (subs ++ sub ∷ []) excites.dp next = goes_on excites.dp excites.remembers in
    Excites-more d ds subs sub old next excites continues.more size coded continues.remembers

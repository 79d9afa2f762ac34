-- Whole journals of one line have no fault.
use Rattle.std.proofs.Common.{◌≡◌, ℕ, zero, suc, ◌+◌, ◌≤◌, ◌<◌, ◌^◌, List, [], ◌∷◌, ◌++◌, length, slice_get, Bool, true, false, Option, Some, None, refl, sym, ap, subst, ◌∙◌, append_assoc, inl, inr, arith}
use Rattle.std.specs.Prelude.{IsSome, ◌==◌}
use Rattle.std.specs.List.{AllByRecursion, flat_map}
use Rattle.std.proofs.Math.Nat.{pow-le-pow_right}
use Rattle.std.proofs.lemmas.Bool.{eq-eqb}
use Rattle.std.proofs.lemmas.List.{append_cancel_left}
use Rattle.byteorder.specs.Endian.{big_bytes, big_number}
use Rattle.byteorder.specs.Numbers.{big_number-reads_back}
use Rattle.recorder.specs.declared.fault.RecordFault.{RecordFault}
use Rattle.recorder.specs.Files.{end_mark}
use Rattle.recorder.specs.Filing.{filer_event_text}
use Rattle.recorder.specs.Play.{play_event_text}
use Rattle.recorder.specs.Heads.{Heading, IsHeading, filer_magic, head_text, play_magic}
use Rattle.recorder.specs.Journals.{FilerRecord, FilersHaveNoFault, IsFilerJournal, IsPlayerJournal, PlayerRecord, PlayersHaveNoFault}
use Rattle.replay_check.specs.Journals.{AreNumbered, AreOfOneLine}
use Rattle.journal_runs.specs.Verify.{FilerHasFault, HasFirstFault, PlayerHasFault, TellFilers, TellJournals, TellsFiler, TellsPlayer, filer_misfit, fitting, player_misfit}

-- ---- octets have one head

small : (h : Heading) → IsHeading h → h.delay < 256 ^ 2
small h is = omega (arith, is.delay, pow-le-pow_right {n = 2} (let e : 1 ≤ 2 = omega arith in e) is.g)

one-delay : (a b : ℕ) (r s : List ℕ) → big_bytes 2 a ++ r ≡ big_bytes 2 b ++ s → a < 256 ^ 2 → b < 256 ^ 2 → a ≡ b
one-delay a b r s same p q = sym (big_number-reads_back 2 a r p) ∙ ap (big_number 2) same ∙ big_number-reads_back 2 b s q

-- the numbers of a head, and what follows
abbrev numbers : Heading → List ℕ → List ℕ
numbers h rest = h.filers ∷ h.g ∷ (big_bytes 2 h.delay ++ rest)

one-head : (a b : Heading) (r s : List ℕ) → numbers a r ≡ numbers b s → IsHeading a → IsHeading b → a ≡ b
one-head a b r s same p q =
    let filers : a.filers ≡ b.filers = cc in
    let g : a.g ≡ b.g = cc in
    let behind : big_bytes 2 a.delay ++ r ≡ big_bytes 2 b.delay ++ s = cc in
    let delay = one-delay a.delay b.delay r s behind (small a p) (small b q) in
    λ i. record { filers = filers i; g = g i; delay = delay i }

behind-head : (a b : Heading) (r s : List ℕ) → numbers a r ≡ numbers b s → a ≡ b → r ≡ s
behind-head a b r s same is =
    let behind : big_bytes 2 a.delay ++ r ≡ big_bytes 2 b.delay ++ s = cc in
    append_cancel_left (big_bytes 2 b.delay) r s (subst (λ (d : ℕ). big_bytes 2 d ++ r ≡ big_bytes 2 b.delay ++ s) (ap (λ (h : Heading). h.delay) is) behind)

player-numbers : (octets : List ℕ) (p : PlayerRecord) → IsPlayerJournal octets p → (rest : List ℕ) × (octets ≡ play_magic ++ numbers p.head rest)
player-numbers octets p is = (
  flat_map play_event_text p.events ++ (end_mark ∷ is.text.0),
  is.text.1 ∙ append_assoc (head_text play_magic p.head ++ flat_map play_event_text p.events) (end_mark ∷ []) is.text.0
      ∙ append_assoc (head_text play_magic p.head) (flat_map play_event_text p.events) (end_mark ∷ is.text.0),
)

pub player-head : (octets : List ℕ) (p q : PlayerRecord) → IsPlayerJournal octets p → IsPlayerJournal octets q → p.head ≡ q.head
player-head octets p q one two =
    let a = player-numbers octets p one in
    let b = player-numbers octets q two in
    one-head p.head q.head a.0 b.0 (append_cancel_left play_magic (numbers p.head a.0) (numbers q.head b.0) (sym a.1 ∙ b.1)) one.fits.head two.fits.head

filer-numbers : (octets : List ℕ) (f : FilerRecord) → IsFilerJournal octets f → (rest : List ℕ) × (octets ≡ filer_magic ++ numbers f.head (f.caller ∷ rest))
filer-numbers octets f is = (
  flat_map filer_event_text f.events ++ (end_mark ∷ is.text.0),
  is.text.1 ∙ append_assoc ((head_text filer_magic f.head ++ f.caller ∷ []) ++ flat_map filer_event_text f.events) (end_mark ∷ []) is.text.0
      ∙ append_assoc (head_text filer_magic f.head ++ f.caller ∷ []) (flat_map filer_event_text f.events) (end_mark ∷ is.text.0)
      ∙ append_assoc (head_text filer_magic f.head) (f.caller ∷ []) (flat_map filer_event_text f.events ++ (end_mark ∷ is.text.0)),
)

pub filer-head : (octets : List ℕ) (f g : FilerRecord) → IsFilerJournal octets f → IsFilerJournal octets g → (f.head ≡ g.head) × (f.caller ≡ g.caller)
filer-head octets f g one two =
    let a = filer-numbers octets f one in
    let b = filer-numbers octets g two in
    let same = append_cancel_left filer_magic (numbers f.head (f.caller ∷ a.0)) (numbers g.head (g.caller ∷ b.0)) (sym a.1 ∙ b.1) in
    let head = one-head f.head g.head (f.caller ∷ a.0) (g.caller ∷ b.0) same one.fits.head two.fits.head in
    let behind : f.caller ∷ a.0 ≡ g.caller ∷ b.0 = behind-head f.head g.head (f.caller ∷ a.0) (g.caller ∷ b.0) same head in
    (head, cc)

-- ---- heads that fit

fits-at : (b : Bool) (at : ℕ) (rest : Option RecordFault) → b ≡ true → fitting b at rest ≡ rest
fits-at true at rest is = refl
fits-at false at rest is = absurd cc

player-fits : (filers : ℕ) (h : Heading) → h.filers ≡ filers → player_misfit filers h ≡ None
player-fits filers h is = fits-at (h.filers == filers) 8 None (eq-eqb h.filers filers is)

filer-fits : (h : Heading) (k : ℕ) (f : FilerRecord) → f.head ≡ h → f.caller ≡ k → filer_misfit h k f ≡ None
filer-fits h k f head caller =
    fits-at (f.head.filers == h.filers) 8 _ (eq-eqb _ _ (ap (λ (x : Heading). x.filers) head))
    ∙ fits-at (f.head.g == h.g) 9 _ (eq-eqb _ _ (ap (λ (x : Heading). x.g) head))
    ∙ fits-at (f.head.delay == h.delay) 10 _ (eq-eqb _ _ (ap (λ (x : Heading). x.delay) head))
    ∙ fits-at (f.caller == k) 12 None (eq-eqb _ _ caller)

-- the journal of a filer, in its input
filer-at : (h : Heading) (n : ℕ) (filers : List (Option (List ℕ))) (fs : List FilerRecord) (k : ℕ) (input : Option (List ℕ)) → TellFilers filers fs → AreNumbered h n fs → slice_get filers k ≡ Some input
    → (f : FilerRecord) × TellsFiler input f × (f.head ≡ h) × (f.caller ≡ n + k)
filer-at h n [] fs k input told numbered here = absurd cc
filer-at h n (i ∷ filers) [] k input told numbered here = absurd told
filer-at h n (i ∷ filers) (f ∷ fs) zero input told numbered here =
    let same : i ≡ input = cc in
    (f, subst (λ (o : Option (List ℕ)). TellsFiler o f) same told.0, numbered.0, numbered.1 ∙ (let e : n ≡ n + 0 = omega arith in e))
filer-at h n (i ∷ filers) (f ∷ fs) (suc k) input told numbered here =
    let rest = filer-at h (n + 1) filers fs k input told.1 numbered.2 here in
    (rest.0, rest.1, rest.2, rest.3 ∙ (let e : n + 1 + k ≡ n + suc k = omega arith in e))

told-at : (filers : List (Option (List ℕ))) (k : ℕ) (input : Option (List ℕ)) → AllByRecursion IsSome filers → slice_get filers k ≡ Some input → IsSome input
told-at [] k input all here = absurd cc
told-at (i ∷ filers) zero input all here = let same : i ≡ input = cc in subst IsSome same all.0
told-at (i ∷ filers) (suc k) input all here = told-at filers k input all.1 here

pub same-count : (filers : List (Option (List ℕ))) (fs : List FilerRecord) → TellFilers filers fs → length filers ≡ length fs
same-count [] [] told = refl
same-count [] (f ∷ fs) told = absurd told
same-count (i ∷ filers) [] told = absurd told
same-count (i ∷ filers) (f ∷ fs) told = ap suc (same-count filers fs told.1)

module _ (no_player : PlayersHaveNoFault) (no_filer : FilersHaveNoFault) where
  player-clear : (filers : ℕ) (input : Option (List ℕ)) (p : PlayerRecord) (f : RecordFault) → IsSome input → TellsPlayer input p → p.head.filers ≡ filers → PlayerHasFault filers input f → ⊥
  player-clear filers None p f told tells many has = cc
  player-clear filers (Some octets) p f told tells many (inl fault) = no_player octets p f tells.text fault
  player-clear filers (Some octets) p f told tells many (inr (q, tells', misfit)) =
      let same = player-head octets q p tells'.text tells.text in
      let fits = player-fits filers q.head (ap (λ (h : Heading). h.filers) same ∙ many) in
      let never : Some f ≡ None = sym misfit ∙ fits in
      cc

  filer-clear : (h : Heading) (k : ℕ) (input : Option (List ℕ)) (g : FilerRecord) (f : RecordFault) → IsSome input → TellsFiler input g → g.head ≡ h → g.caller ≡ k → FilerHasFault h k input f → ⊥
  filer-clear h k None g f told tells head caller has = cc
  filer-clear h k (Some octets) g f told tells head caller (inl fault) = no_filer octets g f tells.text fault
  filer-clear h k (Some octets) g f told tells head caller (inr (j, tells', misfit)) =
      let same = filer-head octets j g tells'.text tells.text in
      let never : Some f ≡ None = sym misfit ∙ filer-fits h k j (same.0 ∙ head) (same.1 ∙ caller) in
      cc

  same-player : (input : Option (List ℕ)) (p q : PlayerRecord) → IsSome input → TellsPlayer input p → TellsPlayer input q → p.head ≡ q.head
  same-player None p q told one two = absurd cc
  same-player (Some octets) p q told one two = player-head octets p q one.text two.text

  pub not_first : (inputs : List (Option (List ℕ))) (p : PlayerRecord) (fs : List FilerRecord) (place : ℕ) (f : RecordFault)
      → AllByRecursion IsSome inputs → TellJournals inputs p fs → AreOfOneLine fs p → HasFirstFault inputs place f → ⊥
  not_first [] p fs place f told tells one has = has
  not_first (player ∷ filers) p fs zero f told tells one has =
      player-clear (length filers) player p f told.0 tells.0 (sym one.many ∙ sym (same-count filers fs tells.1)) has
  not_first (player ∷ filers) p fs (suc k) f told tells one (q, tells', many, first) =
      let head = same-player player q p told.0 tells' tells.0 in
      let at = filer-at p.head 0 filers fs k first.input tells.1 one.numbered first.here in
      filer-clear q.head k first.input at.0 f (told-at filers k first.input told.1 first.here) at.1 (at.2 ∙ sym head) (at.3 ∙ (let e : 0 + k ≡ k = omega arith in e)) first.has

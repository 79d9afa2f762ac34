-- Why `serve` ended with a status: whose end it was, and whose count rose.
use Rattle.std.proofs.Common.{◌≡◌, ◌⊎◌, inl, inr, ℕ, zero, suc, ◌+◌, ◌<◌, List, [], ◌∷◌, length, map, Option, Some, None, slice_index, refl, sym, ap, subst, ◌∙◌, arith}
use mathlib.Core.Option.{some, some-ne-none, some-injective}
use lib.ListN.{get_elem?}
use Rattle.gate_base.specs.Faults.{Rose}
use Rattle.recorder.specs.declared.tally.Tally.{Tally}
use Rattle.recorder.specs.declared.tally.PlayTally.{PlayTally}
use Rattle.filer.specs.declared.run.FilerEnd.{FilerEnd}
use Rattle.filer.specs.declared.run.FilerEnd.TheVariants as filer
use Rattle.player.specs.declared.run.PlayerEnd.{PlayerEnd}
use Rattle.player.specs.declared.run.PlayerEnd.TheVariants as player
use Rattle.slot_ring.specs.Remains.{LeftView}
use Rattle.line_run.specs.Line.{LineRan}
use Rattle.line_run.specs.Opening.{LineSeen}
use Rattle.line_run.specs.Seen.{LinkSeen, PlayerSeen, SinkSeen}
use Rattle.gate_notes.specs.Exchange.{SomeRose}
use Rattle.serve_runs.specs.Serve.{StatusFollows, fault_of_ends, filer_fault, lowest_fault, or_else}
use Rattle.gate_notes.specs.declared.status.Status.{Status}
use Rattle.gate_notes.specs.declared.status.Status.TheVariants.{Done, Illegal, Usage, Input, ReadFault, WriteFault, LinkFault, OutOfMemory}

abbrev Told : Type 0
Told = FilerEnd × Tally

-- ---- whose end it was

-- a filer of these ended so
pub record Has (fs : List Told) (end : FilerEnd) : Type 0 where
  pub place : ℕ
  pub tally : Tally
  pub here : get_elem? fs place ≡ some (end, tally)

-- what a fault says of a filer's end
abbrev FilerWhy : List Told → Status → Type 0
FilerWhy fs Done = ⊥
FilerWhy fs Illegal = ⊥
FilerWhy fs Usage = ⊥
FilerWhy fs Input = ⊥
FilerWhy fs ReadFault = ⊥
FilerWhy fs WriteFault = Has fs filer.JournalFault
FilerWhy fs LinkFault = Has fs filer.LinkFault
FilerWhy fs OutOfMemory = ⊥

behind : (f : Told) (fs : List Told) (end : FilerEnd) → Has fs end → Has (f ∷ fs) end
behind f fs end h = record { place = suc h.place; tally = h.tally; here = h.here }

later-why : (f : Told) (fs : List Told) (s : Status) → FilerWhy fs s → FilerWhy (f ∷ fs) s
later-why f fs Done w = w
later-why f fs Illegal w = w
later-why f fs Usage w = w
later-why f fs Input w = w
later-why f fs ReadFault w = w
later-why f fs WriteFault w = behind f fs filer.JournalFault w
later-why f fs LinkFault w = behind f fs filer.LinkFault w
later-why f fs OutOfMemory w = w

never : (s : Status) → None ≡ Some s → ⊥
never s e = cc

one-status : (s t : Status) → Some s ≡ Some t → s ≡ t
one-status s t e = cc

first-why : (end : FilerEnd) (tally : Tally) (fs : List Told) (s : Status) → or_else (filer_fault end) (lowest_fault fs) ≡ Some s → (lowest_fault fs ≡ Some s → FilerWhy fs s) → FilerWhy ((end, tally) ∷ fs) s
first-why filer.Ended tally fs s e rest = later-why (filer.Ended, tally) fs s (rest e)
first-why filer.LinkFault tally fs s e rest = subst (FilerWhy ((filer.LinkFault, tally) ∷ fs)) (one-status LinkFault s e) (record { place = zero; tally = tally; here = refl })
first-why filer.JournalFault tally fs s e rest = subst (FilerWhy ((filer.JournalFault, tally) ∷ fs)) (one-status WriteFault s e) (record { place = zero; tally = tally; here = refl })

lowest-why : (fs : List Told) (s : Status) → lowest_fault fs ≡ Some s → FilerWhy fs s
lowest-why [] s e = absurd (never s e)
lowest-why (f ∷ fs) s e = first-why f.0 f.1 fs s e (lowest-why fs s)

-- what a fault says of the ends of all callers
abbrev Why : PlayerEnd → List Told → Status → Type 0
Why p fs Done = ⊥
Why p fs Illegal = ⊥
Why p fs Usage = ⊥
Why p fs Input = ⊥
Why p fs ReadFault = p ≡ player.MicFault
Why p fs WriteFault = (p ≡ player.SpeakerFault) ⊎ (p ≡ player.JournalFault) ⊎ Has fs filer.JournalFault
Why p fs LinkFault = (p ≡ player.ReplyFault) ⊎ Has fs filer.LinkFault
Why p fs OutOfMemory = ⊥

widened : (p : PlayerEnd) (fs : List Told) (s : Status) → FilerWhy fs s → Why p fs s
widened p fs Done w = w
widened p fs Illegal w = w
widened p fs Usage w = w
widened p fs Input w = w
widened p fs ReadFault w = absurd w
widened p fs WriteFault w = inr (inr w)
widened p fs LinkFault w = inr w
widened p fs OutOfMemory w = w

ends-why : (p : PlayerEnd) (fs : List Told) (s : Status) → fault_of_ends p fs ≡ Some s → Why p fs s
ends-why player.Ended fs s e = widened player.Ended fs s (lowest-why fs s e)
ends-why player.SpeakerFault fs s e = subst (Why player.SpeakerFault fs) (one-status WriteFault s e) (inl refl)
ends-why player.JournalFault fs s e = subst (Why player.JournalFault fs) (one-status WriteFault s e) (inr (inl refl))
ends-why player.MicFault fs s e = subst (Why player.MicFault fs) (one-status ReadFault s e) refl
ends-why player.ReplyFault fs s e = subst (Why player.ReplyFault fs) (one-status LinkFault s e) (inl refl)

-- the status follows from an end, or all callers ended well
pub data Comes (p : PlayerEnd) (fs : List Told) (s : Status) : Type 0 where
  fault : Why p fs s → Comes p fs s
  well : fault_of_ends p fs ≡ None → (s ≡ Done) ⊎ (s ≡ WriteFault) → Comes p fs s

narrowed : (s : Status) (noted : Type 0) → ((s ≡ Done) × noted) ⊎ (s ≡ WriteFault) → (s ≡ Done) ⊎ (s ≡ WriteFault)
narrowed s noted (inl h) = inl h.0
narrowed s noted (inr h) = inr h

comes-by : (o : Option Status) (p : PlayerEnd) (fs : List Told) (s : Status) (noted : Type 0) → fault_of_ends p fs ≡ o → StatusFollows o s noted → Comes p fs s
comes-by (Some t) p fs s noted is h = fault (subst (Why p fs) (sym h) (ends-why p fs t is))
comes-by None p fs s noted is h = well is (narrowed s noted h)

pub comes : (p : PlayerEnd) (fs : List Told) (s : Status) (noted : Type 0) → StatusFollows (fault_of_ends p fs) s noted → Comes p fs s
comes p fs s noted h = comes-by (fault_of_ends p fs) p fs s noted refl h

-- ---- a line that ran is neither refused nor starved

apart : (s : Status) → (s ≡ Done) ⊎ (s ≡ WriteFault) → (s ≡ Usage → ⊥) × (s ≡ OutOfMemory → ⊥)
apart s (inl h) = (λ e. let c : Done ≡ Usage = sym h ∙ e in absurd cc, λ e. let c : Done ≡ OutOfMemory = sym h ∙ e in absurd cc)
apart s (inr h) = (λ e. let c : WriteFault ≡ Usage = sym h ∙ e in absurd cc, λ e. let c : WriteFault ≡ OutOfMemory = sym h ∙ e in absurd cc)

pub neither : (p : PlayerEnd) (fs : List Told) (s : Status) → Comes p fs s → (s ≡ Usage → ⊥) × (s ≡ OutOfMemory → ⊥)
neither p fs s (fault w) = (λ e. subst (Why p fs) e w, λ e. subst (Why p fs) e w)
neither p fs s (well none h) = apart s h

-- ---- whose count rose

exists : {A : Type 0} (xs : List A) (i : ℕ) → i < length xs → (x : A) × (get_elem? xs i ≡ some x)
exists [] i low = absurd (omega arith)
exists (x ∷ xs) zero low = (x, refl)
exists (x ∷ xs) (suc i) low = exists xs i (omega arith)

below : {A : Type 0} (xs : List A) (i : ℕ) (x : A) → get_elem? xs i ≡ some x → i < length xs
below [] i x e = absurd (some-ne-none x (sym e))
below (y ∷ xs) zero x e = omega arith
below (y ∷ xs) (suc i) x e = let h = below xs i x e in omega arith

counted-at : {A : Type 0} (f : A → ℕ) (xs : List A) (i : ℕ) (x : A) → get_elem? xs i ≡ some x → (i < length (map f xs)) × (slice_index (map f xs) i ≡ f x)
counted-at f [] i x e = absurd (some-ne-none x (sym e))
counted-at f (y ∷ xs) zero x e = (omega arith, ap f (some-injective y x e))
counted-at f (y ∷ xs) (suc i) x e = let h = counted-at f xs i x e in (omega (arith, h.0), h.1)

rose-at : {A : Type 0} (f : A → ℕ) (xs xs' : List A) (i : ℕ) (x x' : A) → get_elem? xs i ≡ some x → get_elem? xs' i ≡ some x' → Rose (f x) (f x') → SomeRose (map f xs) (map f xs')
rose-at f xs xs' i x x' e e' rose =
    let a = counted-at f xs i x e in
    let b = counted-at f xs' i x' e' in
    (i, a.0, subst (λ (n : ℕ). Rose n (slice_index (map f xs') i)) (sym a.1) (subst (Rose (f x)) (sym b.1) rose))

module _ {P J : Type 0} (l : LineSeen) (link : P → LinkSeen) (sink : J → SinkSeen) (ps : List P) (js : List J) (ps' : List P) (js' : List J) (a b : PlayerSeen) (p : PlayerEnd) (played : PlayTally) (fs : List Told) (left : LeftView)
    (ran : LineRan l link sink ps js ps' js' a b p played fs left) (many : length ps ≡ l.filers) (more : length js ≡ 1 + l.filers) where
  same-told : (t u : Told) → some t ≡ some u → t.0 ≡ u.0
  same-told t u e = ap (λ (x : Told). x.0) (some-injective t u e)

  pub link-rose : Has fs filer.LinkFault → SomeRose (map (λ (x : P). (link x).faults) ps) (map (λ (x : P). (link x).faults) ps')
  link-rose h =
      let low : h.place < l.filers = let t = below fs h.place (filer.LinkFault, h.tally) h.here in omega (arith, t, ran.ends) in
      let q = exists ps h.place (omega (arith, low, many)) in
      let j = exists js (1 + h.place) (omega (arith, low, more)) in
      let r = ran.filed h.place q.0 j.0 low q.1 j.1 in
      let is : r.2 ≡ filer.LinkFault = same-told (r.2, r.3) (filer.LinkFault, h.tally) (sym r.6 ∙ h.here) in
      rose-at (λ (x : P). (link x).faults) ps ps' h.place q.0 r.0 q.1 r.4 (r.7.link_fault is)

  pub journal-rose : Has fs filer.JournalFault → SomeRose (map (λ (x : J). (sink x).faults) js) (map (λ (x : J). (sink x).faults) js')
  journal-rose h =
      let low : h.place < l.filers = let t = below fs h.place (filer.JournalFault, h.tally) h.here in omega (arith, t, ran.ends) in
      let q = exists ps h.place (omega (arith, low, many)) in
      let j = exists js (1 + h.place) (omega (arith, low, more)) in
      let r = ran.filed h.place q.0 j.0 low q.1 j.1 in
      let is : r.2 ≡ filer.JournalFault = same-told (r.2, r.3) (filer.JournalFault, h.tally) (sym r.6 ∙ h.here) in
      rose-at (λ (x : J). (sink x).faults) js js' (1 + h.place) j.0 r.1 j.1 r.5 (r.7.journal_fault is)

  pub first-journal-rose : p ≡ player.JournalFault → SomeRose (map (λ (x : J). (sink x).faults) js) (map (λ (x : J). (sink x).faults) js')
  first-journal-rose is =
      let r = ran.played_so in
      rose-at (λ (x : J). (sink x).faults) js js' 0 r.0 r.1 r.2 r.3 (r.4.journal_fault is)

  pub read-cause : (s : Status) → Comes p fs s → s ≡ ReadFault → Rose a.microphone.faults b.microphone.faults
  read-cause s (fault w) is = ran.played_so.4.mic_fault (subst (Why p fs) is w)
  read-cause s (well none (inl h)) is = let c : Done ≡ ReadFault = sym h ∙ is in absurd cc
  read-cause s (well none (inr h)) is = let c : WriteFault ≡ ReadFault = sym h ∙ is in absurd cc

  link-why : (p ≡ player.ReplyFault) ⊎ Has fs filer.LinkFault → SomeRose (map (λ (x : P). (link x).faults) ps) (map (λ (x : P). (link x).faults) ps') ⊎ Rose a.reply.faults b.reply.faults
  link-why (inl is) = inr (ran.played_so.4.reply_fault is)
  link-why (inr h) = inl (link-rose h)

  pub link-cause : (s : Status) → Comes p fs s → s ≡ LinkFault → SomeRose (map (λ (x : P). (link x).faults) ps) (map (λ (x : P). (link x).faults) ps') ⊎ Rose a.reply.faults b.reply.faults
  link-cause s (fault w) is = link-why (subst (Why p fs) is w)
  link-cause s (well none (inl h)) is = let c : Done ≡ LinkFault = sym h ∙ is in absurd cc
  link-cause s (well none (inr h)) is = let c : WriteFault ≡ LinkFault = sym h ∙ is in absurd cc

  abbrev Wrote : Type 0 → Type 0
  Wrote noted = Rose a.speaker.faults b.speaker.faults ⊎ SomeRose (map (λ (x : J). (sink x).faults) js) (map (λ (x : J). (sink x).faults) js') ⊎ noted

  write-why : (noted : Type 0) → (p ≡ player.SpeakerFault) ⊎ (p ≡ player.JournalFault) ⊎ Has fs filer.JournalFault → Wrote noted
  write-why noted (inl is) = inl (ran.played_so.4.speaker_fault is)
  write-why noted (inr (inl is)) = inr (inl (first-journal-rose is))
  write-why noted (inr (inr h)) = inr (inl (journal-rose h))

  pub write-cause : (noted : Type 0) (s : Status) → Comes p fs s → (fault_of_ends p fs ≡ None → s ≡ WriteFault → noted) → s ≡ WriteFault
      → Rose a.speaker.faults b.speaker.faults ⊎ SomeRose (map (λ (x : J). (sink x).faults) js) (map (λ (x : J). (sink x).faults) js') ⊎ noted
  write-cause noted s (fault w) cause is = write-why noted (subst (Why p fs) is w)
  write-cause noted s (well none h) cause is = inr (inr (cause none is))

-- ---- where none rose

abbrev Ended : Status → Type 0
Ended s = (s ≡ Done) ⊎ (s ≡ ReadFault) ⊎ (s ≡ WriteFault) ⊎ (s ≡ LinkFault)

by-why : (p : PlayerEnd) (fs : List Told) (s : Status) → Why p fs s → Ended s
by-why p fs Done w = absurd w
by-why p fs Illegal w = absurd w
by-why p fs Usage w = absurd w
by-why p fs Input w = absurd w
by-why p fs ReadFault w = inr (inl refl)
by-why p fs WriteFault w = inr (inr (inl refl))
by-why p fs LinkFault w = inr (inr (inr refl))
by-why p fs OutOfMemory w = absurd w

which : (p : PlayerEnd) (fs : List Told) (s : Status) → Comes p fs s → Ended s
which p fs s (fault w) = by-why p fs s w
which p fs s (well none (inl h)) = inl h
which p fs s (well none (inr h)) = inr (inr (inl h))

pub done-alone : (p : PlayerEnd) (fs : List Told) (s : Status) (failed : Type 0) → Comes p fs s → (s ≡ ReadFault → failed) → (s ≡ WriteFault → failed) → (s ≡ LinkFault → failed) → (failed → ⊥) → s ≡ Done
done-alone p fs s failed how read write link none = elim (which p fs s how) [
  | inl h ↦ h
  | inr (inl h) ↦ absurd (none (read h))
  | inr (inr (inl h)) ↦ absurd (none (write h))
  | inr (inr (inr h)) ↦ absurd (none (link h))
]

-- Journals that are read one after the other.
use Rattle.std.proofs.Common.{◌≡◌, ℕ, zero, suc, ◌+◌, ◌≤◌, ◌<◌, List, [], ◌∷◌, ◌++◌, length, map, take, drop, slice_get, slice_index, slice_set, get_or, Bool, true, false, Option, Some, None, refl, sym, ap, subst, ◌∙◌, add-one, arith}
use Rattle.std.specs.Prelude.{◌==◌}
use Rattle.std.specs.Io.KnownBytes.{Consumes}
use Rattle.std.proofs.lemmas.Bool.{eqb-true}
use Rattle.gate_base.specs.Faults.{Rose}
use Rattle.recorder.specs.declared.fault.RecordFault.{RecordFault}
use Rattle.recorder.specs.declared.fault.RecordEnd.TheVariants.{Fault, ReadFailed}
use Rattle.recorder.specs.declared.refusal.JournalRefusal.{JournalRefusal}
use Rattle.recorder.specs.declared.refusal.JournalRefusal.TheVariants as refusal
use Rattle.recorder.specs.Heads.{Heading}
use Rattle.recorder.specs.Journals.{FilerRecord, FilerRecordFits, PlayerRecord, PlayerRecordFits, filer_text, player_text}
use Rattle.replay_check.specs.Journals.{AreNumbered, AreOfOneLine}
use Rattle.gate_notes.specs.Exchange.{NoneFell, SomeRose}
use Rattle.journal_runs.specs.Verify.{FilerHasFault, HasFirstFault, KeepsBehind, PlayerHasFault, TellFilers, TellJournals, TellsFiler, TellsPlayer, filer_misfit, fitting, player_misfit}
use Rattle.journal_runs.specs.VerifyRuns.{AreUnread, FilersUnread, LeavesBehind, LeavesFilersBehind, unread_at}
use Rattle.journal_runs.specs.declared.journals.Unread.{Unread}
use Rattle.journal_runs.specs.declared.journals.Unread.TheVariants as unread
use Rattle.journal_runs.proofs.Refuted.{same-count}

pub tells-player : (old new : Option (List ℕ)) (p : PlayerRecord) → PlayerRecordFits p → Consumes old new (player_text p) → TellsPlayer old p
tells-player None new p fits taken = record { fits = fits; text = tt }
tells-player (Some x) None p fits taken = absurd taken
tells-player (Some x) (Some y) p fits taken = record { fits = fits; text = record { fits = fits; text = (y, taken) } }

pub tells-filer : (old new : Option (List ℕ)) (f : FilerRecord) → FilerRecordFits f → Consumes old new (filer_text f) → TellsFiler old f
tells-filer None new f fits taken = record { fits = fits; text = tt }
tells-filer (Some x) None f fits taken = absurd taken
tells-filer (Some x) (Some y) f fits taken = record { fits = fits; text = record { fits = fits; text = (y, taken) } }

-- ---- heads

-- no field is told, so this one fits, and the rest has none
fits-here : (b : Bool) (at : ℕ) (rest : Option RecordFault) → fitting b at rest ≡ None → (b ≡ true) × (rest ≡ None)
fits-here true at rest is = (refl, is)
fits-here false at rest is = absurd cc

pub fits-player : (filers : ℕ) (h : Heading) → player_misfit filers h ≡ None → h.filers ≡ filers
fits-player filers h is = eqb-true h.filers filers (fits-here (h.filers == filers) 8 None is).0

same-heading : (a b : Heading) → a.filers ≡ b.filers → a.g ≡ b.g → a.delay ≡ b.delay → a ≡ b
same-heading a b p q r = λ i. record { filers = p i; g = q i; delay = r i }

pub fits-filer : (h : Heading) (k : ℕ) (f : FilerRecord) → filer_misfit h k f ≡ None → (f.head ≡ h) × (f.caller ≡ k)
fits-filer h k f is =
    let first = fits-here (f.head.filers == h.filers) 8 _ is in
    let second = fits-here (f.head.g == h.g) 9 _ first.1 in
    let third = fits-here (f.head.delay == h.delay) 10 _ second.1 in
    let fourth = fits-here (f.caller == k) 12 None third.1 in (
      same-heading f.head h (eqb-true f.head.filers h.filers first.0) (eqb-true f.head.g h.g second.0) (eqb-true f.head.delay h.delay third.0),
      eqb-true f.caller k fourth.0,
    )

-- ---- one journal more

told-more : (inputs : List (Option (List ℕ))) (fs : List FilerRecord) (k : ℕ) (input : Option (List ℕ)) (f : FilerRecord)
    → slice_get inputs k ≡ Some input → TellFilers (take k inputs) fs → TellsFiler input f → TellFilers (take (suc k) inputs) (fs ++ f ∷ [])
told-more [] fs k input f here told tells = absurd cc
told-more (i ∷ inputs) [] zero input f here told tells = (subst (λ (o : Option (List ℕ)). TellsFiler o f) (same here) tells, tt)
  where
    same : Some i ≡ Some input → input ≡ i
    same e = cc
told-more (i ∷ inputs) (g ∷ fs) zero input f here told tells = absurd told
told-more (i ∷ inputs) [] (suc k) input f here told tells = absurd told
told-more (i ∷ inputs) (g ∷ fs) (suc k) input f here told tells = (told.0, told-more inputs fs k input f here told.1 tells)

numbered-more : (h : Heading) (n : ℕ) (fs : List FilerRecord) (f : FilerRecord) → AreNumbered h n fs → f.head ≡ h → f.caller ≡ n + length fs → AreNumbered h n (fs ++ f ∷ [])
numbered-more h n [] f all head caller = (head, caller ∙ (let e : n + 0 ≡ n = omega arith in e), tt)
numbered-more h n (g ∷ fs) f all head caller =
    (all.0, all.1, numbered-more h (n + 1) fs f all.2 head (caller ∙ (let e : n + suc (length fs) ≡ n + 1 + length fs = omega arith in e)))

-- so many of the filers' journals were read
pub record Read {D : Type 0} (left : D → Option (List ℕ)) (faults : D → ℕ) (h : Heading) (k : ℕ) (before now : List D) (fs : List FilerRecord) : Type 0 where
  pub counted : length fs ≡ k
  pub told : TellFilers (take k (map left before)) fs
  pub numbered : AreNumbered h 0 fs
  pub rest : drop k now ≡ drop k before
  pub later : NoneFell (map faults before) (map faults now)

-- what is dropped alike has the same element there
get-dropped : {D : Type 0} (now before : List D) (k : ℕ) (d : D) → drop k now ≡ drop k before → slice_get now k ≡ Some d → slice_get before k ≡ Some d
get-dropped [] [] k d same here = here
get-dropped [] (b ∷ before) k d same here = absurd cc
get-dropped (a ∷ now) [] zero d same here = absurd cc
get-dropped (a ∷ now) [] (suc k) d same here = absurd (none now k same here)
  where
    none : {D : Type 0} {d : D} (now : List D) (k : ℕ) → drop k now ≡ [] → slice_get now k ≡ Some d → ⊥
    none [] k same here = cc
    none (a ∷ now) zero same here = cc
    none (a ∷ now) (suc k) same here = none now k same here
get-dropped (a ∷ now) (b ∷ before) zero d same here = let e : Some a ≡ Some b = cc in sym e ∙ here
get-dropped (a ∷ now) (b ∷ before) (suc k) d same here = get-dropped now before k d same here

get-map : {D E : Type 0} (f : D → E) (xs : List D) (k : ℕ) (d : D) → slice_get xs k ≡ Some d → slice_get (map f xs) k ≡ Some (f d)
get-map f [] k d here = absurd cc
get-map f (x ∷ xs) zero d here = let e : x ≡ d = cc in ap (λ (y : _). Some (f y)) e
get-map f (x ∷ xs) (suc k) d here = get-map f xs k d here

drop-set : {D : Type 0} (xs : List D) (k : ℕ) (d : D) → drop (suc k) (slice_set xs k d) ≡ drop (suc k) xs
drop-set [] k d = refl
drop-set (x ∷ xs) zero d = refl
drop-set (x ∷ xs) (suc k) d = drop-set xs k d

drop-more : {D : Type 0} (xs ys : List D) (k : ℕ) → drop k xs ≡ drop k ys → drop (suc k) xs ≡ drop (suc k) ys
drop-more xs ys zero same = ap (drop 1) same
drop-more [] [] (suc k) same = refl
drop-more [] (y ∷ ys) (suc k) same = drop-more [] ys k (none k ∙ same)
  where
    none : {D : Type 0} (k : ℕ) → drop {A = D} k [] ≡ []
    none zero = refl
    none (suc k) = refl
drop-more (x ∷ xs) [] (suc k) same = drop-more xs [] k (same ∙ none k)
  where
    none : {D : Type 0} (k : ℕ) → [] ≡ drop {A = D} k []
    none zero = refl
    none (suc k) = refl
drop-more (x ∷ xs) (y ∷ ys) (suc k) same = drop-more xs ys k same

set-fell : {D : Type 0} (faults : D → ℕ) (xs : List D) (k j : ℕ) (old new : D) → slice_get xs k ≡ Some old → faults old ≤ faults new → slice_index (map faults xs) j ≤ slice_index (map faults (slice_set xs k new)) j
set-fell faults [] k j old new here le = omega arith
set-fell faults (x ∷ xs) zero zero old new here le = let e : x ≡ old = cc in omega (arith, ap faults e)
set-fell faults (x ∷ xs) zero (suc j) old new here le = omega arith
set-fell faults (x ∷ xs) (suc k) zero old new here le = omega arith
set-fell faults (x ∷ xs) (suc k) (suc j) old new here le = set-fell faults xs k j old new here le

pub at-map : {D : Type 0} (faults : D → ℕ) (xs : List D) (k : ℕ) (d : D) → slice_get xs k ≡ Some d → slice_index (map faults xs) k ≡ faults d
at-map faults [] k d here = absurd cc
at-map faults (x ∷ xs) zero d here = let e : x ≡ d = cc in ap faults e
at-map faults (x ∷ xs) (suc k) d here = at-map faults xs k d here

pub at-set : {D : Type 0} (faults : D → ℕ) (xs : List D) (k : ℕ) (old new : D) → slice_get xs k ≡ Some old → slice_index (map faults (slice_set xs k new)) k ≡ faults new
at-set faults [] k old new here = absurd cc
at-set faults (x ∷ xs) zero old new here = refl
at-set faults (x ∷ xs) (suc k) old new here = at-set faults xs k old new here

within : {D : Type 0} (xs : List D) (k : ℕ) (d : D) → slice_get xs k ≡ Some d → k < length xs
within [] k d here = absurd cc
within (x ∷ xs) zero d here = omega arith
within (x ∷ xs) (suc k) d here = omega (arith, within xs k d here)

module _ {D : Type 0} (left : D → Option (List ℕ)) (faults : D → ℕ) (h : Heading) (k : ℕ) (before now : List D) (fs : List FilerRecord) (read : Read left faults h k before now fs)
    (old new : D) (here : slice_get now k ≡ Some old) (later : faults old ≤ faults new) where
  there : slice_get before k ≡ Some old
  there = get-dropped now before k old read.rest here

  pub fell-more : NoneFell (map faults before) (map faults (slice_set now k new))
  fell-more j = omega (arith, read.later j, set-fell faults now k j old new here later)

  pub read-more : (f : FilerRecord) → TellsFiler (left old) f → f.head ≡ h → f.caller ≡ k → Read left faults h (k + 1) before (slice_set now k new) (fs ++ f ∷ [])
  read-more f tells head caller = subst (λ (n : ℕ). Read left faults h n before (slice_set now k new) (fs ++ f ∷ [])) (sym (add-one k)) (record {
    counted = let e : length (fs ++ f ∷ []) ≡ suc k = counted-more fs f ∙ ap suc read.counted in e;
    told = told-more (map left before) fs k (left old) f (get-map left before k old there) read.told tells;
    numbered = numbered-more h 0 fs f read.numbered head (caller ∙ (let e : k ≡ 0 + length fs = omega (arith, read.counted) in e));
    rest = drop-set now k new ∙ drop-more now before k read.rest;
    later = fell-more;
  })
    where
      counted-more : (fs : List FilerRecord) (f : FilerRecord) → length (fs ++ f ∷ []) ≡ suc (length fs)
      counted-more [] f = refl
      counted-more (g ∷ fs) f = ap suc (counted-more fs f)

  -- this journal was not read
  pub unread-here : (why : JournalRefusal) → ((f : RecordFault) → why ≡ refusal.End (Fault f) → FilerHasFault h k (left old) f) → FilersUnread h (map left before) (unread_at (k + 1) why)
  unread-here (refusal.End (Fault f)) fault = (
    k,
    add-one k,
    record { before = fs; earlier = read.told; numbered = read.numbered; input = left old; here = get-map left before k old there; has = fault f refl },
  )
  unread-here (refusal.End ReadFailed) fault = tt
  unread-here refusal.OutOfMemory fault = tt

  kept-here : KeepsBehind k before (slice_set now k new)
  kept-here = drop-set now k new ∙ drop-more now before k read.rest

  -- those behind it were not read
  pub left-behind : (why : JournalRefusal) → (why ≡ refusal.End ReadFailed → Rose (faults old) (faults new)) → LeavesFilersBehind faults (unread_at (k + 1) why) before (slice_set now k new)
  left-behind (refusal.End (Fault f)) rose = (k, add-one k, kept-here)
  left-behind (refusal.End ReadFailed) rose = (
    k,
    within before k old there,
    omega (arith, rose refl, at-map faults before k old there, at-set faults now k old new here),
    kept-here,
  )
  left-behind refusal.OutOfMemory rose = tt

  pub rose-here : Rose (faults old) (faults new) → (j : ℕ) × (j < length (map faults before)) × Rose (slice_index (map faults before) j) (slice_index (map faults (slice_set now k new)) j)
  rose-here rose = (
    k,
    within (map faults before) k (faults old) (get-map faults before k old there),
    omega (arith, rose, at-map faults before k old there, at-set faults now k old new here),
  )

-- a read that failed is the reason
pub read-failed : (place : ℕ) (why : JournalRefusal) → unread_at place why ≡ unread.ReadFault → why ≡ refusal.End ReadFailed
read-failed place (refusal.End (Fault f)) is = absurd cc
read-failed place (refusal.End ReadFailed) is = refl
read-failed place refusal.OutOfMemory is = absurd cc

pub all-read : {D : Type 0} (left : D → Option (List ℕ)) (faults : D → ℕ) (h : Heading) (k : ℕ) (before now : List D) (fs : List FilerRecord) → Read left faults h k before now fs → length before ≡ k → TellFilers (map left before) fs
all-read left faults h k before now fs read all = subst (λ (l : List (Option (List ℕ))). TellFilers l fs) (whole left before k all) read.told
  where
    whole : {D : Type 0} (left : D → Option (List ℕ)) (xs : List D) (k : ℕ) → length xs ≡ k → take k (map left xs) ≡ map left xs
    whole left [] zero all = refl
    whole left [] (suc k) all = refl
    whole left (x ∷ xs) zero all = absurd cc
    whole left (x ∷ xs) (suc k) all = ap (λ (l : List (Option (List ℕ))). left x ∷ l) (whole left xs k (let e : length xs ≡ k = omega (arith, all) in e))

-- ---- the player's input, and the filers' behind it

pub parts-are : {D : Type 0} (inputs first rest : List D) (d : D) → first ≡ take 1 inputs → rest ≡ drop 1 inputs → 1 ≤ length inputs → (inputs ≡ get_or first 0 d ∷ rest) × (first ≡ get_or first 0 d ∷ [])
parts-are [] first rest d front back some = absurd (omega arith)
parts-are (y ∷ ys) first rest d front back some =
    let head : get_or first 0 d ≡ y = ap (λ (l : List _). get_or l 0 d) front in
    (cc, cc)

length-left : {D : Type 0} (left : D → Option (List ℕ)) (xs : List D) → length (map left xs) ≡ length xs
length-left left [] = refl
length-left left (x ∷ xs) = ap suc (length-left left xs)

module _ {D : Type 0} (left : D → Option (List ℕ)) (inputs rest : List D) (x : D) (is : inputs ≡ x ∷ rest) where
  pub player-unread : (why : JournalRefusal) → ((f : RecordFault) → why ≡ refusal.End (Fault f) → PlayerHasFault (length rest) (left x) f) → AreUnread (map left inputs) (unread_at 0 why)
  player-unread why fault = subst (λ (l : List D). AreUnread (map left l) (unread_at 0 why)) (sym is) (first why fault)
    where
      first : (why : JournalRefusal) → ((f : RecordFault) → why ≡ refusal.End (Fault f) → PlayerHasFault (length rest) (left x) f) → AreUnread (left x ∷ map left rest) (unread_at 0 why)
      first (refusal.End (Fault f)) fault = subst (λ (n : ℕ). PlayerHasFault n (left x) f) (sym (length-left left rest)) (fault f refl)
      first (refusal.End ReadFailed) fault = tt
      first refusal.OutOfMemory fault = tt

  module _ (p : PlayerRecord) (tells : TellsPlayer (left x) p) (many : p.head.filers ≡ length rest) where
    pub filers-unread : (u : Unread) → FilersUnread p.head (map left rest) u → AreUnread (map left inputs) u
    filers-unread u why = subst (λ (l : List D). AreUnread (map left l) u) (sym is) (behind u why)
      where
        behind : (u : Unread) → FilersUnread p.head (map left rest) u → AreUnread (left x ∷ map left rest) u
        behind (unread.Fault place fault) (k, at, first) =
            subst (λ (n : ℕ). HasFirstFault (left x ∷ map left rest) n fault) (sym at) (p, tells, many ∙ sym (length-left left rest), first)
        behind unread.ReadFault why = tt
        behind unread.OutOfMemory why = tt

    pub tell-journals : (fs : List FilerRecord) → TellFilers (map left rest) fs → TellJournals (map left inputs) p fs
    tell-journals fs told = subst (λ (l : List D). TellJournals (map left l) p fs) (sym is) (tells, told)

    pub of-one-line : (fs : List FilerRecord) → TellFilers (map left rest) fs → AreNumbered p.head 0 fs → AreOfOneLine fs p
    of-one-line fs told numbered = record { many = sym (same-count (map left rest) fs told) ∙ length-left left rest ∙ sym many; numbered = numbered }

pub now-is : {D : Type 0} (first rest : List D) (x y : D) → first ≡ x ∷ [] → slice_set first 0 y ++ rest ≡ y ∷ rest
now-is first rest x y is = ap (λ (l : List _). slice_set l 0 y ++ rest) is

pub cons-fell : {D : Type 0} (faults : D → ℕ) (inputs rest rest' now : List D) (x y : D) → inputs ≡ x ∷ rest → now ≡ y ∷ rest' → faults x ≤ faults y → NoneFell (map faults rest) (map faults rest') → NoneFell (map faults inputs) (map faults now)
cons-fell {D} faults inputs rest rest' now x y is is' le fell =
    subst (λ (l : List D). NoneFell (map faults l) (map faults now)) (sym is) (subst (λ (l : List D). NoneFell (faults x ∷ map faults rest) (map faults l)) (sym is') both)
  where
    both : NoneFell (faults x ∷ map faults rest) (faults y ∷ map faults rest')
    both zero = le
    both (suc k) = fell k

pub cons-rose : {D : Type 0} (faults : D → ℕ) (inputs rest rest' now : List D) (x y : D) → inputs ≡ x ∷ rest → now ≡ y ∷ rest' → SomeRose (map faults rest) (map faults rest') → SomeRose (map faults inputs) (map faults now)
cons-rose {D} faults inputs rest rest' now x y is is' (k, below, rose) =
    subst (λ (l : List D). SomeRose (map faults l) (map faults now)) (sym is) (subst (λ (l : List D). SomeRose (faults x ∷ map faults rest) (map faults l)) (sym is') (suc k, omega (arith, below), rose))

pub first-rose : {D : Type 0} (faults : D → ℕ) (inputs rest rest' now : List D) (x y : D) → inputs ≡ x ∷ rest → now ≡ y ∷ rest' → Rose (faults x) (faults y) → SomeRose (map faults inputs) (map faults now)
first-rose {D} faults inputs rest rest' now x y is is' rose =
    subst (λ (l : List D). SomeRose (map faults l) (map faults now)) (sym is) (subst (λ (l : List D). SomeRose (faults x ∷ map faults rest) (map faults l)) (sym is') (0, omega arith, rose))

pub player-behind : {D : Type 0} (faults : D → ℕ) (inputs rest now : List D) (x y : D) → inputs ≡ x ∷ rest → now ≡ y ∷ rest → (why : JournalRefusal) → (why ≡ refusal.End ReadFailed → Rose (faults x) (faults y)) → LeavesBehind faults (unread_at 0 why) inputs now
player-behind {D} faults inputs rest now x y is is' why rose =
    subst (λ (l : List D). LeavesBehind faults (unread_at 0 why) l now) (sym is) (subst (λ (l : List D). LeavesBehind faults (unread_at 0 why) (x ∷ rest) l) (sym is') (left why rose))
  where
    left : (why : JournalRefusal) → (why ≡ refusal.End ReadFailed → Rose (faults x) (faults y)) → LeavesBehind faults (unread_at 0 why) (x ∷ rest) (y ∷ rest)
    left (refusal.End (Fault f)) rose = refl
    left (refusal.End ReadFailed) rose = (0, omega arith, rose refl, refl)
    left refusal.OutOfMemory rose = tt

pub filers-behind : {D : Type 0} (faults : D → ℕ) (inputs rest rest' now : List D) (x y : D) → inputs ≡ x ∷ rest → now ≡ y ∷ rest' → (u : Unread) → LeavesFilersBehind faults u rest rest' → LeavesBehind faults u inputs now
filers-behind {D} faults inputs rest rest' now x y is is' u why =
    subst (λ (l : List D). LeavesBehind faults u l now) (sym is) (subst (λ (l : List D). LeavesBehind faults u (x ∷ rest) l) (sym is') (left u why))
  where
    left : (u : Unread) → LeavesFilersBehind faults u rest rest' → LeavesBehind faults u (x ∷ rest) (y ∷ rest')
    left (unread.Fault place fault) (k, at, kept) = subst (λ (n : ℕ). KeepsBehind n (x ∷ rest) (y ∷ rest')) (sym at) kept
    left unread.ReadFault (k, below, rose, kept) = (suc k, omega (arith, below), rose, kept)
    left unread.OutOfMemory why = tt

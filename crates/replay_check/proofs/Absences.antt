-- A number that a later call of the player says is absent: no frame of it is accepted before.
use Rattle.std.proofs.Common.{◌≡◌, ◌≢◌, inl, inr, ◌⊎◌, ℕ, ◌+◌, ◌<◌, ◌≤◌, eqb, List, [], ◌∷◌, Option, Some, None, true, false, is_some, refl, sym, ap, ◌∙◌, subst, arith}
use native.Mathlib.Decide.{ℕ_discrete}
use mathlib.Core.Bool.{Bool, cond}
use Rattle.std.specs.Prelude.{is_none}
use Rattle.std.specs.FinMap as map
use Rattle.playout.specs.declared.reply.FileReply.TheVariants.{Accepted, Duplicate, Late, Beyond}
use Rattle.playout.specs.declared.call.Call.{Call}
use Rattle.playout.specs.declared.call.Call.TheVariants.{FileCall, SourceCall, BaseCall, PeekCall, TickCall, LookCall, HoldCall, RetireCall}
use Rattle.playout.specs.Machine.{Machine, Replies, after, passed}
use Rattle.playout.specs.History.{Entry, entry, IsLegal, calls_of, move_weight}
use Rattle.playout.specs.HeldFrames.{call-position}
use Rattle.replay_check.specs.Verdict.{Lists, AllAtMost, IsHistory}
use Rattle.replay_check.specs.Rule.{SaysAbsent, Absent, Waits, IsFilers, AllFilers, AreJournals}
use Rattle.replay_check.proofs.Frames.{get-insert_here, get-remove_else}
use Rattle.replay_check.proofs.Removed.{calls_of-head, calls_of-skip}
use Rattle.replay_check.proofs.Sooner.{Open, still}

-- one of a history's calls, from position p on, says that n is absent
abbrev pub AbsentIn : ℕ → ℕ → List Entry → Type 0
AbsentIn n p [] = ⊥
AbsentIn n p (e ∷ es) = SaysAbsent n p e.call ⊎ AbsentIn n (p + move_weight e.call) es

-- ---- what the player's list says is what the history says

-- all callers but the player are filers
abbrev pub OthersFile : ℕ → List Entry → Type 0
OthersFile filers h = (k : ℕ) → k < filers → AllFilers (calls_of k h)

tail-filers : (k : ℕ) (e : Entry) (es : List Entry) → AllFilers (calls_of k (e ∷ es)) → AllFilers (calls_of k es)
tail-filers k e es all = go (eqb e.who k) all
  where
    go : (b : Bool) → AllFilers (cond b (e.call ∷ calls_of k es) (calls_of k es)) → AllFilers (calls_of k es)
    go true all = all.1
    go false all = all

pub rest-file : (filers : ℕ) (e : Entry) (es : List Entry) → OthersFile filers (e ∷ es) → OthersFile filers es
rest-file filers e es others k below = tail-filers k e es (others k below)

pub other-files : (filers : ℕ) (e : Entry) (es : List Entry) → e.who ≤ filers → e.who ≢ filers → OthersFile filers (e ∷ es) → IsFilers e.call
other-files filers e es most apart others = let all = subst AllFilers (calls_of-head e.who e es refl) (others e.who (omega arith)) in all.0

pub filers-stay : (c : Call) → IsFilers c → move_weight c ≡ 0
filers-stay (FileCall n f reply) is = refl
filers-stay (SourceCall x held) is = refl
filers-stay (BaseCall x held) is = refl
filers-stay (PeekCall held) is = absurd is
filers-stay (TickCall item) is = absurd is
filers-stay (LookCall ahead filled) is = absurd is
filers-stay (HoldCall held) is = absurd is
filers-stay (RetireCall item) is = absurd is

filers-silent : (n p : ℕ) (c : Call) → IsFilers c → SaysAbsent n p c → ⊥
filers-silent n p (FileCall q f reply) is says = says
filers-silent n p (SourceCall x held) is says = says
filers-silent n p (BaseCall x held) is says = says
filers-silent n p (PeekCall held) is says = absurd is
filers-silent n p (TickCall item) is says = absurd is
filers-silent n p (LookCall ahead filled) is says = absurd is
filers-silent n p (HoldCall held) is says = absurd is
filers-silent n p (RetireCall item) is says = absurd is

-- a filer's call stands still
still-at : (p : ℕ) (c : Call) → IsFilers c → p + move_weight c ≡ p
still-at p c is = omega (arith, filers-stay c is)

in-history : (n p filers : ℕ) (h : List Entry) → AllAtMost filers h → OthersFile filers h → Absent n p (calls_of filers h) → AbsentIn n p h
in-history n p filers [] callers others absent = absent
in-history n p filers (e ∷ es) callers others absent = go (ℕ_discrete e.who filers) (λ q. in-history n q filers es callers.1 (rest-file filers e es others))
  where
    go : Dec (e.who ≡ filers) → ((q : ℕ) → Absent n q (calls_of filers es) → AbsentIn n q es) → AbsentIn n p (e ∷ es)
    go (yes same) ih = each (subst (Absent n p) (calls_of-head filers e es same) absent)
      where
        each : SaysAbsent n p e.call ⊎ Absent n (p + move_weight e.call) (calls_of filers es) → AbsentIn n p (e ∷ es)
        each (inl says) = inl says
        each (inr later) = inr (ih (p + move_weight e.call) later)
    go (no other) ih =
        inr (subst (λ (q : ℕ). AbsentIn n q es) (sym (still-at p e.call (other-files filers e es callers.0 other others))) (ih p (subst (Absent n p) (calls_of-skip filers e es other) absent)))

from-history : (n p filers : ℕ) (h : List Entry) → AllAtMost filers h → OthersFile filers h → AbsentIn n p h → Absent n p (calls_of filers h)
from-history n p filers [] callers others absent = absent
from-history n p filers (e ∷ es) callers others absent = go (ℕ_discrete e.who filers) absent (λ q. from-history n q filers es callers.1 (rest-file filers e es others))
  where
    go : Dec (e.who ≡ filers) → AbsentIn n p (e ∷ es) → ((q : ℕ) → AbsentIn n q es → Absent n q (calls_of filers es)) → Absent n p (calls_of filers (e ∷ es))
    go (yes same) (inl says) ih = subst (Absent n p) (sym (calls_of-head filers e es same)) (inl says)
    go (yes same) (inr later) ih = subst (Absent n p) (sym (calls_of-head filers e es same)) (inr (ih (p + move_weight e.call) later))
    go (no other) (inl says) ih = absurd (filers-silent n p e.call (other-files filers e es callers.0 other others) says)
    go (no other) (inr later) ih =
        subst (Absent n p) (sym (calls_of-skip filers e es other)) (ih p (subst (λ (q : ℕ). AbsentIn n q es) (still-at p e.call (other-files filers e es callers.0 other others)) later))

-- ---- a number that waits or is past is never absent again

abbrev Gone : ℕ → Machine → Type 0
Gone n s = (is_some (map.get s.frames n) ≡ true) ⊎ (n < s.position)

passed-gone : (n : ℕ) (s : Machine) → is_some (map.get s.frames n) ≡ true → Gone n (passed s)
passed-gone n s there = go (ℕ_discrete n s.position)
  where
    go : Dec (n ≡ s.position) → Gone n (passed s)
    go (yes same) = inr (omega arith)
    go (no other) = inl (ap is_some (get-remove_else s.frames s.position n other) ∙ there)

gone-stays : (n : ℕ) (s : Machine) (e : Call) → Gone n s → Gone n (after s e)
gone-stays n s e (inr past) = inr (omega (arith, call-position s e))
gone-stays n s (FileCall q g Accepted) (inl there) = inl (still n q g s.frames there)
gone-stays n s (FileCall q g Duplicate) (inl there) = inl there
gone-stays n s (FileCall q g (Late x)) (inl there) = inl there
gone-stays n s (FileCall q g (Beyond x)) (inl there) = inl there
gone-stays n s (SourceCall x h) (inl there) = inl there
gone-stays n s (BaseCall x h) (inl there) = inl there
gone-stays n s (PeekCall h) (inl there) = inl there
gone-stays n s (TickCall item) (inl there) = passed-gone n s there
gone-stays n s (LookCall ahead filled) (inl there) = inl there
gone-stays n s (HoldCall held) (inl there) = inl there
gone-stays n s (RetireCall item) (inl there) = passed-gone n s there

gone-look : (n ahead : ℕ) (s : Machine) → false ≡ is_some (map.get s.frames (s.position + ahead)) → Gone n s → s.position + ahead ≡ n → ⊥
gone-look n ahead s free (inl there) at = let no' : false ≡ true = free ∙ ap (λ (q : ℕ). is_some (map.get s.frames q)) at ∙ there in cc
gone-look n ahead s free (inr past) at = omega arith

free-is : (o : Option (List ℕ)) → true ≡ is_none o → false ≡ is_some o
free-is None free = refl
free-is (Some f) free = absurd (let no' : true ≡ false = free in cc)

gone-denied : (r n : ℕ) (s : Machine) (e : Call) → Replies r s e → Gone n s → SaysAbsent n s.position e → ⊥
gone-denied r n s (FileCall q g reply) a gone says = says
gone-denied r n s (SourceCall x h) a gone says = says
gone-denied r n s (BaseCall x h) a gone says = says
gone-denied r n s (PeekCall h) a gone says = says
gone-denied r n s (TickCall item) a gone says = says
gone-denied r n s (LookCall ahead true) a gone says = says
gone-denied r n s (LookCall ahead false) a gone says = gone-look n ahead s a.1 gone says
gone-denied r n s (HoldCall true) a gone says = gone-look n 0 s (subst (λ (q : ℕ). false ≡ is_some (map.get s.frames q)) (let e : s.position ≡ s.position + 0 = omega arith in e) (free-is (map.get s.frames s.position) a)) gone (omega (arith, says))
gone-denied r n s (HoldCall false) a gone says = says
gone-denied r n s (RetireCall item) a gone says = says

gone-never : (r n : ℕ) (s : Machine) (h : List Entry) → IsLegal r s h → Gone n s → AbsentIn n s.position h → ⊥
gone-never r n s [] legal gone absent = absent
gone-never r n s (e ∷ es) legal gone (inl says) = gone-denied r n s e.call legal.0 gone says
gone-never r n s (e ∷ es) legal gone (inr later) =
    gone-never r n (after s e.call) es legal.1 (gone-stays n s e.call gone) (subst (λ (p : ℕ). AbsentIn n p es) (sym (call-position s e.call)) later)

-- ---- so an accepted frame that has to wait is the first of no history, and one that need not may go first

-- in a history of the lists all callers but the player are filers
pub history-files : (r filers : ℕ) (m : Machine) (lists : Lists) (h : List Entry) → AreJournals filers lists → IsHistory r filers m lists h → OthersFile filers h
history-files r filers m lists h journals history k below = subst AllFilers (sym (history.made k (omega arith))) (journals.filer k below)

pub first-ready : (r filers : ℕ) (m : Machine) (lists : Lists) (who : ℕ) (c : Call) (es : List Entry) → AreJournals filers lists → IsHistory r filers m lists (entry who c ∷ es) → Waits filers m lists c → ⊥
first-ready r filers m lists who (FileCall n f Accepted) es journals history absent = go (in-history n m.position filers all history.callers (history-files r filers m lists all journals history) (subst (Absent n m.position) (sym (history.made filers (omega arith))) absent))
  where
    all : List Entry
    all = entry who (FileCall n f Accepted) ∷ es

    go : AbsentIn n m.position all → ⊥
    go (inl says) = says
    go (inr later) =
        gone-never r n (after m (FileCall n f Accepted)) es history.legal.1 (inl (ap is_some (get-insert_here m.frames n f))) (subst (λ (p : ℕ). AbsentIn n p es) (let e : m.position + 0 ≡ m.position = omega arith in e) later)
first-ready r filers m lists who (FileCall n f Duplicate) es journals history waits = waits
first-ready r filers m lists who (FileCall n f (Late a)) es journals history waits = waits
first-ready r filers m lists who (FileCall n f (Beyond a)) es journals history waits = waits
first-ready r filers m lists who (SourceCall x held) es journals history waits = waits
first-ready r filers m lists who (BaseCall x held) es journals history waits = waits
first-ready r filers m lists who (PeekCall held) es journals history waits = waits
first-ready r filers m lists who (TickCall item) es journals history waits = waits
first-ready r filers m lists who (LookCall ahead filled) es journals history waits = waits
first-ready r filers m lists who (HoldCall held) es journals history waits = waits
first-ready r filers m lists who (RetireCall item) es journals history waits = waits

open-silent : (n p : ℕ) (f : List ℕ) (h : List Entry) → (AbsentIn n p h → ⊥) → Open (FileCall n f Accepted) p h
open-silent n p f [] never = tt
open-silent n p f (e ∷ es) never = (λ says. never (inl says), open-silent n (p + move_weight e.call) f es (λ later. never (inr later)))

pub open-accepted : (r filers n : ℕ) (f : List ℕ) (m : Machine) (lists : Lists) (h : List Entry) → AreJournals filers lists → IsHistory r filers m lists h → (Waits filers m lists (FileCall n f Accepted) → ⊥) → Open (FileCall n f Accepted) m.position h
open-accepted r filers n f m lists h journals history ready =
    open-silent n m.position f h (λ absent. ready (subst (Absent n m.position) (history.made filers (omega arith)) (from-history n m.position filers h history.callers (history-files r filers m lists h journals history) absent)))

-- A step of the rule closes no lawful way, and where it has no step there is none.
use Rattle.std.proofs.Common.{◌≡◌, ◌≢◌, inl, inr, ℕ, ◌+◌, ◌<◌, ◌≤◌, eqb, eq-eqb, ne_eqb, List, [], ◌∷◌, Option, Some, None, is_some, refl, sym, ap, ◌∙◌, subst, arith}
use native.Mathlib.Decide.{ℕ_discrete}
use Rattle.std.proofs.lemmas.Bool.{cases_lt}
use mathlib.Core.Bool.{Bool, cond, true, false}
use Rattle.playout.specs.declared.reply.FileReply.TheVariants.{Accepted, Duplicate, Late, Beyond}
use Rattle.playout.specs.declared.call.Call.{Call}
use Rattle.playout.specs.declared.call.Call.TheVariants.{FileCall, SourceCall, BaseCall, PeekCall, TickCall, LookCall, HoldCall, RetireCall}
use Rattle.playout.specs.Machine.{Machine, opening_machine, Replies, after}
use Rattle.playout.specs.History.{Entry, entry, IsLegal, calls_of, move_weight}
use Rattle.replay_check.specs.Verdict.{Lists, AllAtMost, IsHistory, Lawful, HasOrder}
use Rattle.replay_check.specs.Rule.{RuleDecides, IsFilers, AllFilers, IsLater, AllLater, IsPlayers, AreJournals, Waits, IsNext, Can, IsQuiet, CanQuietly, IsTaken, without, Follows, NothingLeft, IsStuck, RuleIsExact}
use Rattle.replay_check.proofs.Removed.{removed, removed-own, removed-others, removed-callers, calls_of-head, calls_of-skip, same_head, same_tail, not_empty}
use Rattle.replay_check.proofs.Sooner.{Clear, Open, sooner}
use Rattle.replay_check.proofs.Absences.{OthersFile, rest-file, other-files, first-ready, open-accepted, history-files}

pub without-own : (lists : Lists) (who : ℕ) (rest : List Call) (k : ℕ) → k ≡ who → without lists who rest k ≡ rest
without-own lists who rest k same = ap (λ b. cond b rest (lists k)) (eq-eqb k who same)

pub without-others : (lists : Lists) (who : ℕ) (rest : List Call) (k : ℕ) → k ≢ who → without lists who rest k ≡ lists k
without-others lists who rest k other = ap (λ b. cond b rest (lists k)) (ne_eqb k who other)

-- a call, and then a history of what it leaves, are a history
pub history-before : (r filers : ℕ) (m : Machine) (lists : Lists) (who : ℕ) (c : Call) (rest : List Call) (h : List Entry) → who ≤ filers → IsNext r filers m lists who c rest → IsHistory r filers (after m c) (without lists who rest) h → IsHistory r filers m lists (entry who c ∷ h)
history-before r filers m lists who c rest h known next history =
    record { legal = (next.replies, history.legal); callers = (known, history.callers); made = λ k within. go k within (ℕ_discrete who k) }
  where
    go : (k : ℕ) → k ≤ filers → Dec (who ≡ k) → calls_of k (entry who c ∷ h) ≡ lists k
    go k within (yes same) = calls_of-head k (entry who c) h same ∙ ap (λ l. c ∷ l) (history.made k within ∙ without-own lists who rest k (sym same)) ∙ sym next.next ∙ ap lists same
    go k within (no other) = calls_of-skip k (entry who c) h other ∙ history.made k within ∙ without-others lists who rest k (λ is. other (sym is))

-- a call that may go first leaves a lawful way behind it
lawful-after : (r filers : ℕ) (m : Machine) (lists : Lists) (who : ℕ) (c : Call) (rest : List Call) → who ≤ filers → lists who ≡ c ∷ rest → (lawful : Lawful r filers m lists) → Open c m.position lawful.0 → Lawful r filers (after m c) (without lists who rest)
lawful-after r filers m lists who c rest known next lawful clear =
    (removed who lawful.0, record { legal = sooner r who c rest m lawful.0 lawful.1.legal own clear; callers = removed-callers who filers lawful.0 lawful.1.callers; made = λ k within. go k within (ℕ_discrete k who) })
  where
    own : calls_of who lawful.0 ≡ c ∷ rest
    own = lawful.1.made who known ∙ next

    go : (k : ℕ) → k ≤ filers → Dec (k ≡ who) → calls_of k (removed who lawful.0) ≡ without lists who rest k
    go k within (yes same) = ap (λ j. calls_of j (removed who lawful.0)) same ∙ removed-own who lawful.0 c rest own ∙ sym (without-own lists who rest k same)
    go k within (no other) = removed-others who k lawful.0 other ∙ lawful.1.made k within ∙ sym (without-others lists who rest k other)

-- the first call of a history is possible at once
first-can : (r filers : ℕ) (m : Machine) (lists : Lists) (e : Entry) (es : List Entry) → AreJournals filers lists → IsHistory r filers m lists (e ∷ es) → IsNext r filers m lists e.who e.call (calls_of e.who es)
first-can r filers m lists e es journals history =
    record { next = sym (history.made e.who history.callers.0) ∙ calls_of-head e.who e es refl; replies = history.legal.0; ready = first-ready r filers m lists e.who e.call es journals history }

-- what changes no other call's answer may go first
open-always : (c : Call) (p : ℕ) (h : List Entry) → ((q : ℕ) (e : Call) → Clear c q e) → Open c p h
open-always c p [] clear = tt
open-always c p (e ∷ es) clear = (clear p e.call, open-always c (p + move_weight e.call) es clear)

-- a held base stays, and each later peek sees it
base-stays : (s : Machine) (e : Call) → is_some s.base ≡ true → is_some (after s e).base ≡ true
base-stays s (FileCall q g Accepted) some = some
base-stays s (FileCall q g Duplicate) some = some
base-stays s (FileCall q g (Late x)) some = some
base-stays s (FileCall q g (Beyond x)) some = some
base-stays s (SourceCall x h) some = some
base-stays s (BaseCall x h) some = refl
base-stays s (PeekCall h) some = some
base-stays s (TickCall item) some = some
base-stays s (LookCall ahead filled) some = some
base-stays s (HoldCall h) some = some
base-stays s (RetireCall item) some = some

sees-some : (r : ℕ) (s : Machine) (e : Call) → is_some s.base ≡ true → Replies r s e → e ≢ PeekCall None
sees-some r s e some a is = go (subst (Replies r s) is a)
  where
    go : None ≡ s.base → ⊥
    go none = let no : false ≡ true = ap is_some none ∙ some in cc

open-held : (r x held p : ℕ) (s : Machine) (h : List Entry) → is_some s.base ≡ true → IsLegal r s h → Open (BaseCall x held) p h
open-held r x held p s [] some legal = tt
open-held r x held p s (e ∷ es) some legal = (sees-some r s e.call some legal.0, open-held r x held (p + move_weight e.call) (after s e.call) es (base-stays s e.call some) legal.1)

-- behind the peeks that saw no base no other such peek comes
later-some : (c : Call) → IsLater c → c ≢ PeekCall None
later-some c later is = subst IsLater is later

filers-some : (c : Call) → IsFilers c → c ≢ PeekCall None
filers-some c filers is = subst IsFilers is filers

tail-later : (k : ℕ) (e : Entry) (es : List Entry) → AllLater (calls_of k (e ∷ es)) → AllLater (calls_of k es)
tail-later k e es all = go (eqb e.who k) all
  where
    go : (b : Bool) → AllLater (cond b (e.call ∷ calls_of k es) (calls_of k es)) → AllLater (calls_of k es)
    go true all = all.1
    go false all = all

open-later : (x held p filers : ℕ) (h : List Entry) → AllAtMost filers h → AllLater (calls_of filers h) → OthersFile filers h → Open (BaseCall x held) p h
open-later x held p filers [] callers later others = tt
open-later x held p filers (e ∷ es) callers later others = (go (ℕ_discrete e.who filers), open-later x held (p + move_weight e.call) filers es callers.1 (tail-later filers e es later) (rest-file filers e es others))
  where
    go : Dec (e.who ≡ filers) → e.call ≢ PeekCall None
    go (yes same) = let all = subst AllLater (calls_of-head filers e es same) later in later-some e.call all.0
    go (no other) = filers-some e.call (other-files filers e es callers.0 other others)

-- a player that cannot peek, where no base is held, has only later calls
past-peeks : (r filers : ℕ) (m : Machine) (lists : Lists) (l : List Call) → lists filers ≡ l → m.base ≡ None → IsPlayers l → (CanQuietly r filers m lists → ⊥) → AllLater l
past-peeks r filers m lists [] is none players cannot = tt
past-peeks r filers m lists (c ∷ cs) is none (inl first) cannot =
    absurd (cannot (c, cs, record { next = is; replies = subst (Replies r m) (sym first.0) (sym none); ready = subst (λ (x : Call). Waits filers m lists x → ⊥) (sym first.0) (λ waits. waits) }, subst IsQuiet (sym first.0) tt))
past-peeks r filers m lists (c ∷ cs) is none (inr later) cannot = later

open-base : (r filers x held : ℕ) (m : Machine) (lists : Lists) (o : Option ℕ) → m.base ≡ o → AreJournals filers lists → (CanQuietly r filers m lists → ⊥) → (lawful : Lawful r filers m lists) → Open (BaseCall x held) m.position lawful.0
open-base r filers x held m lists None is journals cannot lawful =
    open-later x held m.position filers lawful.0 lawful.1.callers
    (subst AllLater (sym (lawful.1.made filers (omega arith))) (past-peeks r filers m lists (lists filers) refl is journals.player cannot))
    (history-files r filers m lists lawful.0 journals lawful.1)
open-base r filers x held m lists (Some z) is journals cannot lawful = open-held r x held m.position m lawful.0 (ap is_some is) lawful.1.legal

-- what a filer may have called may go first where it need not wait
open-filers : (r filers : ℕ) (m : Machine) (lists : Lists) (c : Call) → IsFilers c → (Waits filers m lists c → ⊥) → AreJournals filers lists → (CanQuietly r filers m lists → ⊥) → (lawful : Lawful r filers m lists) → Open c m.position lawful.0
open-filers r filers m lists (FileCall n f Accepted) is ready journals cannot lawful = open-accepted r filers n f m lists lawful.0 journals lawful.1 ready
open-filers r filers m lists (FileCall n f Duplicate) is ready journals cannot lawful = open-always (FileCall n f Duplicate) m.position lawful.0 (λ q e. tt)
open-filers r filers m lists (FileCall n f (Late a)) is ready journals cannot lawful = open-always (FileCall n f (Late a)) m.position lawful.0 (λ q e. tt)
open-filers r filers m lists (FileCall n f (Beyond a)) is ready journals cannot lawful = open-always (FileCall n f (Beyond a)) m.position lawful.0 (λ q e. tt)
open-filers r filers m lists (SourceCall x held) is ready journals cannot lawful = open-always (SourceCall x held) m.position lawful.0 (λ q e. tt)
open-filers r filers m lists (BaseCall x held) is ready journals cannot lawful = open-base r filers x held m lists m.base refl journals cannot lawful
open-filers r filers m lists (PeekCall held) is ready journals cannot lawful = absurd is
open-filers r filers m lists (TickCall item) is ready journals cannot lawful = absurd is
open-filers r filers m lists (LookCall ahead filled) is ready journals cannot lawful = absurd is
open-filers r filers m lists (HoldCall held) is ready journals cannot lawful = absurd is
open-filers r filers m lists (RetireCall item) is ready journals cannot lawful = absurd is

-- what takes nothing may
open-quiet : (c : Call) (p : ℕ) (h : List Entry) → IsQuiet c → Open c p h
open-quiet (FileCall n f reply) p h quiet = absurd quiet
open-quiet (SourceCall x held) p h quiet = absurd quiet
open-quiet (BaseCall x held) p h quiet = absurd quiet
open-quiet (PeekCall held) p h quiet = open-always (PeekCall held) p h (λ q e. tt)
open-quiet (TickCall item) p h quiet = absurd quiet
open-quiet (LookCall ahead filled) p h quiet = open-always (LookCall ahead filled) p h (λ q e. tt)
open-quiet (HoldCall held) p h quiet = open-always (HoldCall held) p h (λ q e. tt)
open-quiet (RetireCall item) p h quiet = absurd quiet

-- a lawful way is left behind what the rule takes
pub taken-keeps : (r filers : ℕ) (m : Machine) (lists : Lists) (who : ℕ) (c : Call) (rest : List Call) → AreJournals filers lists → IsTaken r filers m lists who → IsNext r filers m lists who c rest → Lawful r filers m lists → Lawful r filers (after m c) (without lists who rest)
taken-keeps r filers m lists who c rest journals (inl quiet) next lawful =
    let same : quiet.1.0 ≡ c = same_head (sym quiet.1.2.next ∙ ap lists (sym quiet.0) ∙ next.next) in
    lawful-after r filers m lists who c rest (omega (arith, quiet.0)) next.next lawful (open-quiet c m.position lawful.0 (subst IsQuiet same quiet.1.3))
taken-keeps r filers m lists who c rest journals (inr (inl filer)) next lawful =
    let below : who < filers = filer.0 in
    let all = subst AllFilers next.next (journals.filer who below) in
    lawful-after r filers m lists who c rest (omega arith) next.next lawful (open-filers r filers m lists c all.0 next.ready journals filer.1 lawful)
taken-keeps r filers m lists who c rest journals (inr (inr player)) next lawful = go lawful.0 lawful.1
  where
    go : (h : List Entry) → IsHistory r filers m lists h → Lawful r filers (after m c) (without lists who rest)
    go [] history = absurd (not_empty (history.made who (omega (arith, player.0)) ∙ next.next))
    go (e ∷ es) history = at (ℕ_discrete e.who filers)
      where
        can : IsNext r filers m lists e.who e.call (calls_of e.who es)
        can = first-can r filers m lists e es journals history

        at : Dec (e.who ≡ filers) → Lawful r filers (after m c) (without lists who rest)
        at (no other) = let most : e.who ≤ filers = history.callers.0 in absurd (player.3 e.who (omega arith) (e.call, calls_of e.who es, can))
        at (yes same) =
            let own : e.who ≡ who = same ∙ sym player.0 in
            let first : e.call ≡ c = same_head (sym can.next ∙ ap lists own ∙ next.next) in
            (es, record { legal = subst (λ x. IsLegal r (after m x) es) first history.legal.1; callers = history.callers.1; made = λ k within. each own k within (ℕ_discrete k who) })
          where
            each : e.who ≡ who → (k : ℕ) → k ≤ filers → Dec (k ≡ who) → calls_of k es ≡ without lists who rest k
            each own k within (yes is) = ap (λ j. calls_of j es) (is ∙ sym own) ∙ same_tail (sym can.next ∙ ap lists own ∙ next.next) ∙ sym (without-own lists who rest k is)
            each own k within (no other) = sym (calls_of-skip k e es (λ t. other (sym t ∙ own))) ∙ history.made k within ∙ sym (without-others lists who rest k other)

-- with no possible call all lists of a lawful way are empty
pub stuck-done : (r filers : ℕ) (m : Machine) (lists : Lists) → AreJournals filers lists → ((k : ℕ) → k ≤ filers → Can r filers m lists k → ⊥) → Lawful r filers m lists → NothingLeft filers m lists
stuck-done r filers m lists journals none lawful = go lawful.0 lawful.1
  where
    go : (h : List Entry) → IsHistory r filers m lists h → NothingLeft filers m lists
    go [] history k within = sym (history.made k within)
    go (e ∷ es) history k within = absurd (none e.who history.callers.0 (e.call, calls_of e.who es, first-can r filers m lists e es journals history))

-- lists of journals stay so when one gets shorter
pub rest-players : (c : Call) (rest : List Call) → IsPlayers (c ∷ rest) → IsPlayers rest
rest-players c rest (inl first) = first.1
rest-players c [] (inr later) = tt
rest-players c (d ∷ rest) (inr later) = inr later.1

pub journals-after : (r filers : ℕ) (m : Machine) (lists : Lists) (who : ℕ) (c : Call) (rest : List Call) → IsNext r filers m lists who c rest → AreJournals filers lists → AreJournals filers (without lists who rest)
journals-after r filers m lists who c rest next journals = record { filer = λ k below. own k below (ℕ_discrete k who); player = last (ℕ_discrete filers who) }
  where
    own : (k : ℕ) → k < filers → Dec (k ≡ who) → AllFilers (without lists who rest k)
    own k below (yes same) = let all = subst AllFilers (ap lists same ∙ next.next) (journals.filer k below) in subst AllFilers (sym (without-own lists who rest k same)) all.1
    own k below (no other) = subst AllFilers (sym (without-others lists who rest k other)) (journals.filer k below)

    last : Dec (filers ≡ who) → IsPlayers (without lists who rest filers)
    last (yes same) = subst IsPlayers (sym (without-own lists who rest filers same)) (rest-players c rest (subst IsPlayers (ap lists same ∙ next.next) journals.player))
    last (no other) = subst IsPlayers (sym (without-others lists who rest filers other)) journals.player

pub taken-known : (r filers : ℕ) (m : Machine) (lists : Lists) (who : ℕ) → IsTaken r filers m lists who → who ≤ filers
taken-known r filers m lists who (inl quiet) = omega (arith, quiet.0)
taken-known r filers m lists who (inr (inl filer)) = let below : who < filers = filer.0 in omega arith
taken-known r filers m lists who (inr (inr player)) = omega (arith, player.0)

pub follows-lawful : (r filers : ℕ) (m : Machine) (lists : Lists) (order : List ℕ) → Follows r filers m lists order (NothingLeft filers) → HasOrder r filers m lists order
follows-lawful r filers m lists [] nothing = ([], record { legal = tt; callers = tt; made = λ k within. sym (nothing k within) }, refl)
follows-lawful r filers m lists (who ∷ order) follows =
    let step = follows.1 in
    let way = follows-lawful r filers (after m step.0) (without lists who step.1) order step.3 in
    (entry who step.0 ∷ way.0, history-before r filers m lists who step.0 step.1 way.0 (taken-known r filers m lists who follows.0) step.2 way.1, ap (λ (l : List ℕ). who ∷ l) way.2)

pub follows-unlawful : (r filers : ℕ) (all : Lists) (caller place : ℕ) (m : Machine) (lists : Lists) (order : List ℕ) → AreJournals filers lists → Follows r filers m lists order (IsStuck r filers all caller place) → Lawful r filers m lists → ⊥
follows-unlawful r filers all caller place m lists [] journals stuck lawful = stuck.some (stuck-done r filers m lists journals stuck.none lawful caller stuck.known)
follows-unlawful r filers all caller place m lists (who ∷ order) journals follows lawful =
    let step = follows.1 in
    follows-unlawful r filers all caller place (after m step.0) (without lists who step.1) order (journals-after r filers m lists who step.0 step.1 step.2 journals) step.3
    (taken-keeps r filers m lists who step.0 step.1 journals follows.0 step.2 lawful)

pub exact : RuleIsExact
exact r filers lists order journals = (follows-lawful r filers opening_machine lists order, λ caller place. follows-unlawful r filers lists caller place opening_machine lists order journals)

-- no two callers are taken by the rule at one point
pub decides : RuleDecides
decides r filers m lists one two (inl a) (inl b) = a.0 ∙ sym b.0
decides r filers m lists one two (inl a) (inr (inl b)) = absurd (b.1 a.1)
decides r filers m lists one two (inl a) (inr (inr b)) = absurd (b.1 a.1)
decides r filers m lists one two (inr (inl a)) (inl b) = absurd (a.1 b.1)
decides r filers m lists one two (inr (inl a)) (inr (inl b)) = go (ℕ_discrete one two)
  where
    go : Dec (one ≡ two) → one ≡ two
    go (yes same) = same
    go (no other) = elim (cases_lt one two) [
      | inl less ↦ absurd (b.3 one less a.2)
      | inr most ↦ let less : two < one = omega arith in absurd (a.3 two less b.2)
    ]
decides r filers m lists one two (inr (inl a)) (inr (inr b)) = absurd (b.3 one a.0 a.2)
decides r filers m lists one two (inr (inr a)) (inl b) = absurd (a.1 b.1)
decides r filers m lists one two (inr (inr a)) (inr (inl b)) = absurd (a.3 two b.0 b.2)
decides r filers m lists one two (inr (inr a)) (inr (inr b)) = a.0 ∙ sym b.0

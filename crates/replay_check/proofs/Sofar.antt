-- What the loop that follows the rule keeps.
use Rattle.std.proofs.Common.{◌≡◌, ◌≢◌, ℕ, zero, suc, ◌+◌, ◌<◌, ◌≤◌, List, [], ◌∷◌, ◌++◌, length, drop, take, set, slice_index, Some, None, refl, sym, ap, ◌∙◌, subst, inl, inr, arith, ◌^◌, get_or-set_other, get_or-set_same}
use native.Mathlib.Decide.{ℕ_discrete}
use Rattle.playout.specs.declared.reply.FileReply.{FileReply}
use Rattle.playout.specs.declared.call.Call.{Call}
use Rattle.playout.specs.declared.call.Call.TheVariants.{FileCall, SourceCall, BaseCall, PeekCall, TickCall, LookCall, HoldCall, RetireCall}
use Rattle.replay_check.specs.Making.{IsMakeable}
use Rattle.playout.specs.Machine.{Machine, opening_machine, after}
use Rattle.playout.specs.History.{moves, move_weight}
use Rattle.playout.specs.HeldFrames.{call-position}
use Rattle.replay_check.specs.Verdict.{Lists, Lawful, HasOrder}
use Rattle.replay_check.specs.Rule.{IsNext, Can, IsTaken, without, Follows, NothingLeft, IsStuck, AreJournals, IsFilers, AllFilers, IsPlayers}
use Rattle.recorder.specs.Journals.{FilerRecord, PlayerRecord}
use Rattle.replay_check.specs.Journals.{filer_calls, journal_lists, plays_in}
use Rattle.replay_check.specs.Denials.{number_at}
use Rattle.replay_check.specs.Lists.{left_of, count_left, first_of}
use Rattle.replay_check.proofs.Absences.{filers-stay}
use Rattle.replay_check.proofs.Denied.{moves-few, moves-more, take-more}
use Rattle.replay_check.proofs.Removed.{same_tail, not_empty}
use Rattle.replay_check.proofs.Greedy.{without-own, without-others, follows-lawful, follows-unlawful, rest-players}

abbrev pub At : Machine → Lists → Machine → Lists → Type 0
At a b m lists = (m ≡ a) × (lists ≡ b)

pub record Sofar (r filers : ℕ) (lists : Lists) (m : Machine) (at order : List ℕ) : Type 0 where
  pub follows : Follows r filers opening_machine lists order (At m (left_of lists at))
  pub within : (k : ℕ) → slice_index at k ≤ length (lists k)

abbrev Takes : ℕ → ℕ → ℕ → (Machine → Lists → Type 0) → Machine → Lists → Type 0
Takes r filers who end m lists = Follows r filers m lists (who ∷ []) end

follows-snoc : (r filers : ℕ) (m : Machine) (lists : Lists) (order : List ℕ) (a : Machine) (b : Lists) (who : ℕ) (end : Machine → Lists → Type 0) → Follows r filers m lists order (At a b) → Takes r filers who end a b → Follows r filers m lists (order ++ who ∷ []) end
follows-snoc r filers m lists [] a b who end at taken = subst (λ (x : Machine). Takes r filers who end x lists) (sym at.0) (subst (λ (y : Lists). Takes r filers who end a y) (sym at.1) taken)
follows-snoc r filers m lists (k ∷ order) a b who end f taken = (f.0, (f.1.0, f.1.1, f.1.2, follows-snoc r filers (after m f.1.0) (without lists k f.1.1) order a b who end f.1.3 taken))

pub follows-end : (r filers : ℕ) (m : Machine) (lists : Lists) (order : List ℕ) (a : Machine) (b : Lists) (end : Machine → Lists → Type 0) → Follows r filers m lists order (At a b) → end a b → Follows r filers m lists order end
follows-end r filers m lists [] a b end at here = subst (λ (x : Machine). end x lists) (sym at.0) (subst (λ (y : Lists). end a y) (sym at.1) here)
follows-end r filers m lists (k ∷ order) a b end f here = (f.0, (f.1.0, f.1.1, f.1.2, follows-end r filers (after m f.1.0) (without lists k f.1.1) order a b end f.1.3 here))

drop-tail : (l : List Call) (a : ℕ) (c : Call) (rest : List Call) → drop a l ≡ c ∷ rest → drop (a + 1) l ≡ rest
drop-tail [] zero c rest is = absurd (not_empty is)
drop-tail [] (suc a) c rest is = absurd (not_empty is)
drop-tail (x ∷ l) zero c rest is = same_tail is
drop-tail (x ∷ l) (suc a) c rest is = ap (λ n. drop n (x ∷ l)) (let e : suc a + 1 ≡ suc (a + 1) = omega arith in e) ∙ drop-tail l a c rest is

drop-within : (l : List Call) (a : ℕ) (c : Call) (rest : List Call) → drop a l ≡ c ∷ rest → a + 1 ≤ length l
drop-within [] zero c rest is = absurd (not_empty is)
drop-within [] (suc a) c rest is = absurd (not_empty is)
drop-within (x ∷ l) zero c rest is = omega arith
drop-within (x ∷ l) (suc a) c rest is = let ih = drop-within l a c rest is in omega arith

moved-at : (lists : Lists) (at : List ℕ) (who : ℕ) (c : Call) (rest : List Call) → who < length at → left_of lists at who ≡ c ∷ rest → (k : ℕ) → without (left_of lists at) who rest k ≡ left_of lists (set at who (slice_index at who + 1)) k
moved-at lists at who c rest below is k = go (ℕ_discrete k who)
  where
    go : Dec (k ≡ who) → without (left_of lists at) who rest k ≡ left_of lists (set at who (slice_index at who + 1)) k
    go (yes same) =
        without-own (left_of lists at) who rest k same ∙ sym (drop-tail (lists who) (slice_index at who) c rest is)
        ∙ ap (λ n. drop n (lists who)) (sym (get_or-set_same at who (slice_index at who + 1) 0 below)) ∙ ap (left_of lists (set at who (slice_index at who + 1))) (sym same)
    go (no other) = without-others (left_of lists at) who rest k other ∙ ap (λ n. drop n (lists k)) (sym (get_or-set_other at who k (slice_index at who + 1) 0 other))

pub sofar-more : (r filers : ℕ) (lists : Lists) (m : Machine) (at order : List ℕ) (who : ℕ) (c : Call) (rest : List Call) → who < length at → Sofar r filers lists m at order → IsTaken r filers m (left_of lists at) who → IsNext r filers m (left_of lists at) who c rest
    → Sofar r filers lists (after m c) (set at who (slice_index at who + 1)) (order ++ who ∷ [])
sofar-more r filers lists m at order who c rest below sofar taken next = record {
  follows = follows-snoc r filers opening_machine lists order m (left_of lists at) who (At (after m c) (left_of lists (set at who (slice_index at who + 1)))) sofar.follows (taken, (c, rest, next, (refl, λ i k. moved-at lists at who c rest below next.next k i)));
  within = λ k. go k (ℕ_discrete k who);
}
  where
    go : (k : ℕ) → Dec (k ≡ who) → slice_index (set at who (slice_index at who + 1)) k ≤ length (lists k)
    go k (yes same) = subst (λ n. slice_index (set at who (slice_index at who + 1)) n ≤ length (lists n)) (sym same) (subst (λ n. n ≤ length (lists who)) (sym (get_or-set_same at who (slice_index at who + 1) 0 below)) (drop-within (lists who) (slice_index at who) c rest next.next))
    go k (no other) = subst (λ n. n ≤ length (lists k)) (sym (get_or-set_other at who k (slice_index at who + 1) 0 other)) (sofar.within k)

-- each step leaves fewer calls
pub fewer_left : (fs : List FilerRecord) (p : PlayerRecord) (at : List ℕ) (who : ℕ) (c : Call) (rest : List Call) → who < length at → left_of (journal_lists fs p) at who ≡ c ∷ rest → count_left fs p (set at who (slice_index at who + 1)) < count_left fs p at
fewer_left fs p [] who c rest below is = absurd (omega arith)
fewer_left [] p (a ∷ at) zero c rest below is = let w = drop-within (plays_in p.events) a c rest is in omega arith
fewer_left [] p (a ∷ at) (suc who) c rest below is = absurd (none (slice_index at who) is)
  where
    none : (n : ℕ) → drop n [] ≡ c ∷ rest → ⊥
    none zero is = not_empty is
    none (suc n) is = not_empty is
fewer_left (f ∷ fs) p (a ∷ at) zero c rest below is = let w = drop-within (filer_calls f) a c rest is in omega arith
fewer_left (f ∷ fs) p (a ∷ at) (suc who) c rest below is = let ih = fewer_left fs p at who c rest (omega arith) is in omega arith

pub fewer_step : (fs : List FilerRecord) (p : PlayerRecord) (at : List ℕ) (who n : ℕ) (c : Call) (rest : List Call) → who < length at → n ≡ slice_index at who → left_of (journal_lists fs p) at who ≡ c ∷ rest → count_left fs p (set at who (n + 1)) < count_left fs p at
fewer_step fs p at who n c rest below value is = subst (λ k. count_left fs p (set at who (k + 1)) < count_left fs p at) (sym value) (fewer_left fs p at who c rest below is)

pub room_step : (lists : Lists) (at : List ℕ) (who n : ℕ) (c : Call) (rest : List Call) → n ≡ slice_index at who → left_of lists at who ≡ c ∷ rest → n + 1 ≤ length (lists who)
room_step lists at who n c rest value is = let w = drop-within (lists who) (slice_index at who) c rest is in omega (arith, value)

pub sofar-step : (r q filers : ℕ) (lists : Lists) (m m' : Machine) (at order order' : List ℕ) (who n : ℕ) (c : Call) (rest : List Call) → q ≡ r → who < length at → Sofar r filers lists m at order → IsTaken q filers m (left_of lists at) who → IsNext q filers m (left_of lists at) who c rest
    → n ≡ slice_index at who → m' ≡ after m c → order' ≡ order ++ who ∷ [] → Sofar r filers lists m' (set at who (n + 1)) order'
sofar-step r q filers lists m m' at order order' who n c rest same below sofar taken next value made longer =
    subst (λ (o : List ℕ). Sofar r filers lists m' (set at who (n + 1)) o) (sym longer)
    (subst (λ (x : Machine). Sofar r filers lists x (set at who (n + 1)) (order ++ who ∷ [])) (sym made)
    (subst (λ (k : ℕ). Sofar r filers lists (after m c) (set at who (k + 1)) (order ++ who ∷ [])) (sym value)
    (sofar-more r filers lists m at order who c rest below sofar (subst (λ k. IsTaken k filers m (left_of lists at) who) same taken) (subst (λ k. IsNext k filers m (left_of lists at) who c rest) same next))))

length-drop_at : (l : List Call) (a : ℕ) → a ≤ length l → a + length (drop a l) ≡ length l
length-drop_at l zero le = omega arith
length-drop_at [] (suc a) le = absurd (omega arith)
length-drop_at (x ∷ l) (suc a) le = let ih = length-drop_at l a (omega arith) in omega arith

drop-some : (l : List Call) (a : ℕ) → a < length l → drop a l ≢ []
drop-some [] a less is = omega arith
drop-some (x ∷ l) zero less is = not_empty (sym is)
drop-some (x ∷ l) (suc a) less is = drop-some l a (omega arith) is

pub drop-past : (l : List Call) (a : ℕ) → length l ≤ a → drop a l ≡ []
drop-past [] zero le = refl
drop-past [] (suc a) le = refl
drop-past (x ∷ l) zero le = absurd (omega arith)
drop-past (x ∷ l) (suc a) le = drop-past l a (omega arith)

pub illegal : (r q filers : ℕ) (lists : Lists) (m : Machine) (at order : List ℕ) (who place : ℕ) → q ≡ r → Sofar r filers lists m at order → AreJournals filers lists → ((k : ℕ) → k < filers + 1 → Can q filers m (left_of lists at) k → ⊥)
    → who ≤ filers → ((k : ℕ) → k < who → left_of lists at k ≡ []) → place ≡ slice_index at who → place < length (lists who)
    → (Lawful r filers opening_machine lists → ⊥) × ((steps : List ℕ) × Follows r filers opening_machine lists steps (IsStuck r filers lists who place))
illegal r q filers lists m at order who place same sofar journals none known first value less =
    (follows-unlawful r filers lists who place opening_machine lists order journals stuck, (order, stuck))
  where
    stuck : Follows r filers opening_machine lists order (IsStuck r filers lists who place)
    stuck = follows-end r filers opening_machine lists order m (left_of lists at) (IsStuck r filers lists who place) sofar.follows (record {
      none = λ k within can. none k (omega arith) (subst (λ j. Can j filers m (left_of lists at) k) (sym same) can);
      known = known;
      some = drop-some (lists who) (slice_index at who) (omega (arith, value));
      first = first;
      counted = let w = sofar.within who in let e = length-drop_at (lists who) (slice_index at who) w in omega (arith, value);
    })

pub legal : (r filers : ℕ) (lists : Lists) (m : Machine) (at order : List ℕ) → Sofar r filers lists m at order → ((k : ℕ) → k < filers + 1 → left_of lists at k ≡ [])
    → HasOrder r filers opening_machine lists order × Follows r filers opening_machine lists order (NothingLeft filers)
legal r filers lists m at order sofar nothing = (follows-lawful r filers opening_machine lists order done, done)
  where
    done : Follows r filers opening_machine lists order (NothingLeft filers)
    done = follows-end r filers opening_machine lists order m (left_of lists at) (NothingLeft filers) sofar.follows (λ k within. nothing k (omega arith))

-- the choice was made from the same places
pub pick-at : (q filers : ℕ) (m : Machine) (lists : Lists) (seen at : List ℕ) (who : ℕ) (c : Call) → seen ≡ at → IsTaken q filers m (left_of lists seen) who × ((rest : List Call) × IsNext q filers m (left_of lists seen) who c rest)
    → IsTaken q filers m (left_of lists at) who × ((rest : List Call) × IsNext q filers m (left_of lists at) who c rest)
pick-at q filers m lists seen at who c same p = subst (λ (a : List ℕ). IsTaken q filers m (left_of lists a) who × ((rest : List Call) × IsNext q filers m (left_of lists a) who c rest)) same p

pub illegal-at : (r q filers : ℕ) (lists : Lists) (m : Machine) (seen places at order : List ℕ) (who : ℕ) → q ≡ r → seen ≡ at → places ≡ at → Sofar r filers lists m at order → AreJournals filers lists → ((k : ℕ) → k < filers + 1 → Can q filers m (left_of lists seen) k → ⊥)
    → who ≤ filers → ((k : ℕ) → k < who → left_of lists places k ≡ []) → slice_index places who < length (lists who)
    → (Lawful r filers opening_machine lists → ⊥) × ((steps : List ℕ) × Follows r filers opening_machine lists steps (IsStuck r filers lists who (slice_index places who)))
illegal-at r q filers lists m seen places at order who same is in_places sofar journals none known first less =
    illegal r q filers lists m at order who (slice_index places who) same sofar journals (λ k below can. none k below (subst (λ (a : List ℕ). Can q filers m (left_of lists a) k) (sym is) can)) known
    (λ k below. subst (λ (a : List ℕ). left_of lists a k ≡ []) in_places (first k below)) (ap (λ (a : List ℕ). slice_index a who) in_places) less

pub legal-at : (r filers : ℕ) (lists : Lists) (m : Machine) (places at order : List ℕ) → places ≡ at → Sofar r filers lists m at order → ((k : ℕ) → k < filers + 1 → left_of lists places k ≡ [])
    → HasOrder r filers opening_machine lists order × Follows r filers opening_machine lists order (NothingLeft filers)
legal-at r filers lists m places at order in_places sofar nothing = legal r filers lists m at order sofar (λ k below. subst (λ (a : List ℕ). left_of lists a k ≡ []) in_places (nothing k below))

-- ---- what the line asks

all-drop : (l : List Call) (a : ℕ) → AllFilers l → AllFilers (drop a l)
all-drop l zero all = all
all-drop [] (suc a) all = tt
all-drop (x ∷ l) (suc a) all = all-drop l a all.1

players-drop : (l : List Call) (a : ℕ) → IsPlayers l → IsPlayers (drop a l)
players-drop l zero players = players
players-drop [] (suc a) players = tt
players-drop (x ∷ l) (suc a) players = players-drop l a (rest-players x l players)

-- the player files nothing
no-file : (n : ℕ) (f : List ℕ) (reply : FileReply) (rest : List Call) → IsPlayers (FileCall n f reply ∷ rest) → ⊥
no-file n f reply rest (inl first) = absurd (let no' : FileCall n f reply ≡ PeekCall None = first.0 in cc)
no-file n f reply rest (inr later) = later.0

filers-next : (filers : ℕ) (lists : Lists) (at : List ℕ) (who : ℕ) (c : Call) (rest : List Call) → AreJournals filers lists → who < filers → left_of lists at who ≡ c ∷ rest → IsFilers c
filers-next filers lists at who c rest journals below is = let all = subst AllFilers is (all-drop (lists who) (slice_index at who) (journals.filer who below)) in all.0

-- a call that is next can be made
pub makeable : (filers : ℕ) (lists : Lists) (at : List ℕ) (who position : ℕ) (c : Call) (rest : List Call) → AreJournals filers lists → who ≤ filers → left_of lists at who ≡ c ∷ rest
    → position ≤ 4294967296 + slice_index at filers → slice_index at filers ≤ length (lists filers) → length (lists filers) ≤ 16777216 → IsMakeable position c
makeable filers lists at who position (FileCall n f reply) rest journals known is far within short = go (ℕ_discrete who filers)
  where
    go : Dec (who ≡ filers) → n < 2 ^ 47
    go (yes same) = absurd (no-file n f reply rest (subst IsPlayers is (players-drop (lists who) (slice_index at who) (subst (λ (k : ℕ). IsPlayers (lists k)) (sym same) journals.player))))
    go (no other) = filers-next filers lists at who (FileCall n f reply) rest journals (omega arith) is
makeable filers lists at who position (SourceCall x held) rest journals known is far within short = tt
makeable filers lists at who position (BaseCall x held) rest journals known is far within short = tt
makeable filers lists at who position (PeekCall held) rest journals known is far within short = tt
makeable filers lists at who position (TickCall item) rest journals known is far within short = omega arith
makeable filers lists at who position (LookCall ahead filled) rest journals known is far within short = tt
makeable filers lists at who position (HoldCall held) rest journals known is far within short = tt
makeable filers lists at who position (RetireCall item) rest journals known is far within short = omega arith

-- where so many of the player's calls were taken, at most so many of them moved on
pub far_at : (plays : List Call) (n position : ℕ) → position ≡ number_at plays n → position ≤ 4294967296 + n
far_at plays n position is = omega (arith, is, moves-few plays n)

-- the line stands at the number of the player's next tick or retire
pub here-more : (filers : ℕ) (lists : Lists) (plays : List Call) (m m' : Machine) (at : List ℕ) (who n : ℕ) (c : Call) (rest : List Call) → lists filers ≡ plays → AreJournals filers lists → who ≤ filers → who < length at → left_of lists at who ≡ c ∷ rest
    → n ≡ slice_index at who → m' ≡ after m c → m.position ≡ number_at plays (slice_index at filers) → m'.position ≡ number_at plays (slice_index (set at who (n + 1)) filers)
here-more filers lists plays m m' at who n c rest own journals known below is value made here = go (ℕ_discrete who filers)
  where
    position : m'.position ≡ m.position + move_weight c
    position = ap (λ (x : Machine). x.position) made ∙ call-position m c

    go : Dec (who ≡ filers) → m'.position ≡ number_at plays (slice_index (set at who (n + 1)) filers)
    go (yes same) =
        let moved : slice_index (set at who (n + 1)) filers ≡ n + 1 = ap (λ (k : ℕ). slice_index (set at who (n + 1)) k) (sym same) ∙ get_or-set_same at who (n + 1) 0 below in
        let there : slice_index at filers ≡ n = ap (slice_index at) (sym same) ∙ sym value in
        let next : Some c ≡ first_of (drop n plays) = ap first_of (sym is ∙ (λ i. drop (sym value i) ((ap lists same ∙ own) i))) in
        let more : moves (take (n + 1) plays) ≡ moves (take n plays) + move_weight c = ap moves (take-more plays n c next) ∙ moves-more (take n plays) c in
        omega (arith, position, here, more, ap (number_at plays) moved, ap (number_at plays) there)
    go (no other) =
        let stays : slice_index (set at who (n + 1)) filers ≡ slice_index at filers = get_or-set_other at who filers (n + 1) 0 (λ t. other (sym t)) in
        let weight = filers-stay c (filers-next filers lists at who c rest journals (omega arith) is) in
        omega (arith, position, here, weight, ap (number_at plays) stays)

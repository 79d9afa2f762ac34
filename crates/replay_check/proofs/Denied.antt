-- Which numbers the first calls of the player say are absent, and one call more.
use Rattle.std.proofs.Common.{◌≡◌, inl, inr, ◌⊎◌, ◌↔◌, ℕ, zero, suc, ◌+◌, ◌-◌, ◌<◌, ◌≤◌, ◌^◌, nat_lt, IsTrue, Bool, true, false, List, [], ◌∷◌, ◌++◌, length, take, drop, set, get_or, slice_index, replicate, Some, None, refl, sym, ap, ◌∙◌, subst, arith, get_or-set_other, get_or-set_same, length-set, length-append}
use native.Mathlib.Decide.{ℕ_discrete}
use Rattle.std.proofs.lemmas.Bool.{cases_lt}
use Rattle.std.proofs.lemmas.Bool.Decides.{Decides-ltb}
use Rattle.std.proofs.Math.Pow.{pow_mono}
use Rattle.playout.specs.declared.reply.FileReply.{FileReply}
use Rattle.playout.specs.declared.reply.FileReply.TheVariants.{Accepted}
use Rattle.playout.specs.declared.call.Call.{Call}
use Rattle.playout.specs.declared.call.Call.TheVariants.{FileCall, SourceCall, BaseCall, PeekCall, TickCall, LookCall, HoldCall, RetireCall}
use Rattle.playout.specs.Line.{Line}
use Rattle.playout.specs.Machine.{start}
use Rattle.playout.specs.History.{moves, move_weight}
use Rattle.recorder.specs.declared.events.PlayEvent.{PlayEvent}
use Rattle.recorder.specs.declared.events.PlayEvent.TheVariants as play
use Rattle.recorder.specs.Journals.{PlayerRecord, PlayerRecordFits}
use Rattle.recorder.specs.Play.{AllPlayFit, PlayFits, may_open}
use Rattle.replay_check.specs.Rule.{Absent, SaysAbsent, Waits}
use Rattle.replay_check.specs.Denials.{AreDenials, IsDenied, LooksWithin, denials_with, number_at}
use Rattle.replay_check.specs.Journals.{play_of, plays_in}
use Rattle.replay_check.specs.Lists.{Recording, first_of, left_of, list_of}
use Rattle.replay_check.specs.Picks.{IsHere}
use Rattle.replay_check.proofs.Recordings.{list-player}

-- ---- the calls before a place and those from it on

pub moves-split : (cs : List Call) (k : ℕ) → moves (take k cs) + moves (drop k cs) ≡ moves cs
moves-split cs zero = omega arith
moves-split [] (suc k) = omega arith
moves-split (c ∷ cs) (suc k) = omega (arith, moves-split cs k)

pub one-move : (c : Call) → move_weight c ≤ 1
one-move (FileCall n f reply) = omega arith
one-move (SourceCall x held) = omega arith
one-move (BaseCall x held) = omega arith
one-move (PeekCall held) = omega arith
one-move (TickCall item) = omega arith
one-move (LookCall ahead filled) = omega arith
one-move (HoldCall held) = omega arith
one-move (RetireCall item) = omega arith

pub moves-few : (cs : List Call) (k : ℕ) → moves (take k cs) ≤ k
moves-few cs zero = omega arith
moves-few [] (suc k) = omega arith
moves-few (c ∷ cs) (suc k) = omega (arith, one-move c, moves-few cs k)

none-first : (c : Call) (i : ℕ) → Some c ≡ first_of (drop i []) → ⊥
none-first c zero is = let no' : Some c ≡ None = is in cc
none-first c (suc i) is = let no' : Some c ≡ None = is in cc

pub take-more : (cs : List Call) (i : ℕ) (c : Call) → Some c ≡ first_of (drop i cs) → take (i + 1) cs ≡ take i cs ++ c ∷ []
take-more [] i c is = absurd (none-first c i is)
take-more (x ∷ cs) zero c is = ap (λ (y : Call). y ∷ []) (let same : Some x ≡ Some c = sym is in cc)
take-more (x ∷ cs) (suc i) c is = ap (λ (n : ℕ). take n (x ∷ cs)) (let e : suc i + 1 ≡ suc (i + 1) = omega arith in e) ∙ ap (λ (l : List Call). x ∷ l) (take-more cs i c is)

pub moves-more : (cs : List Call) (c : Call) → moves (cs ++ c ∷ []) ≡ moves cs + move_weight c
moves-more [] c = omega arith
moves-more (x ∷ cs) c = omega (arith, moves-more cs c)

-- ---- one call more

absent-some : (n p : ℕ) (c : Call) → SaysAbsent n p c ⊎ ⊥ → SaysAbsent n p c
absent-some n p c (inl says) = says
absent-some n p c (inr no') = absurd no'

absent-keeps : (n p : ℕ) (ds : List Call) (c : Call) → Absent n p ds → Absent n p (ds ++ c ∷ [])
absent-keeps n p [] c absent = absurd absent
absent-keeps n p (d ∷ ds) c (inl says) = inl says
absent-keeps n p (d ∷ ds) c (inr later) = inr (absent-keeps n (p + move_weight d) ds c later)

absent-says : (n p q : ℕ) (ds : List Call) (c : Call) → q ≡ p + moves ds → SaysAbsent n q c → Absent n p (ds ++ c ∷ [])
absent-says n p q [] c at says = inl (subst (λ (k : ℕ). SaysAbsent n k c) (let e : q ≡ p = omega (arith, at) in e) says)
absent-says n p q (d ∷ ds) c at says = inr (absent-says n (p + move_weight d) q ds c (omega (arith, at)) says)

absent-splits : (n p q : ℕ) (ds : List Call) (c : Call) → q ≡ p + moves ds → Absent n p (ds ++ c ∷ []) → Absent n p ds ⊎ SaysAbsent n q c
absent-splits n p q [] c at absent = inr (subst (λ (k : ℕ). SaysAbsent n k c) (let e : p ≡ q = omega (arith, at) in e) (absent-some n p c absent))
absent-splits n p q (d ∷ ds) c at (inl says) = inl (inl says)
absent-splits n p q (d ∷ ds) c at (inr later) = go (absent-splits n (p + move_weight d) q ds c (omega (arith, at)) later)
  where
    go : Absent n (p + move_weight d) ds ⊎ SaysAbsent n q c → Absent n p (d ∷ ds) ⊎ SaysAbsent n q c
    go (inl before) = inl (inr before)
    go (inr says) = inr says

front-more : (cs : List Call) (c : Call) (k : ℕ) → k ≤ length cs → (take k (cs ++ c ∷ []) ≡ take k cs) × (drop k (cs ++ c ∷ []) ≡ drop k cs ++ c ∷ [])
front-more cs c zero le = (refl, refl)
front-more [] c (suc k) le = absurd (omega arith)
front-more (x ∷ cs) c (suc k) le = let ih = front-more cs c k (omega arith) in (ap (λ (l : List Call). x ∷ l) ih.0, ih.1)

none-behind : (cs : List Call) (n k : ℕ) → length cs ≤ k → IsDenied cs n k → ⊥
none-behind cs n k past denied = subst (Absent n (number_at cs k)) (gone cs k past) denied
  where
    gone : (cs : List Call) (k : ℕ) → length cs ≤ k → drop k cs ≡ []
    gone [] zero le = refl
    gone [] (suc k) le = refl
    gone (x ∷ cs) zero le = absurd (omega arith)
    gone (x ∷ cs) (suc k) le = gone cs k (omega arith)

module _ (cs : List Call) (c : Call) (n k : ℕ) (le : k ≤ length cs) where
  front : take k (cs ++ c ∷ []) ≡ take k cs
  front = (front-more cs c k le).0

  here : start + moves cs ≡ number_at cs k + moves (drop k cs)
  here = omega (arith, moves-split cs k)

  whole : Absent n (number_at cs k) (drop k cs ++ c ∷ []) ≡ IsDenied (cs ++ c ∷ []) n k
  whole = λ i. Absent n (start + moves (sym front i)) (sym (front-more cs c k le).1 i)

  denied-keeps : IsDenied cs n k → IsDenied (cs ++ c ∷ []) n k
  denied-keeps denied = subst (λ (T : Type 0). T) whole (absent-keeps n (number_at cs k) (drop k cs) c denied)

  denied-says : SaysAbsent n (start + moves cs) c → IsDenied (cs ++ c ∷ []) n k
  denied-says says = subst (λ (T : Type 0). T) whole (absent-says n (number_at cs k) (start + moves cs) (drop k cs) c here says)

  denied-splits : IsDenied (cs ++ c ∷ []) n k → IsDenied cs n k ⊎ SaysAbsent n (start + moves cs) c
  denied-splits denied = absent-splits n (number_at cs k) (start + moves cs) (drop k cs) c here (subst (λ (T : Type 0). T) (sym whole) denied)

none-past : (cs : List Call) (c : Call) (n k : ℕ) → length cs < k → IsDenied (cs ++ c ∷ []) n k → ⊥
none-past cs c n k past denied = none-behind (cs ++ c ∷ []) n k (omega (arith, length-append cs (c ∷ []))) denied

-- a call that does not say so of a number
same-at : (cs : List Call) (c : Call) (n b : ℕ) → (SaysAbsent n (start + moves cs) c → ⊥) → ((k : ℕ) → IsDenied cs n k ↔ (k < b)) → (k : ℕ) → IsDenied (cs ++ c ∷ []) n k ↔ (k < b)
same-at cs c n b never old k = elim (cases_lt (length cs) k) [
  | inl past ↦ (λ denied. absurd (none-past cs c n k past denied), λ less. absurd (none-behind cs n k (omega arith) ((old k).1 less)))
  | inr le ↦ (λ denied. go le (denied-splits cs c n k le denied), λ less. denied-keeps cs c n k le ((old k).1 less))
]
  where
    go : k ≤ length cs → IsDenied cs n k ⊎ SaysAbsent n (start + moves cs) c → k < b
    go le (inl denied) = (old k).0 denied
    go le (inr says) = absurd (never says)

-- one that does
new-at : (cs : List Call) (c : Call) (n : ℕ) → SaysAbsent n (start + moves cs) c → (k : ℕ) → IsDenied (cs ++ c ∷ []) n k ↔ (k < length cs + 1)
new-at cs c n says k = elim (cases_lt (length cs) k) [
  | inl past ↦ (λ denied. absurd (none-past cs c n k past denied), λ less. absurd (omega arith))
  | inr le ↦ (λ denied. omega arith, λ less. denied-says cs c n k le says)
]

silent-step : (l : List ℕ) (cs : List Call) (c : Call) → ((n p : ℕ) → SaysAbsent n p c → ⊥) → AreDenials l cs → AreDenials l (cs ++ c ∷ [])
silent-step l cs c never old i = same-at cs c (start + i) (slice_index l i) (never (start + i) (start + moves cs)) (old i)

says-step : (l : List ℕ) (cs : List Call) (c : Call) (j : ℕ) → j < length l → SaysAbsent (start + j) (start + moves cs) c → ((i : ℕ) → SaysAbsent (start + i) (start + moves cs) c → i ≡ j)
    → AreDenials l cs → AreDenials (set l j (length cs + 1)) (cs ++ c ∷ [])
says-step l cs c j below says only old i = go (ℕ_discrete i j)
  where
    go : Dec (i ≡ j) → (k : ℕ) → IsDenied (cs ++ c ∷ []) (start + i) k ↔ (k < slice_index (set l j (length cs + 1)) i)
    go (yes same) k = subst (λ (m : ℕ). IsDenied (cs ++ c ∷ []) (start + m) k ↔ (k < slice_index (set l j (length cs + 1)) m)) (sym same)
        (subst (λ (b : ℕ). IsDenied (cs ++ c ∷ []) (start + j) k ↔ (k < b)) (sym (get_or-set_same l j (length cs + 1) 0 below)) (new-at cs c (start + j) says k))
    go (no other) k = subst (λ (b : ℕ). IsDenied (cs ++ c ∷ []) (start + i) k ↔ (k < b)) (sym (get_or-set_other l j i (length cs + 1) 0 other))
        (same-at cs c (start + i) (slice_index l i) (λ is. other (only i is)) (old i) k)

pub denials-step : (l : List ℕ) (cs : List Call) (c : Call) → moves cs + 1024 ≤ length l → LooksWithin 1024 c → AreDenials l cs → AreDenials (denials_with c (moves cs) (length cs) l) (cs ++ c ∷ [])
denials-step l cs (FileCall n f reply) room within old = silent-step l cs (FileCall n f reply) (λ n p says. says) old
denials-step l cs (SourceCall x held) room within old = silent-step l cs (SourceCall x held) (λ n p says. says) old
denials-step l cs (BaseCall x held) room within old = silent-step l cs (BaseCall x held) (λ n p says. says) old
denials-step l cs (PeekCall held) room within old = silent-step l cs (PeekCall held) (λ n p says. says) old
denials-step l cs (TickCall item) room within old = silent-step l cs (TickCall item) (λ n p says. says) old
denials-step l cs (LookCall ahead true) room within old = silent-step l cs (LookCall ahead true) (λ n p says. says) old
denials-step l cs (LookCall ahead false) room within old = says-step l cs (LookCall ahead false) (moves cs + ahead) (omega arith) (omega arith) (λ i says. omega (arith, says)) old
denials-step l cs (HoldCall true) room within old = says-step l cs (HoldCall true) (moves cs) (omega arith) refl (λ i says. omega (arith, says)) old
denials-step l cs (HoldCall false) room within old = silent-step l cs (HoldCall false) (λ n p says. says) old
denials-step l cs (RetireCall item) room within old = silent-step l cs (RetireCall item) (λ n p says. says) old

front-length : (cs : List Call) (i : ℕ) (c : Call) → Some c ≡ first_of (drop i cs) → length (take i cs) ≡ i
front-length [] i c is = absurd (none-first c i is)
front-length (x ∷ cs) zero c is = refl
front-length (x ∷ cs) (suc i) c is = ap (λ (n : ℕ). suc n) (front-length cs i c is)

pub denials-more : (plays : List Call) (l l' : List ℕ) (place moved : ℕ) (c : Call) → Some c ≡ first_of (drop place plays) → moved ≡ moves (take place plays) → moved + 1024 ≤ length l → LooksWithin 1024 c
    → l' ≡ denials_with c moved place l → AreDenials l (take place plays) → AreDenials l' (take (place + 1) plays)
denials-more plays l l' place moved c next at room within made old =
    let cs = take place plays in
    let many : place ≡ length cs = sym (front-length plays place c next) in
    let new : denials_with c (moves cs) (length cs) l ≡ l' = sym (made ∙ (λ i. denials_with c (at i) (many i) l)) in
    subst (λ (front : List Call). AreDenials l' front) (sym (take-more plays place c next))
    (subst (λ (d : List ℕ). AreDenials d (cs ++ c ∷ [])) new (denials-step l cs c (omega (arith, at)) within old))

pub denials-length : (c : Call) (moved place : ℕ) (l : List ℕ) → length (denials_with c moved place l) ≡ length l
denials-length (FileCall n f reply) moved place l = refl
denials-length (SourceCall x held) moved place l = refl
denials-length (BaseCall x held) moved place l = refl
denials-length (PeekCall held) moved place l = refl
denials-length (TickCall item) moved place l = refl
denials-length (LookCall ahead true) moved place l = refl
denials-length (LookCall ahead false) moved place l = length-set l (moved + ahead) (place + 1)
denials-length (HoldCall true) moved place l = length-set l moved (place + 1)
denials-length (HoldCall false) moved place l = refl
denials-length (RetireCall item) moved place l = refl

-- no call says anything yet
pub denials-none : (k : ℕ) → AreDenials (replicate k 0) []
denials-none k i place = (λ denied. absurd (none-behind [] (start + i) place (omega arith) denied), λ less. absurd (let zero' = nothing k i in omega arith))
  where
    nothing : (k i : ℕ) → slice_index (replicate k 0) i ≡ 0
    nothing zero i = refl
    nothing (suc k) zero = refl
    nothing (suc k) (suc i) = nothing k i

-- a number before the first is said of nowhere
none-before : (n p : ℕ) (cs : List Call) → n < p → Absent n p cs → ⊥
none-before n p [] less absent = absent
none-before n p (c ∷ cs) less (inl says) = early c says
  where
    early : (c : Call) → SaysAbsent n p c → ⊥
    early (FileCall n f reply) says = says
    early (SourceCall x held) says = says
    early (BaseCall x held) says = says
    early (PeekCall held) says = says
    early (TickCall item) says = says
    early (LookCall ahead true) says = says
    early (LookCall ahead false) says = omega (arith, says)
    early (HoldCall true) says = omega (arith, says)
    early (HoldCall false) says = says
    early (RetireCall item) says = says
none-before n p (c ∷ cs) less (inr later) = none-before n (p + move_weight c) cs (omega arith) later

pub denied-before : (cs : List Call) (n k : ℕ) → n < start → IsDenied cs n k → ⊥
denied-before cs n k less = none-before n (number_at cs k) (drop k cs) (omega arith)

pub value_at : (l : List ℕ) (i x : ℕ) → i < length l → x ≡ get_or l i x → x ≡ slice_index l i
value_at [] i x below is = absurd (omega arith)
value_at (y ∷ l) zero x below is = is
value_at (y ∷ l) (suc i) x below is = value_at l i x (omega arith) is

-- what is found in the table
pub denied-at : (l : List ℕ) (plays : List Call) (n k b : ℕ) → AreDenials l plays → start ≤ n → n - start < length l → b ≡ get_or l (n - start) b → IsTrue (nat_lt k b) ↔ IsDenied plays n k
denied-at l plays n k b are from below is =
    let there : start + (n - start) ≡ n = omega arith in
    let told = subst (λ (m : ℕ). IsDenied plays m k ↔ (k < slice_index l (n - start))) there (are (n - start) k) in
    let value = value_at l (n - start) b below is in
    let test = Decides-ltb k b in
    (λ yes'. told.1 (subst (λ (m : ℕ). k < m) value (test.0 yes')), λ denied. test.1 (subst (λ (m : ℕ). k < m) (sym value) (told.0 denied)))

pub denied-past : (l : List ℕ) (plays : List Call) (n k : ℕ) → AreDenials l plays → start ≤ n → length l ≤ n - start → IsDenied plays n k → ⊥
denied-past l plays n k are from past denied =
    let there : n ≡ start + (n - start) = omega arith in
    let less = (are (n - start) k).0 (subst (λ (m : ℕ). IsDenied plays m k) there denied) in
    let none = past-end l (n - start) past in
    absurd (omega arith)
  where
    past-end : (l : List ℕ) (i : ℕ) → length l ≤ i → slice_index l i ≡ 0
    past-end [] i past = refl
    past-end (x ∷ l) zero past = absurd (omega arith)
    past-end (x ∷ l) (suc i) past = past-end l i (omega arith)

-- a call waits where its number is in the table, behind the player's place
pub waits-is : (line : Line) (lists : Recording) (at : List ℕ) (player n : ℕ) (f : List ℕ) (reply : FileReply) (call : Call) (b : Bool) → player ≡ length lists.filers → IsHere line lists at → call ≡ FileCall n f reply → reply ≡ Accepted
    → (IsTrue b ↔ IsDenied (plays_in lists.player.events) n (slice_index at player)) → IsTrue b ↔ Waits player line.machine (left_of (list_of lists) at) call
waits-is line lists at player n f reply call b known here is accepted found =
    subst (λ (c : Call). IsTrue b ↔ Waits player line.machine (left_of (list_of lists) at) c) (sym (is ∙ ap (λ (r : FileReply). FileCall n f r) accepted)) (subst (λ (T : Type 0). IsTrue b ↔ T) same found)
  where
    plays : List Call
    plays = plays_in lists.player.events

    position : number_at plays (slice_index at player) ≡ line.machine.position
    position = ap (λ (k : ℕ). number_at plays (slice_index at k)) known ∙ sym here

    own : plays ≡ list_of lists player
    own = sym (ap (list_of lists) known ∙ list-player lists.filers lists.player)

    same : IsDenied plays n (slice_index at player) ≡ Absent n line.machine.position (left_of (list_of lists) at player)
    same = λ i. Absent n (position i) (drop (slice_index at player) (own i))

-- ---- the player's looks are short

within-at : (g : ℕ) (opening : Bool) (e : PlayEvent) → g ≤ 10 → PlayFits g opening e → LooksWithin 1024 (play_of e)
within-at g opening play.Idle small fits = tt
within-at g opening (play.Base base) small fits = tt
within-at g opening play.Erasure small fits = tt
within-at g opening (play.Frame f) small fits = tt
within-at g opening play.Held small fits = tt
within-at g opening play.Found small fits = tt
within-at g opening (play.LookFree ahead) small fits = let most : 2 ^ g ≤ 2 ^ 10 = pow_mono small in omega arith
within-at g opening (play.LookFilled ahead) small fits = let most : 2 ^ g ≤ 2 ^ 10 = pow_mono small in omega arith
within-at g opening play.RetiredErasure small fits = tt
within-at g opening (play.RetiredFrame f) small fits = tt

looks-within : (g : ℕ) (opening : Bool) (es : List PlayEvent) (i : ℕ) (x : PlayEvent) → g ≤ 10 → AllPlayFit g opening es → i < length es → x ≡ get_or es i x → LooksWithin 1024 (play_of x)
looks-within g opening [] i x small all below is = absurd (omega arith)
looks-within g opening (e ∷ es) zero x small all below is = subst (λ (y : PlayEvent). LooksWithin 1024 (play_of y)) (sym is) (within-at g opening e small all.0)
looks-within g opening (e ∷ es) (suc i) x small all below is = looks-within g (may_open e) es i x small all.1 (omega arith) is

pub looks_within : (p : PlayerRecord) (i : ℕ) (x : PlayEvent) → PlayerRecordFits p → i < length p.events → x ≡ get_or p.events i x → LooksWithin 1024 (play_of x)
looks_within p i x fits below is = looks-within p.head.g true p.events i x fits.head.g fits.events below is

-- What the ring's rule says of one slot, one berth and one seat.
use Rattle.std.proofs.Common.{◌≡◌, ◌≢◌, inl, inr, ℕ, ◌+◌, ◌%◌, ◌<◌, ◌≤◌, List, length, Some, true, refl, sym, ap, ◌∙◌, arith}
use Rattle.std.specs.Prelude.{slice_get}
use Rattle.std.proofs.lemmas.Nat.{pow_pos}
use Rattle.std.proofs.lemmas.Bool.{cases_lt}
use mathlib.Core.Option.{some}
use lib.ListN.{get_elem?}
use Rattle.playout.specs.declared.call.Call.{Call}
use Rattle.playout.specs.Machine.{start, opening_machine}
use Rattle.playout.specs.History.{after_all, calls_of, moves}
use Rattle.playout.specs.LongerHistory.{player_moves}
use Rattle.playout.specs.Turns.{turn_apart}
use Rattle.ring_core.specs.declared.words.SlotWord.{SlotWord}
use Rattle.ring_core.specs.declared.words.Berth.{Berth}
use Rattle.ring_core.specs.declared.words.Berth.TheVariants.{Fresh, Out, Home}
use Rattle.ring_core.specs.declared.views.Shape.{Shape}
use Rattle.ring_core.specs.declared.views.Pooling.{Pooling}
use Rattle.ring_core.specs.declared.views.Calling.{Calling}
use Rattle.ring_core.specs.Ring.{Ring, slot_count, Place, in_slot, in_berth, with_seat, CallerStands, RingRule}
use Rattle.ring_core.specs.Steps.{pool_view, caller_view, position_of}
use Rattle.ring_core.specs.ListPlaces.{at_exists}
use Rattle.ring_core.specs.RingLaws.{Seated, HasWord}

-- there is a slot
pub slots_positive : (k : Shape) → 0 < slot_count k
slots_positive k = pow_pos k.g

-- the berth of a right that is held is fresh
pub right_is_fresh : (k : Shape) (s : Ring) (rule : RingRule k s) (id : ℕ) (p : Pooling) (who : ℕ) → get_elem? s.views id ≡ some (pool_view k p) → slice_get p.rights who ≡ Some true → who ≤ k.filers → (cell : ℕ) × (get_elem? s.berths who ≡ some (Fresh cell))
right_is_fresh k s rule id p who at has low =
    let n : ℕ = length s.berths in let wide : n ≡ k.filers + 1 = rule.sized.berths in
    let b = at_exists s.berths who (omega arith) in go b.0 b.1 (rule.caller who b.0 b.1)
  where
    go : (b : Berth) → get_elem? s.berths who ≡ some b → CallerStands s.views who (calls_of who rule.history) b → (cell : ℕ) × (get_elem? s.berths who ≡ some (Fresh cell))
    go (Fresh cell) e st = (cell, e)
    go Out e st = absurd (st.0 id (pool_view k p) at has)
    go (Home cell) e st = absurd (st.0 id (pool_view k p) at has)

-- the cell of a fresh berth is there
pub fresh_place : (k : Shape) (s : Ring) (rule : RingRule k s) (who cell : ℕ) → get_elem? s.berths who ≡ some (Fresh cell) → (rule.place cell ≡ in_berth who) × (cell < length s.cells)
fresh_place k s rule who cell berth = rule.alone (in_berth who) cell (Fresh cell, berth, refl)

-- the berth of a caller is out
pub caller_is_out : (k : Shape) (s : Ring) (rule : RingRule k s) (id : ℕ) (c : Calling) → get_elem? s.views id ≡ some (caller_view k c) → get_elem? s.berths c.who ≡ some Out
caller_is_out k s rule id c at =
    let low : c.who ≤ k.filers = (rule.role id (caller_view k c) at).0 in let n : ℕ = length s.berths in let wide : n ≡ k.filers + 1 = rule.sized.berths in
    let b = at_exists s.berths c.who (omega arith) in go b.0 b.1 (rule.caller c.who b.0 b.1)
  where
    go : (b : Berth) → get_elem? s.berths c.who ≡ some b → CallerStands s.views c.who (calls_of c.who rule.history) b → get_elem? s.berths c.who ≡ some Out
    go (Fresh x) e st = absurd (st.1 id (caller_view k c) c.list at (refl, refl))
    go Out e st = e
    go (Home x) e st = absurd (st.1 id (caller_view k c) c.list at (refl, refl))

-- the list of a caller is the history's
pub list_is : (k : Shape) (s : Ring) (rule : RingRule k s) (id : ℕ) (c : Calling) → get_elem? s.views id ≡ some (caller_view k c) → c.list ≡ calls_of c.who rule.history
list_is k s rule id c at = mine (rule.caller c.who Out (caller_is_out k s rule id c at))
  where
    mine : CallerStands s.views c.who (calls_of c.who rule.history) Out → c.list ≡ calls_of c.who rule.history
    mine st = (st.1.2 id (caller_view k c) c.list at (refl, refl)).1

-- the position that the player counts is the machine's
pub player_position : (k : Shape) (s : Ring) (rule : RingRule k s) (id : ℕ) (c : Calling) → get_elem? s.views id ≡ some (caller_view k c) → c.who ≡ k.filers → position_of c ≡ (after_all opening_machine rule.history).position
player_position k s rule id c at player =
    ap (λ (l : List Call). start + moves l) (list_is k s rule id c at ∙ ap (λ (q : ℕ). calls_of q rule.history) player) ∙ (ap (λ (q : ℕ). start + q) (player_moves k.filers rule.history rule.callers) ∙ sym rule.position)

-- two numbers of one slot in one window are one
pub one_in_window : (p r a b : ℕ) → p ≤ a → a < p + r → p ≤ b → b < p + r → a % r ≡ b % r → a ≡ b
one_in_window p r a b la ha lb hb e = elim (cases_lt a b) [
  | inl lt ↦ absurd (omega (arith, turn_apart a b r lt e, la, hb))
  | inr ge ↦ elim (cases_lt b a) [
    | inl lt ↦ absurd (omega (arith, turn_apart b a r lt (sym e), lb, ha))
    | inr le ↦ omega (arith, ge, le)
  ]
]

-- the slot of a number of its window has it as the number
pub number_ahead : (k : Shape) (s : Ring) (rule : RingRule k s) (id : ℕ) (c : Calling) (a : ℕ) (w : SlotWord) → Seated s id (caller_view k c) → c.who ≡ k.filers → a < slot_count k → HasWord k s (position_of c + a) w
    → w.number ≡ position_of c + a
number_ahead k s rule id c a w at player low found =
    let R : ℕ = slot_count k in let n : ℕ = position_of c + a in
    let fits = rule.slot (n % R) w found in
    let b : ℕ = w.number in let q : ℕ = (after_all opening_machine rule.history).position in
    let lo : q ≤ b = fits.reached in let hi : b < q + R = fits.near in let e : position_of c ≡ q = player_position k s rule id c at player in
    one_in_window q R b n lo hi (omega arith) (omega arith) fits.congruent

-- so does that of its position
pub tick_number : (k : Shape) (s : Ring) (rule : RingRule k s) (id : ℕ) (c : Calling) (w : SlotWord) → Seated s id (caller_view k c) → c.who ≡ k.filers → HasWord k s (position_of c) w → w.number ≡ position_of c
tick_number k s rule id c w at player found =
    let none : position_of c + 0 ≡ position_of c = omega arith in
    number_ahead k s rule id c 0 w at player (slots_positive k) (ap (λ (n : ℕ). get_elem? s.slots (n % slot_count k)) none ∙ found) ∙ none

slot_seat : (i j : ℕ) → Path Place (in_slot i) (with_seat j) → ⊥
slot_seat i j e = cc

-- a caller's spare is not the cell in a slot
pub spare_apart : (k : Shape) (s : Ring) (rule : RingRule k s) (i id : ℕ) (w : SlotWord) (c : Calling) → get_elem? s.slots i ≡ some w → get_elem? s.views id ≡ some (caller_view k c) → c.spare ≢ w.cell
spare_apart k s rule i id w c there at e =
    let in_slot_i = rule.alone (in_slot i) w.cell (w, there, refl) in
    let with_id = rule.alone (with_seat id) c.spare (caller_view k c, c, at, refl, refl) in
    slot_seat i id (sym in_slot_i.0 ∙ ap rule.place (sym e) ∙ with_id.0)

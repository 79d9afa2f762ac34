-- What is known to be accepted is there until its tick.
use Rattle.std.proofs.Common.{◌≡◌, ◌⊎◌, inl, inr, ⊎_elim, ℕ, ◌+◌, ◌%◌, ◌^◌, ◌<◌, ◌≤◌, List, [], ◌∷◌, Option, Some, None, Bool, true, false, refl, sym, ap, ◌∙◌, subst, arith, le_trans}
use mathlib.Core.Option.{some}
use lib.ListN.{get_elem?}
use Rattle.std.specs.FinMap as map
use Rattle.frame_codec.specs.declared.item.Item.TheVariants.{Frame}
use Rattle.ring_core.specs.declared.views.Shape.{Shape}
use Rattle.ring_core.specs.declared.views.Calling.{Calling}
use Rattle.std.proofs.Math.Nat.{pow-le-pow_right}
use Rattle.playout.specs.Machine.{start, Machine, opening_machine, item_of}
use Rattle.playout.specs.History.{moves, calls, Entry, after_all}
use Rattle.playout.specs.Plays.{WasAccepted}
use Rattle.ring_core.specs.declared.words.SlotWord.{SlotWord}
use Rattle.ring_core.specs.declared.words.Cell.TheVariants.{AtHome}
use Rattle.ring_core.specs.Ring.{Ring, RingRule, SlotFits, Has, slot_count}
use Rattle.playout.specs.Plays.{AllAccepted}
use Rattle.ring_core.specs.Steps.{caller_view, position_of, taken}
use Rattle.ring_core.specs.RingLaws.{IsPlayer, HasWord, IsThere}
use Rattle.ring_core.specs.RuleLaws.{player_position, one_in_window}
use Rattle.std.proofs.lemmas.Bool.{cases_lt}
use Rattle.playout.specs.HeldFrames.{accepted_there}
use Rattle.playout.specs.FrameLaws.{window_holds}
use Rattle.ring_core.proofs.Moves.{said}

accepted_from : (ps : List (ℕ × List ℕ)) (h : List Entry) (n : ℕ) (f : List ℕ) → AllAccepted ps h → Has ps n f → WasAccepted n f h
accepted_from [] h n f all a = absurd a
accepted_from (p ∷ ps) h n f all a = ⊎_elim (λ (e : (p.0 ≡ n) × (p.1 ≡ f)). subst (λ (q : ℕ × List ℕ). WasAccepted q.0 q.1 h) (λ i. (e.0 i, e.1 i)) all.0) (λ (b : Has ps n f). accepted_from ps h n f all.1 b) a

-- a tick and a retire take the frame that their caller knows to be accepted
pub fresh_move : (k : Shape) (s : Ring) (rule : RingRule k s) (id : ℕ) (c : Calling) (w : SlotWord) (y : Option (List ℕ)) (f : List ℕ) → IsPlayer k s id c → HasWord k s (position_of c) w → get_elem? s.cells w.cell ≡ some (AtHome y)
    → Has c.known.pairs (position_of c) f → taken w.filled y ≡ Frame f
fresh_move k s rule id c w y f at found holds has =
    let m : Machine = after_all opening_machine rule.history in
    let e : position_of c ≡ m.position = player_position k s rule id c at.0 at.1 in
    let known = (rule.role id (caller_view k c) at.0).1 in
    let got = accepted_there (slot_count k) opening_machine rule.history (position_of c) f rule.legal (omega arith) (accepted_from c.known.pairs rule.history (position_of c) f known.pairs has) in
    said k s rule id c w y at found holds ∙ ap item_of (ap (λ (q : ℕ). map.get m.frames q) (sym e) ∙ got)

none_absurd : (f : List ℕ) → Path (Option (List ℕ)) None (Some f) → ⊥
none_absurd f e = cc

some_one : (g f : List ℕ) → Path (Option (List ℕ)) (Some g) (Some f) → g ≡ f
some_one g f e = cc

lt_le_trans : {a b c : ℕ} → a < b → b ≤ c → a < c
lt_le_trans lt le = omega (arith, lt, le)

-- a word is at or above each position that is known
pub fresh_word : (k : Shape) (s : Ring) (rule : RingRule k s) (id : ℕ) (c : Calling) (i : ℕ) (w : SlotWord) → get_elem? s.views id ≡ some (caller_view k c) → get_elem? s.slots i ≡ some w → c.known.position ≤ w.number
fresh_word k s rule id c i w at found = le_trans (rule.role id (caller_view k c) at).1.position (rule.slot i w found).reached

-- the slot of a number that is known to be accepted has that frame, or has gone on
module _ (k : Shape) (s : Ring) (rule : RingRule k s) (id : ℕ) (c : Calling) (n : ℕ) (w : SlotWord) (f : List ℕ) (at : get_elem? s.views id ≡ some (caller_view k c)) (found : get_elem? s.slots (n % slot_count k) ≡ some w) (has : Has c.known.pairs n f) where
  abbrev m : Machine
  m = after_all opening_machine rule.history

  fits : SlotFits (slot_count k) m s.cells (n % slot_count k) w
  fits = rule.slot (n % slot_count k) w found

  there : m.position ≤ n → map.get m.frames n ≡ Some f
  there low = accepted_there (slot_count k) opening_machine rule.history n f rule.legal low (accepted_from c.known.pairs rule.history n f (rule.role id (caller_view k c) at).1.pairs has)

  same : m.position ≤ n → w.number ≡ n
  same low = let near : n < m.position + slot_count k = (window_holds (slot_count k) rule.history rule.legal n f (there low)).1 in
      one_in_window m.position (slot_count k) w.number n fits.reached fits.near low near fits.congruent

  held : m.position ≤ n → IsThere s w n f
  held low = go w.filled refl
    where
      is : map.get m.frames w.number ≡ Some f
      is = ap (λ (q : ℕ). map.get m.frames q) (same low) ∙ there low

      go : (b : Bool) → w.filled ≡ b → IsThere s w n f
      go false e = absurd (none_absurd f (sym (fits.free e) ∙ is))
      go true e = let in_cell = fits.filled e in let one : in_cell.0 ≡ f = some_one in_cell.0 f (sym in_cell.1 ∙ is) in (same low, e, in_cell.2 ∙ ap (λ (g : List ℕ). some (AtHome (Some g))) one)

  pub fresh_accepted : IsThere s w n f ⊎ (n < w.number)
  fresh_accepted = elim (cases_lt n m.position) [
    | inl past ↦ let low : m.position ≤ w.number = fits.reached in inr (lt_le_trans past low)
    | inr come ↦ inl (held come)
  ]

-- a look and a hold find the frame that their caller knows to be accepted
pub fresh_glance : (k : Shape) (s : Ring) (rule : RingRule k s) (id : ℕ) (c : Calling) (a : ℕ) (w : SlotWord) (f : List ℕ) → IsPlayer k s id c → HasWord k s (position_of c + a) w → Has c.known.pairs (position_of c + a) f → w.filled ≡ true
fresh_glance k s rule id c a w f at found has =
    let e : position_of c ≡ (after_all opening_machine rule.history).position = player_position k s rule id c at.0 at.1 in
    (held k s rule id c (position_of c + a) w f at.0 found has (omega arith)).1

-- what is published lies between the start and the last window
pub published_within : (k : Shape) (s : Ring) (rule : RingRule k s) (i : ℕ) (w : SlotWord) → get_elem? s.slots i ≡ some w → (start ≤ w.number) × (w.number < 8589934592 + 1024)
published_within k s rule i w found =
    let m : ℕ = (after_all opening_machine rule.history).position in
    let a : ℕ = w.number in let R : ℕ = 2 ^ k.g in
    let fits = rule.slot i w found in let lo : m ≤ a = fits.reached in let hi : a < m + R = fits.near in
    let p : m ≡ start + moves (calls rule.history) = rule.position in let b : m ≤ 2 ^ 33 = rule.bound in
    let small : R ≤ 2 ^ 10 = pow-le-pow_right {n = 2} (omega arith) rule.sized.g in
    (omega arith, omega arith)

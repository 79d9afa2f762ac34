-- What a closed ring leaves is one legal history's.
use Rattle.std.proofs.Common.{◌≡◌, ◌⊎◌, inl, inr, ℕ, ◌+◌, ◌-◌, ◌*◌, ◌%◌, ◌/◌, ◌<◌, ◌≤◌, List, [], ◌∷◌, ◌++◌, map, length, Option, Some, None, Bool, true, false, cond, refl, sym, ap, ◌∙◌, arith, mod-lt}
use Rattle.std.specs.Prelude.{slice_get, slice_index, slice_index_or, nat_lt, not, ◌==◌, ◌&&◌}
use native.Mathlib.Decide.{ℕ_discrete}
use mathlib.Core.Option.{some}
use lib.ListN.{get_elem?}
use Rattle.std.proofs.lemmas.Bool.Decides.{nat_tests}
use Rattle.std.specs.FinMap as finmap
use Rattle.playout.specs.declared.call.Call.{Call}
use Rattle.ring_core.specs.declared.views.Shape.{Shape}
use Rattle.ring_core.specs.declared.views.Pooling.{Pooling}
use Rattle.ring_core.specs.declared.words.SlotWord.{SlotWord}
use Rattle.ring_core.specs.declared.words.Cell.TheVariants.{AtHome}
use Rattle.playout.specs.Machine.{Machine, opening_machine}
use Rattle.playout.specs.History.{after_all}
use Rattle.ring_core.specs.Ring.{Ring, slot_count, RingRule}
use Rattle.ring_core.specs.Steps.{pool_view}
use Rattle.ring_core.specs.ListPlaces.{at_exists}
use Rattle.ring_core.specs.RuleLaws.{slots_positive}
use Rattle.ring_core.specs.RingLaws.{GatheredAreTheCalls}
use Rattle.playout.specs.FrameLaws.{window_holds}
use Rattle.playout.specs.Turns.{turn_apart}
use Rattle.step_table.specs.Packed.{Kept, pack_slot, pack_berth, filled_bit, words_of, Fits}
use Rattle.step_table.specs.Ends.{ClosedView, Ends}
use Rattle.slot_ring.specs.Remains.{read_at, frames_left, AllGathered, Ended}
use Rattle.step_table.specs.WordLaws.{index_front, slot_small}
use Rattle.slot_ring.proofs.Listed.{entries_are}
use Rattle.slot_ring.proofs.Reading.{value_at}

number_in : (b : Bool) (n c : ℕ) → n < 281474976710656 → c < 32768 → (filled_bit b + c * 281474976710656 + n) % 281474976710656 ≡ n
number_in true n c low small = omega arith
number_in false n c low small = omega arith

cell_in : (b : Bool) (n c : ℕ) → n < 281474976710656 → c < 32768 → (filled_bit b + c * 281474976710656 + n) / 281474976710656 % 32768 ≡ c
cell_in true n c low small = omega arith
cell_in false n c low small = omega arith

filled_in : (b : Bool) (n c : ℕ) → n < 281474976710656 → c < 32768 → not (nat_lt (filled_bit b + c * 281474976710656 + n) 9223372036854775808) ≡ b
filled_in true n c low small = grind (arith, nat_tests)
filled_in false n c low small = grind (arith, nat_tests)

three : (a n : ℕ) → (a < n) ⊎ ((n < a) ⊎ (a ≡ n))
three a n = grind arith

none_some : {f : List ℕ} → Path Kept None (Some f) → ⊥
none_some e = cc

module _ (k : Shape) (s : Ring) (rule : RingRule k s) (words : List ℕ) (cells : List Kept) (spells : words ≡ words_of s) (homes : (c : ℕ) (x : Kept) → get_elem? s.cells c ≡ some (AtHome x) → get_elem? cells c ≡ some x) where
  abbrev m : Machine
  m = after_all opening_machine rule.history

  word_is : (i : ℕ) (w : SlotWord) → get_elem? s.slots i ≡ some w → slice_index words i ≡ pack_slot w
  word_is i w e = ap (λ (l : List ℕ). slice_index l i) spells ∙ index_front pack_slot s.slots (map pack_berth s.berths ++ s.source ∷ s.base ∷ []) i w e

  reads_as : (n : ℕ) (w : SlotWord) → get_elem? s.slots (n % slot_count k) ≡ some w
      → read_at (slot_count k) words cells n ≡ (cond ((w.number == n) && w.filled) (slice_index_or cells w.cell None) None)
  reads_as n w e =
      let fits : Fits w = slot_small k s rule (n % slot_count k) w e in
      let is = word_is (n % slot_count k) w e in
      let one : slice_index words (n % slot_count k) % 281474976710656 ≡ w.number = ap (λ (x : ℕ). x % 281474976710656) is ∙ number_in w.filled w.number w.cell fits.0 fits.1 in
      let two : not (nat_lt (slice_index words (n % slot_count k)) 9223372036854775808) ≡ w.filled = ap (λ (x : ℕ). not (nat_lt x 9223372036854775808)) is ∙ filled_in w.filled w.number w.cell fits.0 fits.1 in
      let three : slice_index words (n % slot_count k) / 281474976710656 % 32768 ≡ w.cell = ap (λ (x : ℕ). x / 281474976710656 % 32768) is ∙ cell_in w.filled w.number w.cell fits.0 fits.1 in
      λ i. cond ((one i == n) && two i) (slice_index_or cells (three i) None) None

  reads : (n : ℕ) → read_at (slot_count k) words cells n ≡ finmap.get m.frames n
  reads n =
      let R : ℕ = slot_count k in let i : ℕ = n % R in
      let len : ℕ = length s.slots in let wide : len ≡ R = rule.sized.slots in let near : i < R = mod-lt n (slots_positive k) in
      let there = at_exists s.slots i (omega arith) in
      let w : SlotWord = there.0 in
      reads_as n w there.1 ∙ go w there.1 (ℕ_discrete w.number n) w.filled refl
    where
      outside : (w : SlotWord) → get_elem? s.slots (n % slot_count k) ≡ some w → (w.number ≡ n → ⊥) → (o : Kept) → finmap.get m.frames n ≡ o → finmap.get m.frames n ≡ None
      outside w e other None is = is
      outside w e other (Some f) is =
          let fits = rule.slot (n % slot_count k) w e in
          let in_window = window_holds (slot_count k) rule.history rule.legal n f is in
          let R : ℕ = slot_count k in let a : ℕ = w.number in let p : ℕ = m.position in
          let lo : p ≤ a = fits.reached in let hi : a < p + R = fits.near in let lo' : p ≤ n = in_window.0 in let hi' : n < p + R = in_window.1 in
          elim (three a n) [
            | inl less ↦ let far : a + R ≤ n = turn_apart a n R less fits.congruent in absurd (omega arith)
            | inr rest ↦ elim rest [
              | inl more ↦ let far : n + R ≤ a = turn_apart n a R more (sym fits.congruent) in absurd (omega arith)
              | inr equal ↦ absurd (other equal)
            ]
          ]

      go : (w : SlotWord) → get_elem? s.slots (n % slot_count k) ≡ some w → Dec (w.number ≡ n) → (b : Bool) → w.filled ≡ b → cond ((w.number == n) && w.filled) (slice_index_or cells w.cell None) None ≡ finmap.get m.frames n
      go w e (yes same) true b =
          let fits = rule.slot (n % slot_count k) w e in
          let f = fits.filled b in
          let equal : (w.number == n) ≡ true = grind (arith, nat_tests) in
          (λ i. cond (equal i && b i) (slice_index_or cells w.cell None) None) ∙ value_at cells w.cell (Some f.0) None (homes w.cell (Some f.0) f.2) ∙ sym f.1 ∙ ap (finmap.get m.frames) same
      go w e (yes same) false b =
          let fits = rule.slot (n % slot_count k) w e in
          let equal : (w.number == n) ≡ true = grind (arith, nat_tests) in
          (λ i. cond (equal i && b i) (slice_index_or cells w.cell None) None) ∙ sym (fits.free b) ∙ ap (finmap.get m.frames) same
      go w e (no other) b is =
          let differ : (w.number == n) ≡ false = grind (arith, nat_tests) in
          (λ i. cond (differ i && w.filled) (slice_index_or cells w.cell None) None) ∙ sym (outside w e other (finmap.get m.frames n) refl)

pub ended : GatheredAreTheCalls → (k : Shape) (c : ClosedView) (p : Pooling) (lists : List (Option (List Call))) → Ends k c → c.view ≡ pool_view k p → p.lists ≡ lists → AllGathered k.filers lists → Ended k lists (frames_left (slot_count k) c.words c.cells)
ended gathered k c p lists e is same all =
    let s : Ring = e.0 in let rule = e.1 in let R : ℕ = slot_count k in
    let at : get_elem? s.views e.2.0 ≡ some (pool_view k p) = e.2.1 ∙ ap some is in
    let M : Machine = after_all opening_machine rule.history in
    let len : ℕ = length s.slots in let wide : len ≡ R = rule.sized.slots in let some_slot : 0 < R = slots_positive k in
    let first = at_exists s.slots 0 (omega arith) in
    let fits = rule.slot 0 first.0 first.1 in
    let small : Fits first.0 = slot_small k s rule 0 first.0 first.1 in
    let n0 : ℕ = slice_index c.words 0 % 281474976710656 in
    let zero_is : n0 ≡ first.0.number = ap (λ (x : ℕ). x % 281474976710656) (word_is k s rule c.words c.cells e.3 e.4 0 first.0 first.1) ∙ number_in first.0.filled first.0.number first.0.cell small.0 small.1 in
    let a : ℕ = first.0.number in let q : ℕ = M.position in
    let lo : q ≤ a = fits.reached in let hi : a < q + R = fits.near in (
      rule.history,
      rule.legal,
      rule.callers,
      (λ who low.
          let h = all who low in
          h.1 ∙ ap (λ (l : List Call). Some (Some l)) (gathered k s rule e.2.0 who p h.0 at low (ap (λ (l : List (Option (List Call))). slice_get l who) same ∙ h.1))),
      entries_are M.frames (read_at R c.words c.cells) (n0 - R) (2 * R) (reads k s rule c.words c.cells e.3 e.4)
          (λ n f is.
          let w = window_holds R rule.history rule.legal n f is in
          let lo' : q ≤ n = w.0 in let hi' : n < q + R = w.1 in
          (omega arith, omega arith)),
    )

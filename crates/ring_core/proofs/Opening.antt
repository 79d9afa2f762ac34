-- The ring at the start meets the rule.
use Rattle.std.proofs.Common.{◌≡◌, ℕ, suc, zero, ◌+◌, ◌-◌, ◌*◌, ◌%◌, ◌^◌, ◌<◌, ◌≤◌, List, [], ◌∷◌, length, Option, Some, None, true, false, true≢false, refl, sym, ap, ◌∙◌, subst, arith}
use Rattle.std.specs.Prelude.{slice_get, replicate}
use Rattle.std.proofs.lemmas.List.{length-replicate}
use Rattle.std.proofs.lemmas.Nat.{pow-add}
use Rattle.std.proofs.Math.Nat.{mul-add-mod_self_right, mod-eq_of_lt}
use native.Mathlib.Decide.{dec_le}
use mathlib.Core.Option.{some, some-ne-none, some-injective}
use lib.ListN.{get_elem?}
use Rattle.std.specs.FinMap as map
use Rattle.std.specs.FinMap.{gets}
use Rattle.playout.specs.declared.call.Call.{Call}
use Rattle.ring_core.specs.declared.views.Shape.{Shape}
use Rattle.ring_core.specs.declared.views.Calling.{Calling}
use Rattle.ring_core.specs.declared.views.Role.{Role}
use Rattle.ring_core.specs.declared.views.Role.TheVariants.{Caller}
use Rattle.ring_core.specs.declared.views.View.{View}
use Rattle.playout.specs.Machine.{start, opening_machine}
use Rattle.ring_core.specs.declared.words.SlotWord.{SlotWord}
use Rattle.ring_core.specs.declared.words.Berth.{Berth}
use Rattle.ring_core.specs.declared.words.Berth.TheVariants.{Fresh}
use Rattle.ring_core.specs.declared.words.Cell.{Cell}
use Rattle.ring_core.specs.declared.words.Cell.TheVariants.{AtHome}
use Rattle.ring_core.specs.Ring.{berth_cell, Ring, slot_count, Place, in_slot, in_berth, with_seat, Names, StandsIn, HasLeft, CallerStands, SlotFits, RoleFits, IsSized, RingRule}
use Rattle.ring_core.specs.Steps.{free_word, pool_view}
use Rattle.ring_core.specs.Opening.{slots_from, berths_from, all_rights, opening_ring}
use Rattle.ring_core.specs.OpeningLaws.{length-berths, length-slots, slot_there}
use Rattle.ring_core.proofs.Split.{get_replicate}

slot_from : (i n j : ℕ) (w : SlotWord) → get_elem? (slots_from i n) j ≡ some w → (j < n) × (free_word (start + (i + j)) (i + j) ≡ w)
slot_from i zero j w e = absurd (some-ne-none w (sym e))
slot_from i (suc n) zero w e = (omega arith, ap (λ (k : ℕ). free_word (start + k) k) (let h : i + 0 ≡ i = omega arith in h) ∙ some-injective (free_word (start + i) i) w e)
slot_from i (suc n) (suc j) w e = let t = slot_from (suc i) n j w e in let low : j < n = t.0 in (omega arith, ap (λ (k : ℕ). free_word (start + k) k) (let h : i + suc j ≡ suc i + j = omega arith in h) ∙ t.1)

berth_from : (i n j : ℕ) (b : Berth) → get_elem? (berths_from i n) j ≡ some b → (j < n) × (Fresh (i + j) ≡ b)
berth_from i zero j b e = absurd (some-ne-none b (sym e))
berth_from i (suc n) zero b e = (omega arith, ap Fresh (let h : i + 0 ≡ i = omega arith in h) ∙ some-injective (Fresh i) b e)
berth_from i (suc n) (suc j) b e = let t = berth_from (suc i) n j b e in let low : j < n = t.0 in (omega arith, ap Fresh (let h : i + suc j ≡ suc i + j = omega arith in h) ∙ t.1)

berth_there : (i n j : ℕ) → j < n → get_elem? (berths_from i n) j ≡ some (Fresh (i + j))
berth_there i zero j h = absurd (omega arith)
berth_there i (suc n) zero h = ap (λ (k : ℕ). some (Fresh k)) (let h : i ≡ i + 0 = omega arith in h)
berth_there i (suc n) (suc j) h = berth_there (suc i) n j (omega arith) ∙ ap (λ (k : ℕ). some (Fresh k)) (let h : suc i + j ≡ i + suc j = omega arith in h)

cell_from : (n c : ℕ) (x y : Cell) → get_elem? (replicate n x) c ≡ some y → (c < n) × (x ≡ y)
cell_from zero c x y e = absurd (some-ne-none y (sym e))
cell_from (suc n) zero x y e = (omega arith, some-injective x y e)
cell_from (suc n) (suc c) x y e = let t = cell_from n c x y e in let low : c < n = t.0 in (omega arith, t.1)

one_view : (v w : View) (j : ℕ) → get_elem? (v ∷ []) j ≡ some w → (j ≡ 0) × (v ≡ w)
one_view v w zero e = (refl, some-injective v w e)
one_view v w (suc j) e = absurd (some-ne-none w (sym e))

-- the start is in the first slot
start_turn : (g j : ℕ) → g ≤ 10 → j < 2 ^ g → (start + j) % 2 ^ g ≡ j
start_turn g j le lt =
    let whole : start ≡ 2 ^ (32 - g) * 2 ^ g = ap (λ (n : ℕ). 2 ^ n) (let h : 32 ≡ 32 - g + g = omega arith in h) ∙ pow-add 2 (32 - g) g in
    ap (λ (n : ℕ). (n + j) % 2 ^ g) whole ∙ (mul-add-mod_self_right (2 ^ (32 - g)) (2 ^ g) j ∙ mod-eq_of_lt lt)

module _ (k : Shape) (filers : 1 ≤ k.filers) (most : k.filers ≤ 64) (small : k.g ≤ 10) where
  abbrev R : ℕ
  R = slot_count k

  abbrev s : Ring
  s = opening_ring k

  abbrev v : View
  v = pool_view k (all_rights k)

  at_place : (c : ℕ) → Dec (R ≤ c) → Place
  at_place c (yes _) = in_berth (c - R)
  at_place c (no _) = in_slot c

  places : ℕ → Place
  places c = at_place c (dec_le R c)

  place_slot : (c : ℕ) → c < R → places c ≡ in_slot c
  unfolding places at_place
  place_slot c h = go (dec_le R c)
    where
      go : (d : Dec (R ≤ c)) → at_place c d ≡ in_slot c
      go (yes e) = absurd (omega arith)
      go (no n) = refl

  place_berth : (c j : ℕ) → c ≡ R + j → places c ≡ in_berth j
  unfolding places at_place
  place_berth c j h = go (dec_le R c)
    where
      go : (d : Dec (R ≤ c)) → at_place c d ≡ in_berth j
      go (yes e) = ap in_berth (omega arith)
      go (no n) = absurd (n (omega arith))

  nowhere : (n : ℕ) → map.get opening_machine.frames n ≡ None
  nowhere n = grind (arith, gets)

  no_list : (n : ℕ) (l : List Call) → slice_get (replicate (k.filers + 1) None) n ≡ Some (Some l) → ⊥
  no_list n l e = off (get_replicate (k.filers + 1) n None (Some l) e)
    where
      off : Path (Option (List Call)) None (Some l) → ⊥
      off e = cc

  some-inj : (a b : ℕ) → Path (Option ℕ) (Some a) (Some b) → a ≡ b
  some-inj a b e = cc

  pool_caller : (d : Calling) → Path Role v.role (Caller d) → ⊥
  pool_caller d e = cc

  slot_fits : (i : ℕ) (w : SlotWord) → get_elem? s.slots i ≡ some w → SlotFits R opening_machine s.cells i w
  slot_fits i w e =
      let t = slot_from 0 R i w e in
      let low : i < R = t.0 in
      let number : w.number ≡ start + i = ap (λ (z : SlotWord). z.number) (sym t.1) ∙ (let h : start + (0 + i) ≡ start + i = omega arith in h) in
      let free : w.filled ≡ false = ap (λ (z : SlotWord). z.filled) (sym t.1) in
      record { reached = omega arith; near = omega arith; congruent = ap (λ (z : ℕ). z % R) number ∙ start_turn k.g i small low; filled = λ b. absurd (true≢false (sym b ∙ free)); free = λ _. nowhere w.number }

  alone : (q : Place) (n : ℕ) → Names s q n → (places n ≡ q) × (n < length s.cells)
  alone (in_slot j) n a =
      let t = slot_from 0 R j a.0 a.1 in let low : j < R = t.0 in
      let same : n ≡ j = sym a.2 ∙ (ap (λ (z : SlotWord). z.cell) (sym t.1) ∙ (let h : 0 + j ≡ j = omega arith in h)) in
      let len = length-replicate (R + k.filers + 1) (AtHome None) in
      (place_slot n (omega arith) ∙ ap in_slot same, omega arith)
  alone (in_berth j) n a =
      let t = berth_from R (k.filers + 1) j a.0 a.1 in let low : j < k.filers + 1 = t.0 in
      let same : n ≡ R + j = some-inj n (R + j) (sym a.2 ∙ ap berth_cell (sym t.1)) in
      let len = length-replicate (R + k.filers + 1) (AtHome None) in
      (place_berth n j same, omega arith)
  alone (with_seat j) n a = absurd (pool_caller a.1 (ap (λ (z : View). z.role) (one_view v a.0 j a.2).1 ∙ a.3))

  named : (n : ℕ) (y : Cell) → get_elem? s.cells n ≡ some y → Names s (places n) n × StandsIn (places n) y
  named n y e = go (dec_le R n)
    where
      t : (n < R + k.filers + 1) × (AtHome None ≡ y)
      t = cell_from (R + k.filers + 1) n (AtHome None) y e

      go : Dec (R ≤ n) → Names s (places n) n × StandsIn (places n) y
      go (yes h) =
          let low : n < R + k.filers + 1 = t.0 in let j : ℕ = n - R in let is : n ≡ R + j = omega arith in
          subst (λ (q : Place). Names s q n × StandsIn q y) (sym (place_berth n j is)) ((Fresh (R + j), berth_there R (k.filers + 1) j (omega arith), ap Some (sym is)), (None, sym t.1))
      go (no h) =
          let low : n < R = omega arith in
          subst (λ (q : Place). Names s q n × StandsIn q y) (sym (place_slot n low)) ((free_word (start + (0 + n)) (0 + n), slot_there 0 R n low, (let h : 0 + n ≡ n = omega arith in h)), (None, sym t.1))

  callers : (who : ℕ) (b : Berth) → get_elem? s.berths who ≡ some b → CallerStands s.views who [] b
  callers who b e =
      let t = berth_from R (k.filers + 1) who b e in
      subst (CallerStands s.views who []) t.1 (
        refl,
        (λ j y l f a. subst (λ (z : View). IsCalling' who l z) (sym (one_view v y j f).1) a),
        (λ j y l f a. no_list who l (subst (λ (z : View). HasLeft who l z.role) (sym (one_view v y j f).1) a)),
        λ i j y z f g p q. (one_view v y i f).0 ∙ sym (one_view v z j g).0,
      )
    where
      IsCalling' : ℕ → List Call → View → Type 0
      IsCalling' who l z = Rattle.ring_core.specs.Ring.IsCalling who l z.role

  pub opens : RingRule k s
  opens =
      record {
        history = [];
        place = places;
        sized = record { some_filer = filers; filers = most; g = small; slots = length-slots 0 R; berths = length-berths R (k.filers + 1); cells = length-replicate (R + k.filers + 1) (AtHome None) };
        shaped = λ j y e _. ap (λ (z : View). z.shape) (sym (one_view v y j e).1);
        legal = tt;
        callers = tt;
        slot = slot_fits;
        named = named;
        alone = alone;
        caller = callers;
        position = refl;
        bound = omega arith;
        role = λ j y e. subst (λ (z : View). RoleFits s R opening_machine [] k.filers z.role) (one_view v y j e).1 (length-replicate (k.filers + 1) None, length-replicate (k.filers + 1) true);
        source = refl;
        base = refl;
      }

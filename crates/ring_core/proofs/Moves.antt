-- A tick and a retire keep the rule.
use Rattle.std.proofs.Common.{◌≡◌, ◌≢◌, ⊎_elim, ℕ, ◌+◌, ◌%◌, ◌^◌, ◌<◌, ◌≤◌, List, [], ◌∷◌, ◌++◌, set, Option, Some, None, Bool, true, false, true≢false, refl, sym, ap, ◌∙◌, subst, arith, length-set}
use native.Mathlib.Nat.{add-mod_right}
use mathlib.Core.Option.{some}
use lib.ListN.{get_elem?}
use Rattle.std.specs.FinMap as map
use Rattle.ring_core.proofs.Elements.{at_set}
use Rattle.frame_codec.specs.declared.item.Item.{Item}
use Rattle.ring_core.specs.declared.player_steps.Move.{Move}
use Rattle.ring_core.specs.declared.player_steps.Move.TheVariants.{Played, Retired}
use Rattle.ring_core.specs.declared.views.Shape.{Shape}
use Rattle.ring_core.specs.declared.views.Calling.{Calling}
use Rattle.ring_core.specs.declared.views.Role.{Role}
use Rattle.ring_core.specs.declared.views.Role.TheVariants.{Caller, Spent}
use Rattle.ring_core.specs.declared.views.View.{View}
use Rattle.playout.specs.Machine.{start, Machine, opening_machine, Replies, after, passed, item_of}
use Rattle.playout.specs.History.{Entry, entry, after_all, calls, moves, move_weight, MayCall}
use Rattle.ring_core.specs.declared.words.SlotWord.{SlotWord}
use Rattle.ring_core.specs.declared.words.Cell.{Cell}
use Rattle.ring_core.specs.declared.words.Cell.TheVariants.{AtHome, OutWith}
use Rattle.ring_core.specs.Ring.{Ring, slot_count, SlotFits, RoleFits, RingRule, word_of}
use Rattle.ring_core.specs.Steps.{caller_view, position_of, taken, move_call, moved, free_word, move_at}
use Rattle.ring_core.specs.ListPlaces.{at_one}
use Rattle.ring_core.specs.RingLaws.{IsPlayer, HasWord}
use Rattle.ring_core.specs.RuleLaws.{slots_positive, player_position, tick_number}
use Rattle.playout.specs.LongerHistory.{after_all-snoc, legal-snoc, callers-snoc, moves-snoc, calls-snoc, all_accepted-longer}
use Rattle.playout.specs.FrameLaws.{get-remove_else, window_holds}
use Rattle.ring_core.proofs.Seats.{flight_kept}
use Rattle.ring_core.proofs.Cells as cells
use Rattle.ring_core.proofs.Kept.{callers_after, role_kept}

home-injective : (x y : Option (List ℕ)) → Path Cell (AtHome x) (AtHome y) → Path (Option (List ℕ)) x y
home-injective x y e = cc

not_spent : (c : Calling) → Path Role (Caller c) Spent → ⊥
not_spent c e = cc

-- what the word and its cell show is the machine's item
item_found : (r : ℕ) (m : Machine) (all : List Cell) (i : ℕ) (w : SlotWord) (y : Option (List ℕ)) → SlotFits r m all i w → w.number ≡ m.position → get_elem? all w.cell ≡ some (AtHome y) → taken w.filled y ≡ item_of (map.get m.frames m.position)
item_found r m all i w y fits is at = go w.filled refl
  where
    go : (b : Bool) → w.filled ≡ b → taken b y ≡ item_of (map.get m.frames m.position)
    go true e =
        let f = fits.filled e in
        let same : y ≡ Some f.0 = home-injective y (Some f.0) (at_one all w.cell (AtHome y) (AtHome (Some f.0)) at f.2) in
        ap (taken true) same ∙ sym (ap (λ (n : ℕ). item_of (map.get m.frames n)) (sym is) ∙ ap item_of f.1)
    go false e = sym (ap (λ (n : ℕ). item_of (map.get m.frames n)) (sym is) ∙ ap item_of (fits.free e))

-- so the player takes what the machine answers
pub said : (k : Shape) (s : Ring) (rule : RingRule k s) (id : ℕ) (c : Calling) (w : SlotWord) (y : Option (List ℕ)) → IsPlayer k s id c → HasWord k s (position_of c) w → get_elem? s.cells w.cell ≡ some (AtHome y)
    → taken w.filled y ≡ item_of (map.get (after_all opening_machine rule.history).frames (after_all opening_machine rule.history).position)
said k s rule id c w y at found holds =
    let i : ℕ = position_of c % slot_count k in
    let number = tick_number k s rule id c w at.0 at.1 found ∙ player_position k s rule id c at.0 at.1 in
    item_found (slot_count k) (after_all opening_machine rule.history) s.cells i w y (rule.slot i w found) number holds

-- what a tick and a retire have in common
passes : (way : Move) (m : Machine) (item : Item) → after m (move_call way item) ≡ passed m
passes Played m item = refl
passes Retired m item = refl

answered : (way : Move) (r : ℕ) (m : Machine) (item : Item) → item ≡ item_of (map.get m.frames m.position) → Replies r m (move_call way item)
answered Played r m item is = is
answered Retired r m item is = is

allowed : (way : Move) (filers who : ℕ) (item : Item) → who ≡ filers → MayCall filers who (move_call way item)
allowed Played filers who item player = player
allowed Retired filers who item player = player

weighs : (way : Move) (item : Item) → move_weight (move_call way item) ≡ 1
weighs Played item = refl
weighs Retired item = refl

module _ (k : Shape) (s : Ring) (rule : RingRule k s) (id : ℕ) (c : Calling) (way : Move) (w : SlotWord) (y z : Option (List ℕ))
    (at : get_elem? s.views id ≡ some (caller_view k c)) (player : c.who ≡ k.filers) (below : position_of c < 2 ^ 33)
    (found : get_elem? s.slots (position_of c % slot_count k) ≡ some w) (holds : get_elem? s.cells w.cell ≡ some (AtHome y)) where
  abbrev R : ℕ
  R = slot_count k

  abbrev p : ℕ
  p = position_of c

  abbrev i : ℕ
  i = p % R

  abbrev m : Machine
  m = after_all opening_machine rule.history

  abbrev item : Item
  item = taken w.filled y

  abbrev h : List Entry
  h = rule.history ++ entry c.who (move_call way item) ∷ []

  abbrev n : Machine
  n = passed m

  abbrev t : Ring
  t = move_at k s id c way w y z

  here : p ≡ m.position
  here = player_position k s rule id c at player

  number : w.number ≡ p
  number = tick_number k s rule id c w at player found

  now : after_all opening_machine h ≡ n
  now = after_all-snoc opening_machine rule.history (entry c.who (move_call way item)) ∙ passes way m item

  abbrev here_word : SlotWord
  here_word = free_word (p + R) c.spare

  slot_here : SlotFits R n t.cells i here_word
  slot_here =
      let e : p ≡ m.position = here in let pos : 0 < R = slots_positive k in
      record {
        reached = omega arith;
        near = omega arith;
        congruent = add-mod_right p R;
        filled = λ b. absurd (true≢false (sym b));
        free = λ _. get-remove_else m.frames m.position (p + R) (omega arith) ∙ nothing (map.get m.frames (p + R)) refl;
      }
    where
      nothing : (o : Option (List ℕ)) → map.get m.frames (p + R) ≡ o → o ≡ None
      nothing None e = refl
      nothing (Some f) e = let k2 = window_holds R rule.history rule.legal (p + R) f e in let hi : p + R < m.position + R = k2.1 in let eq : p ≡ m.position = here in absurd (omega arith)

  slot_else : (j : ℕ) (v : SlotWord) → j ≢ i → get_elem? s.slots j ≡ some v → SlotFits R n t.cells j v
  slot_else j v other e =
      let fits = rule.slot j v e in
      let a : ℕ = v.number in let q : ℕ = m.position in
      let lo : q ≤ a = fits.reached in let hi : a < q + R = fits.near in
      let apart : a ≢ q = λ same. other (sym fits.congruent ∙ (ap (λ (b : ℕ). b % R) (same ∙ sym here))) in
      record {
        reached = omega arith;
        near = omega arith;
        congruent = fits.congruent;
        filled = λ b. let f = fits.filled b in (f.0, get-remove_else m.frames q a apart ∙ f.1, cells.value_stays s rule.place i id w here_word (caller_view k c) (caller_view k (moved c way w y)) c (moved c way w y) z found at refl refl refl refl rule.alone rule.named j v (AtHome (Some f.0)) other e f.2);
        free = λ b. get-remove_else m.frames q a apart ∙ fits.free b;
      }

  roles : (j : ℕ) (v : View) → get_elem? t.views j ≡ some v → RoleFits t R n h k.filers v.role
  roles j v e =
      ⊎_elim
      (λ (q : (j ≡ id) × (caller_view k (moved c way w y) ≡ v)). subst (λ (u : View). RoleFits t R n h k.filers u.role) q.1 mine)
      (λ (q : (j ≢ id) × (get_elem? s.views j ≡ some v)). role_kept s t R m n rule.history (entry c.who (move_call way item)) k.filers i w here_word v.role refl refl refl grows found up never (rule.role j v q.1))
      (at_set s.views id j (caller_view k (moved c way w y)) v e)
    where
      grows : m.position ≤ n.position
      grows = omega arith

      up : w.number ≤ here_word.number
      up = let a = number in omega arith

      never : (b : ℕ) → b ≤ w.number → here_word.number ≡ b → here_word.filled ≡ false → ⊥
      never b le is _ = let a = number in let pos : 0 < R = slots_positive k in omega arith

      mine : RoleFits t R n h k.filers (Caller (moved c way w y))
      mine =
          let old = rule.role id (caller_view k c) at in
          let e : p ≡ m.position = here in (
            old.0,
            record { pairs = all_accepted-longer c.known.pairs rule.history (entry c.who (move_call way item)) old.1.pairs; position = omega arith; source = old.1.source; base = old.1.base },
            flight_kept R s.slots i w here_word c.flight found up never old.2,
          )

  pub move_keeps : RingRule k t
  move_keeps =
      let e : p ≡ m.position = here in
      record {
        history = h;
        place = cells.places s rule.place i id w here_word (caller_view k c) (caller_view k (moved c way w y)) c (moved c way w y) z found at refl refl refl refl rule.alone rule.named;
        sized =
            let z0 = rule.sized in
            record {
              some_filer = z0.some_filer;
              filers = z0.filers;
              g = z0.g;
              slots = length-set s.slots i here_word ∙ z0.slots;
              berths = z0.berths;
              cells = length-set (set s.cells c.spare (AtHome z)) w.cell (OutWith id) ∙ (length-set s.cells c.spare (AtHome z) ∙ z0.cells);
            };
        shaped = λ j v a. ⊎_elim (λ (q : (j ≡ id) × (caller_view k (moved c way w y) ≡ v)) (_ : v.role ≢ Spent). ap (λ (u : View). u.shape) (sym q.1)) (λ (q : (j ≢ id) × (get_elem? s.views j ≡ some v)). rule.shaped j v q.1) (at_set s.views id j (caller_view k (moved c way w y)) v a);
        legal = legal-snoc R opening_machine rule.history (entry c.who (move_call way item)) rule.legal (answered way R m item (said k s rule id c w y (at, player) found holds));
        callers = callers-snoc k.filers rule.history (entry c.who (move_call way item)) rule.callers (allowed way k.filers c.who item player);
        slot = λ j v a. subst (λ (q : Machine). SlotFits R q t.cells j v) (sym now) (⊎_elim (λ (q : (j ≡ i) × (here_word ≡ v)). subst (λ (u : ℕ × SlotWord). SlotFits R n t.cells u.0 u.1) (λ b. (sym q.0 b, q.1 b)) slot_here) (λ (q : (j ≢ i) × (get_elem? s.slots j ≡ some v)). slot_else j v q.0 q.1) (at_set s.slots i j here_word v a));
        named = cells.named_after s rule.place i id w here_word (caller_view k c) (caller_view k (moved c way w y)) c (moved c way w y) z found at refl refl refl refl rule.alone rule.named;
        alone = cells.alone_after s rule.place i id w here_word (caller_view k c) (caller_view k (moved c way w y)) c (moved c way w y) z found at refl refl refl refl rule.alone rule.named;
        caller = callers_after k s.views s.berths id c (moved c way w y) (move_call way item) rule.history at refl refl rule.caller;
        position = ap (λ (q : Machine). q.position) now ∙ counted;
        bound = subst (λ (q : Machine). q.position ≤ 2 ^ 33) (sym now) (omega arith);
        role = λ j v a. subst (λ (q : Machine). RoleFits t R q h k.filers v.role) (sym now) (roles j v a);
        source = rule.source ∙ ap (λ (q : Machine). word_of q.source) (sym now);
        base = rule.base ∙ ap (λ (q : Machine). word_of q.base) (sym now);
      }
    where
      counted : m.position + 1 ≡ start + moves (calls h)
      counted = let a : m.position ≡ start + moves (calls rule.history) = rule.position in let b = ap moves (calls-snoc rule.history (entry c.who (move_call way item))) in let d = moves-snoc (calls rule.history) (move_call way item) in let f = weighs way item in omega arith

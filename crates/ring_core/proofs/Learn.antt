-- Learning a note keeps the rule.
use Rattle.std.proofs.Common.{◌≡◌, ◌≢◌, ⊎_elim, ℕ, List, [], ◌∷◌, ◌++◌, set, Option, Some, None, refl, sym, ap, ◌∙◌, subst, arith}
use mathlib.Core.Option.{some}
use lib.ListN.{get_elem?}
use Rattle.ring_core.proofs.Elements.{at_set, set_else}
use Rattle.ring_core.specs.declared.views.Shape.{Shape}
use Rattle.ring_core.specs.declared.views.Known.{Known}
use Rattle.ring_core.specs.declared.views.Calling.{Calling}
use Rattle.ring_core.specs.declared.views.Role.{Role}
use Rattle.ring_core.specs.declared.views.Role.TheVariants.{Pool, Caller, Departed, Note, Spent}
use Rattle.ring_core.specs.declared.views.View.{View}
use Rattle.playout.specs.Machine.{Machine, opening_machine}
use Rattle.playout.specs.History.{after_all, Entry, calls_of}
use Rattle.ring_core.specs.Ring.{Ring, slot_count, word_of, Place, in_slot, in_berth, with_seat, Names, KnownFits, RoleFits, RingRule}
use Rattle.playout.specs.Plays.{AllAccepted}
use Rattle.ring_core.specs.Steps.{caller_view, note_view, spent_view, either_known, merged, told_by, view_at, learn_at}
use Rattle.ring_core.specs.ListPlaces.{at_one}
use Rattle.ring_core.proofs.Seats.{Same, stands_kept}
use Rattle.ring_core.proofs.Replied.{quiet_keeps}

all_both : (ps qs : List (ℕ × List ℕ)) (h : List Entry) → AllAccepted ps h → AllAccepted qs h → AllAccepted (ps ++ qs) h
all_both [] qs h a b = b
all_both (p ∷ ps) qs h a b = (a.0, all_both ps qs h a.1 b)

held_by : (a b : Option ℕ) (word : ℕ) → ((x : ℕ) → a ≡ Some x → word ≡ word_of (Some x)) → ((x : ℕ) → b ≡ Some x → word ≡ word_of (Some x)) → (x : ℕ) → either_known a b ≡ Some x → word ≡ word_of (Some x)
held_by (Some y) b word f g x e = f x e
held_by None b word f g x e = g x e

merged_fits : (sw bw : ℕ) (m : Machine) (h : List Entry) (a b : Known) → KnownFits sw bw m h a → KnownFits sw bw m h b → KnownFits sw bw m h (merged a b)
merged_fits sw bw m h a b f g =
    let p = f.position in let q = g.position in
    record { pairs = all_both a.pairs b.pairs h f.pairs g.pairs; position = omega arith; source = held_by a.source b.source sw f.source g.source; base = held_by a.base b.base bw f.base g.base }

-- a note is spent
module _ (k : Shape) (s : Ring) (rule : RingRule k s) (id : ℕ) (n : Known) (at : get_elem? s.views id ≡ some (note_view k n)) where
  abbrev t : Ring
  t = record s { views = set s.views id spent_view }

  abbrev m : Machine
  m = after_all opening_machine rule.history

  spent_caller : (c : Calling) → Path Role Spent (Caller c) → ⊥
  spent_caller c e = cc

  note_caller : (c : Calling) → Path Role (Note n) (Caller c) → ⊥
  note_caller c e = cc

  before : (q : Place) (c : ℕ) → Names t q c → Names s q c
  before (in_slot j) c a = a
  before (in_berth j) c a = a
  before (with_seat j) c a = ⊎_elim (λ (r : (j ≡ id) × (spent_view ≡ a.0)). absurd (spent_caller a.1 (ap (λ (y : View). y.role) r.1 ∙ a.3))) (λ (r : (j ≢ id) × (get_elem? s.views j ≡ some a.0)). (a.0, a.1, r.1, a.3, a.4)) (at_set s.views id j spent_view a.0 a.2)

  after : (q : Place) (c : ℕ) → Names s q c → Names t q c
  after (in_slot j) c a = a
  after (in_berth j) c a = a
  after (with_seat j) c a =
      let other : j ≢ id = λ e. note_caller a.1 (ap (λ (y : View). y.role) (at_one s.views id (note_view k n) a.0 at (subst (λ (i : ℕ). get_elem? s.views i ≡ some a.0) e a.2)) ∙ a.3) in
      (a.0, a.1, set_else s.views id j spent_view other ∙ a.2, a.3, a.4)

  same : (who : ℕ) → Same who (Note n) Spent
  same who = record { right = λ r. r; calling = λ l a. a; calling_back = λ l a. a; left = λ l a. a; left_back = λ l a. a }

  as_is : (role : Role) → RoleFits s (slot_count k) m rule.history k.filers role → RoleFits t (slot_count k) m rule.history k.filers role
  as_is (Pool q) f = f
  as_is (Caller c) f = f
  as_is (Departed d) f = f
  as_is (Note n) f = f
  as_is Spent f = f

  spend_keeps : RingRule k t
  spend_keeps =
      record {
        history = rule.history;
        place = rule.place;
        sized = record { some_filer = rule.sized.some_filer; filers = rule.sized.filers; g = rule.sized.g; slots = rule.sized.slots; berths = rule.sized.berths; cells = rule.sized.cells };
        shaped = λ j y e not. ⊎_elim (λ (r : (j ≡ id) × (spent_view ≡ y)). absurd (not (ap (λ (z : View). z.role) (sym r.1)))) (λ (r : (j ≢ id) × (get_elem? s.views j ≡ some y)). rule.shaped j y r.1 not) (at_set s.views id j spent_view y e);
        legal = rule.legal;
        callers = rule.callers;
        slot = rule.slot;
        named = λ c y e. let a = rule.named c y e in (after (rule.place c) c a.0, a.1);
        alone = λ q c a. rule.alone q c (before q c a);
        caller = λ who b e. stands_kept s.views id (note_view k n) spent_view at who (calls_of who rule.history) b (same who) (rule.caller who b e);
        position = rule.position;
        bound = rule.bound;
        role = λ j y e. ⊎_elim (λ (r : (j ≡ id) × (spent_view ≡ y)). subst (λ (z : View). RoleFits t (slot_count k) m rule.history k.filers z.role) r.1 tt) (λ (r : (j ≢ id) × (get_elem? s.views j ≡ some y)). as_is y.role (rule.role j y r.1)) (at_set s.views id j spent_view y e);
        source = rule.source;
        base = rule.base;
      }

-- first the caller learns, then the note is spent
pub learn_keeps : (k : Shape) (s : Ring) (rule : RingRule k s) (id : ℕ) (c : Calling) (other : ℕ) (n : Known) → get_elem? s.views id ≡ some (caller_view k c) → other ≢ id → get_elem? s.views other ≡ some (note_view k n) → RingRule k (learn_at k s id c other n)
learn_keeps k s rule id c other n at apart note =
    let m : Machine = after_all opening_machine rule.history in
    let old = rule.role id (caller_view k c) at in
    let heard = rule.role other (note_view k n) note in
    let mid : RingRule k (view_at k s id (told_by c n)) = quiet_keeps k s rule id c (told_by c n) at refl refl refl (old.0, merged_fits s.source s.base m rule.history c.known n old.1 heard, old.2) in
    spend_keeps k (view_at k s id (told_by c n)) mid other n (set_else s.views id other (caller_view k (told_by c n)) apart ∙ note)

-- A peek, and a note of a caller, keep the rule.
use Rattle.std.proofs.Common.{◌≡◌, ⊎_elim, ℕ, [], ◌∷◌, length, Option, Some, None, refl, sym, ap, ◌∙◌, subst, le_refl}
use mathlib.Core.Option.{some}
use lib.ListN.{get_elem?}
use Rattle.ring_core.proofs.Elements.{at_longer}
use Rattle.playout.specs.declared.call.Call.TheVariants.{PeekCall}
use Rattle.ring_core.specs.declared.views.Shape.{Shape}
use Rattle.ring_core.specs.declared.views.Calling.{Calling}
use Rattle.ring_core.specs.declared.views.Role.{Role}
use Rattle.ring_core.specs.declared.views.Role.TheVariants.{Pool, Caller, Departed, Note, Spent}
use Rattle.ring_core.specs.declared.views.View.{View}
use Rattle.playout.specs.Machine.{Machine, opening_machine}
use Rattle.playout.specs.History.{after_all, entry, calls_of}
use Rattle.ring_core.specs.Ring.{Ring, slot_count, word_of, Place, in_slot, in_berth, with_seat, Names, RoleFits, RingRule}
use Rattle.ring_core.specs.Steps.{caller_view, note_view, view_at, either_known, peeked, note_at}
use Rattle.ring_core.proofs.Seats.{known_kept}
use Rattle.ring_core.proofs.Split.{at_end, stands_longer}
use Rattle.ring_core.proofs.Replied.{reply_keeps}

pub peek_keeps : (k : Shape) (s : Ring) (rule : RingRule k s) (id : ℕ) (c : Calling) (held : Option ℕ) → get_elem? s.views id ≡ some (caller_view k c) → c.who ≡ k.filers → held ≡ (after_all opening_machine rule.history).base → RingRule k (view_at k s id (peeked c held))
peek_keeps k s rule id c held at player is =
    let m : Machine = after_all opening_machine rule.history in
    let known = known_kept s.source s.base m m rule.history (entry c.who (PeekCall held)) c.known (le_refl m.position) (rule.role id (caller_view k c) at).1 in
    reply_keeps k s rule id c (peeked c held) at refl refl (PeekCall held) refl player is refl refl
    record { pairs = known.pairs; position = known.position; source = known.source; base = seen held (rule.base ∙ ap word_of (sym is)) known.base } (rule.role id (caller_view k c) at).2
  where
    seen : (o : Option ℕ) → s.base ≡ word_of o → ((x : ℕ) → c.known.base ≡ Some x → s.base ≡ word_of (Some x)) → (x : ℕ) → either_known o c.known.base ≡ Some x → s.base ≡ word_of (Some x)
    seen None w f x e = f x e
    seen (Some y) w f x e = w ∙ ap word_of e

module _ (k : Shape) (s : Ring) (rule : RingRule k s) (id : ℕ) (c : Calling) (at : get_elem? s.views id ≡ some (caller_view k c)) where
  abbrev n : View
  n = note_view k c.known

  abbrev t : Ring
  t = note_at k s c

  abbrev m : Machine
  m = after_all opening_machine rule.history

  note_caller : (d : Calling) → Path Role (Note c.known) (Caller d) → ⊥
  note_caller d e = cc

  before : (q : Place) (j : ℕ) → Names t q j → Names s q j
  before (in_slot i) j a = a
  before (in_berth i) j a = a
  before (with_seat i) j a = ⊎_elim (λ (r : get_elem? s.views i ≡ some a.0). (a.0, a.1, r, a.3, a.4)) (λ (r : (i ≡ length s.views) × (n ≡ a.0)). absurd (note_caller a.1 (ap (λ (y : View). y.role) r.1 ∙ a.3))) (at_end s.views n a.0 i a.2)

  later : (q : Place) (j : ℕ) → Names s q j → Names t q j
  later (in_slot i) j a = a
  later (in_berth i) j a = a
  later (with_seat i) j a = (a.0, a.1, at_longer s.views (n ∷ []) i a.0 a.2, a.3, a.4)

  as_is : (role : Role) → RoleFits s (slot_count k) m rule.history k.filers role → RoleFits t (slot_count k) m rule.history k.filers role
  as_is (Pool q) f = f
  as_is (Caller c) f = f
  as_is (Departed c) f = f
  as_is (Note n) f = f
  as_is Spent f = f

  pub note_keeps : RingRule k t
  note_keeps =
      record {
        history = rule.history;
        place = rule.place;
        sized = record { some_filer = rule.sized.some_filer; filers = rule.sized.filers; g = rule.sized.g; slots = rule.sized.slots; berths = rule.sized.berths; cells = rule.sized.cells };
        shaped = λ j y e not. ⊎_elim (λ (r : get_elem? s.views j ≡ some y). rule.shaped j y r not) (λ (r : (j ≡ length s.views) × (n ≡ y)). ap (λ (z : View). z.shape) (sym r.1)) (at_end s.views n y j e);
        legal = rule.legal;
        callers = rule.callers;
        slot = rule.slot;
        named = λ j y e. let a = rule.named j y e in (later (rule.place j) j a.0, a.1);
        alone = λ q j a. rule.alone q j (before q j a);
        caller = λ who b e. stands_longer s.views n who (calls_of who rule.history) b (λ r. r) (λ l a. a) (λ l a. a) (rule.caller who b e);
        position = rule.position;
        bound = rule.bound;
        role = λ j y e. ⊎_elim (λ (r : get_elem? s.views j ≡ some y). as_is y.role (rule.role j y r)) (λ (r : (j ≡ length s.views) × (n ≡ y)). subst (λ (z : View). RoleFits t (slot_count k) m rule.history k.filers z.role) r.1 (rule.role id (caller_view k c) at).1) (at_end s.views n y j e);
        source = rule.source;
        base = rule.base;
      }

-- A call of source keeps the rule.
use Rattle.std.proofs.Common.{◌≡◌, ◌≢◌, ⊎_elim, ℕ, ◌+◌, ◌^◌, ◌<◌, ◌≤◌, List, [], ◌∷◌, ◌++◌, Option, Some, None, refl, sym, ap, ◌∙◌, subst, arith, le_refl}
use mathlib.Core.Option.{some}
use lib.ListN.{get_elem?}
use Rattle.ring_core.proofs.Elements.{at_set}
use Rattle.playout.specs.declared.call.Call.{Call}
use Rattle.playout.specs.declared.call.Call.TheVariants.{SourceCall}
use Rattle.ring_core.specs.declared.views.Shape.{Shape}
use Rattle.ring_core.specs.declared.views.Known.{Known}
use Rattle.ring_core.specs.declared.views.Calling.{Calling}
use Rattle.ring_core.specs.declared.views.Role.{Role}
use Rattle.ring_core.specs.declared.views.Role.TheVariants.{Pool, Caller, Departed, Note, Spent}
use Rattle.ring_core.specs.declared.views.View.{View}
use Rattle.playout.specs.Machine.{start, Machine, opening_machine, held_or, after}
use Rattle.playout.specs.History.{Entry, entry, after_all, calls, moves}
use Rattle.ring_core.specs.Ring.{Ring, slot_count, word_of, Place, in_slot, in_berth, with_seat, Names, SlotFits, KnownFits, RoleFits, RingRule}
use Rattle.ring_core.specs.Steps.{caller_view, view_at, sourced, source_at}
use Rattle.playout.specs.LongerHistory.{after_all-snoc, legal-snoc, callers-snoc, moves-snoc, calls-snoc, all_accepted-longer}
use Rattle.ring_core.proofs.Seats.{known_kept}
use Rattle.ring_core.proofs.Kept.{callers_after}
use Rattle.ring_core.proofs.Replied.{names_before, names_after, reply_keeps}

-- a word says what is held
pub held-injective : (a b : Option ℕ) → word_of a ≡ word_of b → Path (Option ℕ) a b
held-injective None None e = refl
held-injective None (Some y) e = absurd (omega arith)
held-injective (Some x) None e = absurd (omega arith)
held-injective (Some x) (Some y) e = ap Some (let h : x ≡ y = omega arith in h)

module _ (k : Shape) (s : Ring) (rule : RingRule k s) (id : ℕ) (c : Calling) (x : ℕ) (at : get_elem? s.views id ≡ some (caller_view k c)) (filer : c.who < k.filers) where
  abbrev m : Machine
  m = after_all opening_machine rule.history

  -- where a source is held
  pub source_again : (held : ℕ) → s.source ≡ word_of (Some held) → RingRule k (view_at k s id (sourced c x held))
  source_again held word =
      let is : m.source ≡ Some held = held-injective m.source (Some held) (sym rule.source ∙ word) in
      let known = known_kept s.source s.base m m rule.history (entry c.who (SourceCall x held)) c.known (le_refl m.position) (rule.role id (caller_view k c) at).1 in
      reply_keeps k s rule id c (sourced c x held) at refl refl (SourceCall x held) refl filer (sym (ap (λ (o : Option ℕ). held_or o x) is)) (λ i. record { source = sym is i; base = m.base; position = m.position; frames = m.frames }) refl
      record { pairs = known.pairs; position = known.position; source = λ y e. word ∙ ap word_of e; base = known.base } (rule.role id (caller_view k c) at).2

  module _ (none : s.source ≡ 0) where
    abbrev d : Calling
    d = sourced c x x

    abbrev t : Ring
    t = source_at k s id c x

    abbrev call : Call
    call = SourceCall x x

    abbrev e : Entry
    e = entry c.who call

    abbrev h : List Entry
    h = rule.history ++ e ∷ []

    abbrev n : Machine
    n = after m call

    nobody : m.source ≡ None
    nobody = held-injective m.source None (sym rule.source ∙ none)

    now : after_all opening_machine h ≡ n
    now = after_all-snoc opening_machine rule.history e

    before : (q : Place) (j : ℕ) → Names t q j → Names s q j
    before (in_slot i) j a = a
    before (in_berth i) j a = a
    before (with_seat i) j a = names_before k s rule id c d at refl refl (with_seat i) j a

    later : (q : Place) (j : ℕ) → Names s q j → Names t q j
    later (in_slot i) j a = a
    later (in_berth i) j a = a
    later (with_seat i) j a = names_after k s rule id c d at refl refl (with_seat i) j a

    -- nobody knew a source
    known_now : (q : Known) → KnownFits s.source s.base m rule.history q → KnownFits t.source t.base n h q
    known_now q f =
        record { pairs = all_accepted-longer q.pairs rule.history e f.pairs; position = f.position; source = λ y z. let w : s.source ≡ 4294967296 + y = f.source y z in let u : s.source ≡ 0 = none in absurd (omega arith); base = f.base }

    roles : (role : Role) → RoleFits s (slot_count k) m rule.history k.filers role → RoleFits t (slot_count k) n h k.filers role
    roles (Pool q) f = f
    roles (Caller q) f = (f.0, known_now q.known f.1, f.2)
    roles (Departed q) f = f
    roles (Note q) f = known_now q f
    roles Spent f = f

    mine : RoleFits t (slot_count k) n h k.filers (Caller d)
    mine =
        let f = rule.role id (caller_view k c) at in
        (f.0, record { pairs = all_accepted-longer c.known.pairs rule.history e f.1.pairs; position = f.1.position; source = λ y z. ap word_of z; base = f.1.base }, f.2)

    counted : moves (calls h) ≡ moves (calls rule.history)
    counted = let a = ap moves (calls-snoc rule.history e) in let b = moves-snoc (calls rule.history) call in omega arith

    pub source_keeps : RingRule k t
    source_keeps =
        record {
          history = h;
          place = rule.place;
          sized = record { some_filer = rule.sized.some_filer; filers = rule.sized.filers; g = rule.sized.g; slots = rule.sized.slots; berths = rule.sized.berths; cells = rule.sized.cells };
          shaped = λ j v a not. ⊎_elim (λ (q : (j ≡ id) × (caller_view k d ≡ v)). ap (λ (u : View). u.shape) (sym q.1)) (λ (q : (j ≢ id) × (get_elem? s.views j ≡ some v)). rule.shaped j v q.1 not) (at_set s.views id j (caller_view k d) v a);
          legal = legal-snoc (slot_count k) opening_machine rule.history e rule.legal (sym (ap (λ (o : Option ℕ). held_or o x) nobody));
          callers = callers-snoc k.filers rule.history e rule.callers filer;
          slot = λ j v a. subst (λ (q : Machine). SlotFits (slot_count k) q s.cells j v) (sym now) (let f = rule.slot j v a in record { reached = f.reached; near = f.near; congruent = f.congruent; filled = f.filled; free = f.free });
          named = λ j y a. let old = rule.named j y a in (later (rule.place j) j old.0, old.1);
          alone = λ q j a. rule.alone q j (before q j a);
          caller = callers_after k s.views s.berths id c d call rule.history at refl refl rule.caller;
          position = ap (λ (q : Machine). q.position) now ∙ (rule.position ∙ ap (λ (q : ℕ). start + q) (sym counted));
          bound = subst (λ (q : Machine). q.position ≤ 2 ^ 33) (sym now) rule.bound;
          role = λ j v a. subst (λ (q : Machine). RoleFits t (slot_count k) q h k.filers v.role) (sym now)
              (⊎_elim (λ (q : (j ≡ id) × (caller_view k d ≡ v)). subst (λ (u : View). RoleFits t (slot_count k) n h k.filers u.role) q.1 mine) (λ (q : (j ≢ id) × (get_elem? s.views j ≡ some v)). roles v.role (rule.role j v q.1)) (at_set s.views id j (caller_view k d) v a));
          source = ap (λ (q : Machine). word_of q.source) (sym now);
          base = rule.base ∙ ap (λ (q : Machine). word_of q.base) (sym now);
        }

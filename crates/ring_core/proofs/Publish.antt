-- A publish that finds the word as it was loaded keeps the rule.
use Rattle.std.proofs.Common.{◌≡◌, ◌≢◌, ⊎_elim, ℕ, ◌+◌, ◌%◌, ◌^◌, ◌<◌, ◌≤◌, List, [], ◌∷◌, ◌++◌, set, Option, Some, true≢false, refl, sym, ap, ◌∙◌, subst, arith, length-set, le_refl}
use mathlib.Core.Option.{some}
use lib.ListN.{get_elem?}
use Rattle.ring_core.proofs.Elements.{at_set, set_else, set_here}
use Rattle.playout.specs.declared.call.Call.{Call}
use Rattle.playout.specs.declared.call.Call.TheVariants.{FileCall}
use Rattle.playout.specs.declared.reply.FileReply.TheVariants.{Accepted}
use Rattle.ring_core.specs.declared.views.Shape.{Shape}
use Rattle.ring_core.specs.declared.views.Flight.{Flight}
use Rattle.ring_core.specs.declared.views.Calling.{Calling}
use Rattle.ring_core.specs.declared.views.Role.TheVariants.{Caller, Spent}
use Rattle.ring_core.specs.declared.views.View.{View}
use Rattle.playout.specs.Machine.{start, Machine, opening_machine, after, Replies}
use Rattle.playout.specs.History.{Entry, entry, after_all, calls, moves}
use Rattle.ring_core.specs.declared.words.SlotWord.{SlotWord}
use Rattle.ring_core.specs.declared.words.Cell.TheVariants.{AtHome, OutWith}
use Rattle.ring_core.specs.Ring.{Ring, slot_count, word_of, SlotFits, RoleFits, RingRule}
use Rattle.ring_core.specs.Steps.{caller_view, full_word, free_word, published, publish_at}
use Rattle.playout.specs.LongerHistory.{after_all-snoc, legal-snoc, callers-snoc, moves-snoc, calls-snoc, accepted-last, all_accepted-longer}
use Rattle.playout.specs.FrameLaws.{get-insert_here, get-insert_else}
use Rattle.ring_core.proofs.Cells as cells
use Rattle.ring_core.proofs.Kept.{callers_after, role_kept}

module _ (k : Shape) (s : Ring) (rule : RingRule k s) (id : ℕ) (c : Calling) (f : Flight) (y : Option (List ℕ))
    (at : get_elem? s.views id ≡ some (caller_view k c)) (filer : c.who < k.filers) (found : get_elem? s.slots (f.number % slot_count k) ≡ some (free_word f.number f.cell)) (holds : get_elem? s.cells f.cell ≡ some (AtHome y)) where
  abbrev R : ℕ
  R = slot_count k

  abbrev i : ℕ
  i = f.number % R

  abbrev w : SlotWord
  w = free_word f.number f.cell

  abbrev m : Machine
  m = after_all opening_machine rule.history

  abbrev call : Call
  call = FileCall f.number f.frame Accepted

  abbrev e : Entry
  e = entry c.who call

  abbrev h : List Entry
  h = rule.history ++ e ∷ []

  abbrev n : Machine
  n = after m call

  abbrev d : Calling
  d = published c f.number f.frame f.cell

  abbrev t : Ring
  t = publish_at k s id c f

  abbrev x : SlotWord
  x = full_word f.number c.spare

  now : after_all opening_machine h ≡ n
  now = after_all-snoc opening_machine rule.history e

  replies : Replies R m call
  replies = let fits = rule.slot i w found in (fits.reached, fits.near, fits.free refl)

  slot_here : SlotFits R n t.cells i x
  slot_here =
      let fits = rule.slot i w found in
      let a = cells.apart s rule.place i id w x (caller_view k c) (caller_view k d) c d (Some f.frame) found at refl refl refl refl rule.alone rule.named in
      let b = cells.seat_place s rule.place i id w x (caller_view k c) (caller_view k d) c d (Some f.frame) found at refl refl refl refl rule.alone rule.named in
      record {
        reached = fits.reached;
        near = fits.near;
        congruent = refl;
        filled = λ _. (f.frame, get-insert_here m.frames f.number f.frame, set_else (set s.cells c.spare (AtHome (Some f.frame))) f.cell c.spare (OutWith id) a ∙ set_here s.cells c.spare (AtHome (Some f.frame)) b.1);
        free = λ b. absurd (true≢false b);
      }

  slot_else : (j : ℕ) (v : SlotWord) → j ≢ i → get_elem? s.slots j ≡ some v → SlotFits R n t.cells j v
  slot_else j v other a =
      let fits = rule.slot j v a in
      let apart : v.number ≢ f.number = λ same. other (sym fits.congruent ∙ ap (λ (b : ℕ). b % R) same) in
      record {
        reached = fits.reached;
        near = fits.near;
        congruent = fits.congruent;
        filled = λ b. let g = fits.filled b in (g.0, get-insert_else m.frames f.number v.number f.frame apart ∙ g.1, cells.value_stays s rule.place i id w x (caller_view k c) (caller_view k d) c d (Some f.frame) found at refl refl refl refl rule.alone rule.named j v (AtHome (Some g.0)) other a g.2);
        free = λ b. get-insert_else m.frames f.number v.number f.frame apart ∙ fits.free b;
      }

  roles : (j : ℕ) (v : View) → get_elem? t.views j ≡ some v → RoleFits t R n h k.filers v.role
  roles j v a =
      ⊎_elim
      (λ (q : (j ≡ id) × (caller_view k d ≡ v)). subst (λ (u : View). RoleFits t R n h k.filers u.role) q.1 mine)
      (λ (q : (j ≢ id) × (get_elem? s.views j ≡ some v)). role_kept s t R m n rule.history e k.filers i w x v.role refl refl refl (le_refl m.position) found (le_refl f.number) (λ b _ _ no_free. true≢false no_free) (rule.role j v q.1))
      (at_set s.views id j (caller_view k d) v a)
    where
      mine : RoleFits t R n h k.filers (Caller d)
      mine =
          let old = rule.role id (caller_view k c) at in
          (old.0, record { pairs = (accepted-last f.number f.frame rule.history e refl, all_accepted-longer c.known.pairs rule.history e old.1.pairs); position = old.1.position; source = old.1.source; base = old.1.base }, tt)

  pub publish_keeps : RingRule k t
  publish_keeps =
      record {
        history = h;
        place = cells.places s rule.place i id w x (caller_view k c) (caller_view k d) c d (Some f.frame) found at refl refl refl refl rule.alone rule.named;
        sized =
            let z0 = rule.sized in
            record {
              some_filer = z0.some_filer;
              filers = z0.filers;
              g = z0.g;
              slots = length-set s.slots i x ∙ z0.slots;
              berths = z0.berths;
              cells = length-set (set s.cells c.spare (AtHome (Some f.frame))) f.cell (OutWith id) ∙ (length-set s.cells c.spare (AtHome (Some f.frame)) ∙ z0.cells);
            };
        shaped = λ j v a. ⊎_elim (λ (q : (j ≡ id) × (caller_view k d ≡ v)) (_ : v.role ≢ Spent). ap (λ (u : View). u.shape) (sym q.1)) (λ (q : (j ≢ id) × (get_elem? s.views j ≡ some v)). rule.shaped j v q.1) (at_set s.views id j (caller_view k d) v a);
        legal = legal-snoc R opening_machine rule.history e rule.legal replies;
        callers = callers-snoc k.filers rule.history e rule.callers filer;
        slot = λ j v a. subst (λ (q : Machine). SlotFits R q t.cells j v) (sym now) (⊎_elim (λ (q : (j ≡ i) × (x ≡ v)). subst (λ (u : ℕ × SlotWord). SlotFits R n t.cells u.0 u.1) (λ b. (sym q.0 b, q.1 b)) slot_here) (λ (q : (j ≢ i) × (get_elem? s.slots j ≡ some v)). slot_else j v q.0 q.1) (at_set s.slots i j x v a));
        named = cells.named_after s rule.place i id w x (caller_view k c) (caller_view k d) c d (Some f.frame) found at refl refl refl refl rule.alone rule.named;
        alone = cells.alone_after s rule.place i id w x (caller_view k c) (caller_view k d) c d (Some f.frame) found at refl refl refl refl rule.alone rule.named;
        caller = callers_after k s.views s.berths id c d call rule.history at refl refl rule.caller;
        position = ap (λ (q : Machine). q.position) now ∙ (rule.position ∙ ap (λ (q : ℕ). start + q) (sym counted));
        bound = subst (λ (q : Machine). q.position ≤ 2 ^ 33) (sym now) rule.bound;
        role = λ j v a. subst (λ (q : Machine). RoleFits t R q h k.filers v.role) (sym now) (roles j v a);
        source = rule.source ∙ ap (λ (q : Machine). word_of q.source) (sym now);
        base = rule.base ∙ ap (λ (q : Machine). word_of q.base) (sym now);
      }
    where
      counted : moves (calls h) ≡ moves (calls rule.history)
      counted = let a = ap moves (calls-snoc rule.history e) in let b = moves-snoc (calls rule.history) call in omega arith

-- A step that changes one view alone keeps the rule.
use Rattle.std.proofs.Common.{◌≡◌, ◌≢◌, ⊎_elim, ℕ, ◌+◌, ◌%◌, ◌^◌, ◌<◌, ◌≤◌, eqb, List, [], ◌∷◌, ◌++◌, Option, Bool, true, false, refl, sym, ap, ◌∙◌, subst, arith, le_refl}
use native.Mathlib.Decide.{ℕ_discrete}
use mathlib.Core.Option.{some}
use lib.ListN.{get_elem?}
use Rattle.std.proofs.lemmas.Bool.Decides.{nat_tests}
use Rattle.std.specs.Prelude.{nat_lt, IsSome}
use Rattle.std.specs.FinMap as map
use Rattle.ring_core.proofs.Elements.{at_set, set_else}
use Rattle.playout.specs.declared.reply.FileReply.TheVariants.{Duplicate, Late, Beyond}
use Rattle.playout.specs.declared.call.Call.{Call}
use Rattle.playout.specs.declared.call.Call.TheVariants.{FileCall}
use Rattle.ring_core.specs.declared.views.Shape.{Shape}
use Rattle.ring_core.specs.declared.views.Calling.{Calling}
use Rattle.ring_core.specs.declared.views.Role.{Role}
use Rattle.ring_core.specs.declared.views.Role.TheVariants.{Pool, Caller, Departed, Note, Spent}
use Rattle.ring_core.specs.declared.views.View.{View}
use Rattle.playout.specs.Machine.{start, Machine, opening_machine, Replies, after}
use Rattle.playout.specs.History.{Entry, entry, after_all, calls_of, calls, moves, move_weight, IsLegal, MayCall, AllMayCall}
use Rattle.ring_core.specs.declared.words.SlotWord.{SlotWord}
use Rattle.ring_core.specs.declared.words.Berth.{Berth}
use Rattle.ring_core.specs.Ring.{Ring, slot_count, word_of, Place, in_slot, in_berth, with_seat, Names, CallerStands, SlotFits, KnownFits, FlightFits, RoleFits, RingRule}
use Rattle.ring_core.specs.Steps.{caller_view, in_flight, replied, late, loaded_by, loaded, view_at}
use Rattle.ring_core.specs.ListPlaces.{at_one}
use Rattle.ring_core.specs.RuleLaws.{list_is}
use Rattle.playout.specs.Turns.{turn_apart}
use Rattle.playout.specs.LongerHistory.{after_all-snoc, legal-snoc, callers-snoc, moves-snoc, calls-snoc}
use Rattle.ring_core.proofs.Seats.{set_at, stands_kept, calling_kept, known_kept}
use Rattle.ring_core.proofs.Kept.{callers_after, same_callers}

caller-injective : (c d : Calling) → Path Role (Caller c) (Caller d) → Path Calling c d
caller-injective c d e = cc

-- where nothing changes but that the history grows, and the machine stays
role_longer : (s t : Ring) (r : ℕ) (m : Machine) (h : List Entry) (e : Entry) (filers : ℕ) (role : Role) → t.source ≡ s.source → t.base ≡ s.base → t.slots ≡ s.slots → RoleFits s r m h filers role → RoleFits t r m (h ++ e ∷ []) filers role
role_longer s t r m h e filers (Pool p) so ba sl f = f
role_longer s t r m h e filers (Caller c) so ba sl f =
    (f.0, subst (λ (z : ℕ × ℕ). KnownFits z.0 z.1 m (h ++ e ∷ []) c.known) (λ q. (sym so q, sym ba q)) (known_kept s.source s.base m m h e c.known (le_refl m.position) f.1), subst (λ (l : List SlotWord). FlightFits r l c.flight) (sym sl) f.2)
role_longer s t r m h e filers (Departed d) so ba sl f = f
role_longer s t r m h e filers (Note k) so ba sl f = subst (λ (z : ℕ × ℕ). KnownFits z.0 z.1 m (h ++ e ∷ []) k) (λ q. (sym so q, sym ba q)) (known_kept s.source s.base m m h e k (le_refl m.position) f)
role_longer s t r m h e filers Spent so ba sl f = tt

role_as_is : (k : Shape) (s : Ring) (id : ℕ) (d : Calling) (r : ℕ) (m : Machine) (h : List Entry) (filers : ℕ) (role : Role) → RoleFits s r m h filers role → RoleFits (view_at k s id d) r m h filers role
role_as_is k s id d r m h filers (Pool p) f = f
role_as_is k s id d r m h filers (Caller c) f = f
role_as_is k s id d r m h filers (Departed e) f = f
role_as_is k s id d r m h filers (Note n) f = f
role_as_is k s id d r m h filers Spent f = f

module _ (k : Shape) (s : Ring) (rule : RingRule k s) (id : ℕ) (c d : Calling) (at : get_elem? s.views id ≡ some (caller_view k c)) (who : d.who ≡ c.who) (spare : d.spare ≡ c.spare) where
  abbrev t : Ring
  t = view_at k s id d

  abbrev m : Machine
  m = after_all opening_machine rule.history

  pub names_before : (p : Place) (n : ℕ) → Names t p n → Names s p n
  names_before (in_slot j) n x = x
  names_before (in_berth j) n x = x
  names_before (with_seat j) n x =
      ⊎_elim
      (λ (q : (j ≡ id) × (caller_view k d ≡ x.0)). let role : Caller d ≡ Caller x.1 = ap (λ (y : View). y.role) q.1 ∙ x.3 in
      (caller_view k c, c, subst (λ (y : ℕ). get_elem? s.views y ≡ some (caller_view k c)) (sym q.0) at, refl, sym spare ∙ (ap (λ (y : Calling). y.spare) (caller-injective d x.1 role) ∙ x.4)))
      (λ (q : (j ≢ id) × (get_elem? s.views j ≡ some x.0)). (x.0, x.1, q.1, x.3, x.4))
      (at_set s.views id j (caller_view k d) x.0 x.2)

  pub names_after : (p : Place) (n : ℕ) → Names s p n → Names t p n
  names_after (in_slot j) n x = x
  names_after (in_berth j) n x = x
  names_after (with_seat j) n x = go (ℕ_discrete j id)
    where
      go : Dec (j ≡ id) → Names t (with_seat j) n
      go (yes e) =
          let here : get_elem? s.views id ≡ some x.0 = subst (λ (y : ℕ). get_elem? s.views y ≡ some x.0) e x.2 in
          let role : Caller x.1 ≡ Caller c = sym x.3 ∙ ap (λ (y : View). y.role) (at_one s.views id x.0 (caller_view k c) here at) in
          (caller_view k d, d, subst (λ (y : ℕ). get_elem? t.views y ≡ some (caller_view k d)) (sym e) (set_at s.views id (caller_view k c) (caller_view k d) at), refl, spare ∙ (ap (λ (y : Calling). y.spare) (sym (caller-injective x.1 c role)) ∙ x.4))
      go (no n) = (x.0, x.1, set_else s.views id j (caller_view k d) n ∙ x.2, x.3, x.4)

  seat_keeps : (h : List Entry) → IsLegal (slot_count k) opening_machine h → AllMayCall k.filers h → after_all opening_machine h ≡ m → moves (calls h) ≡ moves (calls rule.history)
      → ((who : ℕ) (b : Berth) → get_elem? s.berths who ≡ some b → CallerStands t.views who (calls_of who h) b)
      → ((j : ℕ) (v : View) → j ≢ id → get_elem? s.views j ≡ some v → RoleFits t (slot_count k) m h k.filers v.role)
      → RoleFits t (slot_count k) m h k.filers (Caller d) → RingRule k t
  seat_keeps h legal callers same counted stands others mine =
      record {
        history = h;
        place = rule.place;
        sized = record { some_filer = rule.sized.some_filer; filers = rule.sized.filers; g = rule.sized.g; slots = rule.sized.slots; berths = rule.sized.berths; cells = rule.sized.cells };
        shaped = λ j v a. ⊎_elim (λ (q : (j ≡ id) × (caller_view k d ≡ v)) (_ : v.role ≢ Spent). ap (λ (u : View). u.shape) (sym q.1)) (λ (q : (j ≢ id) × (get_elem? s.views j ≡ some v)). rule.shaped j v q.1) (at_set s.views id j (caller_view k d) v a);
        legal = legal;
        callers = callers;
        slot = λ j v a. subst (λ (q : Machine). SlotFits (slot_count k) q s.cells j v) (sym same) (rule.slot j v a);
        named = λ n x a. let old = rule.named n x a in (names_after (rule.place n) n old.0, old.1);
        alone = λ p n x. rule.alone p n (names_before p n x);
        caller = stands;
        position = ap (λ (q : Machine). q.position) same ∙ (rule.position ∙ ap (λ (q : ℕ). start + q) (sym counted));
        bound = subst (λ (q : Machine). q.position ≤ 2 ^ 33) (sym same) rule.bound;
        role = λ j v a. subst (λ (q : Machine). RoleFits t (slot_count k) q h k.filers v.role) (sym same)
            (⊎_elim (λ (q : (j ≡ id) × (caller_view k d ≡ v)). subst (λ (u : View). RoleFits t (slot_count k) m h k.filers u.role) q.1 mine) (λ (q : (j ≢ id) × (get_elem? s.views j ≡ some v)). others j v q.0 q.1) (at_set s.views id j (caller_view k d) v a));
        source = rule.source ∙ ap (λ (q : Machine). word_of q.source) (sym same);
        base = rule.base ∙ ap (λ (q : Machine). word_of q.base) (sym same);
      }

  -- with no entry
  pub quiet_keeps : d.list ≡ c.list → RoleFits t (slot_count k) m rule.history k.filers (Caller d) → RingRule k t
  quiet_keeps list mine =
      seat_keeps rule.history rule.legal rule.callers refl refl stands (λ j v _ e. role_as_is k s id d (slot_count k) m rule.history k.filers v.role (rule.role j v e)) mine
    where
      stands : (who : ℕ) (b : Berth) → get_elem? s.berths who ≡ some b → CallerStands t.views who (calls_of who rule.history) b
      stands x b e = go (ℕ_discrete x c.who)
        where
          go : Dec (x ≡ c.who) → CallerStands t.views x (calls_of x rule.history) b
          go (yes q) = subst (λ (z : ℕ). CallerStands t.views z (calls_of z rule.history) b) (sym q)
              (calling_kept s.views id (caller_view k c) (caller_view k d) c d (calls_of c.who rule.history) (calls_of c.who rule.history) b at refl refl who (list ∙ list_is k s rule id c at) (subst (λ (z : ℕ). CallerStands s.views z (calls_of z rule.history) b) q (rule.caller x b e))).1
          go (no n) = stands_kept s.views id (caller_view k c) (caller_view k d) at x (calls_of x rule.history) b (same_callers x c d who n) (rule.caller x b e)

  -- with an entry that leaves the machine as it is
  pub reply_keeps : (call : Call) → d.list ≡ c.list ++ call ∷ [] → MayCall k.filers c.who call → Replies (slot_count k) m call → after m call ≡ m → move_weight call ≡ 0
      → KnownFits s.source s.base m (rule.history ++ entry c.who call ∷ []) d.known → FlightFits (slot_count k) s.slots d.flight → RingRule k t
  reply_keeps call list may reply stays light known flight =
      let e : Entry = entry c.who call in
      let old = rule.role id (caller_view k c) at in
      let low : d.who ≤ k.filers = subst (λ (z : ℕ). z ≤ k.filers) (sym who) old.0 in
      seat_keeps (rule.history ++ e ∷ []) (legal-snoc (slot_count k) opening_machine rule.history e rule.legal reply) (callers-snoc k.filers rule.history e rule.callers may)
      (after_all-snoc opening_machine rule.history e ∙ stays) counted (callers_after k s.views s.berths id c d call rule.history at who list rule.caller)
      (λ j v _ a. role_longer s t (slot_count k) m rule.history e k.filers v.role refl refl refl (rule.role j v a)) (low, known, flight)
    where
      counted : moves (calls (rule.history ++ entry c.who call ∷ [])) ≡ moves (calls rule.history)
      counted = let a = ap moves (calls-snoc rule.history (entry c.who call)) in let b = moves-snoc (calls rule.history) call in omega arith

module _ (k : Shape) (s : Ring) (rule : RingRule k s) (id : ℕ) (c : Calling) (w : SlotWord) (n : ℕ) (f : List ℕ)
    (at : get_elem? s.views id ≡ some (caller_view k c)) (filer : c.who < k.filers) (found : get_elem? s.slots (n % slot_count k) ≡ some w) where
  abbrev R : ℕ
  R = slot_count k

  abbrev M : Machine
  M = after_all opening_machine rule.history

  flight_keeps : w.number ≡ n → w.filled ≡ false → RingRule k (view_at k s id (in_flight c n w.cell f))
  flight_keeps is free =
      let old = rule.role id (caller_view k c) at in
      quiet_keeps k s rule id c (in_flight c n w.cell f) at refl refl refl (old.0, old.1, (w, found, (omega arith), (λ _ _. refl)))

  duplicate_keeps : w.number ≡ n → w.filled ≡ true → RingRule k (view_at k s id (replied c n f Duplicate))
  duplicate_keeps is full =
      let fits = rule.slot (n % R) w found in
      let a : ℕ = w.number in let p : ℕ = M.position in let lo : p ≤ a = fits.reached in let hi : a < p + R = fits.near in
      let known = known_kept s.source s.base M M rule.history (entry c.who (FileCall n f Duplicate)) c.known (le_refl p) (rule.role id (caller_view k c) at).1 in
      let there : IsSome (map.get M.frames n) = subst (λ (o : Option (List ℕ)). IsSome o) (sym (ap (λ (z : ℕ). map.get M.frames z) (sym is) ∙ (fits.filled full).1)) refl in
      reply_keeps k s rule id c (replied c n f Duplicate) at refl refl (FileCall n f Duplicate) refl filer (omega arith, omega arith, there) refl refl known tt

  late_keeps : n < w.number → RingRule k (view_at k s id (late c n f w.number))
  late_keeps above =
      let fits = rule.slot (n % R) w found in
      let a : ℕ = w.number in let p : ℕ = M.position in let lo : p ≤ a = fits.reached in let hi : a < p + R = fits.near in
      let far : n + R ≤ a = turn_apart n a R above (sym fits.congruent) in
      let known = known_kept s.source s.base M M rule.history (entry c.who (FileCall n f (Late w.number))) c.known (le_refl p) (rule.role id (caller_view k c) at).1 in
      let low : c.known.position ≤ p = known.position in
      reply_keeps k s rule id c (late c n f w.number) at refl refl (FileCall n f (Late w.number)) refl filer ((omega arith), record { reached = fits.reached; near = fits.near; congruent = fits.congruent }) refl refl
      record { pairs = known.pairs; position = omega arith; source = known.source; base = known.base } tt

  beyond_keeps : w.number < n → RingRule k (view_at k s id (replied c n f (Beyond w.number)))
  beyond_keeps below =
      let fits = rule.slot (n % R) w found in
      let a : ℕ = w.number in let p : ℕ = M.position in let lo : p ≤ a = fits.reached in let hi : a < p + R = fits.near in
      let far : a + R ≤ n = turn_apart a n R below fits.congruent in
      let known = known_kept s.source s.base M M rule.history (entry c.who (FileCall n f (Beyond w.number))) c.known (le_refl p) (rule.role id (caller_view k c) at).1 in
      reply_keeps k s rule id c (replied c n f (Beyond w.number)) at refl refl (FileCall n f (Beyond w.number)) refl filer ((omega arith), record { reached = fits.reached; near = fits.near; congruent = fits.congruent }) refl refl known tt

  pub load_keeps : RingRule k (view_at k s id (loaded c w n f))
  load_keeps = go (eqb w.number n) w.filled (nat_lt n w.number) refl refl refl
    where
      go : (same full greater : Bool) → eqb w.number n ≡ same → w.filled ≡ full → nat_lt n w.number ≡ greater → RingRule k (view_at k s id (loaded_by same full greater c w n f))
      go true true greater e b g = duplicate_keeps (grind (arith, nat_tests)) b
      go true false greater e b g = flight_keeps (grind (arith, nat_tests)) b
      go false full true e b g = late_keeps (grind (arith, nat_tests))
      go false full false e b g = beyond_keeps (grind (arith, nat_tests))

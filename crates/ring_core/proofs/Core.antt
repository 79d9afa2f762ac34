-- The rule holds after all events.
use Rattle.std.proofs.Common.{◌≡◌, ◌≢◌, ℕ, zero, suc, ◌+◌, ◌-◌, ◌%◌, ◌^◌, ◌<◌, ◌≤◌, eqb, List, [], ◌∷◌, Option, Some, None, Bool, true, false, true≢false, cond, refl, sym, ap, ◌∙◌, subst, arith}
use Rattle.std.specs.Prelude.{nat_lt, ◌&&◌, slice_get}
use Rattle.std.proofs.lemmas.Bool.Decides.{nat_tests}
use mathlib.Core.Option as maybe
use lib.ListN.{get_elem?}
use Rattle.playout.specs.declared.call.Call.{Call}
use Rattle.ring_core.specs.declared.event.CoreEvent.{CoreEvent}
use Rattle.ring_core.specs.declared.event.CoreEvent.TheVariants.{Enlist, Load, Publish, Tick, Leave, Split, Learn, Gather, Source, Base, Peek, Look, Retire, Hold}
use Rattle.ring_core.specs.declared.player_steps.Move.{Move}
use Rattle.ring_core.specs.declared.player_steps.Move.TheVariants.{Played, Retired}
use Rattle.ring_core.specs.declared.player_steps.Glance.{Glance}
use Rattle.ring_core.specs.declared.player_steps.Glance.TheVariants.{Ahead, Here}
use Rattle.ring_core.specs.declared.views.Shape.{Shape}
use Rattle.ring_core.specs.declared.views.Known.{Known}
use Rattle.ring_core.specs.declared.views.Flight.{Flight}
use Rattle.ring_core.specs.declared.views.Pooling.{Pooling}
use Rattle.ring_core.specs.declared.views.Departing.{Departing}
use Rattle.ring_core.specs.declared.views.Calling.{Calling}
use Rattle.ring_core.specs.declared.views.Role.{Role}
use Rattle.ring_core.specs.declared.views.Role.TheVariants.{Pool, Caller, Departed, Note, Spent}
use Rattle.ring_core.specs.declared.views.View.{View}
use Rattle.ring_core.specs.declared.words.SlotWord.{SlotWord}
use Rattle.ring_core.specs.declared.words.Berth.{Berth}
use Rattle.ring_core.specs.declared.words.Berth.TheVariants.{Fresh, Out, Home}
use Rattle.ring_core.specs.declared.words.Cell.TheVariants.{AtHome}
use Rattle.ring_core.specs.Ring.{Ring, slot_count, word_of, Place, in_slot, StandsIn, FlightFits, RingRule}
use Rattle.ring_core.specs.Steps.{caller_view, pool_view, note_view, gone_view, position_of, ahead_of, loaded, view_at, publish_at, free_word}
use Rattle.ring_core.specs.Opening.{opening_ring}
use Rattle.ring_core.specs.Core.{kept_in, view_role, held_in, no_lists, on_ground, is_player, is_filer, move_word, move_role, glance_word, glance_role, load_word, load_role, publish_word, publish_flight, publish_role, enlist_berth, enlist_right, enlist_role, leave_role, split_right, split_role, learn_roles, gather_roles, source_word, source_role, base_word, base_role, peek_role, role_at, happens, run}
use Rattle.ring_core.specs.HeldLaws.{held_is}
use Rattle.ring_core.specs.ListPlaces.{at_exists, at_one}
use Rattle.ring_core.proofs.Moves.{move_keeps}
use Rattle.ring_core.proofs.Glances.{glance_keeps}
use Rattle.ring_core.proofs.Replied.{load_keeps}
use Rattle.ring_core.proofs.Publish.{publish_keeps}
use Rattle.ring_core.proofs.Enlist.{enlist_keeps}
use Rattle.ring_core.proofs.Leave.{leave_keeps}
use Rattle.ring_core.proofs.Split.{split_keeps}
use Rattle.ring_core.proofs.Notes.{note_keeps, peek_keeps}
use Rattle.ring_core.proofs.Learn.{learn_keeps}
use Rattle.ring_core.proofs.Gather.{gather_keeps}
use Rattle.ring_core.proofs.Source.{source_keeps, source_again}
use Rattle.ring_core.proofs.Base.{base_keeps, base_again}
use Rattle.ring_core.proofs.Opening.{opens}

-- a view that is not spent is of the table's shape
pub view_is : (k : Shape) (s : Ring) (rule : RingRule k s) (id : ℕ) (v : View) (r : Role) → get_elem? s.views id ≡ maybe.some v → v.role ≡ r → r ≢ Spent → get_elem? s.views id ≡ maybe.some (record { shape = k; role = r })
view_is k s rule id v r at is not = let shape : v.shape ≡ k = rule.shaped id v at (λ e. not (sym is ∙ e)) in at ∙ (λ i. maybe.some (record { shape = shape i; role = is i }))

caller_spent : (c : Calling) → Path Role (Caller c) Spent → ⊥
caller_spent c e = cc

pool_spent : (c : Pooling) → Path Role (Pool c) Spent → ⊥
pool_spent c e = cc

note_spent : (c : Known) → Path Role (Note c) Spent → ⊥
note_spent c e = cc

gone_spent : (c : Departing) → Path Role (Departed c) Spent → ⊥
gone_spent c e = cc

caller_note : (c : Calling) (n : Known) → Path Role (Caller c) (Note n) → ⊥
caller_note c n e = cc

pool_gone : (c : Pooling) (n : Departing) → Path Role (Pool c) (Departed n) → ⊥
pool_gone c n e = cc

-- the cell that a slot word names is at home, with what the core reads of it
pub kept_is : (k : Shape) (s : Ring) (rule : RingRule k s) (i : ℕ) (w : SlotWord) → get_elem? s.slots i ≡ maybe.some w → get_elem? s.cells w.cell ≡ maybe.some (AtHome (kept_in (get_elem? s.cells w.cell)))
kept_is k s rule i w e =
    let p = rule.alone (in_slot i) w.cell (w, e, refl) in
    let x = at_exists s.cells w.cell p.1 in
    let st : StandsIn (in_slot i) x.0 = subst (λ (q : Place). StandsIn q x.0) p.0 (rule.named w.cell x.0 x.1).1 in
    let there : get_elem? s.cells w.cell ≡ maybe.some (AtHome st.0) = x.1 ∙ ap maybe.some st.1 in
    there ∙ ap (λ (y : Option (List ℕ)). maybe.some (AtHome y)) (sym (ap kept_in there))

-- what a test says, taken by cases
if_keeps : (k : Shape) (b : Bool) (s t : Ring) → (b ≡ true → RingRule k t) → RingRule k s → RingRule k (cond b t s)
if_keeps k true s t yes_then otherwise = yes_then refl
if_keeps k false s t yes_then otherwise = otherwise

both_true : (a b : Bool) → (a && b) ≡ true → (a ≡ true) × (b ≡ true)
both_true true true e = (refl, refl)
both_true true false e = absurd (true≢false (sym e))
both_true false b e = absurd (true≢false (sym e))

eq_of : (a b : ℕ) → eqb a b ≡ true → a ≡ b
eq_of a b e = grind (arith, nat_tests)

lt_of : (a b : ℕ) → nat_lt a b ≡ true → a < b
lt_of a b e = grind (arith, nat_tests)

none_listed : (ls : List (Option (List Call))) → no_lists ls ≡ true → (n : ℕ) (l : List Call) → slice_get ls n ≡ Some (Some l) → ⊥
none_listed [] e n l f = absurd (cc)
none_listed (None ∷ ls) e zero l f = off f
  where
    off : Path (Option (Option (List Call))) (Some None) (Some (Some l)) → ⊥
    off f = cc
none_listed (None ∷ ls) e (suc n) l f = none_listed ls e n l f
none_listed (Some x ∷ ls) e n l f = absurd (true≢false (sym e))

held_none : (word : ℕ) → held_in word ≡ None → word ≡ 0
held_none word e = go (eqb word 0) refl e
  where
    go : (b : Bool) → eqb word 0 ≡ b → cond b None (Some (word - 4294967296)) ≡ None → word ≡ 0
    go true t e = eq_of word 0 t
    go false t e = absurd (cc)

module _ (k : Shape) (s : Ring) (rule : RingRule k s) (id : ℕ) where
  abbrev Sees : Role → Type 0
  Sees r = get_elem? s.views id ≡ maybe.some (record { shape = k; role = r })

  move_word_keeps : (c : Calling) (v : Move) → Sees (Caller c) → c.who ≡ k.filers → position_of c < 2 ^ 33 → (o : maybe.Option SlotWord) → get_elem? s.slots (position_of c % slot_count k) ≡ o → RingRule k (move_word k s id c v o)
  move_word_keeps c v at player below maybe.none e = rule
  move_word_keeps c v at player below (maybe.some w) e = move_keeps k s rule id c v w _ None at player below e (kept_is k s rule _ w e)

  move_role_keeps : (v : Move) (r : Role) → (r ≢ Spent → Sees r) → RingRule k (move_role k s id v r)
  move_role_keeps v (Caller c) at = if_keeps k (is_player k c && nat_lt (position_of c) 8589934592) s _ (λ t. let b = both_true _ _ t in move_word_keeps c v (at (caller_spent c)) (eq_of _ _ b.0) (lt_of _ _ b.1) (get_elem? s.slots (position_of c % slot_count k)) refl) rule
  move_role_keeps v (Pool p) at = rule
  move_role_keeps v (Departed d) at = rule
  move_role_keeps v (Note n) at = rule
  move_role_keeps v Spent at = rule

  glance_word_keeps : (c : Calling) (v : Glance) → Sees (Caller c) → c.who ≡ k.filers → ahead_of v < slot_count k → (o : maybe.Option SlotWord) → get_elem? s.slots ((position_of c + ahead_of v) % slot_count k) ≡ o → RingRule k (glance_word k s id c v o)
  glance_word_keeps c v at player low maybe.none e = rule
  glance_word_keeps c v at player low (maybe.some w) e = glance_keeps k s rule id c v w (at, player) low e

  glance_role_keeps : (v : Glance) (r : Role) → (r ≢ Spent → Sees r) → RingRule k (glance_role k s id v r)
  glance_role_keeps v (Caller c) at =
      if_keeps k (is_player k c && nat_lt (ahead_of v) (slot_count k)) s _ (λ t. let b = both_true _ _ t in glance_word_keeps c v (at (caller_spent c)) (eq_of _ _ b.0) (lt_of _ _ b.1) (get_elem? s.slots ((position_of c + ahead_of v) % slot_count k)) refl) rule
  glance_role_keeps v (Pool p) at = rule
  glance_role_keeps v (Departed d) at = rule
  glance_role_keeps v (Note n) at = rule
  glance_role_keeps v Spent at = rule

  load_word_keeps : (c : Calling) (n : ℕ) (f : List ℕ) → Sees (Caller c) → c.who < k.filers → (o : maybe.Option SlotWord) → get_elem? s.slots (n % slot_count k) ≡ o → RingRule k (load_word k s id c n f o)
  load_word_keeps c n f at filer maybe.none e = rule
  load_word_keeps c n f at filer (maybe.some w) e = load_keeps k s rule id c w n f at filer e

  load_role_keeps : (n : ℕ) (f : List ℕ) (r : Role) → (r ≢ Spent → Sees r) → RingRule k (load_role k s id n f r)
  load_role_keeps n f (Caller c) at = if_keeps k (is_filer k c) s _ (λ t. load_word_keeps c n f (at (caller_spent c)) (lt_of _ _ (both_true _ _ t).0) (get_elem? s.slots (n % slot_count k)) refl) rule
  load_role_keeps n f (Pool p) at = rule
  load_role_keeps n f (Departed d) at = rule
  load_role_keeps n f (Note m) at = rule
  load_role_keeps n f Spent at = rule

  publish_word_keeps : (c : Calling) (f : Flight) → Sees (Caller c) → c.who < k.filers → c.flight ≡ Some f → (o : maybe.Option SlotWord) → get_elem? s.slots (f.number % slot_count k) ≡ o → RingRule k (publish_word k s id c f o)
  publish_word_keeps c f at filer flying maybe.none e = rule
  publish_word_keeps c f at filer flying (maybe.some w) e =
      if_keeps k (eqb w.number f.number && cond w.filled false true) (view_at k s id (loaded c w f.number f.frame)) (publish_at k s id c f) hit (load_keeps k s rule id c w f.number f.frame at filer e)
    where
      free_of : (b : Bool) → cond b false true ≡ true → b ≡ false
      free_of true t = absurd (true≢false (sym t))
      free_of false t = refl

      hit : (eqb w.number f.number && cond w.filled false true) ≡ true → RingRule k (publish_at k s id c f)
      hit t =
          let b = both_true _ _ t in
          let number : w.number ≡ f.number = eq_of w.number f.number b.0 in let free : w.filled ≡ false = free_of w.filled b.1 in
          let fits = subst (λ (o : Option Flight). FlightFits (slot_count k) s.slots o) flying (rule.role id (caller_view k c) at).2 in
          let same = at_one s.slots (f.number % slot_count k) fits.0 w fits.1 e in
          let cell : w.cell ≡ f.cell = subst (λ (x : SlotWord). x.number ≡ f.number → x.filled ≡ false → x.cell ≡ f.cell) same fits.3 number free in
          let found : get_elem? s.slots (f.number % slot_count k) ≡ maybe.some (free_word f.number f.cell) = e ∙ (λ i. maybe.some (record { number = number i; filled = free i; cell = cell i })) in
          publish_keeps k s rule id c f _ at filer found (kept_is k s rule _ (free_word f.number f.cell) found)

  publish_flight_keeps : (c : Calling) → Sees (Caller c) → c.who < k.filers → (o : Option Flight) → c.flight ≡ o → RingRule k (publish_flight k s id c o)
  publish_flight_keeps c at filer None e = rule
  publish_flight_keeps c at filer (Some f) e = publish_word_keeps c f at filer e (get_elem? s.slots (f.number % slot_count k)) refl

  publish_role_keeps : (r : Role) → (r ≢ Spent → Sees r) → RingRule k (publish_role k s id r)
  publish_role_keeps (Caller c) at = if_keeps k (nat_lt c.who k.filers) s _ (λ t. publish_flight_keeps c (at (caller_spent c)) (lt_of _ _ t) c.flight refl) rule
  publish_role_keeps (Pool p) at = rule
  publish_role_keeps (Departed d) at = rule
  publish_role_keeps (Note m) at = rule
  publish_role_keeps Spent at = rule

  enlist_berth_keeps : (p : Pooling) (who : ℕ) → Sees (Pool p) → no_lists p.lists ≡ true → slice_get p.rights who ≡ Some true → (o : maybe.Option Berth) → get_elem? s.berths who ≡ o → RingRule k (enlist_berth k s id who o)
  enlist_berth_keeps p who at none has maybe.none e = rule
  enlist_berth_keeps p who at none has (maybe.some (Fresh cell)) e = enlist_keeps k s rule id p who cell at has (none_listed p.lists none) e
  enlist_berth_keeps p who at none has (maybe.some Out) e = rule
  enlist_berth_keeps p who at none has (maybe.some (Home cell)) e = rule

  enlist_right_keeps : (p : Pooling) (who : ℕ) → Sees (Pool p) → no_lists p.lists ≡ true → (o : Option Bool) → slice_get p.rights who ≡ o → RingRule k (enlist_right k s id who o)
  enlist_right_keeps p who at none (Some true) e = enlist_berth_keeps p who at none e (get_elem? s.berths who) refl
  enlist_right_keeps p who at none (Some false) e = rule
  enlist_right_keeps p who at none None e = rule

  enlist_role_keeps : (who : ℕ) (r : Role) → (r ≢ Spent → Sees r) → RingRule k (enlist_role k s id who r)
  enlist_role_keeps who (Pool p) at = if_keeps k (no_lists p.lists) s _ (λ t. enlist_right_keeps p who (at (pool_spent p)) t (slice_get p.rights who) refl) rule
  enlist_role_keeps who (Caller c) at = rule
  enlist_role_keeps who (Departed d) at = rule
  enlist_role_keeps who (Note m) at = rule
  enlist_role_keeps who Spent at = rule

  leave_role_keeps : (r : Role) → (r ≢ Spent → Sees r) → RingRule k (leave_role k s id r)
  leave_role_keeps (Caller c) at = if_keeps k (on_ground c.flight) s _ (λ t. leave_keeps k s rule id c None (at (caller_spent c))) rule
  leave_role_keeps (Pool p) at = rule
  leave_role_keeps (Departed d) at = rule
  leave_role_keeps (Note m) at = rule
  leave_role_keeps Spent at = rule

  split_right_keeps : (p : Pooling) (who : ℕ) → Sees (Pool p) → (o : Option Bool) → slice_get p.rights who ≡ o → RingRule k (split_right k s id p who o)
  split_right_keeps p who at (Some true) e = split_keeps k s rule id p who at e
  split_right_keeps p who at (Some false) e = rule
  split_right_keeps p who at None e = rule

  split_role_keeps : (who : ℕ) (r : Role) → (r ≢ Spent → Sees r) → RingRule k (split_role k s id who r)
  split_role_keeps who (Pool p) at = split_right_keeps p who (at (pool_spent p)) (slice_get p.rights who) refl
  split_role_keeps who (Caller c) at = if_keeps k (on_ground c.flight) s _ (λ t. note_keeps k s rule id c (at (caller_spent c))) rule
  split_role_keeps who (Departed d) at = rule
  split_role_keeps who (Note m) at = rule
  split_role_keeps who Spent at = rule

  source_word_keeps : (c : Calling) (x : ℕ) → Sees (Caller c) → c.who < k.filers → (o : Option ℕ) → held_in s.source ≡ o → RingRule k (source_word k s id c x o)
  source_word_keeps c x at filer None e = source_keeps k s rule id c x at filer (held_none s.source e)
  source_word_keeps c x at filer (Some held) e = source_again k s rule id c x at filer held (rule.source ∙ ap word_of (sym (held_is _ s.source rule.source) ∙ e))

  source_role_keeps : (x : ℕ) (r : Role) → (r ≢ Spent → Sees r) → RingRule k (source_role k s id x r)
  source_role_keeps x (Caller c) at = if_keeps k (is_filer k c) s _ (λ t. source_word_keeps c x (at (caller_spent c)) (lt_of _ _ (both_true _ _ t).0) (held_in s.source) refl) rule
  source_role_keeps x (Pool p) at = rule
  source_role_keeps x (Departed d) at = rule
  source_role_keeps x (Note m) at = rule
  source_role_keeps x Spent at = rule

  base_word_keeps : (c : Calling) (x : ℕ) → Sees (Caller c) → c.who < k.filers → (o : Option ℕ) → held_in s.base ≡ o → RingRule k (base_word k s id c x o)
  base_word_keeps c x at filer None e = base_keeps k s rule id c x at filer (held_none s.base e)
  base_word_keeps c x at filer (Some held) e = base_again k s rule id c x at filer held (rule.base ∙ ap word_of (sym (held_is _ s.base rule.base) ∙ e))

  base_role_keeps : (x : ℕ) (r : Role) → (r ≢ Spent → Sees r) → RingRule k (base_role k s id x r)
  base_role_keeps x (Caller c) at = if_keeps k (is_filer k c) s _ (λ t. base_word_keeps c x (at (caller_spent c)) (lt_of _ _ (both_true _ _ t).0) (held_in s.base) refl) rule
  base_role_keeps x (Pool p) at = rule
  base_role_keeps x (Departed d) at = rule
  base_role_keeps x (Note m) at = rule
  base_role_keeps x Spent at = rule

  peek_role_keeps : (r : Role) → (r ≢ Spent → Sees r) → RingRule k (peek_role k s id r)
  peek_role_keeps (Caller c) at = if_keeps k (is_player k c) s _ (λ t. peek_keeps k s rule id c (held_in s.base) (at (caller_spent c)) (eq_of _ _ t) (held_is _ s.base rule.base)) rule
  peek_role_keeps (Pool p) at = rule
  peek_role_keeps (Departed d) at = rule
  peek_role_keeps (Note m) at = rule
  peek_role_keeps Spent at = rule

-- what a seat's role shows of its view
sees : (k : Shape) (s : Ring) (rule : RingRule k s) (id : ℕ) (o : maybe.Option View) → get_elem? s.views id ≡ o → view_role o ≢ Spent → get_elem? s.views id ≡ maybe.some (record { shape = k; role = view_role o })
sees k s rule id maybe.none e not = absurd (not refl)
sees k s rule id (maybe.some v) e not = view_is k s rule id v v.role e refl not

seen : (k : Shape) (s : Ring) (rule : RingRule k s) (id : ℕ) → role_at s id ≢ Spent → get_elem? s.views id ≡ maybe.some (record { shape = k; role = role_at s id })
seen k s rule id = sees k s rule id (get_elem? s.views id) refl

learn_roles_keep : (k : Shape) (s : Ring) (rule : RingRule k s) (id other : ℕ) (r q : Role) → (r ≢ Spent → get_elem? s.views id ≡ maybe.some (record { shape = k; role = r })) → (q ≢ Spent → get_elem? s.views other ≡ maybe.some (record { shape = k; role = q })) → RingRule k (learn_roles k s id other r q)
learn_roles_keep k s rule id other (Caller c) (Note n) at there =
    if_keeps k (on_ground c.flight) s _ (λ t. learn_keeps k s rule id c other n (at (caller_spent c)) (λ e. caller_note c n (ap (λ (v : View). v.role) (at_one s.views id (caller_view k c) (note_view k n) (at (caller_spent c)) (subst (λ (j : ℕ). get_elem? s.views j ≡ maybe.some (note_view k n)) e (there (note_spent n)))))) (there (note_spent n))) rule
learn_roles_keep k s rule id other (Caller c) (Pool p) at there = rule
learn_roles_keep k s rule id other (Caller c) (Caller d) at there = rule
learn_roles_keep k s rule id other (Caller c) (Departed d) at there = rule
learn_roles_keep k s rule id other (Caller c) Spent at there = rule
learn_roles_keep k s rule id other (Pool p) q at there = rule
learn_roles_keep k s rule id other (Departed p) q at there = rule
learn_roles_keep k s rule id other (Note p) q at there = rule
learn_roles_keep k s rule id other Spent q at there = rule

gather_roles_keep : (k : Shape) (s : Ring) (rule : RingRule k s) (id other : ℕ) (r q : Role) → (r ≢ Spent → get_elem? s.views id ≡ maybe.some (record { shape = k; role = r })) → (q ≢ Spent → get_elem? s.views other ≡ maybe.some (record { shape = k; role = q })) → RingRule k (gather_roles k s id other r q)
gather_roles_keep k s rule id other (Pool p) (Departed d) at there =
    gather_keeps k s rule id p other d (at (pool_spent p)) (λ e. pool_gone p d (ap (λ (v : View). v.role) (at_one s.views id (pool_view k p) (gone_view k d) (at (pool_spent p)) (subst (λ (j : ℕ). get_elem? s.views j ≡ maybe.some (gone_view k d)) e (there (gone_spent d)))))) (there (gone_spent d))
gather_roles_keep k s rule id other (Pool c) (Pool p) at there = rule
gather_roles_keep k s rule id other (Pool c) (Caller d) at there = rule
gather_roles_keep k s rule id other (Pool c) (Note d) at there = rule
gather_roles_keep k s rule id other (Pool c) Spent at there = rule
gather_roles_keep k s rule id other (Caller p) q at there = rule
gather_roles_keep k s rule id other (Departed p) q at there = rule
gather_roles_keep k s rule id other (Note p) q at there = rule
gather_roles_keep k s rule id other Spent q at there = rule

pub happens_keeps : (k : Shape) (s : Ring) (e : CoreEvent) → RingRule k s → RingRule k (happens k s e)
happens_keeps k s (Enlist seat berth) rule = enlist_role_keeps k s rule seat berth (role_at s seat) (seen k s rule seat)
happens_keeps k s (Load seat n f) rule = load_role_keeps k s rule seat n f (role_at s seat) (seen k s rule seat)
happens_keeps k s (Publish seat) rule = publish_role_keeps k s rule seat (role_at s seat) (seen k s rule seat)
happens_keeps k s (Tick seat) rule = move_role_keeps k s rule seat Played (role_at s seat) (seen k s rule seat)
happens_keeps k s (Leave seat) rule = leave_role_keeps k s rule seat (role_at s seat) (seen k s rule seat)
happens_keeps k s (Split seat who) rule = split_role_keeps k s rule seat who (role_at s seat) (seen k s rule seat)
happens_keeps k s (Learn seat note) rule = learn_roles_keep k s rule seat note (role_at s seat) (role_at s note) (seen k s rule seat) (seen k s rule note)
happens_keeps k s (Gather seat other) rule = gather_roles_keep k s rule seat other (role_at s seat) (role_at s other) (seen k s rule seat) (seen k s rule other)
happens_keeps k s (Source seat x) rule = source_role_keeps k s rule seat x (role_at s seat) (seen k s rule seat)
happens_keeps k s (Base seat x) rule = base_role_keeps k s rule seat x (role_at s seat) (seen k s rule seat)
happens_keeps k s (Peek seat) rule = peek_role_keeps k s rule seat (role_at s seat) (seen k s rule seat)
happens_keeps k s (Look seat ahead) rule = glance_role_keeps k s rule seat (Ahead ahead) (role_at s seat) (seen k s rule seat)
happens_keeps k s (Retire seat) rule = move_role_keeps k s rule seat Retired (role_at s seat) (seen k s rule seat)
happens_keeps k s (Hold seat) rule = glance_role_keeps k s rule seat Here (role_at s seat) (seen k s rule seat)

pub run_keeps : (k : Shape) (s : Ring) (es : List CoreEvent) → RingRule k s → RingRule k (run k s es)
run_keeps k s [] rule = rule
run_keeps k s (e ∷ es) rule = run_keeps k (happens k s e) es (happens_keeps k s e rule)

pub core_keeps : (k : Shape) (es : List CoreEvent) → 1 ≤ k.filers → k.filers ≤ 64 → k.g ≤ 10 → RingRule k (run k (opening_ring k) es)
core_keeps k es a b c = run_keeps k (opening_ring k) es (opens k a b c)

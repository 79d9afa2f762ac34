-- The player's seat over its calls.
use Rattle.std.proofs.Common.{◌≡◌, ◌≢◌, ℕ, ◌+◌, ◌%◌, ◌^◌, ◌<◌, List, [], ◌∷◌, ◌++◌, Option, Some, None, is_some, Bool, true, false, refl, sym, ap, ◌∙◌, subst, arith}
use Rattle.atomic_table.specs.Seated.{TableId}
use Rattle.frame_codec.specs.declared.item.Item.{Item}
use Rattle.frame_codec.specs.declared.item.Item.TheVariants.{Frame, Erasure, Idle}
use Rattle.playout.specs.declared.call.Call.{Call}
use Rattle.playout.specs.declared.call.Call.TheVariants.{PeekCall}
use Rattle.ring_core.specs.declared.player_steps.Move.{Move}
use Rattle.ring_core.specs.declared.player_steps.Move.TheVariants.{Played, Retired}
use Rattle.ring_core.specs.declared.player_steps.Glance.{Glance}
use Rattle.ring_core.specs.declared.player_steps.Glance.TheVariants.{Ahead, Here}
use Rattle.ring_core.specs.declared.words.SlotWord.{SlotWord}
use Rattle.ring_core.specs.declared.views.Shape.{Shape}
use Rattle.ring_core.specs.declared.views.Known.{Known}
use Rattle.ring_core.specs.declared.views.Calling.{Calling}
use Rattle.ring_core.specs.declared.views.Role.{Role}
use Rattle.ring_core.specs.declared.views.Role.TheVariants.{Caller}
use Rattle.ring_core.specs.declared.views.View.{View}
use Rattle.playout.specs.Machine.{start}
use Rattle.playout.specs.History.{moves, move_weight}
use Rattle.playout.specs.LongerHistory.{moves-snoc}
use Rattle.ring_core.specs.Ring.{Has, slot_count}
use Rattle.ring_core.specs.Core.{held_in}
use Rattle.ring_core.specs.Steps.{caller_view, position_of, at_position, move_call, moved, taken, ahead_of, glance_call, glanced, free_word, peeked}
use Rattle.ring_core.specs.HeldLaws.{held_is}
use Rattle.step_table.specs.Packed.{Kept, SeatState, pack_slot, Fits}
use Rattle.step_table.specs.Kinds.{StepKind, move, glance, peek, told, IsHeldWord, AfterMove, AfterGlance, AfterPeek, MaySwap, MayLoad, base_place}
use Rattle.slot_ring.specs.Seen.{PassView, pass_view, position_in, list_in, known_in, known_after, TakeSays, LookSays, PeekSays}
use Rattle.slot_ring.specs.Kept.{IsPlayers, IsMove, IsGlance, TakenAs, GlancedAs}
use Rattle.slot_ring.proofs.Grows.{Went, went, grown, knows}

-- a tick and a retire go on by one
move_counts : (v : Move) (item : Item) → move_weight (move_call v item) ≡ 1
move_counts Played item = refl
move_counts Retired item = refl

move_known : (k : Known) (p : ℕ) (v : Move) (item : Item) → at_position k (p + 1) ≡ known_after k p (move_call v item)
move_known k p Played item = refl
move_known k p Retired item = refl

-- a look and a hold leave all as it is
glance_counts : (v : Glance) (filled : Bool) → move_weight (glance_call v filled) ≡ 0
glance_counts (Ahead ahead) filled = refl
glance_counts Here filled = refl

glance_known : (k : Known) (p : ℕ) (v : Glance) (filled : Bool) → k ≡ known_after k p (glance_call v filled)
glance_known k p (Ahead ahead) filled = refl
glance_known k p Here filled = refl

position_grows : (a b : List Call) (call : Call) → move_weight call ≡ 1 → b ≡ a ++ call ∷ [] → start + moves b ≡ start + moves a + 1
position_grows a b call one e = let m : ℕ = moves b in let n : ℕ = moves a in let h : m ≡ n + move_weight call = ap moves e ∙ moves-snoc a call in let i : 4294967296 + m ≡ 4294967296 + n + 1 = omega arith in i

pub position_stays : (a b : List Call) (call : Call) → move_weight call ≡ 0 → b ≡ a ++ call ∷ [] → start + moves b ≡ start + moves a
position_stays a b call none e = let m : ℕ = moves b in let n : ℕ = moves a in let h : m ≡ n + move_weight call = ap moves e ∙ moves-snoc a call in let i : 4294967296 + m ≡ 4294967296 + n = omega arith in i

frame_idle : (f : List ℕ) → Path Item (Frame f) Idle → ⊥
frame_idle f e = cc

erasure_idle : Path Item Erasure Idle → ⊥
erasure_idle e = cc

-- what is taken out of a slot is an item to play
taken_idle : (full : Bool) (kept : Kept) → taken full kept ≢ Idle
taken_idle true (Some f) e = frame_idle f e
taken_idle true None e = erasure_idle e
taken_idle false kept e = erasure_idle e

abbrev first_kept : List (ℕ × Kept) → Kept
first_kept [] = None
first_kept (x ∷ xs) = x.1

-- the player's seat after a tick or a retire, and after its cell was emptied
record Taken (me last : SeatState) (v : Move) (item : Item) (cell p : ℕ) : Type 0 where
  players : IsPlayers last cell (p + 1)
  went : Went me last (move_call v item)
  fresh : (f : List ℕ) → Has (known_in me.0.role).pairs (start + moves (list_in me.0.role)) f → item ≡ Frame f
  word : TakeSays (start + moves (list_in me.0.role)) item

after_move : (me now last : SeatState) (v : Move) (spare p found cell : ℕ) (kept : Kept) (item : Item) (full : Bool) → IsPlayers me spare p → told (move v) me found now → ((w : SlotWord) → found ≡ pack_slot w → Fits w → cell ≡ w.cell) → ((w : SlotWord) → found ≡ pack_slot w → Fits w → full ≡ w.filled)
    → now.1 ≡ (cell, kept) ∷ [] → item ≡ taken full kept → last ≡ (now.0, (cell, None) ∷ []) → Taken me last v item cell p
after_move me now last v spare p found cell kept item full is tells reads shows holds says ends =
    let c : Calling = is.0 in
    let view : me.0 ≡ caller_view me.0.shape c = ap (λ (m : SeatState). m.0) is.2 in
    let role : me.0.role ≡ Caller c = ap (λ (x : View). x.role) view in
    let t : AfterMove me.0.shape c v found now = tells c role in
    let w : SlotWord = t.0 in let y : Kept = t.1 in
    let d : Calling = moved c v w y in
    let at : cell ≡ w.cell = reads w t.2 t.3 in
    let after : now.0 ≡ caller_view me.0.shape d = ap (λ (m : SeatState). m.0) t.4 in
    let small : w.cell < 32768 = t.3.1 in
    let same : last ≡ (caller_view me.0.shape d, (cell, None) ∷ []) = ends ∙ (λ i. (after i, (cell, None) ∷ [])) in
    let next : position_of d ≡ position_of c + 1 = position_grows c.list d.list (move_call v (taken w.filled y)) (move_counts v (taken w.filled y)) refl in
    let here : position_of c ≡ p = is.6 in
    let value : kept ≡ y = ap first_kept (sym holds ∙ ap (λ (m : SeatState). m.1) t.4) in
    let played : taken w.filled y ≡ item = sym (says ∙ (λ i. taken (shows w t.2 t.3 i) (value i))) in
    record {
      players = subst (λ (m : SeatState). IsPlayers m cell (p + 1)) (sym same) (d, None, refl, sym at, is.4, is.5, next ∙ ap (λ (n : ℕ). n + 1) here, omega arith);
      went = went me.0.shape me last c d (move_call v item) view (ap (λ (m : SeatState). m.0) same) refl (ap (λ (i : Item). c.list ++ move_call v i ∷ []) played) (move_known c.known (position_of c) v item);
      fresh = subst (λ (r : Role). (f : List ℕ) → Has (known_in r).pairs (start + moves (list_in r)) f → item ≡ Frame f) (sym role) (λ f has. sym played ∙ t.5 f has);
      word = subst (λ (r : Role). TakeSays (start + moves (list_in r)) item) (sym role) (w, y, t.3, t.6, sym played, λ full. ap is_some (t.7 full).1);
    }

-- the player's pass, where it went on by a step of this kind
pub after_take : (m : StepKind) (at now_at : TableId) (me now last : SeatState) (old : PassView) (spare p found cell : ℕ) (kept : Kept) (item : Item) (full : Bool) → IsMove m → IsPlayers me spare p → told m me found now
    → ((w : SlotWord) → found ≡ pack_slot w → Fits w → cell ≡ w.cell) → ((w : SlotWord) → found ≡ pack_slot w → Fits w → full ≡ w.filled) → now.1 ≡ (cell, kept) ∷ [] → item ≡ taken full kept → last ≡ (now.0, (cell, None) ∷ [])
    → now_at ≡ at → pass_view (record { id = at; shape = me.0.shape }) me.0.role ≡ old → IsPlayers last cell (p + 1) × TakenAs m old item (pass_view (record { id = now_at; shape = last.0.shape }) last.0.role)
after_take (move v) at now_at me now last old spare p found cell kept item full _ is tells reads shows holds says ends same view =
    let r = after_move me now last v spare p found cell kept item full is tells reads shows holds says ends in (
      r.players,
      record {
        call = grown at now_at me last old (move_call v item) r.went same view;
        known = knows at me last old (move_call v item) r.went view;
        position = position_grows old.list (list_in last.0.role) (move_call v item) (move_counts v item) (r.went.list ∙ ap (λ (x : PassView). x.list ++ move_call v item ∷ []) view);
        taken = λ idle. taken_idle full kept (sym says ∙ idle);
        word = subst (λ (x : PassView). TakeSays (position_in x) item) view r.word;
        fresh = subst (λ (x : PassView). (f : List ℕ) → Has x.known.pairs (position_in x) f → item ≡ Frame f) view r.fresh;
      },
    )
after_take _ at now_at me now last old spare p found cell kept item full kind is tells reads shows holds says ends same view = absurd kind

pub may_take : (m : StepKind) (me : SeatState) (k : Shape) (spare p word new : ℕ) → IsMove m → IsPlayers me spare p → me.0.shape ≡ k → p < 2 ^ 33 → word ≡ p % slot_count k → new ≡ pack_slot (free_word (p + slot_count k) spare) → MaySwap m k me word new
may_take (move v) me k spare p word new _ is shape low at more =
    let c : Calling = is.0 in (
      c,
      is.1,
      is.2 ∙ (λ i. (caller_view (shape i) c, (sym is.3 i, is.1) ∷ [])),
      is.5 ∙ ap (λ (x : Shape). x.filers) shape,
      subst (λ (n : ℕ). n < 2 ^ 33) (sym is.6) low,
      at ∙ ap (λ (n : ℕ). n % slot_count k) (sym is.6),
      more ∙ (λ i. pack_slot (free_word (sym is.6 i + slot_count k) (sym is.3 i))),
    )
may_take _ me k spare p word new kind is shape low at more = absurd kind

-- the player's seat after a look or a hold
record Glanced (me now : SeatState) (v : Glance) (filled : Bool) (spare p : ℕ) : Type 0 where
  players : IsPlayers now spare p
  went : Went me now (glance_call v filled)
  fresh : (f : List ℕ) → Has (known_in me.0.role).pairs (start + moves (list_in me.0.role) + ahead_of v) f → filled ≡ true
  word : LookSays (start + moves (list_in me.0.role) + ahead_of v) filled

after_sight : (me now : SeatState) (v : Glance) (spare p found : ℕ) (filled : Bool) → IsPlayers me spare p → told (glance v) me found now → ((w : SlotWord) → found ≡ pack_slot w → Fits w → filled ≡ w.filled) → Glanced me now v filled spare p
after_sight me now v spare p found filled is tells shows =
    let c : Calling = is.0 in
    let view : me.0 ≡ caller_view me.0.shape c = ap (λ (m : SeatState). m.0) is.2 in
    let role : me.0.role ≡ Caller c = ap (λ (x : View). x.role) view in
    let t : AfterGlance me.0.shape c v me.1 found now = tells c role in
    let w : SlotWord = t.0 in
    let answer : filled ≡ w.filled = shows w t.1 t.2 in
    let d : Calling = glanced c v w in
    let carried : me.1 ≡ (spare, is.1) ∷ [] = ap (λ (m : SeatState). m.1) is.2 in
    let same : now ≡ (caller_view me.0.shape d, (spare, is.1) ∷ []) = t.3 ∙ (λ i. (caller_view me.0.shape d, carried i)) in
    let here : position_of d ≡ position_of c = position_stays c.list d.list (glance_call v w.filled) (glance_counts v w.filled) refl in
    record {
      players = subst (λ (m : SeatState). IsPlayers m spare p) (sym same) (d, is.1, refl, is.3, is.4, is.5, here ∙ is.6, is.7);
      went = went me.0.shape me now c d (glance_call v filled) view (ap (λ (m : SeatState). m.0) same) refl (ap (λ (b : Bool). c.list ++ glance_call v b ∷ []) (sym answer)) (glance_known c.known (position_of c) v filled);
      fresh = subst (λ (r : Role). (f : List ℕ) → Has (known_in r).pairs (start + moves (list_in r) + ahead_of v) f → filled ≡ true) (sym role) (λ f has. answer ∙ t.5 f has);
      word = subst (λ (r : Role). LookSays (start + moves (list_in r) + ahead_of v) filled) (sym role) (w, t.2, t.4, answer);
    }

-- the player's pass, where it looked by a step of this kind
pub after_glance : (m : StepKind) (at now_at : TableId) (me now : SeatState) (old : PassView) (spare p found ahead : ℕ) (filled : Bool) → IsGlance m ahead → IsPlayers me spare p → told m me found now
    → ((w : SlotWord) → found ≡ pack_slot w → Fits w → filled ≡ w.filled) → now_at ≡ at → pass_view (record { id = at; shape = me.0.shape }) me.0.role ≡ old
    → IsPlayers now spare p × GlancedAs m old filled (pass_view (record { id = now_at; shape = now.0.shape }) now.0.role)
after_glance (glance v) at now_at me now old spare p found ahead filled _ is tells shows same view =
    let r = after_sight me now v spare p found filled is tells shows in (
      r.players,
      record {
        call = grown at now_at me now old (glance_call v filled) r.went same view;
        known = knows at me now old (glance_call v filled) r.went view;
        position = position_stays old.list (list_in now.0.role) (glance_call v filled) (glance_counts v filled) (r.went.list ∙ ap (λ (x : PassView). x.list ++ glance_call v filled ∷ []) view);
        word = subst (λ (x : PassView). LookSays (position_in x + ahead_of v) filled) view r.word;
        fresh = subst (λ (x : PassView). (f : List ℕ) → Has x.known.pairs (position_in x + ahead_of v) f → filled ≡ true) view r.fresh;
      },
    )
after_glance _ at now_at me now old spare p found ahead filled kind is tells shows same view = absurd kind

pub may_glance : (m : StepKind) (me : SeatState) (k : Shape) (spare p word ahead : ℕ) → IsGlance m ahead → IsPlayers me spare p → me.0.shape ≡ k → ahead < slot_count k → word ≡ (p + ahead) % slot_count k → MayLoad m k me word
may_glance (glance v) me k spare p word ahead kind is shape low at =
    let c : Calling = is.0 in (
      c,
      (spare, is.1) ∷ [],
      is.2 ∙ (λ i. (caller_view (shape i) c, (spare, is.1) ∷ [])),
      is.5 ∙ ap (λ (x : Shape). x.filers) shape,
      subst (λ (a : ℕ). a < slot_count k) kind low,
      at ∙ (λ i. (sym is.6 i + kind i) % slot_count k),
    )
may_glance _ me k spare p word ahead kind is shape low at = absurd kind

pub record Peeked (me now : SeatState) (held : Option ℕ) (spare p : ℕ) : Type 0 where
  pub players : IsPlayers now spare p
  pub went : Went me now (PeekCall held)
  pub fresh : (x : ℕ) → (known_in me.0.role).base ≡ Some x → held ≡ Some x
  pub word : PeekSays (known_in me.0.role).base held

pub after_peek : (me now : SeatState) (spare p found : ℕ) (held : Option ℕ) → IsPlayers me spare p → told peek me found now → (IsHeldWord found → held ≡ held_in found) → Peeked me now held spare p
after_peek me now spare p found held is tells reads =
    let c : Calling = is.0 in
    let view : me.0 ≡ caller_view me.0.shape c = ap (λ (m : SeatState). m.0) is.2 in
    let role : me.0.role ≡ Caller c = ap (λ (v : View). v.role) view in
    let t : AfterPeek me.0.shape c me.1 found now = tells c role in
    let answer : held ≡ held_in found = reads t.0 in
    let d : Calling = peeked c held in
    let carried : me.1 ≡ (spare, is.1) ∷ [] = ap (λ (m : SeatState). m.1) is.2 in
    let same : now ≡ (caller_view me.0.shape d, (spare, is.1) ∷ []) = t.1 ∙ (λ i. (caller_view me.0.shape (peeked c (sym answer i)), carried i)) in
    record {
      players = subst (λ (m : SeatState). IsPlayers m spare p) (sym same) (d, is.1, refl, is.3, is.4, is.5, position_stays c.list d.list (PeekCall held) refl refl ∙ is.6, is.7);
      went = went me.0.shape me now c d (PeekCall held) view (ap (λ (m : SeatState). m.0) same) refl refl refl;
      fresh = subst (λ (r : Role). (x : ℕ) → (known_in r).base ≡ Some x → held ≡ Some x) (sym role) (λ x e. answer ∙ held_is (Some x) found (t.2 x e));
      word = subst (λ (r : Role). PeekSays (known_in r).base held) (sym role) (found, record { fits = t.0; known = t.2 }, answer);
    }

pub may_peek : (me : SeatState) (k : Shape) (spare p word : ℕ) → IsPlayers me spare p → me.0.shape ≡ k → word ≡ base_place k → MayLoad peek k me word
may_peek me k spare p word is shape at =
    let c : Calling = is.0 in (c, (spare, is.1) ∷ [], is.2 ∙ (λ i. (caller_view (shape i) c, (spare, is.1) ∷ [])), is.5 ∙ ap (λ (x : Shape). x.filers) shape, at)

-- The seats of callers over their calls of one step.
use Rattle.std.proofs.Common.{◌≡◌, ℕ, ◌^◌, ◌<◌, [], ◌∷◌, Option, Some, refl, sym, ap, ◌∙◌, subst}
use Rattle.playout.specs.declared.call.Call.{Call}
use Rattle.playout.specs.declared.call.Call.TheVariants.{SourceCall, BaseCall}
use Rattle.ring_core.specs.declared.views.Shape.{Shape}
use Rattle.ring_core.specs.declared.views.Known.{Known}
use Rattle.ring_core.specs.declared.views.Calling.{Calling}
use Rattle.ring_core.specs.declared.views.Role.{Role}
use Rattle.ring_core.specs.declared.views.Role.TheVariants.{Caller}
use Rattle.ring_core.specs.declared.views.View.{View}
use Rattle.playout.specs.Machine.{held_or}
use Rattle.ring_core.specs.Ring.{word_of}
use Rattle.ring_core.specs.Core.{held_in}
use Rattle.ring_core.specs.Steps.{caller_view, sourced, based, told_by, merged}
use Rattle.ring_core.specs.HeldLaws.{held_is}
use Rattle.step_table.specs.Packed.{SeatState}
use Rattle.step_table.specs.Kinds.{source, base, learn, told, both_of, IsHeldWord, AfterSource, AfterBase, MayExchange, source_place, base_place}
use Rattle.slot_ring.specs.Seen.{who_in, list_in, known_in, HeldSays}
use Rattle.slot_ring.specs.Kept.{IsPlayers, IsFilers, IsNote}
use Rattle.slot_ring.proofs.Grows.{Went, went}

-- a filer's seat after a call that changes no cell
pub record Asked (me now : SeatState) (call : Call) (who spare : ℕ) : Type 0 where
  pub filers : IsFilers now who spare
  pub went : Went me now call

pub after_source : (me now : SeatState) (who spare found ssrc held : ℕ) → IsFilers me who spare → told (source ssrc) me found now → (IsHeldWord found → held ≡ held_or (held_in found) ssrc)
    → Asked me now (SourceCall ssrc held) who spare × ((x : ℕ) → (known_in me.0.role).source ≡ Some x → held ≡ x) × HeldSays (known_in me.0.role).source ssrc held
after_source me now who spare found ssrc held is tells reads =
    let c : Calling = is.0 in
    let view : me.0 ≡ caller_view me.0.shape c = ap (λ (m : SeatState). m.0) is.2 in
    let role : me.0.role ≡ Caller c = ap (λ (v : View). v.role) view in
    let t : AfterSource me.0.shape c ssrc me.1 found now = tells c role in
    let answer : held ≡ held_or (held_in found) ssrc = reads t.0 in
    let d : Calling = sourced c ssrc held in
    let carried : me.1 ≡ (spare, is.1) ∷ [] = ap (λ (m : SeatState). m.1) is.2 in
    let same : now ≡ (caller_view me.0.shape d, (spare, is.1) ∷ []) = t.1 ∙ (λ i. (caller_view me.0.shape (sourced c ssrc (sym answer i)), carried i)) in (
      record {
        filers = subst (λ (m : SeatState). IsFilers m who spare) (sym same) (d, is.1, refl, is.3, is.4, is.5, is.6, is.7);
        went = went me.0.shape me now c d (SourceCall ssrc held) view (ap (λ (m : SeatState). m.0) same) refl refl refl;
      },
      subst (λ (r : Role). (x : ℕ) → (known_in r).source ≡ Some x → held ≡ x) (sym role) (λ x e. answer ∙ ap (λ (o : Option ℕ). held_or o ssrc) (held_is (Some x) found (t.2 x e))),
      subst (λ (r : Role). HeldSays (known_in r).source ssrc held) (sym role) (found, record { fits = t.0; known = t.2 }, answer),
    )

pub after_base : (me now : SeatState) (who spare found ts held : ℕ) → IsFilers me who spare → told (base ts) me found now → (IsHeldWord found → held ≡ held_or (held_in found) ts)
    → Asked me now (BaseCall ts held) who spare × ((x : ℕ) → (known_in me.0.role).base ≡ Some x → held ≡ x) × HeldSays (known_in me.0.role).base ts held
after_base me now who spare found ts held is tells reads =
    let c : Calling = is.0 in
    let view : me.0 ≡ caller_view me.0.shape c = ap (λ (m : SeatState). m.0) is.2 in
    let role : me.0.role ≡ Caller c = ap (λ (v : View). v.role) view in
    let t : AfterBase me.0.shape c ts me.1 found now = tells c role in
    let answer : held ≡ held_or (held_in found) ts = reads t.0 in
    let d : Calling = based c ts held in
    let carried : me.1 ≡ (spare, is.1) ∷ [] = ap (λ (m : SeatState). m.1) is.2 in
    let same : now ≡ (caller_view me.0.shape d, (spare, is.1) ∷ []) = t.1 ∙ (λ i. (caller_view me.0.shape (based c ts (sym answer i)), carried i)) in (
      record {
        filers = subst (λ (m : SeatState). IsFilers m who spare) (sym same) (d, is.1, refl, is.3, is.4, is.5, is.6, is.7);
        went = went me.0.shape me now c d (BaseCall ts held) view (ap (λ (m : SeatState). m.0) same) refl refl refl;
      },
      subst (λ (r : Role). (x : ℕ) → (known_in r).base ≡ Some x → held ≡ x) (sym role) (λ x e. answer ∙ ap (λ (o : Option ℕ). held_or o ts) (held_is (Some x) found (t.2 x e))),
      subst (λ (r : Role). HeldSays (known_in r).base ts held) (sym role) (found, record { fits = t.0; known = t.2 }, answer),
    )

pub may_source : (me : SeatState) (k : Shape) (who spare x word new : ℕ) → IsFilers me who spare → me.0.shape ≡ k → x < 2 ^ 32 → word ≡ source_place k → new ≡ word_of (Some x) → MayExchange (source x) k me word 0 new
may_source me k who spare x word new is shape small at more =
    let c : Calling = is.0 in (
      c,
      (spare, is.1) ∷ [],
      is.2 ∙ (λ i. (caller_view (shape i) c, (spare, is.1) ∷ [])),
      subst (λ (y : Shape). c.who < y.filers) shape (subst (λ (n : ℕ). n < me.0.shape.filers) (sym is.5) is.6),
      is.4,
      small,
      at,
      refl,
      more,
    )

pub may_base : (me : SeatState) (k : Shape) (who spare x word new : ℕ) → IsFilers me who spare → me.0.shape ≡ k → x < 2 ^ 32 → word ≡ base_place k → new ≡ word_of (Some x) → MayExchange (base x) k me word 0 new
may_base me k who spare x word new is shape small at more =
    let c : Calling = is.0 in (
      c,
      (spare, is.1) ∷ [],
      is.2 ∙ (λ i. (caller_view (shape i) c, (spare, is.1) ∷ [])),
      subst (λ (y : Shape). c.who < y.filers) shape (subst (λ (n : ℕ). n < me.0.shape.filers) (sym is.5) is.6),
      is.4,
      small,
      at,
      refl,
      more,
    )

-- a seat after it learnt a note
pub record Learnt (me now : SeatState) (known : Known) : Type 0 where
  pub shape : now.0.shape ≡ me.0.shape
  pub who : who_in now.0.role ≡ who_in me.0.role
  pub list : list_in now.0.role ≡ list_in me.0.role
  pub known_is : known_in now.0.role ≡ merged (known_in me.0.role) known

learnt : (k : Shape) (me now : SeatState) (c : Calling) (n : Known) → me.0 ≡ caller_view k c → now.0 ≡ caller_view k (told_by c n) → Learnt me now n
learnt k me now c n is will =
    let r : me.0.role ≡ Caller c = ap (λ (v : View). v.role) is in
    let s : now.0.role ≡ Caller (told_by c n) = ap (λ (v : View). v.role) will in
    record {
      shape = ap (λ (v : View). v.shape) will ∙ sym (ap (λ (v : View). v.shape) is);
      who = ap who_in s ∙ sym (ap who_in r);
      list = ap list_in s ∙ sym (ap list_in r);
      known_is = ap known_in s ∙ ap (λ (x : Role). merged (known_in x) n) (sym r);
    }

pub filer_learns : (me from now : SeatState) (who spare : ℕ) → IsFilers me who spare → IsNote from → now ≡ (both_of learn me.0 from.0, me.1) → IsFilers now who spare × Learnt me now (known_in from.0.role)
filer_learns me from now who spare is note e =
    let c : Calling = is.0 in let n : Known = note.0 in
    let same : now ≡ (caller_view me.0.shape (told_by c n), (spare, is.1) ∷ []) = e ∙ (λ i. (both_of learn (is.2 i).0 (note.1 i).0, (is.2 i).1)) in (
      subst (λ (m : SeatState). IsFilers m who spare) (sym same) (told_by c n, is.1, refl, is.3, is.4, is.5, is.6, is.7),
      subst (λ (x : Known). Learnt me now x) (ap (λ (m : SeatState). known_in m.0.role) (sym note.1)) (learnt me.0.shape me now c n (ap (λ (m : SeatState). m.0) is.2) (ap (λ (m : SeatState). m.0) same)),
    )

pub player_learns : (me from now : SeatState) (spare p : ℕ) → IsPlayers me spare p → IsNote from → now ≡ (both_of learn me.0 from.0, me.1) → IsPlayers now spare p × Learnt me now (known_in from.0.role)
player_learns me from now spare p is note e =
    let c : Calling = is.0 in let n : Known = note.0 in
    let same : now ≡ (caller_view me.0.shape (told_by c n), (spare, is.1) ∷ []) = e ∙ (λ i. (both_of learn (is.2 i).0 (note.1 i).0, (is.2 i).1)) in (
      subst (λ (m : SeatState). IsPlayers m spare p) (sym same) (told_by c n, is.1, refl, is.3, is.4, is.5, is.6, is.7),
      subst (λ (x : Known). Learnt me now x) (ap (λ (m : SeatState). known_in m.0.role) (sym note.1)) (learnt me.0.shape me now c n (ap (λ (m : SeatState). m.0) is.2) (ap (λ (m : SeatState). m.0) same)),
    )

-- The seats of blanks, gathers and callers that enlist or leave.
use Rattle.std.proofs.Common.{◌≡◌, ℕ, zero, suc, ◌+◌, ◌<◌, ◌≤◌, List, [], ◌∷◌, Option, Some, None, true, refl, sym, ap, ◌∙◌, subst}
use Rattle.std.specs.Prelude.{slice_get, replicate}
use Rattle.playout.specs.declared.call.Call.{Call}
use Rattle.ring_core.specs.declared.words.Berth.TheVariants.{Fresh}
use Rattle.ring_core.specs.declared.views.Shape.{Shape}
use Rattle.ring_core.specs.declared.views.Pooling.{Pooling}
use Rattle.ring_core.specs.declared.views.Calling.{Calling}
use Rattle.ring_core.specs.declared.views.Departing.{Departing}
use Rattle.playout.specs.Machine.{start}
use Rattle.playout.specs.History.{moves}
use Rattle.ring_core.specs.Ring.{slot_count}
use Rattle.ring_core.specs.Steps.{pool_view, caller_view, newcomer, without, only, with_list}
use Rattle.step_table.specs.Packed.{Kept, SeatState, pack_berth}
use Rattle.step_table.specs.Kinds.{StepKind, split, gather, enlist, left_of, right_of, both_of, MaySwap, told}
use Rattle.slot_ring.specs.Seen.{rights_in, known_in, nothing_known}
use Rattle.slot_ring.specs.Kept.{IsBlank, IsGather, IsDeparted, IsFilers, IsPlayers}

pub split_left : (m : StepKind) (who : ℕ) (me now : SeatState) → m ≡ split who → IsBlank me → now ≡ (left_of m me.0, me.1) → IsBlank now
split_left m who me now kind b e =
    let p : Pooling = b.0 in
    let is : now ≡ (pool_view me.0.shape (without p who), []) = e ∙ (λ i. (left_of (kind i) (b.1 i).0, (b.1 i).1)) in
    subst IsBlank (sym is) (without p who, refl, b.2)

pub split_right : (m : StepKind) (who : ℕ) (me now : SeatState) → m ≡ split who → IsBlank me → now ≡ (right_of m me.0, []) → IsBlank now
split_right m who me now kind b e =
    let is : now ≡ (pool_view me.0.shape (only me.0.shape who), []) = e ∙ (λ i. (right_of (kind i) (b.1 i).0, [])) in
    subst IsBlank (sym is) (only me.0.shape who, refl, refl)

pub gathered : (me from now : SeatState) → IsGather me → IsDeparted from → now ≡ (both_of gather me.0 from.0, me.1) → IsGather now
gathered me from now b d e =
    let p : Pooling = b.0 in let q : Departing = d.0 in
    let is : now ≡ (pool_view me.0.shape (with_list p q), []) = e ∙ (λ i. (both_of gather (b.1 i).0 (d.1 i).0, (b.1 i).1)) in
    subst IsGather (sym is) (with_list p q, refl)

no_list : (n i : ℕ) (l : List Call) → Path (Option (Option (List Call))) (slice_get (replicate n None) i) (Some (Some l)) → ⊥
no_list zero i l e = cc
no_list (suc n) zero l e = cc
no_list (suc n) (suc i) l e = no_list n i l e

pub may_enlist : (m : StepKind) (who : ℕ) (me : SeatState) (k : Shape) (word : ℕ) → m ≡ enlist who → IsBlank me → me.0.shape ≡ k → slice_get (rights_in me.0.role) who ≡ Some true → who ≤ k.filers → word ≡ slot_count k + who
    → MaySwap m k me word 1
may_enlist m who me k word kind b shape has low at =
    let p : Pooling = b.0 in
    subst (λ (x : StepKind). MaySwap x k me word 1) (sym kind) (
      p,
      b.1 ∙ (λ i. (pool_view (shape i) p, [])),
      ap (λ (m : SeatState). slice_get (rights_in m.0.role) who) (sym b.1) ∙ has,
      (λ n l e. no_list (me.0.shape.filers + 1) n l (ap (λ (x : List (Option (List Call))). slice_get x n) (sym b.2) ∙ e)),
      low,
      at,
      refl,
    )

-- what an enlisted seat has
pub record Enlisted (me now : SeatState) (who spare : ℕ) : Type 0 where
  pub calling : Calling
  pub kept : Kept
  pub is : now ≡ (caller_view me.0.shape calling, (spare, kept) ∷ [])
  pub cell : calling.spare ≡ spare
  pub flight : calling.flight ≡ None
  pub number : calling.who ≡ who
  pub list : calling.list ≡ []
  pub known : calling.known ≡ nothing_known
  pub small : spare < 32768

pub enlisted : (m : StepKind) (who : ℕ) (me now : SeatState) (found spare : ℕ) → m ≡ enlist who → told m me found now → ((cell : ℕ) → found ≡ pack_berth (Fresh cell) → cell < 32768 → spare ≡ cell) → Enlisted me now who spare
enlisted m who me now found spare kind t reads =
    let h = subst (λ (x : StepKind). told x me found now) kind t in
    let cell : ℕ = h.0 in let same : spare ≡ cell = reads cell h.2 h.3 in
    record { calling = newcomer who cell; kept = h.1; is = h.4 ∙ (λ i. (caller_view me.0.shape (newcomer who cell), (sym same i, h.1) ∷ [])); cell = sym same; flight = refl; number = refl; list = refl; known = refl; small = subst (λ (n : ℕ). n < 32768) (sym same) h.3 }

pub filer_enlisted : (me now : SeatState) (who spare : ℕ) → Enlisted me now who spare → who < me.0.shape.filers → IsFilers now who spare
filer_enlisted me now who spare e low =
    let c : Calling = e.calling in
    subst (λ (x : SeatState). IsFilers x who spare) (sym e.is) (c, e.kept, refl, e.cell, e.flight, e.number, low, e.small)

pub player_enlisted : (me now : SeatState) (who spare : ℕ) → Enlisted me now who spare → who ≡ me.0.shape.filers → IsPlayers now spare start
player_enlisted me now who spare e is =
    let c : Calling = e.calling in
    subst (λ (x : SeatState). IsPlayers x spare start) (sym e.is)
    (c, e.kept, refl, e.cell, e.flight, e.number ∙ is, ap (λ (l : List Call). start + moves l) e.list, e.small)

pub known_enlisted : (me now : SeatState) (who spare : ℕ) → Enlisted me now who spare → known_in now.0.role ≡ nothing_known
known_enlisted me now who spare e = ap (λ (m : SeatState). known_in m.0.role) e.is ∙ e.known

-- How what contracts see of a pass follows from its seat.
use Rattle.std.proofs.Common.{◌≡◌, ℕ, ◌+◌, ◌<◌, List, [], ◌∷◌, ◌++◌, None, refl, sym, ap, ◌∙◌, subst}
use Rattle.atomic_table.specs.Seated.{TableId}
use Rattle.playout.specs.declared.call.Call.{Call}
use Rattle.playout.specs.declared.call.Call.TheVariants.{FileCall}
use Rattle.playout.specs.declared.reply.FileReply.{FileReply}
use Rattle.ring_core.specs.declared.words.SlotWord.{SlotWord}
use Rattle.ring_core.specs.declared.views.Shape.{Shape}
use Rattle.ring_core.specs.declared.views.Known.{Known}
use Rattle.ring_core.specs.declared.views.Calling.{Calling}
use Rattle.ring_core.specs.declared.views.Role.{Role}
use Rattle.ring_core.specs.declared.views.Role.TheVariants.{Caller}
use Rattle.ring_core.specs.declared.views.View.{View}
use Rattle.playout.specs.Machine.{start}
use Rattle.playout.specs.History.{moves, ReplyFits}
use Rattle.ring_core.specs.Ring.{Has}
use Rattle.ring_core.specs.Steps.{caller_view, position_of}
use Rattle.step_table.specs.Packed.{Kept, SeatState}
use Rattle.slot_ring.specs.Seen.{PassView, pass_view, position_in, who_in, list_in, known_in, Grown, known_after, IsLate, IsSettled, IsOfSlot, IsReplyOf, SlotSays}
use Rattle.slot_ring.specs.Kept.{IsFilers, FiledBy}

-- the seat's caller made this call
pub record Went (before last : SeatState) (call : Call) : Type 0 where
  pub shape : last.0.shape ≡ before.0.shape
  pub who : who_in last.0.role ≡ who_in before.0.role
  pub list : list_in last.0.role ≡ list_in before.0.role ++ call ∷ []
  pub known : known_in last.0.role ≡ known_after (known_in before.0.role) (start + moves (list_in before.0.role)) call

pub went : (k : Shape) (before last : SeatState) (c d : Calling) (call : Call) → before.0 ≡ caller_view k c → last.0 ≡ caller_view k d → d.who ≡ c.who → d.list ≡ c.list ++ call ∷ [] → d.known ≡ known_after c.known (position_of c) call → Went before last call
went k before last c d call is will who list known =
    let r : before.0.role ≡ Caller c = ap (λ (v : View). v.role) is in
    let s : last.0.role ≡ Caller d = ap (λ (v : View). v.role) will in
    record {
      shape = ap (λ (v : View). v.shape) will ∙ sym (ap (λ (v : View). v.shape) is);
      who = ap who_in s ∙ (who ∙ sym (ap who_in r));
      list = ap list_in s ∙ (list ∙ ap (λ (x : Role). list_in x ++ call ∷ []) (sym r));
      known = ap known_in s ∙ (known ∙ ap (λ (x : Role). known_after (known_in x) (start + moves (list_in x)) call) (sym r));
    }

pub grown : (at now_at : TableId) (before last : SeatState) (old : PassView) (call : Call) → Went before last call → now_at ≡ at → pass_view (record { id = at; shape = before.0.shape }) before.0.role ≡ old
    → Grown old call (pass_view (record { id = now_at; shape = last.0.shape }) last.0.role)
grown at now_at before last old call w same is = (
  (λ i. record { id = same i; shape = w.shape i }) ∙ ap (λ (p : PassView). p.ring) is,
  w.who ∙ ap (λ (p : PassView). p.who) is,
  w.list ∙ ap (λ (p : PassView). p.list ++ call ∷ []) is,
)

pub knows : (at : TableId) (before last : SeatState) (old : PassView) (call : Call) → Went before last call → pass_view (record { id = at; shape = before.0.shape }) before.0.role ≡ old → known_in last.0.role ≡ known_after old.known (position_in old) call
knows at before last old call w is = w.known ∙ ap (λ (p : PassView). known_after p.known (position_in p) call) is

-- the seat's caller filed this frame, and has this spare cell afterwards
pub record Filed (me last : SeatState) (n : ℕ) (f : List ℕ) (reply : FileReply) (who spare : ℕ) : Type 0 where
  pub filers : IsFilers last who spare
  pub went : Went me last (FileCall n f reply)
  pub fits : ReplyFits n reply
  pub late : n < (known_in me.0.role).position → IsLate reply
  pub settled : (g : List ℕ) → Has (known_in me.0.role).pairs n g → IsSettled reply
  pub word : (w : SlotWord) × IsOfSlot me.0.shape (known_in me.0.role) n w × IsReplyOf w n reply

pub filed : (me last : SeatState) (n : ℕ) (f : List ℕ) (reply : FileReply) (who spare : ℕ) (c d : Calling) (z : Kept) → me.0 ≡ caller_view me.0.shape c → last ≡ (caller_view me.0.shape d, (spare, z) ∷ [])
    → d.spare ≡ spare → d.flight ≡ None → c.who ≡ who → d.who ≡ c.who → who < me.0.shape.filers → spare < 32768
    → d.list ≡ c.list ++ FileCall n f reply ∷ [] → d.known ≡ known_after c.known (position_of c) (FileCall n f reply)
    → ReplyFits n reply → (w : SlotWord) → IsOfSlot me.0.shape c.known n w → IsReplyOf w n reply → (n < c.known.position → IsLate reply) → ((g : List ℕ) → Has c.known.pairs n g → IsSettled reply) → Filed me last n f reply who spare
filed me last n f reply who spare c d z is will cell ground mine same low small list known fits w of_slot says late settled =
    let k : Known = c.known in
    let knew : known_in me.0.role ≡ c.known = ap (λ (v : View). known_in v.role) is in
    record {
      filers = subst (λ (m : SeatState). IsFilers m who spare) (sym will) (d, z, refl, cell, ground, same ∙ mine, low, small);
      went = went me.0.shape me last c d (FileCall n f reply) is (ap (λ (m : SeatState). m.0) will) same list known;
      fits = fits;
      late = subst (λ (x : Known). n < x.position → IsLate reply) (sym knew) late;
      settled = subst (λ (x : Known). (g : List ℕ) → Has x.pairs n g → IsSettled reply) (sym knew) settled;
      word = (w, subst (λ (x : Known). IsOfSlot me.0.shape x n w) (sym knew) of_slot, says);
    }

pub filed_by : (at now_at : TableId) (me last : SeatState) (old : PassView) (n : ℕ) (f : List ℕ) (reply : FileReply) (who spare : ℕ) → Filed me last n f reply who spare → now_at ≡ at → pass_view (record { id = at; shape = me.0.shape }) me.0.role ≡ old
    → FiledBy old n f reply (pass_view (record { id = now_at; shape = last.0.shape }) last.0.role)
filed_by at now_at me last old n f reply who spare x same is =
    record {
      call = grown at now_at me last old (FileCall n f reply) x.went same is;
      known = knows at me last old (FileCall n f reply) x.went is;
      fits = x.fits;
      late = subst (λ (p : PassView). n < p.known.position → IsLate reply) is x.late;
      settled = subst (λ (p : PassView). (g : List ℕ) → Has p.known.pairs n g → IsSettled reply) is x.settled;
      word = subst (λ (p : PassView). SlotSays p n reply) is x.word;
    }

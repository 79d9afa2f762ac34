-- What passes, blanks, gathers and notes keep between calls, and what one call over a slot results in.
use Rattle.std.specs.Prelude.{◌≡◌, ◌≢◌, ℕ, ◌+◌, ◌<◌, List, [], ◌∷◌, Bool, true, None, nat_lt, if◌then◌else◌}
use Rattle.frame_codec.specs.declared.item.Item.{Item}
use Rattle.frame_codec.specs.declared.item.Item.TheVariants.{Frame, Idle}
use Rattle.playout.specs.declared.call.Call.TheVariants.{FileCall}
use Rattle.playout.specs.declared.reply.FileReply.{FileReply}
use Rattle.playout.specs.declared.reply.FileReply.TheVariants.{Duplicate, Late}
use Rattle.ring_core.specs.declared.player_steps.Move.{Move}
use Rattle.ring_core.specs.declared.player_steps.Glance.{Glance}
use Rattle.ring_core.specs.declared.words.SlotWord.{SlotWord}
use Rattle.ring_core.specs.declared.views.Known.{Known}
use Rattle.ring_core.specs.declared.views.Calling.{Calling}
use Rattle.ring_core.specs.declared.views.Pooling.{Pooling}
use Rattle.ring_core.specs.declared.views.Departing.{Departing}
use Rattle.playout.specs.History.{ReplyFits}
use Rattle.ring_core.specs.Ring.{Has}
use Rattle.ring_core.specs.Steps.{caller_view, position_of, pool_view, gone_view, note_view, move_call, ahead_of, glance_call}
use Rattle.step_table.specs.Packed.{Kept, SeatState}
use Rattle.step_table.specs.Kinds.{StepKind, move, glance}
use Rattle.slot_ring.specs.Seen.{PassView, position_in, Grown, known_after, no_lists, IsLate, IsSettled, SlotSays, TakeSays, LookSays}

-- the player's caller, which has this spare cell, at this position
abbrev pub IsPlayers : SeatState → ℕ → ℕ → Type 0
IsPlayers me spare position = (c : Calling) × (z : Kept) × (me ≡ (caller_view me.0.shape c, (spare, z) ∷ [])) × (c.spare ≡ spare) × (c.flight ≡ None) × (c.who ≡ me.0.shape.filers) × (position_of c ≡ position) × (spare < 32768)

-- a filer's caller, which has this spare cell and is not in flight
abbrev pub IsFilers : SeatState → ℕ → ℕ → Type 0
IsFilers me who spare = (c : Calling) × (z : Kept) × (me ≡ (caller_view me.0.shape c, (spare, z) ∷ [])) × (c.spare ≡ spare) × (c.flight ≡ None) × (c.who ≡ who) × (who < me.0.shape.filers) × (spare < 32768)

-- a pool that has gathered nothing
abbrev pub IsBlank : SeatState → Type 0
IsBlank me = (p : Pooling) × (me ≡ (pool_view me.0.shape p, [])) × (p.lists ≡ no_lists me.0.shape.filers)

abbrev pub IsGather : SeatState → Type 0
IsGather me = (p : Pooling) × (me ≡ (pool_view me.0.shape p, []))

abbrev pub IsDeparted : SeatState → Type 0
IsDeparted me = (d : Departing) × (me ≡ (gone_view me.0.shape d, []))

abbrev pub IsNote : SeatState → Type 0
IsNote me = (n : Known) × (me ≡ (note_view me.0.shape n, []))

-- the reply at a word that is filled, or has a later number
abbrev pub reply_after : SlotWord → ℕ → FileReply
reply_after w n = if nat_lt n w.number then Late w.number else Duplicate

-- a frame was filed under n by a pass, which went from a to b, and this was the reply
pub record FiledBy (a : PassView) (n : ℕ) (f : List ℕ) (reply : FileReply) (b : PassView) : Type 0 where
  pub call : Grown a (FileCall n f reply) b
  pub known : b.known ≡ known_after a.known (position_in a) (FileCall n f reply)
  pub fits : ReplyFits n reply
  pub word : SlotSays a n reply
  -- below a position that was known it is late
  pub late : n < a.known.position → IsLate reply
  -- what was known to be accepted is not accepted again
  pub settled : (g : List ℕ) → Has a.known.pairs n g → IsSettled reply

-- the player's pass went from a to b by a tick or a retire, which took this item
pub record TakenBy (a : PassView) (v : Move) (item : Item) (b : PassView) : Type 0 where
  pub call : Grown a (move_call v item) b
  pub known : b.known ≡ known_after a.known (position_in a) (move_call v item)
  pub position : position_in b ≡ position_in a + 1
  pub taken : item ≢ Idle
  pub word : TakeSays (position_in a) item
  -- what was known to be accepted under the number is taken
  pub fresh : (f : List ℕ) → Has a.known.pairs (position_in a) f → item ≡ Frame f

-- by a step of this kind
abbrev pub TakenAs : StepKind → PassView → Item → PassView → Type 0
TakenAs (move v) a item b = TakenBy a v item b
TakenAs _ a item b = ⊥

-- the player's pass went from a to b by a look or a hold, which found the slot filled or free
pub record GlancedBy (a : PassView) (v : Glance) (filled : Bool) (b : PassView) : Type 0 where
  pub call : Grown a (glance_call v filled) b
  pub known : b.known ≡ known_after a.known (position_in a) (glance_call v filled)
  pub position : position_in b ≡ position_in a
  pub word : LookSays (position_in a + ahead_of v) filled
  -- the slot of what was known to be accepted is filled
  pub fresh : (f : List ℕ) → Has a.known.pairs (position_in a + ahead_of v) f → filled ≡ true

-- by a step of this kind
abbrev pub GlancedAs : StepKind → PassView → Bool → PassView → Type 0
GlancedAs (glance v) a filled b = GlancedBy a v filled b
GlancedAs _ a filled b = ⊥

-- a tick or a retire
abbrev pub IsMove : StepKind → Type 0
IsMove (move v) = Unit {0}
IsMove _ = ⊥

-- a look or a hold of the slot so many numbers ahead
abbrev pub IsGlance : StepKind → ℕ → Type 0
IsGlance (glance v) ahead = ahead ≡ ahead_of v
IsGlance _ ahead = ⊥

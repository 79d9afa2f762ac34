-- The kinds of step on the table: where each may be made, and what it tells its caller.
use Rattle.std.specs.Prelude.{◌≡◌, ◌≢◌, ◌⊎◌, ℕ, ◌+◌, ◌%◌, ◌<◌, ◌≤◌, ◌^◌, List, [], ◌∷◌, slice_get, Some, None, Result, Ok, Err, true}
use Rattle.frame_codec.specs.declared.item.Item.TheVariants.{Frame}
use Rattle.playout.specs.declared.call.Call.{Call}
use Rattle.ring_core.specs.declared.player_steps.Move.{Move}
use Rattle.ring_core.specs.declared.player_steps.Glance.{Glance}
use Rattle.ring_core.specs.declared.views.Shape.{Shape}
use Rattle.ring_core.specs.declared.views.Known.{Known}
use Rattle.ring_core.specs.declared.views.Flight.{Flight}
use Rattle.ring_core.specs.declared.views.Pooling.{Pooling}
use Rattle.ring_core.specs.declared.views.Calling.{Calling}
use Rattle.ring_core.specs.declared.views.Departing.{Departing}
use Rattle.ring_core.specs.declared.views.Role.{Role}
use Rattle.ring_core.specs.declared.views.Role.TheVariants.{Pool, Caller, Departed, Note, Spent}
use Rattle.ring_core.specs.declared.views.View.{View}
use Rattle.ring_core.specs.declared.words.SlotWord.{SlotWord}
use Rattle.ring_core.specs.declared.words.Berth.TheVariants.{Fresh, Out, Home}
use Rattle.playout.specs.Machine.{start, held_or}
use Rattle.ring_core.specs.Ring.{Has, slot_count, word_of}
use Rattle.ring_core.specs.Steps.{caller_view, position_of, moved, taken, ahead_of, glanced, free_word, full_word, loaded, published, pool_view, without, only, newcomer, told_by, note_view, departed_view, gone_view, with_list, sourced, based, peeked}
use Rattle.ring_core.specs.Core.{held_in}
use Rattle.step_table.specs.Packed.{Kept, SeatState, Fits, pack_slot, pack_berth}

pub data StepKind : Type 0 where
  -- of this caller
  enlist : ℕ → StepKind
  -- of this number, with this frame
  load : ℕ → List ℕ → StepKind
  publish : StepKind
  -- a tick or a retire
  move : Move → StepKind
  leave : StepKind
  -- the right to this caller goes to a new seat
  split : ℕ → StepKind
  -- what a caller knows goes to a new seat
  note : StepKind
  learn : StepKind
  gather : StepKind
  -- with this value
  source : ℕ → StepKind
  base : ℕ → StepKind
  peek : StepKind
  -- a look or a hold
  glance : Glance → StepKind

-- the places of the source word and of the base word
abbrev pub source_place : Shape → ℕ
source_place k = slot_count k + (k.filers + 1)

abbrev pub base_place : Shape → ℕ
base_place k = slot_count k + (k.filers + 2)

-- a swap of a word to a new one, by a seat that may make this kind of step
abbrev pub MaySwap : StepKind → Shape → SeatState → ℕ → ℕ → Type 0
MaySwap (move v) k me word new =
    (c : Calling) × (z : Kept)
    × (me ≡ (caller_view k c, (c.spare, z) ∷ [])) × (c.who ≡ k.filers) × (position_of c < 2 ^ 33)
    × (word ≡ position_of c % slot_count k) × (new ≡ pack_slot (free_word (position_of c + slot_count k) c.spare))
MaySwap (enlist who) k me word new =
    (p : Pooling) × (me ≡ (pool_view k p, [])) × (slice_get p.rights who ≡ Some true) × ((n : ℕ) (l : List Call) → slice_get p.lists n ≡ Some (Some l) → ⊥)
    × (who ≤ k.filers) × (word ≡ slot_count k + who) × (new ≡ pack_berth Out)
MaySwap leave k me word new =
    (c : Calling) × (z : Kept)
    × (me ≡ (caller_view k c, (c.spare, z) ∷ [])) × (c.who ≤ k.filers) × (c.flight ≡ None) × (word ≡ slot_count k + c.who) × (new ≡ pack_berth (Home c.spare))
MaySwap _ k me word new = ⊥

abbrev pub MayLoad : StepKind → Shape → SeatState → ℕ → Type 0
MayLoad (load n f) k me word = (c : Calling) × (held : List (ℕ × Kept)) × (me ≡ (caller_view k c, held)) × (c.who < k.filers) × (c.flight ≡ None) × (word ≡ n % slot_count k)
MayLoad peek k me word = (c : Calling) × (held : List (ℕ × Kept)) × (me ≡ (caller_view k c, held)) × (c.who ≡ k.filers) × (word ≡ base_place k)
MayLoad (glance v) k me word =
    (c : Calling) × (held : List (ℕ × Kept)) × (me ≡ (caller_view k c, held)) × (c.who ≡ k.filers) × (ahead_of v < slot_count k) × (word ≡ (position_of c + ahead_of v) % slot_count k)
MayLoad _ k me word = ⊥

-- a compare-exchange of a word from an old one to a new one
abbrev pub MayExchange : StepKind → Shape → SeatState → ℕ → ℕ → ℕ → Type 0
MayExchange publish k me word old new =
    (c : Calling) × (f : Flight)
    × (me ≡ (caller_view k c, (c.spare, Some f.frame) ∷ [])) × (c.who < k.filers) × (c.flight ≡ Some f) × Fits (free_word f.number f.cell)
    × (word ≡ f.number % slot_count k) × (old ≡ pack_slot (free_word f.number f.cell)) × (new ≡ pack_slot (full_word f.number c.spare))
MayExchange (source x) k me word old new =
    (c : Calling) × (held : List (ℕ × Kept))
    × (me ≡ (caller_view k c, held)) × (c.who < k.filers) × (c.flight ≡ None) × (x < 2 ^ 32) × (word ≡ source_place k) × (old ≡ 0) × (new ≡ word_of (Some x))
MayExchange (base x) k me word old new =
    (c : Calling) × (held : List (ℕ × Kept))
    × (me ≡ (caller_view k c, held)) × (c.who < k.filers) × (c.flight ≡ None) × (x < 2 ^ 32) × (word ≡ base_place k) × (old ≡ 0) × (new ≡ word_of (Some x))
MayExchange _ k me word old new = ⊥

-- a tick or a retire by this caller found the number: it spells a slot word of the caller's position, and the seat has that word's cell. What the caller knew to be accepted there is taken, and a filled word has a frame in its cell
abbrev pub AfterMove : Shape → Calling → Move → ℕ → SeatState → Type 0
AfterMove k c v found now = (w : SlotWord) × (y : Kept) × (found ≡ pack_slot w) × Fits w × (now ≡ (caller_view k (moved c v w y), (w.cell, y) ∷ []))
    × ((f : List ℕ) → Has c.known.pairs (position_of c) f → taken w.filled y ≡ Frame f) × (w.number ≡ position_of c) × (w.filled ≡ true → (f : List ℕ) × (y ≡ Some f))

-- what the word of this number's slot has to do with what the caller knew
pub record WordTells (k : Shape) (c : Calling) (n : ℕ) (w : SlotWord) : Type 0 where
  pub congruent : w.number % slot_count k ≡ n % slot_count k
  pub first : start ≤ w.number
  pub last : w.number < 2 ^ 33 + 1024
  pub reached : c.known.position ≤ w.number
  pub accepted : (f : List ℕ) → Has c.known.pairs n f → (n ≤ w.number) × (w.number ≡ n → w.filled ≡ true)

abbrev pub AfterLoad : Shape → Calling → ℕ → List ℕ → List (ℕ × Kept) → ℕ → SeatState → Type 0
AfterLoad k c n f held found now = (w : SlotWord) × (found ≡ pack_slot w) × Fits w × (now ≡ (caller_view k (loaded c w n f), held)) × WordTells k c n w

-- the word was the one that was loaded, and the seat has its cell; or it is filled, or has a later number
abbrev pub AfterPublish : Shape → Calling → Flight → List (ℕ × Kept) → ℕ → SeatState → Type 0
AfterPublish k c f held found now =
    ((found ≡ pack_slot (free_word f.number f.cell)) × ((y : Kept) × (now ≡ (caller_view k (published c f.number f.frame f.cell), (f.cell, y) ∷ []))))
    ⊎ ((found ≢ pack_slot (free_word f.number f.cell))
    × ((w : SlotWord) × (found ≡ pack_slot w) × Fits w × (f.number ≤ w.number) × (w.number ≡ f.number → w.filled ≡ true) × (now ≡ (caller_view k (loaded c w f.number f.frame), held)) × WordTells k c f.number w))

-- a word with nothing held, or with a value of 32 bits
abbrev pub IsHeldWord : ℕ → Type 0
IsHeldWord found = (found ≡ 0) ⊎ ((2 ^ 32 ≤ found) × (found < 2 ^ 33))

-- the value that was held before, or else this one, is held now. What the caller knew to be held was held
abbrev pub AfterSource : Shape → Calling → ℕ → List (ℕ × Kept) → ℕ → SeatState → Type 0
AfterSource k c x held found now = IsHeldWord found × (now ≡ (caller_view k (sourced c x (held_or (held_in found) x)), held)) × ((y : ℕ) → c.known.source ≡ Some y → found ≡ word_of (Some y))

abbrev pub AfterBase : Shape → Calling → ℕ → List (ℕ × Kept) → ℕ → SeatState → Type 0
AfterBase k c x held found now = IsHeldWord found × (now ≡ (caller_view k (based c x (held_or (held_in found) x)), held)) × ((y : ℕ) → c.known.base ≡ Some y → found ≡ word_of (Some y))

-- a look or a hold by this caller found the number: it spells the slot word of the number so many ahead of the caller's position. What the caller knew to be accepted there shows as filled
abbrev pub AfterGlance : Shape → Calling → Glance → List (ℕ × Kept) → ℕ → SeatState → Type 0
AfterGlance k c v held found now = (w : SlotWord) × (found ≡ pack_slot w) × Fits w × (now ≡ (caller_view k (glanced c v w), held))
    × (w.number ≡ position_of c + ahead_of v) × ((f : List ℕ) → Has c.known.pairs (position_of c + ahead_of v) f → w.filled ≡ true)

abbrev pub AfterPeek : Shape → Calling → List (ℕ × Kept) → ℕ → SeatState → Type 0
AfterPeek k c held found now = IsHeldWord found × (now ≡ (caller_view k (peeked c (held_in found)), held)) × ((y : ℕ) → c.known.base ≡ Some y → found ≡ word_of (Some y))

-- what a step on a word tells: of the seat before, the word found and the seat after
abbrev pub told : StepKind → SeatState → ℕ → SeatState → Type 0
told (enlist who) me found now = (cell : ℕ) × (y : Kept) × (found ≡ pack_berth (Fresh cell)) × (cell < 32768) × (now ≡ (caller_view me.0.shape (newcomer who cell), (cell, y) ∷ []))
told (load n f) me found now = (c : Calling) → me.0.role ≡ Caller c → AfterLoad me.0.shape c n f me.1 found now
told publish me found now = (c : Calling) (f : Flight) → me.0.role ≡ Caller c → c.flight ≡ Some f → AfterPublish me.0.shape c f me.1 found now
told (move v) me found now = (c : Calling) → me.0.role ≡ Caller c → AfterMove me.0.shape c v found now
told leave me found now = (c : Calling) → me.0.role ≡ Caller c → now ≡ (departed_view me.0.shape c, [])
told (source x) me found now = (c : Calling) → me.0.role ≡ Caller c → AfterSource me.0.shape c x me.1 found now
told (base x) me found now = (c : Calling) → me.0.role ≡ Caller c → AfterBase me.0.shape c x me.1 found now
told peek me found now = (c : Calling) → me.0.role ≡ Caller c → AfterPeek me.0.shape c me.1 found now
told (glance v) me found now = (c : Calling) → me.0.role ≡ Caller c → AfterGlance me.0.shape c v me.1 found now
told _ me found now = ⊥

-- a seat that may be cut in two
abbrev pub MaySplit : StepKind → Shape → SeatState → Type 0
MaySplit (split who) k me = (p : Pooling) × (me.0 ≡ pool_view k p) × (slice_get p.rights who ≡ Some true)
MaySplit note k me = (c : Calling) × (me.0 ≡ caller_view k c) × (c.flight ≡ None)
MaySplit _ k me = ⊥

abbrev pub left_role : ℕ → Role → Role
left_role who (Pool p) = Pool (without p who)
left_role who (Caller c) = Caller c
left_role who (Departed d) = Departed d
left_role who (Note n) = Note n
left_role who Spent = Spent

abbrev pub right_role : Shape → ℕ → Role → Role
right_role k who (Pool p) = Pool (only k who)
right_role k who (Caller c) = Spent
right_role k who (Departed d) = Spent
right_role k who (Note n) = Spent
right_role k who Spent = Spent

abbrev pub note_role : Role → Role
note_role (Pool p) = Spent
note_role (Caller c) = Note c.known
note_role (Departed d) = Spent
note_role (Note n) = Spent
note_role Spent = Spent

-- the view that stays with the seat, and that of the new one
abbrev pub left_of : StepKind → View → View
left_of (split who) v = record { shape = v.shape; role = left_role who v.role }
left_of _ v = v

abbrev pub right_of : StepKind → View → View
right_of (split who) v = record { shape = v.shape; role = right_role v.shape who v.role }
right_of note v = record { shape = v.shape; role = note_role v.role }
right_of _ v = record { shape = v.shape; role = Spent }

-- a seat that may take in another's view
abbrev pub MayJoin : StepKind → Shape → View → View → Type 0
MayJoin learn k v w = (c : Calling) × (n : Known) × (v ≡ caller_view k c) × (w ≡ note_view k n) × (c.flight ≡ None)
MayJoin gather k v w = (p : Pooling) × (d : Departing) × (v ≡ pool_view k p) × (w ≡ gone_view k d)
MayJoin _ k v w = ⊥

abbrev pub learnt_role : Role → Role → Role
learnt_role (Caller c) (Note n) = Caller (told_by c n)
learnt_role r _ = r

abbrev pub gathered_role : Role → Role → Role
gathered_role (Pool p) (Departed d) = Pool (with_list p d)
gathered_role r _ = r

-- the view of a seat that took in another's
abbrev pub both_of : StepKind → View → View → View
both_of learn v w = record { shape = v.shape; role = learnt_role v.role w.role }
both_of gather v w = record { shape = v.shape; role = gathered_role v.role w.role }
both_of _ v w = v

-- the word that was read
abbrev pub word_read : Result ℕ ℕ → ℕ
word_read (Ok x) = x
word_read (Err x) = x

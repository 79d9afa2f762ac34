-- What contracts see of passes, blanks, gathers and notes.
use Rattle.std.specs.Prelude.{◌≡◌, ℕ, ◌+◌, ◌%◌, ◌^◌, ◌<◌, ◌≤◌, List, [], ◌∷◌, ◌++◌, Option, Some, None, IsSome, Bool, true, false, not, max, replicate}
use Rattle.frame_codec.specs.declared.item.Item.{Item}
use Rattle.playout.specs.declared.call.Call.{Call}
use Rattle.playout.specs.declared.call.Call.TheVariants.{FileCall, SourceCall, BaseCall, PeekCall, TickCall, LookCall, HoldCall, RetireCall}
use Rattle.playout.specs.declared.reply.FileReply.{FileReply}
use Rattle.playout.specs.declared.reply.FileReply.TheVariants.{Accepted, Duplicate, Late, Beyond}
use Rattle.ring_core.specs.declared.views.Known.{Known}
use Rattle.ring_core.specs.declared.views.Role.{Role}
use Rattle.ring_core.specs.declared.views.Role.TheVariants.{Pool, Caller, Departed, Note, Spent}
use Rattle.playout.specs.Machine.{start, held_or}
use Rattle.playout.specs.History.{moves}
use Rattle.ring_core.specs.declared.words.SlotWord.{SlotWord}
use Rattle.ring_core.specs.declared.views.Shape.{Shape}
use Rattle.ring_core.specs.Ring.{slot_count, word_of}
use Rattle.ring_core.specs.Core.{held_in}
use Rattle.ring_core.specs.Steps.{taken, with_pair, at_position, with_source, with_base, either_known}
use Rattle.step_table.specs.Packed.{Where, Kept, Fits}
use Rattle.step_table.specs.Kinds.{IsHeldWord}

-- of a pass, and of a caller that has left: its ring, the caller's number, its calls so far, and what it knows
pub record PassView : Type 0 where
  pub ring : Where
  pub who : ℕ
  pub list : List Call
  pub known : Known

-- of a blank: its ring, and by caller number whether it has the right to enlist that caller
pub record BlankView : Type 0 where
  pub ring : Where
  pub rights : List Bool

-- of a gather: its ring, and by caller number the lists gathered so far
pub record GatherView : Type 0 where
  pub ring : Where
  pub lists : List (Option (List Call))

-- of a note: its ring, and what it knows
pub record NoteView : Type 0 where
  pub ring : Where
  pub known : Known

-- what a caller knows at first
abbrev pub nothing_known : Known
nothing_known = record { pairs = []; position = start; source = None; base = None }

abbrev pub who_in : Role → ℕ
who_in (Pool p) = 0
who_in (Caller c) = c.who
who_in (Departed d) = d.who
who_in (Note k) = 0
who_in Spent = 0

abbrev pub list_in : Role → List Call
list_in (Pool p) = []
list_in (Caller c) = c.list
list_in (Departed d) = d.list
list_in (Note k) = []
list_in Spent = []

abbrev pub known_in : Role → Known
known_in (Pool p) = nothing_known
known_in (Caller c) = c.known
known_in (Departed d) = nothing_known
known_in (Note k) = k
known_in Spent = nothing_known

abbrev pub rights_in : Role → List Bool
rights_in (Pool p) = p.rights
rights_in (Caller c) = []
rights_in (Departed d) = []
rights_in (Note k) = []
rights_in Spent = []

abbrev pub lists_in : Role → List (Option (List Call))
lists_in (Pool p) = p.lists
lists_in (Caller c) = []
lists_in (Departed d) = []
lists_in (Note k) = []
lists_in Spent = []

abbrev pub pass_view : Where → Role → PassView
pass_view w r = record { ring = w; who = who_in r; list = list_in r; known = known_in r }

-- the number that a player's next tick or retire takes
abbrev pub position_in : PassView → ℕ
position_in p = start + moves p.list

-- the ring of a pass has 2 ^ g slots
abbrev pub g_in : PassView → ℕ
g_in p = p.ring.shape.g

-- no list of this many filers and the player
abbrev pub no_lists : ℕ → List (Option (List Call))
no_lists filers = replicate (filers + 1) None

-- the pass went from a to b by this call: it is one more of its calls
abbrev pub Grown : PassView → Call → PassView → Type 0
Grown a call b = (b.ring ≡ a.ring) × (b.who ≡ a.who) × (b.list ≡ a.list ++ call ∷ [])

-- what is known after a call, by its reply; the number of a tick or a retire was p
abbrev pub known_after : Known → ℕ → Call → Known
known_after k p (FileCall n f Accepted) = with_pair k n f
known_after k p (FileCall n f Duplicate) = k
known_after k p (FileCall n f (Late ahead)) = at_position k (max k.position (n + 1))
known_after k p (FileCall n f (Beyond ahead)) = k
known_after k p (SourceCall x held) = with_source k held
known_after k p (BaseCall x held) = with_base k held
known_after k p (PeekCall held) = record k { base = either_known held k.base }
known_after k p (TickCall item) = at_position k (p + 1)
known_after k p (LookCall ahead filled) = k
known_after k p (HoldCall held) = k
known_after k p (RetireCall item) = at_position k (p + 1)

abbrev pub IsLate : FileReply → Type 0
IsLate Accepted = ⊥
IsLate Duplicate = ⊥
IsLate (Late ahead) = Unit {0}
IsLate (Beyond ahead) = ⊥

-- the number is taken, or has been passed
abbrev pub IsSettled : FileReply → Type 0
IsSettled Accepted = ⊥
IsSettled Duplicate = Unit {0}
IsSettled (Late ahead) = Unit {0}
IsSettled (Beyond ahead) = ⊥

-- a word that was read of this number's slot: its number is of the slot, lies between the start and the last window, and is no lower than
-- a position that the reader knew
pub record IsOfSlot (k : Shape) (knew : Known) (n : ℕ) (w : SlotWord) : Type 0 where
  pub fits : Fits w
  pub congruent : w.number % slot_count k ≡ n % slot_count k
  pub first : start ≤ w.number
  pub last : w.number < 2 ^ 33 + 1024
  pub reached : knew.position ≤ w.number

-- what a word says of a number: it has this number, and is free for its frame, or filled; or it has a later number; or an earlier one
abbrev pub IsReplyOf : SlotWord → ℕ → FileReply → Type 0
IsReplyOf w n Accepted = (w.number ≡ n) × (w.filled ≡ false)
IsReplyOf w n Duplicate = (w.number ≡ n) × (w.filled ≡ true)
IsReplyOf w n (Late ahead) = (n < w.number) × (ahead ≡ w.number)
IsReplyOf w n (Beyond ahead) = (w.number < n) × (ahead ≡ w.number)

-- a word of the number's slot was read, and the reply is what it says
abbrev pub SlotSays : PassView → ℕ → FileReply → Type 0
SlotSays a n reply = (w : SlotWord) × IsOfSlot a.ring.shape a.known n w × IsReplyOf w n reply

-- a word of this number was taken out with its cell: where it is filled the item is the frame in the cell, and else an erasure
abbrev pub TakeSays : ℕ → Item → Type 0
TakeSays n item = (w : SlotWord) × (kept : Kept) × Fits w × (w.number ≡ n) × (item ≡ taken w.filled kept) × (w.filled ≡ true → IsSome kept)

-- a word of this number was read, which is filled or free
abbrev pub LookSays : ℕ → Bool → Type 0
LookSays n filled = (w : SlotWord) × Fits w × (w.number ≡ n) × (filled ≡ w.filled)

-- a word of this number was read, and a beat may pass there where it is free
abbrev pub HoldSays : ℕ → Bool → Type 0
HoldSays n held = (w : SlotWord) × Fits w × (w.number ≡ n) × (held ≡ not w.filled)

-- a source or base word that was read: nothing, or a value of 32 bits, and the one that the reader knew
pub record IsHeldRead (knew : Option ℕ) (word : ℕ) : Type 0 where
  pub fits : IsHeldWord word
  pub known : (x : ℕ) → knew ≡ Some x → word ≡ word_of (Some x)

-- such a word was read, and the answer is the value in it, or none where it is 0
abbrev pub PeekSays : Option ℕ → Option ℕ → Type 0
PeekSays knew answer = (word : ℕ) × IsHeldRead knew word × (answer ≡ held_in word)

-- such a word was read, and the answer is the value in it, or the one that was said where it is 0
abbrev pub HeldSays : Option ℕ → ℕ → ℕ → Type 0
HeldSays knew said answer = (word : ℕ) × IsHeldRead knew word × (answer ≡ held_or (held_in word) said)

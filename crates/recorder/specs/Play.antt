-- The player's journal.
use Rattle.std.specs.Prelude.{◌≡◌, ℕ, ◌<◌, ◌^◌, List, [], ◌∷◌, ◌++◌, Bool, true, false, nat_lt, ◌==◌, Option, None, Some, if◌then◌else◌}
use Rattle.std.specs.List.{flat_map}
use Rattle.byteorder.specs.Endian.{big_bytes, big_number}
use Rattle.frame_codec.specs.Octets.{IsFrame}
use Rattle.frame_codec.specs.declared.item.Item.{Item}
use Rattle.frame_codec.specs.declared.item.Item.TheVariants as items
use Rattle.playout.specs.declared.call.Call.{Call}
use Rattle.playout.specs.declared.call.Call.TheVariants.{FileCall, SourceCall, BaseCall, PeekCall, TickCall, LookCall, HoldCall, RetireCall}
use Rattle.recorder.specs.declared.events.PlayEvent.{PlayEvent}
use Rattle.recorder.specs.declared.events.PlayEvent.TheVariants.{Idle, Base, Erasure, Frame, Held, Found, LookFree, LookFilled, RetiredErasure, RetiredFrame}
use Rattle.recorder.specs.declared.fault.RecordFault.{RecordFault}
use Rattle.recorder.specs.Fields.{judged, judged_behind}
use Rattle.recorder.specs.Files.{end_mark, is_signed, answer_by, fault_by}
use Rattle.recorder.specs.Heads.{Heading, head_text, play_magic}

-- the octets of an event: its kind, and its field
abbrev pub play_event_text : PlayEvent → List ℕ
play_event_text Idle = 16 ∷ []
play_event_text (Base base) = 17 ∷ big_bytes 4 base
play_event_text Erasure = 18 ∷ []
play_event_text (Frame frame) = 19 ∷ frame
play_event_text Held = 20 ∷ []
play_event_text Found = 21 ∷ []
play_event_text (LookFree ahead) = 22 ∷ big_bytes 2 ahead
play_event_text (LookFilled ahead) = 23 ∷ big_bytes 2 ahead
play_event_text RetiredErasure = 24 ∷ []
play_event_text (RetiredFrame frame) = 25 ∷ frame

-- the most octets of an event: a frame after its kind
abbrev pub longest_play : ℕ
longest_play = 34

-- the octets of what a reader answers: an event, or none at the end mark
abbrev pub play_answer_text : Option PlayEvent → List ℕ
play_answer_text = answer_by play_event_text

-- the event of what a tick takes
abbrev pub ticked : Item → Option PlayEvent
ticked items.Idle = None
ticked (items.Frame f) = Some (Frame f)
ticked items.Erasure = Some Erasure

-- the event of what a retire takes
abbrev pub retired : Item → Option PlayEvent
retired items.Idle = None
retired (items.Frame f) = Some (RetiredFrame f)
retired items.Erasure = Some RetiredErasure

-- The event that the player's journal has of a call: each call of the player has one, and those of the filers have none.
abbrev pub event_of_call : Call → Option PlayEvent
event_of_call (FileCall n f reply) = None
event_of_call (SourceCall x held) = None
event_of_call (BaseCall x held) = None
event_of_call (PeekCall None) = Some Idle
event_of_call (PeekCall (Some base)) = Some (Base base)
event_of_call (TickCall item) = ticked item
event_of_call (LookCall ahead false) = Some (LookFree ahead)
event_of_call (LookCall ahead true) = Some (LookFilled ahead)
event_of_call (HoldCall true) = Some Held
event_of_call (HoldCall false) = Some Found
event_of_call (RetireCall item) = retired item

-- the octets of an event, where there is one
abbrev pub text_of : Option PlayEvent → List ℕ
text_of None = []
text_of (Some e) = play_event_text e

-- what the player's journal has of a call
abbrev pub call_text : Call → List ℕ
call_text c = text_of (event_of_call c)

-- the head and the calls, without the end mark
abbrev pub play_front : Heading → List Call → List ℕ
play_front h calls = head_text play_magic h ++ flat_map call_text calls

-- the player's journal of these calls
abbrev pub play_text : Heading → List Call → List ℕ
play_text h calls = play_front h calls ++ end_mark ∷ []

-- ---- the order of events

-- Idle events come first, then at most one Base, then the others: whether Idle and Base may come after an event
abbrev pub may_open : PlayEvent → Bool
may_open Idle = true
may_open (Base base) = false
may_open Erasure = false
may_open (Frame frame) = false
may_open Held = false
may_open Found = false
may_open (LookFree ahead) = false
may_open (LookFilled ahead) = false
may_open RetiredErasure = false
may_open (RetiredFrame frame) = false

-- the event is in its ranges where a line has 2 ^ g slots, and comes in order where Idle and Base may come or not
abbrev pub PlayFits : ℕ → Bool → PlayEvent → Type 0
PlayFits g opening Idle = opening ≡ true
PlayFits g opening (Base base) = (opening ≡ true) × (base < 2 ^ 32)
PlayFits g opening Erasure = Unit {0}
PlayFits g opening (Frame frame) = IsFrame frame
PlayFits g opening Held = Unit {0}
PlayFits g opening Found = Unit {0}
PlayFits g opening (LookFree ahead) = ahead < 2 ^ g
PlayFits g opening (LookFilled ahead) = ahead < 2 ^ g
PlayFits g opening RetiredErasure = Unit {0}
PlayFits g opening (RetiredFrame frame) = IsFrame frame

-- all events are, one after the other
abbrev pub AllPlayFit : ℕ → Bool → List PlayEvent → Type 0
AllPlayFit g opening [] = Unit {0}
AllPlayFit g opening (e ∷ es) = PlayFits g opening e × AllPlayFit g (may_open e) es

-- ---- faults

-- how many octets follow a kind, where it is one of the file's and in order
abbrev pub play_width : Bool → ℕ → Option ℕ
play_width opening kind =
    if kind == 18 then Some 0
    else if kind == 19 then Some 33
    else if kind == 20 then Some 0
    else if kind == 21 then Some 0
    else if kind == 22 then Some 2
    else if kind == 23 then Some 2
    else if kind == 24 then Some 0
    else if kind == 25 then Some 33
    else if opening then
    (if kind == 16 then Some 0 else if kind == 17 then Some 4 else None)
    else None

-- a look tells of a number that a line with 2 ^ g slots has ahead
abbrev pub is_ahead : ℕ → List ℕ → Bool
is_ahead g field = nat_lt (big_number 2 field) (2 ^ g)

-- the first fault of the field after a kind, of which the first octet stands at place from, where a line has 2 ^ g slots
abbrev pub play_field_fault : ℕ → ℕ → ℕ → List ℕ → Option RecordFault
play_field_fault g kind from fields =
    if kind == 19 then judged fields from 0 33 is_signed None
    else if kind == 25 then judged fields from 0 33 is_signed None
    else if kind == 17 then judged fields from 0 4 (λ o. true) None
    else if kind == 22 then judged fields from 0 2 (is_ahead g) None
    else if kind == 23 then judged fields from 0 2 (is_ahead g) None
    else None

-- the fault that stands at place `at`, after this many events, where these octets are left and a line has 2 ^ g slots
abbrev pub play_fault_at : ℕ → Bool → ℕ → ℕ → List ℕ → Option RecordFault
play_fault_at g opening = fault_by (λ kind. judged_behind (play_width opening kind) (play_field_fault g kind))

-- What the files have in common: events after a head, and then the end mark.
use Rattle.std.specs.Prelude.{ℕ, ◌/◌, List, [], ◌∷◌, slice_index, Bool, ◌==◌, nat_le, Option, Some, None, if◌then◌else◌}
use Rattle.recorder.specs.declared.fault.RecordFault.{RecordFault}
use Rattle.recorder.specs.declared.fault.RecordFault.TheVariants.{Cut, TooLong}

-- the octet after the last event of a file
abbrev pub end_mark : ℕ
end_mark = 255

-- how many events a file has at most
abbrev pub event_limit : ℕ
event_limit = 16777216

-- the first nibble of a frame is 13
abbrev pub is_signed : List ℕ → Bool
is_signed frame = slice_index frame 0 / 16 == 13

-- the octets of what a reader answers: an event, or none at the end mark
abbrev pub answer_by : {T : Type 0} → (T → List ℕ) → Option T → List ℕ
answer_by text (Some e) = text e
answer_by text None = end_mark ∷ []

-- The fault that stands at place `at`, after this many events, where these octets are left. Where the octet there is
-- a kind, `behind` says the fault of that kind, its place and what follows it.
abbrev pub fault_by : (ℕ → ℕ → List ℕ → Option RecordFault) → ℕ → ℕ → List ℕ → Option RecordFault
fault_by behind count at [] = Some (Cut at)
fault_by behind count at (kind ∷ rest) =
    if kind == end_mark then None
    else if nat_le event_limit count then Some TooLong
    else behind kind at rest

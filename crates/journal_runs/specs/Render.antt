-- What `render` does: a player's journal becomes the speech that it played.
use Rattle.std.specs.Prelude.{ℕ, ◌≡◌, ◌⊎◌, List, [], Option, Some}
use Rattle.recorder.specs.declared.fault.RecordFault.{RecordFault}
use Rattle.recorder.specs.declared.tally.PlayTally.{PlayTally}
use Rattle.recorder.specs.Journals.{IsPlayerJournal, PlayerRecord}
use Rattle.replay_check.specs.Render.{Renders, Stops, StopsReading}
use Rattle.replay_check.specs.declared.rendering.RenderEnd.{RenderEnd}
use Rattle.replay_check.specs.declared.rendering.RenderEnd.TheVariants as ends
use Rattle.gate_notes.specs.Exchange.{Exchange, Noted, NotedPart, NotedUnlessFault}
use Rattle.gate_notes.specs.Notes.{fault_line, play_lines}
use Rattle.gate_notes.specs.declared.status.Status.{Status}
use Rattle.gate_notes.specs.declared.status.Status.TheVariants.{Done, Illegal, Usage, Input, ReadFault, WriteFault, LinkFault, OutOfMemory}

-- the journal was played so, by a voice of this seed
abbrev pub Played : List ℕ → RenderEnd → Exchange → Type 0
Played seed end x = Renders seed end x.input x.output x.output_now

-- what each status says
abbrev pub Ends : List ℕ → Status → Exchange → Type 0
Ends seed Done x = (tally : PlayTally) × Played seed (ends.Done tally) x × Noted x (play_lines tally)
Ends seed Input x = (f : RecordFault) × Played seed (ends.Refused f) x × NotedUnlessFault x (fault_line 0 f)
Ends seed ReadFault x = Played seed ends.ReadFault x × Noted x []
Ends seed WriteFault x = (Played seed ends.WriteFault x × Noted x []) ⊎ ((tally : PlayTally) × Played seed (ends.Done tally) x × NotedPart x (play_lines tally))
Ends seed OutOfMemory x = ⊥
Ends seed Usage x = ⊥
Ends seed Illegal x = ⊥
Ends seed LinkFault x = ⊥

-- where the input is a whole journal and none of the objects failed, the command reaches its end
abbrev pub Completes : Status → Option (List ℕ) → Type 0 → Type 0
Completes status input failed = (octets : List ℕ) (j : PlayerRecord) → input ≡ Some octets → IsPlayerJournal octets j → ¬ failed → status ≡ Done

-- Where the journal has a fault or a read failed, what all events that were read play was given; where a give of speech failed, what all but the last play,
-- and a prefix of what that one plays; where that of the notes failed, all.
abbrev pub StopsAt : List ℕ → Status → Exchange → Option (List ℕ) → Type 0
StopsAt seed Done x left = Unit {0}
StopsAt seed Input x left = StopsReading seed x.input left x.output x.output_now
StopsAt seed ReadFault x left = StopsReading seed x.input left x.output x.output_now
StopsAt seed WriteFault x left = Stops seed ends.WriteFault x.input left x.output x.output_now ⊎ ((tally : PlayTally) × Played seed (ends.Done tally) x × NotedPart x (play_lines tally))
StopsAt seed OutOfMemory x left = Unit {0}
StopsAt seed Usage x left = Unit {0}
StopsAt seed Illegal x left = Unit {0}
StopsAt seed LinkFault x left = Unit {0}

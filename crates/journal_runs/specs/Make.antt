-- What `make` does: a script from random words.
use Rattle.std.specs.Prelude.{ℕ, ◌≡◌, ◌⊎◌}
use Rattle.std.specs.Io.KnownBytes.{Appends, Keeps}
use Rattle.gate_io.specs.Flow.{AppendsPart}
use Rattle.recorder.specs.declared.tally.PlayTally.{PlayTally}
use Rattle.recorder.specs.declared.tally.Tally.{Tally}
use Rattle.replay_check.specs.Generator.{made_script}
use Rattle.replay_check.specs.Made.{AreTallies}
use Rattle.gate_notes.specs.Exchange.{GaveBoth, GaveNothing, Giving}
use Rattle.gate_notes.specs.Notes.{tallies_text}
use Rattle.gate_notes.specs.declared.status.Status.{Status}
use Rattle.gate_notes.specs.declared.status.Status.TheVariants.{Done, Illegal, Usage, Input, ReadFault, WriteFault, LinkFault, OutOfMemory}

-- What each status says. Where a give failed the output has a prefix of the script and the notes are as they were, or the
-- output has all of it and the notes have a prefix of the summary.
abbrev pub Ends : ℕ → ℕ → ℕ → Status → Giving → Type 0
Ends seed count filers Done x = (plays : PlayTally) × (tally : Tally) × AreTallies seed count filers plays tally
    × GaveBoth x (made_script seed count filers) (tallies_text plays tally)
Ends seed count filers WriteFault x =
    (AppendsPart x.output x.output_now (made_script seed count filers) × Keeps x.notes x.notes_now)
    ⊎ ((plays : PlayTally) × (tally : Tally) × AreTallies seed count filers plays tally
    × Appends x.output x.output_now (made_script seed count filers) × AppendsPart x.notes x.notes_now (tallies_text plays tally))
Ends seed count filers OutOfMemory x = GaveNothing x
Ends seed count filers Illegal x = ⊥
Ends seed count filers Usage x = ⊥
Ends seed count filers Input x = ⊥
Ends seed count filers ReadFault x = ⊥
Ends seed count filers LinkFault x = ⊥

-- where none of the objects failed, the command reaches its end, or runs out of memory
abbrev pub Completes : Status → Type 0 → Type 0
Completes status failed = ¬ failed → (status ≡ Done) ⊎ (status ≡ OutOfMemory)

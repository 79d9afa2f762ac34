-- What `serve` results in: the status that follows from the ends of its callers, and its notes.
use Rattle.std.specs.Prelude.{ℕ, ◌≡◌, ◌⊎◌, ◌+◌, List, [], ◌∷◌, ◌++◌, Option, Some, None, codes}
use Rattle.command_line.specs.declared.line.ServeOptions.{ServeOptions}
use Rattle.recorder.specs.declared.tally.Tally.{Tally}
use Rattle.recorder.specs.declared.tally.PlayTally.{PlayTally}
use Rattle.filer.specs.declared.run.FilerEnd.{FilerEnd}
use Rattle.filer.specs.declared.run.FilerEnd.TheVariants as filer
use Rattle.player.specs.declared.run.PlayerEnd.{PlayerEnd}
use Rattle.player.specs.declared.run.PlayerEnd.TheVariants as player
use Rattle.line_run.specs.declared.options.LineOptions.{LineOptions}
use Rattle.gate_notes.specs.Notes.{counted, play_lines, tally_line}
use Rattle.gate_notes.specs.declared.status.Status.{Status}
use Rattle.gate_notes.specs.declared.status.Status.TheVariants.{Done, ReadFault, WriteFault, LinkFault}

-- the options of a line, as the words say them
abbrev pub line_options : ServeOptions → LineOptions
line_options o = record { g = o.ring; delay = o.delay; seed = o.seed; ticks = o.ticks; report = o.report; own = o.ssrc; sequence = o.sequence; stamp = o.stamp; elastic = o.elastic }

-- ---- the status

abbrev pub player_fault : PlayerEnd → Option Status
player_fault player.Ended = None
player_fault player.SpeakerFault = Some WriteFault
player_fault player.JournalFault = Some WriteFault
player_fault player.MicFault = Some ReadFault
player_fault player.ReplyFault = Some LinkFault

abbrev pub filer_fault : FilerEnd → Option Status
filer_fault filer.Ended = None
filer_fault filer.LinkFault = Some LinkFault
filer_fault filer.JournalFault = Some WriteFault

abbrev pub or_else : Option Status → Option Status → Option Status
or_else (Some s) later = Some s
or_else None later = later

-- that of the lowest filer that has not ended well
abbrev pub lowest_fault : List (FilerEnd × Tally) → Option Status
lowest_fault [] = None
lowest_fault (f ∷ fs) = or_else (filer_fault f.0) (lowest_fault fs)

-- the player's fault, else that of the lowest filer
abbrev pub fault_of_ends : PlayerEnd → List (FilerEnd × Tally) → Option Status
fault_of_ends end filers = or_else (player_fault end) (lowest_fault filers)

-- The status follows from the ends; where all callers ended well it tells whether the notes were given.
abbrev pub StatusFollows : Option Status → Status → Type 0 → Type 0
StatusFollows (Some s) status noted = status ≡ s
StatusFollows None status noted = ((status ≡ Done) × noted) ⊎ (status ≡ WriteFault)

-- ---- the notes

-- a line for each filer, by its number
abbrev pub link_lines : ℕ → List (FilerEnd × Tally) → List ℕ
link_lines k [] = []
link_lines k (f ∷ fs) = tally_line (counted (codes "link ") k) f.1 ++ link_lines (k + 1) fs

-- what the player's beats resulted in, and then the filers' datagrams
abbrev pub serve_lines : PlayTally → List (FilerEnd × Tally) → List ℕ
serve_lines played filers = play_lines played ++ link_lines 0 filers

-- What the loop over a script's events does.
use Rattle.std.specs.Prelude.{ℕ, ◌+◌, ◌≡◌, ◌≤◌, ◌^◌, ◌⊎◌, List, [], ◌∷◌, ◌++◌, length, take, Option, Some, Ok, Err, Result, IfSome}
use Rattle.std.specs.List.{flat_map, AllByRecursion}
use Rattle.std.specs.Io.KnownBytes.{Appends, Consumes}
use Rattle.gate_io.specs.Flow.{AppendsPart, ConsumesFewer}
use Rattle.playout.specs.Machine.{opening_machine}
use Rattle.playout.specs.History.{IsLegal, calls, calls_of}
use Rattle.recorder.specs.declared.events.ScriptEvent.{ScriptEvent}
use Rattle.recorder.specs.Heads.{Heading, IsHeading}
use Rattle.recorder.specs.Reader.{Progress, headed}
use Rattle.recorder.specs.Files.{event_limit, end_mark}
use Rattle.recorder.specs.Script.{EventFits, event_text, longest_event}
use Rattle.recorder.specs.Play.{call_text}
use Rattle.recorder.specs.Tallies.{call_items, call_replies, no_plays, no_tally, play_tally}
use Rattle.script_runs.specs.Applies.{callers_of}
use Rattle.script_runs.specs.Calls.{AreTurns, Callers, Turn, ends_of, history_of, opening_callers}
use Rattle.script_runs.specs.Counts.{run_tally}
use Rattle.script_runs.specs.TurnLines.{run_lines, turn_lines}
use Rattle.script_runs.specs.Playing.{GoesOn}
use Rattle.script_runs.specs.Simulate.{IsRun, fault_after}
use Rattle.script_runs.specs.declared.playback.Playback.{Playback}
use Rattle.script_runs.specs.declared.run.Run.{Run}
use Rattle.gate_notes.specs.Exchange.{Exchange}
use Rattle.gate_notes.specs.declared.status.Status.{Status}
use Rattle.gate_notes.specs.declared.status.Status.TheVariants as status
use Rattle.gate_notes.specs.declared.stop.Stop.{Stop}
use Rattle.gate_notes.specs.declared.stop.Stop.TheVariants.{Refused, ReadFault, WriteFault}

-- a run before its first event
pub record IsOpened (h : Heading) (run : Run) : Type 0 where
  pub line : run.line ≡ record { filers = h.filers; g = h.g; machine = opening_machine }
  pub callers : callers_of run ≡ opening_callers h
  pub played : run.played ≡ no_plays
  pub filed : run.filed ≡ no_tally

-- a reader and a run after the head
pub record IsStarted (h : Heading) (reader : Progress) (run : Run) : Type 0 where
  pub heading : IsHeading h
  pub read : reader ≡ headed (Ok h)
  pub opened : IsOpened h run

-- what stands after the events, by how the loop ended
abbrev pub Follows : Result Run Stop → Heading → List ScriptEvent → List ℕ → Type 0
Follows (Ok run) h events rest = (more : List ℕ) × (rest ≡ end_mark ∷ more)
Follows (Err (Refused f)) h events rest = fault_after h events rest ≡ Some f
Follows (Err ReadFault) h events rest = Unit {0}
Follows (Err WriteFault) h events rest = Unit {0}

-- what an object has of its text: all of it, and where a give failed a prefix
abbrev pub Has : Result Run Stop → Option (List ℕ) → Option (List ℕ) → List ℕ → Type 0
Has (Ok run) before now text = Appends before now text
Has (Err (Refused f)) before now text = Appends before now text
Has (Err ReadFault) before now text = Appends before now text
Has (Err WriteFault) before now text = AppendsPart before now text

-- at the end mark the run has counted the turns
abbrev pub HasCounted : Result Run Stop → Heading → List Turn → Type 0
HasCounted (Ok run) h turns =
    (run.played ≡ play_tally (calls_of h.filers (history_of turns))) × (run.filed ≡ run_tally (ends_of turns) (flat_map call_replies (calls (history_of turns))))
HasCounted (Err stop) h turns = Unit {0}

-- a playback has gone on by the player's calls in these turns, which gave this text
abbrev pub Plays : Heading → List Turn → Playback → Playback → List ℕ → Type 0
Plays h turns before after text = GoesOn (flat_map call_text (calls_of h.filers (history_of turns))) (flat_map call_items (calls_of h.filers (history_of turns))) before after text

-- the events were read and resulted in these turns, and what they give was given
pub record Ran (h : Heading) (playback playback_now : Playback) (input before now notes notes_now : Option (List ℕ)) (result : Result Run Stop) (events : List ScriptEvent) (turns : List Turn) : Type 0 where
  pub fit : AllByRecursion (EventFits h) events
  pub few : length events ≤ event_limit
  pub last : Callers
  pub are_turns : AreTurns h.filers (opening_callers h) events turns last
  pub legal : IsLegal (2 ^ h.g) opening_machine (history_of turns)
  pub text : IfSome input (λ octets. (rest : List ℕ) × (octets ≡ flat_map event_text events ++ rest) × Follows result h events rest)
  pub played : List ℕ
  pub goes_on : Plays h turns playback playback_now played
  pub given : Has result before now played
  pub noted : Has result notes notes_now (run_lines turns)
  pub counted : HasCounted result h turns

-- the same of some events, over these objects
abbrev pub HasRun : Heading → Playback → Playback → Exchange → Result Run Stop → Type 0
HasRun h playback playback_now x result = (events : List ScriptEvent) × (turns : List Turn) × Ran h playback playback_now x.input x.output x.output_now x.notes x.notes_now result events turns

-- A give failed in an event's turn. The events were read up to that one: what the turns before it give was given, and a prefix of what its own turn gives.
pub record Breaks (h : Heading) (playback playback_now : Playback) (input left before now notes notes_now : Option (List ℕ)) : Type 0 where
  pub events : List ScriptEvent
  pub turns : List Turn
  pub last : ScriptEvent
  pub turn : Turn
  pub run : IsRun h (events ++ last ∷ []) (turns ++ turn ∷ [])
  pub taken : Consumes input left (flat_map event_text (events ++ last ∷ []))
  pub middle : Playback
  pub played : List ℕ
  pub more : List ℕ
  pub goes : Plays h turns playback middle played
  pub goes_on : Plays h (turns ++ turn ∷ []) playback playback_now (played ++ more)
  pub given : (k : ℕ) × Appends before now (played ++ take k more)
  pub noted : (k : ℕ) × Appends notes notes_now (run_lines turns ++ take k (turn_lines turn))

-- The reading stopped after these events: what their turns give was given, and no more than an event's octets were taken after them.
pub record Halts (h : Heading) (playback playback_now : Playback) (input left before now notes notes_now : Option (List ℕ)) : Type 0 where
  pub events : List ScriptEvent
  pub turns : List Turn
  pub run : IsRun h events turns
  pub taken : (mid : Option (List ℕ)) × Consumes input mid (flat_map event_text events) × ConsumesFewer (longest_event + 1) mid left
  pub played : List ℕ
  pub goes : Plays h turns playback playback_now played
  pub given : Appends before now played
  pub noted : Appends notes notes_now (run_lines turns)

-- where the loop stopped, and what was read and given by then
abbrev pub StopsAt : Result Run Stop → Heading → Playback → Playback → Option (List ℕ) → Option (List ℕ) → Option (List ℕ) → Option (List ℕ) → Option (List ℕ) → Option (List ℕ) → Type 0
StopsAt (Ok run) h playback playback_now input left before now notes notes_now = Unit {0}
StopsAt (Err (Refused f)) h playback playback_now input left before now notes notes_now = Halts h playback playback_now input left before now notes notes_now
StopsAt (Err ReadFault) h playback playback_now input left before now notes notes_now = Halts h playback playback_now input left before now notes notes_now
StopsAt (Err WriteFault) h playback playback_now input left before now notes notes_now = Breaks h playback playback_now input left before now notes notes_now

-- the output's end and then the summary were given, or a prefix of the one whose give failed
abbrev pub Finishes : Status → Option (List ℕ) → Option (List ℕ) → Option (List ℕ) → Option (List ℕ) → List ℕ → List ℕ → Type 0
Finishes status.Done before now notes notes_now last text = Appends before now last × Appends notes notes_now text
Finishes status.WriteFault before now notes notes_now last text =
    (AppendsPart before now last × (notes_now ≡ notes)) ⊎ (Appends before now last × AppendsPart notes notes_now text)
Finishes status.Illegal before now notes notes_now last text = ⊥
Finishes status.Usage before now notes notes_now last text = ⊥
Finishes status.Input before now notes notes_now last text = ⊥
Finishes status.ReadFault before now notes notes_now last text = ⊥
Finishes status.LinkFault before now notes notes_now last text = ⊥
Finishes status.OutOfMemory before now notes notes_now last text = ⊥

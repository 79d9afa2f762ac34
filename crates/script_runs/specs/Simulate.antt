-- What `simulate` does: the events of a script, run over the playout machine in the script's own order.
use Rattle.std.specs.Prelude.{ℕ, ◌+◌, ◌≡◌, ◌≤◌, ◌^◌, ◌⊎◌, List, [], ◌∷◌, ◌++◌, length, take, Option, Some, IfSome}
use Rattle.std.specs.List.{AllByRecursion}
use Rattle.std.specs.Io.KnownBytes.{Appends, Consumes, Keeps}
use Rattle.gate_io.specs.Flow.{ConsumesFewer}
use Rattle.playout.specs.Machine.{opening_machine}
use Rattle.playout.specs.History.{IsLegal, calls_of}
use Rattle.recorder.specs.declared.fault.RecordFault.{RecordFault}
use Rattle.recorder.specs.declared.events.ScriptEvent.{ScriptEvent}
use Rattle.recorder.specs.Heads.{Heading, IsHeading, head_fault, script_magic}
use Rattle.recorder.specs.Files.{event_limit, end_mark}
use Rattle.recorder.specs.Script.{EventFits, IsScript, script_text, fault_at, longest_event}
use Rattle.script_runs.specs.Calls.{AreTurns, Callers, Turn, history_of, opening_callers}
use Rattle.gate_notes.specs.Exchange.{Exchange, Gave, GavePart, Noted, NotedPart, NotedUnlessFault}
use Rattle.gate_notes.specs.Notes.{fault_line}
use Rattle.script_runs.specs.TurnLines.{run_lines, summary, turn_lines}
use Rattle.script_runs.specs.Playing.{IsPlayed, ending}
use Rattle.gate_notes.specs.declared.status.Status.{Status}
use Rattle.gate_notes.specs.declared.status.Status.TheVariants.{Done, Illegal, Usage, Input, ReadFault, WriteFault, LinkFault, OutOfMemory}

-- a head, events in their ranges, and what they result in with the machine's replies, in the events' order
pub record IsRun (h : Heading) (events : List ScriptEvent) (turns : List Turn) : Type 0 where
  pub head : IsHeading h
  pub fit : AllByRecursion (EventFits h) events
  pub few : length events ≤ event_limit
  pub last : Callers
  pub turns_are : AreTurns h.filers (opening_callers h) events turns last
  pub legal : IsLegal (2 ^ h.g) opening_machine (history_of turns)

-- the octets begin with this head and these events, and go on with octets of which P holds
abbrev pub Begins : Heading → List ScriptEvent → (List ℕ → Type 0) → List ℕ → Type 0
Begins h events P octets = (rest : List ℕ) × (octets ≡ script_text h events ++ rest) × P rest

-- the fault of what follows these events
abbrev pub fault_after : Heading → List ScriptEvent → List ℕ → Option RecordFault
fault_after h events rest = fault_at h (length events) (length (script_text h events)) rest

-- the text is what the output has of the player's calls in these turns, but for its end
abbrev pub IsPlayedOf : Option (List ℕ) → Heading → List Turn → List ℕ → Type 0
IsPlayedOf voice h turns text = IsPlayed voice h (calls_of h.filers (history_of turns)) text

-- the input is a whole script; the output has what is played of it, and the notes its lines and its summary
abbrev pub Simulated : Option (List ℕ) → Exchange → Type 0
Simulated voice x = (h : Heading) × (events : List ScriptEvent) × (turns : List Turn) × (text : List ℕ) × IsRun h events turns × IsPlayedOf voice h turns text
    × IfSome x.input (Begins h events (λ rest. (more : List ℕ) × (rest ≡ end_mark ∷ more)))
    × Gave x (text ++ ending voice)
    × Noted x (run_lines turns ++ summary h.filers turns)

-- the input has this first fault: in its head, where nothing is given, or after some events, of which all is given
abbrev pub Refused : Option (List ℕ) → Exchange → Type 0
Refused voice x = (f : RecordFault) × (
    (IfSome x.input (λ octets. head_fault script_magic (take 12 octets) ≡ Some f) × Keeps x.output x.output_now × NotedUnlessFault x (fault_line 0 f))
    ⊎ ((h : Heading) × (events : List ScriptEvent) × (turns : List Turn) × (text : List ℕ) × IsRun h events turns × IsPlayedOf voice h turns text
    × IfSome x.input (Begins h events (λ rest. fault_after h events rest ≡ Some f))
    × Gave x text
    × NotedUnlessFault x (run_lines turns ++ fault_line 0 f)))

-- a read failed: in the head, or after some events, of which all is given
abbrev pub Stopped : Option (List ℕ) → Exchange → Type 0
Stopped voice x =
    (Keeps x.output x.output_now × Keeps x.notes x.notes_now)
    ⊎ ((h : Heading) × (events : List ScriptEvent) × (turns : List Turn) × (text : List ℕ) × IsRun h events turns × IsPlayedOf voice h turns text
    × IfSome x.input (Begins h events (λ rest. Unit {0}))
    × Gave x text
    × Noted x (run_lines turns))

-- after the end mark one of the last gives failed: that of the output's end, before the summary; or that of the summary
abbrev pub BrokenAtEnd : Option (List ℕ) → Heading → List Turn → List ℕ → Exchange → Type 0
BrokenAtEnd voice h turns text x =
    (GavePart x (text ++ ending voice) × Noted x (run_lines turns))
    ⊎ (Gave x (text ++ ending voice) × NotedPart x (run_lines turns ++ summary h.filers turns))

-- A give failed: one of the head or of an event, where the output and the notes have a prefix of what the events give; or one after the end
-- mark.
abbrev pub Broken : Option (List ℕ) → Exchange → Type 0
Broken voice x = (h : Heading) × (events : List ScriptEvent) × (turns : List Turn) × (text : List ℕ) × IsRun h events turns × IsPlayedOf voice h turns text
    × ((IfSome x.input (Begins h events (λ rest. Unit {0})) × GavePart x text × NotedPart x (run_lines turns))
    ⊎ (IfSome x.input (Begins h events (λ rest. (more : List ℕ) × (rest ≡ end_mark ∷ more))) × BrokenAtEnd voice h turns text x))

-- What each status says. The output is a journal, or PCM where there is the seed of a voice.
abbrev pub Ends : Option (List ℕ) → Status → Exchange → Type 0
Ends voice Done x = Simulated voice x
Ends voice Input x = Refused voice x
Ends voice ReadFault x = Stopped voice x
Ends voice WriteFault x = Broken voice x
Ends voice OutOfMemory x = Keeps x.output x.output_now × Keeps x.notes x.notes_now
Ends voice Usage x = ⊥
Ends voice Illegal x = ⊥
Ends voice LinkFault x = ⊥

-- where the input is a script and none of the objects failed, the command reaches its end, or runs out of memory
abbrev pub Completes : Status → Option (List ℕ) → Type 0 → Type 0
Completes status input failed = (octets : List ℕ) (h : Heading) (events : List ScriptEvent) → input ≡ Some octets → IsScript octets h events → ¬ failed → (status ≡ Done) ⊎ (status ≡ OutOfMemory)

-- ---- where a run stopped, by what is left of the input then

-- The give of what stands before all events failed. The head was read, and a prefix of that was given.
pub record BreaksAtFront (voice : Option (List ℕ)) (x : Exchange) (left : Option (List ℕ)) : Type 0 where
  pub head : Heading
  pub is_head : IsHeading head
  pub taken : Consumes x.input left (script_text head [])
  pub text : List ℕ
  pub played : IsPlayedOf voice head [] text
  pub gave : GavePart x text
  pub noted : Noted x []

-- A give failed in an event's turn. The script was read up to that event: what the turns before it give was given, and a prefix of what its own turn gives.
pub record BreaksOff (voice : Option (List ℕ)) (x : Exchange) (left : Option (List ℕ)) : Type 0 where
  pub head : Heading
  pub events : List ScriptEvent
  pub turns : List Turn
  pub last : ScriptEvent
  pub turn : Turn
  pub run : IsRun head (events ++ last ∷ []) (turns ++ turn ∷ [])
  pub taken : Consumes x.input left (script_text head (events ++ last ∷ []))
  pub text : List ℕ
  pub more : List ℕ
  pub played : IsPlayedOf voice head turns text
  pub plays : IsPlayedOf voice head (turns ++ turn ∷ []) (text ++ more)
  pub gave : (k : ℕ) × Appends x.output x.output_now (text ++ take k more)
  pub noted : (k : ℕ) × Appends x.notes x.notes_now (run_lines turns ++ take k (turn_lines turn))

-- The reading stopped after these events, and no more than an event's octets were taken after them. What their turns give was given; the notes have the line of
-- the fault after it, or a prefix of that, where there is one.
pub record StopsShort (voice : Option (List ℕ)) (x : Exchange) (left : Option (List ℕ)) : Type 0 where
  pub head : Heading
  pub events : List ScriptEvent
  pub turns : List Turn
  pub run : IsRun head events turns
  pub taken : (mid : Option (List ℕ)) × Consumes x.input mid (script_text head events) × ConsumesFewer (longest_event + 1) mid left
  pub text : List ℕ
  pub played : IsPlayedOf voice head turns text
  pub gave : Gave x text
  pub noted : (line : List ℕ) × Noted x (run_lines turns ++ line)

-- the input is a whole script, and a give after its end mark failed
pub record BreaksBehind (voice : Option (List ℕ)) (x : Exchange) : Type 0 where
  pub head : Heading
  pub events : List ScriptEvent
  pub turns : List Turn
  pub run : IsRun head events turns
  pub whole : IfSome x.input (Begins head events (λ rest. (more : List ℕ) × (rest ≡ end_mark ∷ more)))
  pub text : List ℕ
  pub played : IsPlayedOf voice head turns text
  pub broken : BrokenAtEnd voice head turns text x

-- nothing was given, and no more than a head's octets were taken; or the reading stopped after some events
abbrev pub StopsReading : Option (List ℕ) → Exchange → Option (List ℕ) → Type 0
StopsReading voice x left = (Keeps x.output x.output_now × ConsumesFewer 13 x.input left) ⊎ StopsShort voice x left

-- Where the script has a fault or a read failed, what all events that were read give was given; where a give failed, what all but the last give, and a prefix
-- of what that one gives.
abbrev pub Stops : Option (List ℕ) → Status → Exchange → Option (List ℕ) → Type 0
Stops voice Done x left = Unit {0}
Stops voice Input x left = StopsReading voice x left
Stops voice ReadFault x left = StopsReading voice x left
Stops voice WriteFault x left = BreaksAtFront voice x left ⊎ BreaksOff voice x left ⊎ BreaksBehind voice x
Stops voice OutOfMemory x left = Unit {0}
Stops voice Usage x left = Unit {0}
Stops voice Illegal x left = Unit {0}
Stops voice LinkFault x left = Unit {0}

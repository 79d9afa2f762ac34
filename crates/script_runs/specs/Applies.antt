-- What one event of a script does to its run.
use Rattle.std.specs.Prelude.{ℕ, ◌≡◌, ◌≤◌, ◌+◌, ◌^◌, Bool, List, [], ◌++◌, length, Option, Result, IfOk}
use Rattle.std.specs.List.{flat_map}
use Rattle.gate_io.specs.Flow.{Gives}
use Rattle.playout.specs.declared.call.Call.{Call}
use Rattle.playout.specs.declared.reply.FileReply.{FileReply}
use Rattle.playout.specs.History.{IsLegal, after_all, calls, calls_of}
use Rattle.recorder.specs.declared.events.ScriptEvent.{ScriptEvent}
use Rattle.recorder.specs.Play.{call_text}
use Rattle.recorder.specs.Tallies.{call_items, call_replies, play_tally}
use Rattle.script_runs.specs.Calls.{Callers, Ended, IsBeat, IsTurn, Turn}
use Rattle.script_runs.specs.Counts.{run_tally}
use Rattle.script_runs.specs.Playing.{GoesOn}
use Rattle.script_runs.specs.TurnLines.{turn_lines}
use Rattle.script_runs.specs.declared.playback.Playback.{Playback}
use Rattle.script_runs.specs.declared.run.Run.{Run}
use Rattle.gate_notes.specs.Exchange.{Giving}

-- what the callers of a run know
abbrev pub callers_of : Run → Callers
callers_of run = record { filers = run.filers.items; opened = run.opened }

-- The run made a turn of this kind, with the machine's replies. Its counts go on by it.
pub record Makes (IsKind : Callers → Turn → Callers → Type 0) (old new : Run) (turn : Turn) : Type 0 where
  pub is_turn : IsKind (callers_of old) turn (callers_of new)
  pub legal : IsLegal (2 ^ old.line.g) old.line.machine turn.calls
  pub line : new.line ≡ record old.line { machine = after_all old.line.machine turn.calls }
  pub filers : length new.filers.items ≡ length old.filers.items
  pub slow : new.line.machine.position ≤ old.line.machine.position + 1
  pub played : (before : List Call) → old.played ≡ play_tally before → new.played ≡ play_tally (before ++ calls_of old.line.filers turn.calls)
  pub filed : (ends : List Ended) (replies : List FileReply) → old.filed ≡ run_tally ends replies → new.filed ≡ run_tally (ends ++ turn.ends) (replies ++ flat_map call_replies (calls turn.calls))

-- it made the event's turn
abbrev pub Applies : ScriptEvent → Run → Run → Turn → Type 0
Applies e old new turn = Makes (IsTurn old.line.filers e) old new turn

-- it made the player's beat, where a base was seen or a tick made before, or not
abbrev pub Plays : Bool → Run → Run → Turn → Type 0
Plays opened old new turn = Makes (IsBeat opened old.line.filers) old new turn

-- ---- what is given of a turn: all of it, or a prefix where a give failed

-- a playback has gone on by the player's calls of the turn, on a line of this many filers, which gave this text
abbrev pub PlaysTurn : ℕ → Turn → Playback → Playback → List ℕ → Type 0
PlaysTurn filers turn before after text = GoesOn (flat_map call_text (calls_of filers turn.calls)) (flat_map call_items (calls_of filers turn.calls)) before after text

-- the run made the event's turn; the output got what the playback has of it, and the notes its lines
abbrev pub HasApplied : {E : Type 0} → ScriptEvent → Run → Result Run E → Playback → Playback → Giving → Type 0
HasApplied e old result playback playback_now x =
    (new : Run) × (turn : Turn) × (text : List ℕ) × Applies e old new turn × IfOk result (λ run. run ≡ new)
    × PlaysTurn old.line.filers turn playback playback_now text
    × Gives x.output x.output_now result text
    × Gives x.notes x.notes_now result (turn_lines turn)

-- the run made the player's beat, of which there are no lines; the output got what the playback has of it
abbrev pub HasPlayed : {E : Type 0} → Bool → Run → Result Run E → Playback → Playback → Option (List ℕ) → Option (List ℕ) → Type 0
HasPlayed opened old result playback playback_now before now =
    (new : Run) × (turn : Turn) × (text : List ℕ) × Plays opened old new turn × IfOk result (λ run. run ≡ new)
    × PlaysTurn old.line.filers turn playback playback_now text
    × Gives before now result text
    × (turn_lines turn ≡ [])

-- the run made the event's turn, which has no call of the player; the notes got its lines
abbrev pub HasFiled : {E : Type 0} → ScriptEvent → Run → Result Run E → Option (List ℕ) → Option (List ℕ) → Type 0
HasFiled e old result before now =
    (new : Run) × (turn : Turn) × Applies e old new turn × IfOk result (λ run. run ≡ new)
    × (calls_of old.line.filers turn.calls ≡ [])
    × Gives before now result (turn_lines turn)

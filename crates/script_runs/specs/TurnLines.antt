-- The lines of the notes on the events of a script, and the summary of its run.
use Rattle.std.specs.Prelude.{ℕ, List, [], ◌++◌, codes}
use Rattle.std.specs.List.{flat_map}
use Rattle.playout.specs.declared.call.Call.{Call}
use Rattle.playout.specs.declared.call.Call.TheVariants.{FileCall}
use Rattle.playout.specs.History.{Entry, calls_of, calls}
use Rattle.recorder.specs.Tallies.{call_replies, play_tally}
use Rattle.gate_notes.specs.Notes.{own_line, play_lines, reply_line, tally_line}
use Rattle.script_runs.specs.Calls.{Ended, Turn, ends_of, history_of}
use Rattle.script_runs.specs.Counts.{run_tally}

-- the line of a caller's call: only that of a filed frame may have one
abbrev pub line_of_call : ℕ → Call → List ℕ
line_of_call who (FileCall n f reply) = reply_line who n reply
line_of_call who _ = []

abbrev pub entry_line : Entry → List ℕ
entry_line e = line_of_call e.who e.call

-- the lines of a history, in its order
abbrev pub history_lines : List Entry → List ℕ
history_lines history = flat_map entry_line history

abbrev pub end_line : Ended → List ℕ
end_line e = own_line e.who e.end

-- the lines of an event: of its datagram, and of its calls
abbrev pub turn_lines : Turn → List ℕ
turn_lines t = flat_map end_line t.ends ++ history_lines t.calls

-- the lines of the events, in their order
abbrev pub run_lines : List Turn → List ℕ
run_lines turns = flat_map turn_lines turns

-- the summary of a run: the player's calls, and all datagrams and replies
abbrev pub summary : ℕ → List Turn → List ℕ
summary filers turns =
    play_lines (play_tally (calls_of filers (history_of turns))) ++ tally_line (codes "all") (run_tally (ends_of turns) (flat_map call_replies (calls (history_of turns))))

-- What the events of a script result in: the calls that they make, and the ends of their datagrams.
use Rattle.std.specs.Prelude.{ℕ, ◌≡◌, ◌-◌, ◌<◌, ◌^◌, List, [], ◌∷◌, map, replicate, slice_get, slice_set, Bool, true, false, Some}
use Rattle.std.specs.List.{flat_map}
use Rattle.frame_codec.specs.declared.item.Item.{Item}
use Rattle.playout.specs.declared.reply.FileReply.{FileReply}
use Rattle.playout.specs.declared.call.Call.{Call}
use Rattle.playout.specs.declared.call.Call.TheVariants.{FileCall, TickCall}
use Rattle.playout.specs.Line.{FilerSteps, Line}
use Rattle.playout.specs.History.{Chained, Entry, entry}
use Rattle.recorder.specs.declared.events.ScriptEvent.{ScriptEvent}
use Rattle.recorder.specs.declared.events.ScriptEvent.TheVariants.{Tick, File, Datagram, Beat}
use Rattle.recorder.specs.Heads.{Heading}
use Rattle.filer.specs.declared.outcome.Outcome.{Outcome}
use Rattle.filer.specs.declared.outcome.OutcomeEnd.{OutcomeEnd}
use Rattle.filer.specs.Takes as takes
use Rattle.player.specs.Beats.{opened_after}
use Rattle.player.specs.Beats as beats

-- what the callers know: each filer, by its caller number, and whether the player has seen a base or made a tick
pub record Callers : Type 0 where
  pub filers : List takes.Known
  pub opened : Bool

-- how the datagram of a filer ended
pub record Ended : Type 0 where
  pub who : ℕ
  pub end : OutcomeEnd

-- what one event resulted in: its calls with their replies, and the end of its datagram where it is one
pub record Turn : Type 0 where
  pub calls : List Entry
  pub ends : List Ended

-- a new filer of a script: its own source, and after how many packets a report is due, decide nothing, for no report is sent
abbrev pub new_filer : ℕ → takes.Known
new_filer delay = takes.new_filer delay 0 (2 ^ 32 - 1)

-- before any event
abbrev pub opening_callers : Heading → Callers
opening_callers h = record { filers = replicate h.filers (new_filer h.delay); opened = false }

-- calls of one caller, as entries of a history
abbrev pub made_by : ℕ → List Call → List Entry
made_by who calls = map (entry who) calls

-- calls that are no datagram's
abbrev pub bare : List Entry → Turn
bare calls = record { calls = calls; ends = [] }

-- the player's tick
abbrev pub IsTick : ℕ → Callers → Turn → Callers → Type 0
IsTick player before turn after = (item : Item) × (turn ≡ bare (entry player (TickCall item) ∷ [])) × (after ≡ record before { opened = true })

-- The player's beat, by its own rule, where a base was seen or a tick made before, or not. It holds no number.
abbrev pub IsBeat : Bool → ℕ → Callers → Turn → Callers → Type 0
IsBeat opened player before turn after =
    (calls : List Call) × beats.IsBeat 0 0 opened calls × (turn ≡ bare (made_by player calls)) × (after ≡ record before { opened = opened_after before.opened calls })

-- the filer of this caller took the datagram, with its calls over the side, and the other filers are as they were
abbrev pub IsTakenBy : ℕ → List ℕ → ℕ → Outcome → List takes.Known → List takes.Known → Line × ℕ → Line × ℕ → Type 0
IsTakenBy caller octets at outcome filers filers_now side side_now =
    (k : takes.Known) × (later : takes.Known) × (slice_get filers caller ≡ Some k) × (filers_now ≡ slice_set filers caller later)
    × takes.IsTaken k octets at outcome later × Chained FilerSteps side (takes.calls_of k octets at outcome) side_now

-- The datagram was taken by its caller's filer, as that filer's earlier datagrams left it. It makes that filer's calls.
pub record IsDatagram (caller at : ℕ) (octets : List ℕ) (before : Callers) (turn : Turn) (after : Callers) : Type 0 where
  pub outcome : Outcome
  pub known : takes.Known
  pub later : takes.Known
  pub is_known : slice_get before.filers caller ≡ Some known
  pub taken : takes.IsTaken known octets at outcome later
  pub made : turn ≡ record { calls = made_by caller (takes.calls_of known octets at outcome); ends = record { who = caller; end = outcome.end } ∷ [] }
  pub left : after ≡ record before { filers = slice_set before.filers caller later }

-- What an event results in, whatever is replied. The player's number is that of the filers. A File is its caller's bare call, and changes nothing that its filer knows.
abbrev pub IsTurn : ℕ → ScriptEvent → Callers → Turn → Callers → Type 0
IsTurn filers Tick before turn after = IsTick filers before turn after
IsTurn filers (File caller number frame) before turn after = (reply : FileReply) × (turn ≡ bare (entry caller (FileCall number frame reply) ∷ [])) × (after ≡ before)
IsTurn filers (Datagram caller at octets) before turn after = IsDatagram caller at octets before turn after
IsTurn filers Beat before turn after = IsBeat before.opened filers before turn after

-- what the events result in, in the events' order
abbrev pub AreTurns : ℕ → Callers → List ScriptEvent → List Turn → Callers → Type 0
AreTurns filers before [] [] after = after ≡ before
AreTurns filers before [] (t ∷ ts) after = ⊥
AreTurns filers before (e ∷ es) [] after = ⊥
AreTurns filers before (e ∷ es) (t ∷ ts) after = (mid : Callers) × IsTurn filers e before t mid × AreTurns filers mid es ts after

-- the calls of all turns, in their order
abbrev pub history_of : List Turn → List Entry
history_of turns = flat_map (λ (t : Turn). t.calls) turns

-- the ends of all datagrams, in their order
abbrev pub ends_of : List Turn → List Ended
ends_of turns = flat_map (λ (t : Turn). t.ends) turns

-- a line of this many filers can make the calls of the event
abbrev pub IsCallable : ℕ → ScriptEvent → Type 0
IsCallable filers Tick = Unit {0}
IsCallable filers (File caller number frame) = (caller < filers) × (number < 2 ^ 47)
IsCallable filers (Datagram caller at octets) = caller < filers
IsCallable filers Beat = Unit {0}

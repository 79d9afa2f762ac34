-- The objects of a line, and what the words of a line result in before they run.
use Rattle.std.specs.Prelude.{◌≡◌, ◌⊎◌, ℕ, ◌+◌, List, length, map, Option, Some, None, true, false}
use Rattle.std.specs.List.{AllByRecursion}
use Rattle.std.specs.String.{string_bytes}
use Rattle.std.specs.declared.string.String.{String}
use Rattle.std.specs.declared.vec.Vec.{Vec}
use Rattle.std.specs.Io.KnownBytes.{Keeps}
use Rattle.gate_os.specs.Edges.{FileState, SocketState, TicksState, lasting}
use Rattle.command_line.specs.Said.{Text}
use Rattle.command_line.specs.Lines.{Said, line_of}
use Rattle.command_line.specs.declared.line.Line.TheVariants as line
use Rattle.gate_notes.specs.Exchange.{GainedUnlessFault, Giving}
use Rattle.gate_notes.specs.Notes.{usage_line}
use Rattle.line_run.specs.Seen.{SinkKind}
use Rattle.gsmgate.specs.Commands.{noting}
use Rattle.gsmgate.specs.declared.gateway.Gateway.{Gateway}
use Rattle.gsmgate.specs.declared.gateway.Streams.{Streams}
use Rattle.gsmgate.specs.declared.places.Places.{Places}
use Rattle.gsmgate.specs.declared.starting.FilesOpen.{FilesOpen}
use Rattle.gsmgate.specs.declared.starting.ServeOpen.{ServeOpen}
use Rattle.gsmgate.specs.declared.starting.Started.{Started}
use Rattle.gsmgate.specs.declared.starting.Started.TheVariants.{Ended, Files, Serve}
use Rattle.gate_notes.specs.declared.status.Status.{Status}
use Rattle.gate_notes.specs.declared.status.Status.TheVariants.{Usage, OutOfMemory}

-- ---- sockets, and the clock

-- a socket that has neither failed nor ended, lasts so long, and sends to whom it hears
pub record IsFresh (life : ℕ) (s : SocketState) : Type 0 where
  pub target : s.has_target ≡ false
  pub free : s.is_fixed ≡ false
  pub lasts : s.life.lasts ≡ life
  pub ended : s.ended ≡ false
  pub faults : s.faults ≡ 0

-- this many such sockets
pub record AreFresh (life count : ℕ) (sockets : List SocketState) : Type 0 where
  pub many : length sockets ≡ count
  pub fresh : AllByRecursion (IsFresh life) sockets

-- one that has neither failed nor ended, lasts so long, and sends to whom it was given, whatever it hears
pub record IsReply (life : ℕ) (s : SocketState) : Type 0 where
  pub target : s.is_bound ≡ true → s.has_target ≡ true
  pub fixed : s.is_fixed ≡ true
  pub lasts : s.life.lasts ≡ life
  pub ended : s.ended ≡ false
  pub faults : s.faults ≡ 0

-- a socket whose life begins at a reading, and is else as it was
abbrev pub begun_at : Option ℕ → SocketState → SocketState
begun_at start s = record s { life = record s.life { begun = start } }

-- its life begins at a reading
abbrev pub Begins : Option ℕ → SocketState → Type 0
Begins start s = s.life.begun ≡ start

-- a clock that is to give this many ticks, and gave none
pub record IsUnheard (ticks : ℕ) (c : TicksState) : Type 0 where
  pub given : c.ticks ≡ 0
  pub left : c.left ≡ ticks
  pub ended : c.ended ≡ false

-- this many sockets that listen and one for return speech, whose lives begin with a clock of this many ticks
pub record IsLive {I O J : Type 0} (ticks count : ℕ) (g : Gateway SocketState I O J TicksState) : Type 0 where
  pub links : AreFresh (lasting ticks) count g.links.items
  pub reply : IsReply (lasting ticks) g.reply
  pub clock : IsUnheard ticks g.clock
  pub begun : AllByRecursion (Begins g.clock.begun) g.links.items
  pub answering : Begins g.clock.begun g.reply

-- ---- files

-- files of which none has failed, and this many journals
pub record AreUnused (journals : ℕ) (s : Streams FileState FileState FileState) : Type 0 where
  pub microphone : s.microphone.faults ≡ 0
  pub speaker : s.speaker.faults ≡ 0
  pub many : length s.journals.items ≡ journals

abbrev pub SystemGateway : Type 0
SystemGateway = Gateway SocketState FileState FileState FileState TicksState

-- a gateway of this many ticks over this many links and journals, none of whose objects has failed
pub record IsOpened (ticks links journals : ℕ) (g : SystemGateway) : Type 0 where
  pub live : IsLive ticks links g
  pub files : AreUnused journals (record { microphone = g.microphone; speaker = g.speaker; journals = g.journals })

-- ---- what the notes get

-- the notes are as they were
abbrev pub IsQuiet : Giving → Type 0
IsQuiet x = Keeps x.notes x.notes_now

-- the words are refused, and the notes say so
abbrev pub IsRefused : Status → Giving → Type 0
IsRefused status x = ((status ≡ Usage) × GainedUnlessFault x.notes x.notes_now x.noted x.noted_now usage_line) ⊎ ((status ≡ OutOfMemory) × IsQuiet x)

-- ---- what the words result in

abbrev pub SystemStarted : Type 0
SystemStarted = Started FileState FileState SystemGateway

-- a command over files of these words: this many inputs, and an output that has not failed
pub record AreOpen (words : List Text) (count : ℕ) (o : FilesOpen FileState FileState) : Type 0 where
  pub said : map string_bytes o.words.items ≡ words
  pub inputs : length o.inputs.items ≡ count
  pub output : o.output.faults ≡ 0

-- what the words name is open at these places
abbrev pub IsOpenedAt : List Text → Places → SystemStarted → Type 0
IsOpenedAt words p (Ended status) = ⊥
IsOpenedAt words p (Files o) = (p.serve ≡ false) × AreOpen words (length p.inputs.items) o
IsOpenedAt words p (Serve o) =
    (p.serve ≡ true) × (map string_bytes o.words.items ≡ words) × IsOpened p.ticks (length p.links.items) (length p.journals.items) o.gateway

-- Words that are no line are refused. Those of a command over files result in its files, and those of serve to its gateway, but for want
-- of memory.
abbrev pub Starts : List Text → Option Said → SystemStarted → Giving → Type 0
Starts words None (Ended status) x = IsRefused status x
Starts words None (Files o) x = ⊥
Starts words None (Serve o) x = ⊥
Starts words (Some (line.Files said)) (Ended status) x = (status ≡ OutOfMemory) × IsQuiet x
Starts words (Some (line.Files said)) (Files o) x = AreOpen words (length said.inputs) o × IsQuiet x
Starts words (Some (line.Files said)) (Serve o) x = ⊥
Starts words (Some (line.Serve said)) (Ended status) x = (status ≡ OutOfMemory) × IsQuiet x
Starts words (Some (line.Serve said)) (Files o) x = ⊥
Starts words (Some (line.Serve said)) (Serve o) x =
    (map string_bytes o.words.items ≡ words) × IsOpened said.options.ticks (length said.listen) (length said.listen + 1) o.gateway × IsQuiet x

-- so the words start, with the notes as they were and as they are now
abbrev pub StartsFrom : {E X Y : Type 0} → SinkKind E → Vec (String X) Y → SystemStarted → E → E → Type 0
StartsFrom of_e words started notes notes' =
    Starts (map string_bytes words.items) (line_of (map string_bytes words.items)) started (noting (of_e.given notes) (of_e.given notes') (of_e.faults notes) (of_e.faults notes'))

-- ---- what it results in when it runs

-- where the words have ended already, this holds of their status
abbrev pub IfEnded : {I O G : Type 0} → Started I O G → (Status → Type 0) → Type 0
IfEnded (Ended status) holds = holds status
IfEnded (Files o) holds = Unit {0}
IfEnded (Serve o) holds = Unit {0}

-- where they resulted in a command over files, they still do, and this holds of its files before and after
abbrev pub IfFiles : {I O G : Type 0} → Started I O G → Started I O G → (FilesOpen I O → FilesOpen I O → Type 0) → Type 0
IfFiles (Ended status) after holds = Unit {0}
IfFiles (Serve o) after holds = Unit {0}
IfFiles (Files o) (Ended status) holds = ⊥
IfFiles (Files o) (Serve p) holds = ⊥
IfFiles (Files o) (Files p) holds = holds o p

-- where they resulted in a gateway, they still do, and this holds of its objects before and after
abbrev pub IfServe : {I O G : Type 0} → Started I O G → Started I O G → (ServeOpen G → ServeOpen G → Type 0) → Type 0
IfServe (Ended status) after holds = Unit {0}
IfServe (Files o) after holds = Unit {0}
IfServe (Serve o) (Ended status) holds = ⊥
IfServe (Serve o) (Files p) holds = ⊥
IfServe (Serve o) (Serve p) holds = holds o p

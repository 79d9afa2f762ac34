-- What contracts see of the objects that a line is lent.
use Rattle.std.specs.Prelude.{ℕ, Bool, List, Option}
use Rattle.gate_io.specs.Links.{LinkLog}
use Rattle.gate_io.specs.declared.link.Link as of_link
use Rattle.gate_io.specs.declared.sink.Sink as of_sink
use Rattle.gate_io.specs.declared.source.Source as of_source
use Rattle.gate_io.specs.declared.tick_clock.TickClock as of_clock

-- of a link: what it tells, whether it has ended, and its count of faults
pub record LinkSeen : Type 0 where
  pub log : Option LinkLog
  pub ended : Bool
  pub faults : ℕ

-- of a sink: what it was given, where it tells that, and its count of faults
pub record SinkSeen : Type 0 where
  pub given : Option (List ℕ)
  pub faults : ℕ

-- of a source: what is left of it, where it tells that, and its count of faults
pub record SourceSeen : Type 0 where
  pub left : Option (List ℕ)
  pub faults : ℕ

-- of a clock: the ticks that it gave, and whether it has ended
pub record ClockSeen : Type 0 where
  pub ticks : ℕ
  pub ended : Bool

-- of the objects of the player but its journal
pub record PlayerSeen : Type 0 where
  pub clock : ClockSeen
  pub speaker : SinkSeen
  pub microphone : SourceSeen
  pub reply : LinkSeen

-- ---- what a kind of object tells of each object of its kind

abbrev pub LinkKind : Type 0 → Type 1
LinkKind P = of_link.Ghosts P

abbrev pub SinkKind : Type 0 → Type 1
SinkKind O = of_sink.Ghosts O

abbrev pub SourceKind : Type 0 → Type 1
SourceKind I = of_source.Ghosts I

abbrev pub ClockKind : Type 0 → Type 1
ClockKind C = of_clock.Ghosts C

-- ---- an object by its kind

abbrev pub link_seen : {P : Type 0} → LinkKind P → P → LinkSeen
link_seen kind p = record { log = kind.log p; ended = kind.ended p; faults = kind.faults p }

abbrev pub sink_seen : {J : Type 0} → SinkKind J → J → SinkSeen
sink_seen kind j = record { given = kind.given j; faults = kind.faults j }

abbrev pub source_seen : {I : Type 0} → SourceKind I → I → SourceSeen
source_seen kind i = record { left = kind.left i; faults = kind.faults i }

abbrev pub clock_seen : {C : Type 0} → ClockKind C → C → ClockSeen
clock_seen kind c = record { ticks = kind.ticks c; ended = kind.ended c }

abbrev pub player_seen : {C O I P : Type 0} → ClockKind C → SinkKind O → SourceKind I → LinkKind P → C → O → I → P → PlayerSeen
player_seen of_c of_o of_i of_p clock speaker microphone reply = record {
  clock = clock_seen of_c clock;
  speaker = sink_seen of_o speaker;
  microphone = source_seen of_i microphone;
  reply = link_seen of_p reply;
}

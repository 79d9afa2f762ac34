-- The objects that a line is lent, and what its run makes of them.
use Rattle.std.specs.Prelude.{◌≡◌, List, []}
use Rattle.std.specs.declared.vec.Vec.{Vec}
use Rattle.playout.specs.declared.call.Call.{Call}
use Rattle.step_table.specs.Packed.{Where}
use Rattle.recorder.specs.declared.tally.PlayTally.{PlayTally}
use Rattle.filer.specs.Takes.{Known}
use Rattle.filer.specs.Turns.{FilerRan, standing}
use Rattle.filer.specs.declared.run.FilerEnd.{FilerEnd}
use Rattle.player.specs.declared.run.PlayerEnd.{PlayerEnd}
use Rattle.player.specs.declared.run.PlayerEnd.TheVariants.{Ended}
use Rattle.line_run.specs.declared.caller.Caller.{Caller}
use Rattle.line_run.specs.declared.line_end.LineEnd.{LineEnd}
use Rattle.line_run.specs.declared.options.LineOptions.{LineOptions}
use Rattle.line_run.specs.declared.player_caller.PlayerCaller.{PlayerCaller}
use Rattle.line_run.specs.Callers.{AllRan, CallerRan, PassPlayed, PlayerRan}
use Rattle.line_run.specs.Ending.{AllEnded, NoneRose, PlayerNone}
use Rattle.line_run.specs.Fan.{Each}
use Rattle.line_run.specs.Filing.{Grows}
use Rattle.line_run.specs.Line.{LineRan}
use Rattle.line_run.specs.Opening.{LineSeen}
use Rattle.line_run.specs.Seen.{ClockKind, LinkKind, PlayerSeen, SinkKind, SourceKind, link_seen, player_seen, sink_seen}

-- ---- the objects of a line

-- the objects of a line at one moment
pub record LineObjects (P I O J C : Type 0) : Type 0 where
  pub links : List P
  pub reply : P
  pub microphone : I
  pub speaker : O
  pub journals : List J
  pub clock : C

abbrev pub objects : {P I O J C Y Z : Type 0} → Vec P Y → P → I → O → Vec J Z → C → LineObjects P I O J C
objects links reply microphone speaker journals clock = record {
  links = links.items;
  reply = reply;
  microphone = microphone;
  speaker = speaker;
  journals = journals.items;
  clock = clock;
}

-- those of its player but the journal
abbrev pub player_of : {P I O J C : Type 0} → LinkKind P → SourceKind I → SinkKind O → ClockKind C → LineObjects P I O J C → PlayerSeen
player_of of_p of_i of_o of_c a = player_seen of_c of_o of_i of_p a.clock a.speaker a.microphone a.reply

-- the line ran over these objects, which are those now, and reached this end
abbrev pub RanOver : {P I O J C : Type 0} → LinkKind P → SourceKind I → SinkKind O → SinkKind J → ClockKind C → LineSeen → LineObjects P I O J C → LineObjects P I O J C → LineEnd → Type 0
RanOver of_p of_i of_o of_j of_c l a b e = LineRan l (link_seen of_p) (sink_seen of_j) a.links a.journals b.links b.journals (player_of of_p of_i of_o of_c a) (player_of of_p of_i of_o of_c b) e.player e.played e.filers e.left

-- where the count of none of the objects rose, all callers resulted in their ends
abbrev pub EndsUnlessFault : {P I O J C : Type 0} → LinkKind P → SourceKind I → SinkKind O → SinkKind J → ClockKind C → LineObjects P I O J C → LineObjects P I O J C → LineEnd → Type 0
EndsUnlessFault of_p of_i of_o of_j of_c a b e =
    NoneRose of_p.faults a.links b.links → NoneRose of_j.faults a.journals b.journals → PlayerNone (player_of of_p of_i of_o of_c a) (player_of of_p of_i of_o of_c b)
    → (e.player ≡ Ended) × AllEnded e.filers

-- all callers ran over these objects, which are those now
abbrev pub AllRanOver : {P I O J C : Type 0} → LinkKind P → SourceKind I → SinkKind O → SinkKind J → ClockKind C → LineSeen → Where → List Caller → LineObjects P I O J C → List Caller → LineObjects P I O J C → PlayerCaller → Type 0
AllRanOver of_p of_i of_o of_j of_c l ring callers a callers' b player =
    AllRan l ring (link_seen of_p) (sink_seen of_j) of_j.kin callers a.links a.journals (player_of of_p of_i of_o of_c a) callers' b.links b.journals (player_of of_p of_i of_o of_c b) player

-- ---- the objects of a player

-- the objects of a player at one moment
pub record PlayerObjects (C O J I P : Type 0) : Type 0 where
  pub clock : C
  pub speaker : O
  pub journal : J
  pub microphone : I
  pub reply : P

abbrev pub ports_at : {C O J I P : Type 0} → C → O → J → I → P → PlayerObjects C O J I P
ports_at clock speaker journal microphone reply = record { clock = clock; speaker = speaker; journal = journal; microphone = microphone; reply = reply }

abbrev pub ports_seen : {C O J I P : Type 0} → ClockKind C → SinkKind O → SourceKind I → LinkKind P → PlayerObjects C O J I P → PlayerSeen
ports_seen of_c of_o of_i of_p a = player_seen of_c of_o of_i of_p a.clock a.speaker a.microphone a.reply

-- the player ran over these objects, which are those now
abbrev pub PlayerRanOver : {C O J I P : Type 0} → ClockKind C → SinkKind O → SinkKind J → SourceKind I → LinkKind P → LineSeen → Where → PlayerObjects C O J I P → PlayerObjects C O J I P → PlayerCaller → Type 0
PlayerRanOver of_c of_o of_j of_i of_p l ring a b player =
    PlayerRan l ring (ports_seen of_c of_o of_i of_p a) (sink_seen of_j a.journal) (ports_seen of_c of_o of_i of_p b) (sink_seen of_j b.journal) player

-- a player that had made no beat ran over these objects, which are those now, with these calls
abbrev pub PlayedOver : {C O J I P : Type 0} → ClockKind C → SinkKind O → SinkKind J → SourceKind I → LinkKind P → LineOptions → PlayerObjects C O J I P → PlayerObjects C O J I P → List Call → PlayerEnd → PlayTally → Type 0
PlayedOver of_c of_o of_j of_i of_p o a b calls end tally =
    PassPlayed o calls (ports_seen of_c of_o of_i of_p a) (sink_seen of_j a.journal) (ports_seen of_c of_o of_i of_p b) (sink_seen of_j b.journal) end tally

-- ---- the objects of filers

-- each of these filers ran over its link and its journal, which are those now
abbrev pub FilersRanOver : {P J : Type 0} → LinkKind P → SinkKind J → LineSeen → Where → List Caller → List P → List J → List Caller → List P → List J → Type 0
FilersRanOver of_p of_j l ring callers links journals callers' links' journals' =
    Each (CallerRan l ring (link_seen of_p) (sink_seen of_j) of_j.kin) callers links journals callers' links' journals'

-- a filer that had made no call ran over this link and this journal, which are those now, with these calls
abbrev pub FiledOver : {P J : Type 0} → LinkKind P → SinkKind J → Known → P → J → Known → P → J → List Call → FilerEnd → Type 0
FiledOver of_p of_j before link journal now link' journal' calls end =
    FilerRan Grows (of_j.faults journal) (of_j.faults journal') (standing before [] (of_p.log link) (of_j.given journal)) (standing now calls (of_p.log link') (of_j.given journal')) end

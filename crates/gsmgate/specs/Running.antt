-- What the gateway of a line results in when it runs.
use Rattle.std.specs.Prelude.{Option, Bool}
use Rattle.line_run.specs.Objects.{LineObjects, objects}
use Rattle.line_run.specs.Seen.{ClockKind, LinkKind, SinkKind, SourceKind}
use Rattle.line_run.specs.declared.line_end.LineEnd.{LineEnd}
use Rattle.gate_notes.specs.declared.status.Status.{Status}
use Rattle.serve_runs.specs.Running as serve
use Rattle.gsmgate.specs.declared.gateway.Gateway.{Gateway}
use Rattle.gsmgate.specs.declared.starting.ServeOpen.{ServeOpen}

-- whether the words are a line of serve for the links and journals that are open
abbrev pub gateway_fits : {P M S J C : Type 0} → ServeOpen (Gateway P M S J C) → Bool
gateway_fits o = serve.fits_over o.words o.gateway.links o.gateway.journals

-- the objects of the gateway
abbrev pub objects_of : {P M S J C : Type 0} → Gateway P M S J C → LineObjects P M S J C
objects_of g = objects g.links g.reply g.microphone g.speaker g.journals g.clock

-- the line of the words ran over the gateway, and reached this end, where it resulted in one
abbrev pub GatewayRan : {P M S J C : Type 0} → LinkKind P → SourceKind M → SinkKind S → SinkKind J → ClockKind C → ServeOpen (Gateway P M S J C) → ServeOpen (Gateway P M S J C) → Option LineEnd → Type 0
GatewayRan of_p of_m of_s of_j of_c o p end = serve.ServeRan of_p of_m of_s of_j of_c o.words (objects_of o.gateway) (objects_of p.gateway) end

-- the count of the speaker, of a journal or of the notes rose
abbrev pub SinkFailed : {P M S J C E : Type 0} → SinkKind S → SinkKind J → SinkKind E → ServeOpen (Gateway P M S J C) → ServeOpen (Gateway P M S J C) → E → E → Type 0
SinkFailed of_s of_j of_e o p notes notes' = serve.SomeSinkFailed of_s of_j of_e o.gateway.speaker p.gateway.speaker o.gateway.journals p.gateway.journals notes notes'

-- the count of a link or of the reply rose
abbrev pub LinkFailed : {P M S J C : Type 0} → LinkKind P → ServeOpen (Gateway P M S J C) → ServeOpen (Gateway P M S J C) → Type 0
LinkFailed of_p o p = serve.SomeLinkFailed of_p o.gateway.links p.gateway.links o.gateway.reply p.gateway.reply

-- where the words fit the gateway and no count rose, the line is done, unless memory is out
abbrev pub GatewayDone : {P M S J C E : Type 0} → LinkKind P → SourceKind M → SinkKind S → SinkKind J → SinkKind E → ServeOpen (Gateway P M S J C) → ServeOpen (Gateway P M S J C) → E → E → Status → Type 0
GatewayDone of_p of_m of_s of_j of_e o p notes notes' status = serve.DoneUnlessFault of_p of_m of_s of_j of_e o.words (objects_of o.gateway) (objects_of p.gateway) notes notes' status

-- What a filer journals of a datagram: the calls that said its source and its base, and then one event a frame, or the one other event.
use Rattle.std.specs.Prelude.{ℕ, suc, ◌^◌, ◌<◌, ◌≤◌, Bool, true, false, List, [], ◌∷◌, ◌++◌, length, Option, Some, None}
use Rattle.playout.specs.declared.reply.FileReply.{FileReply}
use Rattle.playout.specs.History.{ReplyFits}
use Rattle.recorder.specs.declared.events.Asked2.{Asked2}
use Rattle.recorder.specs.declared.events.FilerEvent.{FilerEvent}
use Rattle.recorder.specs.declared.events.FilerEvent.TheVariants as event
use Rattle.recorder.specs.Files.{end_mark}
use Rattle.recorder.specs.Filing.{filer_event_text, filer_head_text}
use Rattle.recorder.specs.Heads.{Heading}
use Rattle.rtp_codec.specs.declared.fault.RtpFault.{RtpFault}
use Rattle.rtp_codec.specs.declared.fault.RtpFault.TheVariants as rtp
use Rattle.rtp_codec.specs.Packets.{packet_of}
use Rattle.rtcp_stats.specs.declared.fault.RtcpFault.{RtcpFault}
use Rattle.rtcp_stats.specs.declared.fault.RtcpFault.TheVariants as rtcp
use Rattle.filer.specs.declared.outcome.Asked.{Asked}
use Rattle.filer.specs.declared.outcome.Outcome.{Outcome}
use Rattle.filer.specs.declared.outcome.OutcomeEnd.{OutcomeEnd}
use Rattle.filer.specs.declared.outcome.OutcomeEnd.TheVariants as end
use Rattle.filer.specs.Takes.{frames_of}

-- the code of a refusal, and what it tells: a payload type or the place of a frame
abbrev pub rtp_code : RtpFault → ℕ
rtp_code rtp.Oversize = 1
rtp_code rtp.Short = 2
rtp_code rtp.Version = 3
rtp_code rtp.CsrcShort = 4
rtp_code rtp.ExtensionShort = 5
rtp_code rtp.Padding = 6
rtp_code (rtp.OtherPayload kind) = 7
rtp_code rtp.Length = 8
rtp_code rtp.TooMany = 9
rtp_code (rtp.Signature place) = 10

abbrev pub rtp_detail : RtpFault → ℕ
rtp_detail rtp.Oversize = 0
rtp_detail rtp.Short = 0
rtp_detail rtp.Version = 0
rtp_detail rtp.CsrcShort = 0
rtp_detail rtp.ExtensionShort = 0
rtp_detail rtp.Padding = 0
rtp_detail (rtp.OtherPayload kind) = kind
rtp_detail rtp.Length = 0
rtp_detail rtp.TooMany = 0
rtp_detail (rtp.Signature place) = place

-- the same of a compound, which tells the place of a packet
abbrev pub rtcp_code : RtcpFault → ℕ
rtcp_code rtcp.Oversize = 17
rtcp_code (rtcp.Cut at) = 18
rtcp_code (rtcp.Version at) = 19
rtcp_code rtcp.First = 20
rtcp_code (rtcp.Padding at) = 21
rtcp_code (rtcp.Body at) = 22

abbrev pub rtcp_detail : RtcpFault → ℕ
rtcp_detail rtcp.Oversize = 0
rtcp_detail (rtcp.Cut at) = at
rtcp_detail (rtcp.Version at) = at
rtcp_detail rtcp.First = 0
rtcp_detail (rtcp.Padding at) = at
rtcp_detail (rtcp.Body at) = at

abbrev pub as_journaled : Asked → Asked2
as_journaled a = record { said = a.said; held = a.held }

abbrev pub source_events : Option Asked → List FilerEvent
source_events None = []
source_events (Some a) = event.Source (as_journaled a) ∷ []

abbrev pub base_events : Option Asked → List FilerEvent
base_events None = []
base_events (Some a) = event.Base (as_journaled a) ∷ []

-- the frames under rising numbers, each with its reply
abbrev pub file_events : ℕ → List (List ℕ) → List FileReply → List FilerEvent
file_events n [] replies = []
file_events n (f ∷ fs) [] = []
file_events n (f ∷ fs) (r ∷ rs) = event.File n f r ∷ file_events (suc n) fs rs

abbrev pub end_events : List (List ℕ) → OutcomeEnd → List FilerEvent
end_events frames end.Rtcp = event.Rtcp ∷ []
end_events frames (end.RtcpRefused f) = event.Refused (rtcp_code f) (rtcp_detail f) ∷ []
end_events frames (end.RtpRefused f) = event.Refused (rtp_code f) (rtp_detail f) ∷ []
end_events frames end.Empty = event.Empty ∷ []
end_events frames (end.Stranger ssrc held) = event.Stranger ssrc held ∷ []
end_events frames (end.Filed n replies) = file_events n frames replies

-- the events of a datagram with its outcome
abbrev pub events_of : List ℕ → Outcome → List FilerEvent
events_of d o = source_events o.source ++ (base_events o.base ++ end_events (frames_of (packet_of d).payload) o.end)

-- the events of datagrams, each with its moment, in their order
abbrev pub run_events : List (List ℕ × ℕ) → List Outcome → List FilerEvent
run_events [] os = []
run_events (d ∷ ds) [] = []
run_events (d ∷ ds) (o ∷ os) = events_of d.0 o ++ run_events ds os

-- the octets of events
abbrev pub text_of : List FilerEvent → List ℕ
text_of [] = []
text_of (e ∷ es) = filer_event_text e ++ text_of es

abbrev pub datagram_text : List ℕ → Outcome → List ℕ
datagram_text d o = text_of (events_of d o)

abbrev pub run_text : List (List ℕ × ℕ) → List Outcome → List ℕ
run_text ds os = text_of (run_events ds os)

-- the journal of a filer that has ended: the head with its caller's number, the events, and the end mark
abbrev pub file_text : Heading → ℕ → List (List ℕ × ℕ) → List Outcome → List ℕ
file_text head caller ds os = filer_head_text head caller ++ (run_text ds os ++ end_mark ∷ [])

-- what is known of each outcome: its numbers, and the places that it tells, are in their ranges
abbrev pub RepliesFit : ℕ → List FileReply → Type 0
RepliesFit n [] = Unit {0}
RepliesFit n (r ∷ rs) = ReplyFits n r × RepliesFit (suc n) rs

abbrev pub EndFits : OutcomeEnd → Type 0
EndFits end.Rtcp = Unit {0}
EndFits (end.RtcpRefused f) = rtcp_detail f < 2 ^ 16
EndFits (end.RtpRefused f) = Unit {0}
EndFits end.Empty = Unit {0}
EndFits (end.Stranger ssrc held) = Unit {0}
EndFits (end.Filed n replies) = (n < 2 ^ 34) × RepliesFit n replies × (1 ≤ length replies) × (length replies ≤ 10)

abbrev pub is_filed : OutcomeEnd → Bool
is_filed end.Rtcp = false
is_filed (end.RtcpRefused f) = false
is_filed (end.RtpRefused f) = false
is_filed end.Empty = false
is_filed (end.Stranger ssrc held) = false
is_filed (end.Filed n replies) = true

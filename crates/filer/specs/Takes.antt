-- What a filer makes of one datagram: its calls, its outcome and what it knows afterwards, given the replies.
use Rattle.std.specs.Prelude.{◌≡◌, ℕ, zero, suc, ◌+◌, ◌/◌, ◌==◌, ◌&&◌, ◌||◌, Bool, false, List, [], ◌∷◌, ◌++◌, length, slice_index, nat_le, fold, Option, Some, None, if◌then◌else◌}
use Rattle.playout.specs.declared.reply.FileReply.{FileReply}
use Rattle.playout.specs.declared.call.Call.{Call}
use Rattle.playout.specs.declared.call.Call.TheVariants.{FileCall, SourceCall, BaseCall}
use Rattle.recorder.specs.declared.tally.Tally.{Tally}
use Rattle.recorder.specs.Tallies.{capped, is_accepted, no_tally, reply_counted}
use Rattle.rtp_codec.specs.declared.fault.RtpFault.{RtpFault}
use Rattle.rtp_codec.specs.Grammar.{version, rtp_fault}
use Rattle.rtp_codec.specs.Packets.{Packet, packet_of, frame_at}
use Rattle.rtcp_stats.specs.declared.block.SenderInfo.{SenderInfo}
use Rattle.rtcp_stats.specs.declared.fault.RtcpFault.{RtcpFault}
use Rattle.rtcp_stats.specs.Compound.{rtcp_fault}
use Rattle.rtcp_stats.specs.Reports.{sender_of}
use Rattle.unwrap_ts.specs.FrameNumber.{Unwrap, fresh, extended, frame_number}
use Rattle.filer.specs.declared.outcome.Asked.{Asked}
use Rattle.filer.specs.declared.outcome.OutcomeEnd.{OutcomeEnd}
use Rattle.filer.specs.declared.outcome.OutcomeEnd.TheVariants as end
use Rattle.filer.specs.declared.outcome.Outcome.{Outcome}
use Rattle.filer.specs.Reporting.{Reports, begun, quiet, hears, with_packet}

-- what a filer knows: its delay and its own source, the held source, the held base with the reference, its statistics and its counts
pub record Known : Type 0 where
  pub delay : ℕ
  pub own : ℕ
  pub source : Option ℕ
  pub clock : Option Unwrap
  pub reports : Reports
  pub tally : Tally

abbrev pub new_filer : ℕ → ℕ → ℕ → Known
new_filer delay own report = record { delay = delay; own = own; source = None; clock = None; reports = begun report; tally = no_tally }

-- what is replied, where it is asked
pub record Replied : Type 0 where
  pub source : ℕ
  pub base : ℕ
  pub files : List FileReply

pub record Step : Type 0 where
  pub calls : List Call
  pub outcome : Outcome
  pub after : Known

-- version 2 and a type of RTCP
abbrev pub is_rtcp : List ℕ → Bool
is_rtcp d = nat_le 2 (length d) && (version d == 2 && (nat_le 200 (slice_index d 1) && nat_le (slice_index d 1) 204))

-- no call
abbrev pub bare : Known → OutcomeEnd → Step
bare k e = record { calls = []; outcome = record { source = None; base = None; end = e }; after = k }

abbrev pub is_source : Option ℕ → ℕ → Bool
is_source None ssrc = false
is_source (Some held) ssrc = held == ssrc

-- a sender report of the source that is known as held is kept
abbrev pub told_by : Known → Option SenderInfo → ℕ → Known
told_by k None at = k
told_by k (Some info) at = if is_source k.source info.ssrc then record k { reports = hears k.reports info.ntp at } else k

abbrev pub read_rtcp_so : Option RtcpFault → Known → List ℕ → ℕ → Step
read_rtcp_so (Some f) k d at = bare k (end.RtcpRefused f)
read_rtcp_so None k d at = bare (told_by k (sender_of d) at) end.Rtcp

-- what is not known is asked
abbrev pub asked : {X : Type 0} → Option X → ℕ → ℕ → Option Asked
asked None said reply = Some (record { said = said; held = reply })
asked (Some h) said reply = None

abbrev pub held_source : Option ℕ → ℕ → ℕ
held_source None reply = reply
held_source (Some h) reply = h

abbrev pub clock_now : Option Unwrap → ℕ → ℕ → Unwrap
clock_now None delay reply = fresh reply delay
clock_now (Some u) delay reply = u

abbrev pub source_calls : Option Asked → List Call
source_calls None = []
source_calls (Some a) = SourceCall a.said a.held ∷ []

abbrev pub base_calls : Option Asked → List Call
base_calls None = []
base_calls (Some a) = BaseCall a.said a.held ∷ []

-- n frames from place i on
abbrev pub frames_from : ℕ → ℕ → List ℕ → List (List ℕ)
frames_from i zero octets = []
frames_from i (suc n) octets = frame_at octets i ∷ frames_from (suc i) n octets

abbrev pub frames_of : List ℕ → List (List ℕ)
frames_of octets = frames_from 0 (length octets / 33) octets

-- the frames are filed under rising numbers
abbrev pub file_calls : ℕ → List (List ℕ) → List FileReply → List Call
file_calls n [] replies = []
file_calls n (f ∷ fs) [] = []
file_calls n (f ∷ fs) (r ∷ rs) = FileCall n f r ∷ file_calls (suc n) fs rs

abbrev pub any_accepted : List FileReply → Bool
any_accepted [] = false
any_accepted (r ∷ rs) = is_accepted r || any_accepted rs

-- the reference moves to this packet, where a frame of it was accepted
abbrev pub clock_after : List FileReply → Unwrap → ℕ → Unwrap
clock_after replies u ts = if any_accepted replies then record u { reference = extended u ts } else u

-- a packet from the held source: it enters the statistics, and then its frames are filed
abbrev pub filed : Known → Packet → ℕ → Option Asked → Replied → Step
filed k p at source r =
    let base = asked k.clock p.head.timestamp r.base in
    let u = clock_now k.clock k.delay r.base in
    let n = frame_number u p.head.timestamp in
    record {
      calls = source_calls source ++ (base_calls base ++ file_calls n (frames_of p.payload) r.files);
      outcome = record { source = source; base = base; end = end.Filed n r.files };
      after = record k { clock = Some (clock_after r.files u p.head.timestamp); reports = with_packet k.reports p.head at };
    }

-- a packet with a frame
abbrev pub admitted : Known → Packet → ℕ → Replied → Step
admitted k p at r =
    let source = asked k.source p.head.ssrc r.source in
    let held = held_source k.source r.source in
    let now : Known = record k { source = Some held } in
    if held == p.head.ssrc then filed now p at source r
    else record { calls = source_calls source; outcome = record { source = source; base = None; end = end.Stranger p.head.ssrc held }; after = now }

abbrev pub read_so : Option RtpFault → Known → Packet → ℕ → Replied → Step
read_so (Some f) k p at r = bare k (end.RtpRefused f)
read_so None k p at r = if length p.payload / 33 == 0 then bare k end.Empty else admitted k p at r

-- the first case that holds
abbrev pub judged : Known → List ℕ → ℕ → Replied → Step
judged k d at r = if is_rtcp d then read_rtcp_so (rtcp_fault d) k d at else read_so (rtp_fault d) k (packet_of d) at r

-- what an earlier datagram made due is no longer due
abbrev pub settled : Known → Known
settled k = record k { reports = quiet k.reports }

abbrev pub step : Known → List ℕ → ℕ → Replied → Step
step k d at r = judged (settled k) d at r

-- the replies that an outcome tells
abbrev pub told : Option Asked → ℕ
told None = 0
told (Some a) = a.held

abbrev pub files_told : OutcomeEnd → List FileReply
files_told end.Rtcp = []
files_told (end.RtcpRefused f) = []
files_told (end.RtpRefused f) = []
files_told end.Empty = []
files_told (end.Stranger ssrc held) = []
files_told (end.Filed n replies) = replies

abbrev pub replies_of : Outcome → Replied
replies_of o = record { source = told o.source; base = told o.base; files = files_told o.end }

-- there is a reply for each frame
abbrev pub HasAllFrames : List ℕ → OutcomeEnd → Type 0
HasAllFrames octets end.Rtcp = Unit {0}
HasAllFrames octets (end.RtcpRefused f) = Unit {0}
HasAllFrames octets (end.RtpRefused f) = Unit {0}
HasAllFrames octets end.Empty = Unit {0}
HasAllFrames octets (end.Stranger ssrc held) = Unit {0}
HasAllFrames octets (end.Filed n replies) = length replies ≡ length octets / 33

-- each datagram counts once by its end, and each reply
abbrev pub end_counted : Tally → OutcomeEnd → Tally
end_counted t end.Rtcp = record t { rtcp = capped (t.rtcp + 1) }
end_counted t (end.RtcpRefused f) = record t { refused = capped (t.refused + 1) }
end_counted t (end.RtpRefused f) = record t { refused = capped (t.refused + 1) }
end_counted t end.Empty = record t { empty = capped (t.empty + 1) }
end_counted t (end.Stranger ssrc held) = record t { stranger = capped (t.stranger + 1) }
end_counted t (end.Filed n replies) = fold reply_counted t replies

abbrev pub tallied : Tally → OutcomeEnd → Tally
tallied t e = end_counted (record t { datagrams = capped (t.datagrams + 1) }) e

abbrev pub with_counted : Known → OutcomeEnd → Known
with_counted k e = record k { tally = tallied k.tally e }

-- the outcome and what is known afterwards are those of the datagram, given the replies that were told
pub record IsTaken (k : Known) (d : List ℕ) (at : ℕ) (o : Outcome) (k2 : Known) : Type 0 where
  pub outcome : o ≡ (step k d at (replies_of o)).outcome
  pub after : k2 ≡ with_counted (step k d at (replies_of o)).after o.end
  pub all : HasAllFrames (packet_of d).payload o.end

abbrev pub calls_of : Known → List ℕ → ℕ → Outcome → List Call
calls_of k d at o = (step k d at (replies_of o)).calls

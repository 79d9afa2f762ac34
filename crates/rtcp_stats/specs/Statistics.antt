-- Receiver statistics of one source (RFC 3550 section 6.4.1, appendices A.1, A.3 and A.8).
use Rattle.std.specs.Prelude.{◌≡◌, ℕ, ◌-◌, ◌*◌, ◌/◌, ◌%◌, ◌^◌, ◌==◌, min, Bool, List, [], ◌∷◌, Option, Some, None, pos, if◌then◌else◌}
use Rattle.rtcp_stats.specs.declared.block.ReportBlock.{ReportBlock}
use Rattle.rtcp_stats.specs.declared.heard.SenderReport.{SenderReport}
use Rattle.rtcp_stats.specs.declared.sequence.Sequence.{Sequence}
use Rattle.rtcp_stats.specs.Differences.{difference}
use Rattle.rtcp_stats.specs.Jitter.{smoothed}
use Rattle.rtcp_stats.specs.Losses.{highest, expected, lost, fraction}
use Rattle.rtcp_stats.specs.Sequences.{at_first, counted, is_valid}

-- what is kept of a source; none before its first packet, its first valid packet, its first sender report; the jitter in 16ths
pub record Statistics : Type 0 where
  pub sequence : Option Sequence
  pub transit : Option ℕ
  pub jitter : ℕ
  pub heard : Option SenderReport

abbrev pub fresh : Statistics
fresh = record { sequence = None; transit = None; jitter = 0; heard = None }

-- a packet more, and whether it is valid
abbrev pub sequence_or : Option Sequence → ℕ → Sequence
sequence_or None seq = at_first seq
sequence_or (Some s) seq = s

abbrev pub is_noted : Statistics → ℕ → Bool
is_noted r seq = is_valid (sequence_or r.sequence seq) seq

-- after a packet of this number and timestamp that came at this moment
abbrev pub noted : Statistics → ℕ → ℕ → ℕ → Statistics
noted r seq timestamp at =
    let s = Some (counted (sequence_or r.sequence seq) seq) in
    let transit = difference at timestamp in
    if is_noted r seq then record r { sequence = s; transit = Some transit; jitter = smoothed r.transit transit r.jitter }
    else record r { sequence = s }

-- after a sender report with this NTP time
abbrev pub after_sender : Statistics → ℕ → ℕ → Statistics
after_sender r ntp at = record r { heard = Some (record { lsr = ntp / 2 ^ 16 % 2 ^ 32; at = at }) }

-- the delay since the last sender report, in 65536ths of a second
abbrev pub lsr : Option SenderReport → ℕ
lsr None = 0
lsr (Some h) = h.lsr

abbrev pub dlsr : Option SenderReport → ℕ → ℕ
dlsr None at = 0
dlsr (Some h) at = min (2 ^ 32 - 1) (difference at h.at * 1024 / 125)

-- a report of a source of which no packet was valid
abbrev pub blank : Statistics → ℕ → ℕ → ReportBlock
blank r ssrc at = record { ssrc = ssrc; fraction = 0; lost = pos 0; highest = 0; jitter = 0; lsr = lsr r.heard; dlsr = dlsr r.heard at }

abbrev pub block_of : Statistics → Sequence → ℕ → ℕ → ReportBlock
block_of r s ssrc at = record { ssrc = ssrc; fraction = fraction s; lost = lost s; highest = highest s; jitter = r.jitter / 16; lsr = lsr r.heard; dlsr = dlsr r.heard at }

-- the report at this moment
abbrev pub report_of : Statistics → ℕ → ℕ → ReportBlock
report_of r ssrc at = by_sequence r.sequence
  where
    by_sequence : Option Sequence → ReportBlock
    by_sequence None = blank r ssrc at
    by_sequence (Some s) = if s.probation == 0 then block_of r s ssrc at else blank r ssrc at

-- the next report counts from here
abbrev pub with_priors : Option Sequence → Option Sequence
with_priors None = None
with_priors (Some s) = Some (if s.probation == 0 then record s { expected_prior = expected s; received_prior = s.received } else s)

abbrev pub after_report : Statistics → Statistics
after_report r = record r { sequence = with_priors r.sequence }

-- a packet with its answer, a sender report, and a report that was taken
pub data Event : Type 0 where
  Noted : ℕ → ℕ → ℕ → Bool → Event
  Heard : ℕ → ℕ → Event
  Reported : ℕ → ℕ → ReportBlock → Event

-- the answer is the right one
abbrev pub IsAnswer : Statistics → Event → Type 0
IsAnswer r (Noted seq timestamp at valid) = valid ≡ is_noted r seq
IsAnswer r (Heard ntp at) = Unit {0}
IsAnswer r (Reported ssrc at block) = block ≡ report_of r ssrc at

abbrev pub after_event : Statistics → Event → Statistics
after_event r (Noted seq timestamp at valid) = noted r seq timestamp at
after_event r (Heard ntp at) = after_sender r ntp at
after_event r (Reported ssrc at block) = after_report r

-- events one after the other, from the first statistics to the last, each with the right answer
abbrev pub AreEvents : Statistics → List Event → Statistics → Type 0
AreEvents first [] last = first ≡ last
AreEvents first (e ∷ es) last = IsAnswer first e × AreEvents (after_event first e) es last

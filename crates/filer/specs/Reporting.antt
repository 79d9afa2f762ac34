-- The statistics of a filer's source, and when a report of them is due.
use Rattle.std.specs.Prelude.{ℕ, ◌+◌, Option, Some, None, nat_lt, if◌then◌else◌}
use Rattle.rtp_codec.specs.declared.head.RtpHead.{RtpHead}
use Rattle.rtcp_stats.specs.declared.block.ReportBlock.{ReportBlock}
use Rattle.rtcp_stats.specs.Statistics.{Statistics, fresh, is_noted, noted, after_sender, after_report, report_of}

-- after how many valid packets a report is due, the statistics, the valid packets since the last report, and the report that the last datagram made due
pub record Reports : Type 0 where
  pub every : ℕ
  pub statistics : Statistics
  pub valid : ℕ
  pub due : Option ReportBlock

abbrev pub begun : ℕ → Reports
begun every = record { every = every; statistics = fresh; valid = 0; due = None }

-- a datagram has made nothing due yet
abbrev pub quiet : Reports → Reports
quiet r = record r { due = None }

abbrev pub hears : Reports → ℕ → ℕ → Reports
hears r ntp at = record r { statistics = after_sender r.statistics ntp at }

-- a valid packet more, which may be the one that makes a report due; the report is taken here, whether it is sent or not
abbrev pub with_valid : Reports → ℕ → ℕ → Reports
with_valid r ssrc at =
    if nat_lt (r.valid + 1) r.every then record r { valid = r.valid + 1 }
    else record r { statistics = after_report r.statistics; valid = 0; due = Some (report_of r.statistics ssrc at) }

-- a packet of the source more
abbrev pub with_packet : Reports → RtpHead → ℕ → Reports
with_packet r h at =
    let more : Reports = record r { statistics = noted r.statistics h.sequence h.timestamp at } in
    if is_noted r.statistics h.sequence then with_valid more h.ssrc at else more

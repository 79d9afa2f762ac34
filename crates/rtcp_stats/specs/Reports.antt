-- What a compound's first packet reports, which is a sender report or a receiver report (RFC 3550 sections 6.4.1 and 6.4.2).
use Rattle.std.specs.Prelude.{ℕ, zero, suc, ◌+◌, ◌*◌, ◌≤◌, ◌==◌, List, [], ◌∷◌, length, drop, slice_index, Option, Some, None, if◌then◌else◌}
use Rattle.byteorder.specs.Endian.{big_number, twos_complement}
use Rattle.rtcp_stats.specs.declared.block.ReportBlock.{ReportBlock}
use Rattle.rtcp_stats.specs.declared.block.SenderInfo.{SenderInfo}
use Rattle.rtcp_stats.specs.Compound.{count, kind}

-- what contracts see of a view
pub record Reports : Type 0 where
  pub sender : Option SenderInfo
  pub blocks : List ReportBlock

-- a number of n octets at a place
abbrev pub number_at : ℕ → List ℕ → ℕ → ℕ
number_at n d at = big_number n (drop at d)

-- what a sender report says of its sender
abbrev pub sender_of : List ℕ → Option SenderInfo
sender_of d =
    if kind d 0 == 200 then Some (record { ssrc = number_at 4 d 4; ntp = number_at 8 d 8; rtp = number_at 4 d 16; packets = number_at 4 d 20; octets = number_at 4 d 24 })
    else None

-- a block has 24 octets
abbrev pub block_at : List ℕ → ℕ → ReportBlock
block_at d at = record {
  ssrc = number_at 4 d at;
  fraction = slice_index d (at + 4);
  lost = twos_complement 3 (number_at 3 d (at + 5));
  highest = number_at 4 d (at + 8);
  jitter = number_at 4 d (at + 12);
  lsr = number_at 4 d (at + 16);
  dlsr = number_at 4 d (at + 20);
}

-- after what a sender says, and after the receiver's own source
abbrev pub blocks_start : List ℕ → ℕ
blocks_start d = if kind d 0 == 200 then 28 else 8

-- n blocks from a place on
abbrev pub blocks_from : ℕ → List ℕ → ℕ → List ReportBlock
blocks_from zero d at = []
blocks_from (suc n) d at = block_at d at ∷ blocks_from n d (at + 24)

abbrev pub reports_of : List ℕ → Reports
reports_of d = record { sender = sender_of d; blocks = blocks_from (count d 0) d (blocks_start d) }

-- the datagram has the blocks that its first packet counts
pub record HasReports (d : List ℕ) : Type 0 where
  pub size : blocks_start d + 24 * count d 0 ≤ length d

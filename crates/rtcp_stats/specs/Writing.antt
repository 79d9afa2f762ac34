-- A report as it is written: a receiver report of one block, and a source description (RFC 3550 sections 6.4.2 and 6.5).
use Rattle.std.specs.Prelude.{◌≡◌, ℕ, ◌^◌, ◌<◌, List, [], ◌∷◌, ◌++◌, None, ℤ, pos, ◌≤ℤ◌, ◌<ℤ◌, ◌+ℤ◌, codes}
use Rattle.std.specs.Int.{w64}
use Rattle.byteorder.specs.Endian.{big_bytes, low_bytes}
use Rattle.rtcp_stats.specs.declared.block.ReportBlock.{ReportBlock}
use Rattle.rtcp_stats.specs.Compound.{rtcp_fault}
use Rattle.rtcp_stats.specs.Reports.{reports_of}

-- 24 octets, the signed number in three of them
abbrev pub block_octets : ReportBlock → List ℕ
block_octets b =
    big_bytes 4 b.ssrc ++ b.fraction ∷ big_bytes 3 (low_bytes w64 3 b.lost)
    ++ big_bytes 4 b.highest ++ big_bytes 4 b.jitter ++ big_bytes 4 b.lsr ++ big_bytes 4 b.dlsr

-- a source description of one chunk with a canonical name (item 1) of seven octets; zeros end the chunk
abbrev pub name_octets : ℕ → List ℕ
name_octets own = 129 ∷ 202 ∷ 0 ∷ 4 ∷ big_bytes 4 own ++ 1 ∷ 7 ∷ codes "gsmgate" ++ 0 ∷ 0 ∷ 0 ∷ []

abbrev pub report_octets : ℕ → ReportBlock → List ℕ
report_octets own b = 129 ∷ 201 ∷ 0 ∷ 7 ∷ big_bytes 4 own ++ block_octets b ++ name_octets own

-- 24 bits with a sign
abbrev pub FitsLost : ℤ → Type 0
FitsLost lost = (pos 0 ≤ℤ (lost +ℤ pos 8388608)) × (lost <ℤ pos 8388608)

-- each number of a block fits its field
pub record IsBlock (b : ReportBlock) : Type 0 where
  pub ssrc : b.ssrc < 2 ^ 32
  pub fraction : b.fraction < 2 ^ 8
  pub lost : FitsLost b.lost
  pub highest : b.highest < 2 ^ 32
  pub jitter : b.jitter < 2 ^ 32
  pub lsr : b.lsr < 2 ^ 32
  pub dlsr : b.dlsr < 2 ^ 32

-- what is written is read as the same block, and no sender
abbrev pub IsReadBack : Type 0
IsReadBack = (own : ℕ) (b : ReportBlock) → IsBlock b
    → (rtcp_fault (report_octets own b) ≡ None) × (reports_of (report_octets own b) ≡ record { sender = None; blocks = b ∷ [] })

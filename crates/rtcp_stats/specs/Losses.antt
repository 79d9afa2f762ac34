-- What was lost, in all and since the last report (RFC 3550 section 6.4.1, appendix A.3).
use Rattle.std.specs.Prelude.{ℕ, ◌+◌, ◌*◌, ◌/◌, ◌%◌, ◌^◌, ◌==◌, min, ℤ, pos, negsuc, if◌then◌else◌}
use Rattle.std.specs.Int.{w32, int_min, int_max, cast_signed}
use Rattle.rtcp_stats.specs.declared.sequence.Sequence.{Sequence}
use Rattle.rtcp_stats.specs.Differences.{difference}

-- the highest sequence number with its cycles, and how many packets were expected
abbrev pub highest : Sequence → ℕ
highest s = (s.cycles + s.max_seq) % 2 ^ 32

abbrev pub expected : Sequence → ℕ
expected s = (difference (highest s) s.base_seq + 1) % 2 ^ 32

-- how many were lost in all, within 24 bits
abbrev pub lost : Sequence → ℤ
lost s = int_max (negsuc 8388607) (int_min (cast_signed w32 (difference (expected s) s.received)) (pos 8388607))

-- 256ths of an interval that were lost, 255 at most; none where more came than were expected
abbrev pub part_of : ℕ → ℤ → ℕ
part_of interval (pos l) = if interval == 0 then 0 else min 255 (256 * l / interval)
part_of interval (negsuc l) = 0

-- of the packets that were expected since the last report
abbrev pub fraction : Sequence → ℕ
fraction s =
    let interval = difference (expected s) s.expected_prior in
    part_of interval (cast_signed w32 (difference interval (difference s.received s.received_prior)))

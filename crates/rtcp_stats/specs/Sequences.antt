-- Sequence numbers of 16 bits, and which packets are valid (RFC 3550 appendix A.1).
use Rattle.std.specs.Prelude.{ℕ, ◌+◌, ◌-◌, ◌%◌, ◌^◌, ◌==◌, Bool, false, not, ◌&&◌, ◌||◌, nat_lt, Option, Some, None, if◌then◌else◌}
use Rattle.rtcp_stats.specs.declared.sequence.Sequence.{Sequence}

-- the count begins with this number
abbrev pub begun : ℕ → Sequence
begun seq = record { base_seq = seq; max_seq = seq; cycles = 0; bad_seq = None; probation = 0; received = 0; expected_prior = 0; received_prior = 0 }

-- before the first packet two packets in sequence are wanted, of which it is one
abbrev pub at_first : ℕ → Sequence
at_first seq = record (begun seq) { max_seq = (seq + (2 ^ 16 - 1)) % 2 ^ 16; probation = 2 }

-- how far a number is ahead of the highest
abbrev pub ahead_by : Sequence → ℕ → ℕ
ahead_by s seq = (seq + (2 ^ 16 - s.max_seq)) % 2 ^ 16

abbrev pub is_next : Sequence → ℕ → Bool
is_next s seq = seq == (s.max_seq + 1) % 2 ^ 16

-- this number was expected after the last one that was far off
abbrev pub is_bad : Option ℕ → ℕ → Bool
is_bad None seq = false
is_bad (Some bad) seq = bad == seq

-- a valid packet more
abbrev pub with_received : Sequence → Sequence
with_received s = record s { received = (s.received + 1) % 2 ^ 32 }

-- a valid packet in order, perhaps after a wrap
abbrev pub in_order : Sequence → ℕ → Sequence
in_order s seq = with_received (record s { cycles = (if nat_lt seq s.max_seq then (s.cycles + 65536) % 2 ^ 32 else s.cycles); max_seq = seq })

-- a packet of a source that is not valid yet
abbrev pub on_probation : Sequence → ℕ → Sequence
on_probation s seq =
    if not (is_next s seq) then record s { probation = 1; max_seq = seq }
    else if s.probation == 1 then record (begun seq) { received = 1 }
    else record s { probation = s.probation - 1; max_seq = seq }

-- after a packet with this number
abbrev pub counted : Sequence → ℕ → Sequence
counted s seq =
    if nat_lt 0 s.probation then on_probation s seq
    else if nat_lt (ahead_by s seq) 3000 then in_order s seq
    else if nat_lt 65436 (ahead_by s seq) then with_received s
    else if is_bad s.bad_seq seq then with_received (begun seq)
    else record s { bad_seq = Some ((seq + 1) % 2 ^ 16) }

-- a packet with this number is valid
abbrev pub is_valid : Sequence → ℕ → Bool
is_valid s seq =
    if nat_lt 0 s.probation then is_next s seq && (s.probation == 1)
    else nat_lt (ahead_by s seq) 3000 || (nat_lt 65436 (ahead_by s seq) || is_bad s.bad_seq seq)

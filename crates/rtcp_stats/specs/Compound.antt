-- The grammar of an RTCP compound, as total functions of a datagram's octets by place (RFC 3550 sections 6.1 and 6.4 to 6.7).
use Rattle.std.specs.Prelude.{◌≡◌, ℕ, zero, suc, ◌+◌, ◌-◌, ◌*◌, ◌/◌, ◌%◌, ◌==◌, ◌&&◌, ◌||◌, ◌<◌, not, Bool, List, [], ◌∷◌, length, drop, slice_index, nat_lt, nat_le, Option, Some, None, MatchOption, if◌then◌else◌}
use Rattle.byteorder.specs.Endian.{big_number}
use Rattle.rtcp_stats.specs.declared.fault.RtcpFault.{RtcpFault}
use Rattle.rtcp_stats.specs.declared.fault.RtcpFault.TheVariants.{Oversize, Cut, Version, First, Padding, Body}

-- a packet at a place begins with an octet of two bits of version, the padding bit and five bits of a count, and then its type
abbrev pub version : List ℕ → ℕ → ℕ
version d at = slice_index d at / 64

abbrev pub has_padding : List ℕ → ℕ → Bool
has_padding d at = slice_index d at / 32 % 2 == 1

abbrev pub count : List ℕ → ℕ → ℕ
count d at = slice_index d at % 32

-- 200 is a sender report, 201 a receiver report, 202 a source description, 203 a BYE and 204 an APP
abbrev pub kind : List ℕ → ℕ → ℕ
kind d at = slice_index d (at + 1)

-- a packet has one 32-bit word more than its length says
abbrev pub packet_end : List ℕ → ℕ → ℕ
packet_end d at = at + 4 * (big_number 2 (drop (at + 2) d) + 1)

-- the octets of padding, which the packet's last octet counts, itself included
abbrev pub padding : List ℕ → ℕ → ℕ
padding d at = if has_padding d at then slice_index d (packet_end d at - 1) else 0

-- fewer than four octets are left, or the packet goes past the end
abbrev pub is_cut : List ℕ → ℕ → Bool
is_cut d at = nat_lt (length d) (at + 4) || nat_lt (length d) (packet_end d at)

abbrev pub is_report : List ℕ → ℕ → Bool
is_report d at = (kind d at == 200) || (kind d at == 201)

-- the packet is not the last, or the padding is 0, no multiple of 4, or more than what is after the first four octets
abbrev pub has_bad_padding : List ℕ → ℕ → Bool
has_bad_padding d at =
    has_padding d at
    && (not (packet_end d at == length d) || (padding d at == 0 || (not (padding d at % 4 == 0) || nat_lt (packet_end d at - at - 4) (padding d at))))

-- how many octets a packet has at least, by its type and count
abbrev pub least_size : List ℕ → ℕ → ℕ
least_size d at =
    if kind d at == 200 then 28 + 24 * count d at
    else if kind d at == 201 then 8 + 24 * count d at
    else if kind d at == 203 then 4 + 4 * count d at
    else if kind d at == 204 then 12
    else 0

-- the first case that holds of the packet at a place
abbrev pub packet_fault : List ℕ → ℕ → Option RtcpFault
packet_fault d at =
    if is_cut d at then Some (Cut at)
    else if not (version d at == 2) then Some (Version at)
    else if (at == 0) && not (is_report d at) then Some First
    else if has_bad_padding d at then Some (Padding at)
    else if nat_lt (packet_end d at - at - padding d at) (least_size d at) then Some (Body at)
    else None

abbrev pub first_of : Option RtcpFault → Option RtcpFault → Option RtcpFault
first_of (Some f) later = Some f
first_of None later = later

-- the same of the packets from a place on, in order, n of them at most: the first that has a fault tells it, and the last one ends the datagram
abbrev pub fault_from : ℕ → List ℕ → ℕ → Option RtcpFault
fault_from zero d at = None
fault_from (suc n) d at = first_of (packet_fault d at) (if packet_end d at == length d then None else fault_from n d (packet_end d at))

-- the fault of a datagram, where it has one; a packet has four octets at least, so there are no more packets than octets
abbrev pub rtcp_fault : List ℕ → Option RtcpFault
rtcp_fault d = if nat_le 2048 (length d) then Some Oversize else fault_from (length d + 1) d 0

-- packets without a fault that begin at these places, one after the other, from a place to another
abbrev pub AreFine : List ℕ → ℕ → List ℕ → ℕ → Type 0
AreFine d at [] end = at ≡ end
AreFine d at (p ∷ ps) end = (p ≡ at) × (packet_fault d at ≡ None) × AreFine d (packet_end d at) ps end

-- fine packets, and after them one with this fault
abbrev pub IsFirstFault : List ℕ → RtcpFault → Type 0
IsFirstFault d f = (ps : List ℕ) × (at : ℕ) × AreFine d 0 ps at × (packet_fault d at ≡ Some f)

-- a compound is one or more fine packets that end where the datagram ends; a fault is that of the first packet that is not fine
abbrev pub IsJudged : List ℕ → Type 0
IsJudged d = length d < 2048 → MatchOption (rtcp_fault d) ((p : ℕ) × (ps : List ℕ) × AreFine d 0 (p ∷ ps) (length d)) (IsFirstFault d)

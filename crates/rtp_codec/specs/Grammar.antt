-- The grammar of a packet, as total functions of a datagram's octets by place (RFC 3550 section 5.1).
use Rattle.std.specs.Prelude.{ℕ, zero, suc, ◌+◌, ◌-◌, ◌*◌, ◌/◌, ◌%◌, ◌==◌, ◌&&◌, ◌||◌, not, Bool, List, length, take, drop, slice_index, nat_lt, nat_le, Option, Some, None, option_map, if◌then◌else◌}
use Rattle.std.specs.Option.{option_or}
use Rattle.byteorder.specs.Endian.{big_number}
use Rattle.rtp_codec.specs.declared.fault.RtpFault.{RtpFault}
use Rattle.rtp_codec.specs.declared.fault.RtpFault.TheVariants.{Oversize, Short, Version, CsrcShort, ExtensionShort, Padding, OtherPayload, Length, TooMany, Signature}

-- the first octet is two bits of version, the padding bit, the extension bit and four bits that count the sources
abbrev pub version : List ℕ → ℕ
version d = slice_index d 0 / 64

abbrev pub has_padding : List ℕ → Bool
has_padding d = slice_index d 0 / 32 % 2 == 1

abbrev pub has_extension : List ℕ → Bool
has_extension d = slice_index d 0 / 16 % 2 == 1

-- where the list of contributing sources ends
abbrev pub sources_end : List ℕ → ℕ
sources_end d = 12 + 4 * (slice_index d 0 % 16)

-- the second octet is the marker bit and the payload type
abbrev pub payload_type : List ℕ → ℕ
payload_type d = slice_index d 1 % 128

-- how many 32-bit words of the extension follow its first four octets (RFC 3550 section 5.3.1)
abbrev pub extension_words : List ℕ → ℕ
extension_words d = big_number 2 (drop (sources_end d + 2) d)

-- where the payload begins
abbrev pub header_end : List ℕ → ℕ
header_end d = if has_extension d then sources_end d + 4 + 4 * extension_words d else sources_end d

-- the extension or its words do not fit
abbrev pub lacks_extension : List ℕ → Bool
lacks_extension d = has_extension d && (nat_lt (length d) (sources_end d + 4) || nat_lt (length d) (header_end d))

-- the octets of padding, which the last octet counts, itself included
abbrev pub padding : List ℕ → ℕ
padding d = if has_padding d then slice_index d (length d - 1) else 0

-- nothing follows the header, or the last octet is 0 or more than what follows it
abbrev pub has_bad_padding : List ℕ → Bool
has_bad_padding d = has_padding d && (nat_le (length d) (header_end d) || (padding d == 0 || nat_lt (length d - header_end d) (padding d)))

-- what follows the header less the padding
abbrev pub payload : List ℕ → List ℕ
payload d = take (length d - padding d - header_end d) (drop (header_end d) d)

-- of n frames from place i on, the first whose first nibble is not 0xD (RFC 3551 section 4.5.8.1)
abbrev pub first_unsigned : ℕ → ℕ → List ℕ → Option ℕ
first_unsigned i zero octets = None
first_unsigned i (suc n) octets = if slice_index octets (33 * i) / 16 == 13 then first_unsigned (suc i) n octets else Some i

-- the first case of the header and the padding that holds, where one does
abbrev pub open_fault : List ℕ → Option RtpFault
open_fault d =
    if nat_le 2048 (length d) then Some Oversize
    else if nat_lt (length d) 12 then Some Short
    else if not (version d == 2) then Some Version
    else if nat_lt (length d) (sources_end d) then Some CsrcShort
    else if lacks_extension d then Some ExtensionShort
    else if has_bad_padding d then Some Padding
    else None

-- the first case of the payload that holds, where one does
abbrev pub payload_fault : List ℕ → Option RtpFault
payload_fault d =
    if not (payload_type d == 3) then Some (OtherPayload (payload_type d))
    else if not (length (payload d) % 33 == 0) then Some Length
    else if nat_lt 330 (length (payload d)) then Some TooMany
    else option_map Signature (first_unsigned 0 (length (payload d) / 33) (payload d))

-- the first case that holds, where one does: those of the payload come behind the others
abbrev pub rtp_fault : List ℕ → Option RtpFault
rtp_fault d = option_or (open_fault d) (payload_fault d)

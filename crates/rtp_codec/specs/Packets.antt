-- A packet: its head and its payload, as they are read and as they are written.
use Rattle.std.specs.Prelude.{◌≡◌, ℕ, ◌+◌, ◌*◌, ◌/◌, ◌%◌, ◌^◌, ◌==◌, ◌≤◌, ◌<◌, List, ◌∷◌, ◌++◌, length, take, drop, slice_index, None, if◌then◌else◌}
use Rattle.byteorder.specs.Endian.{big_number, big_bytes}
use Rattle.rtp_codec.specs.declared.head.RtpHead.{RtpHead}
use Rattle.rtp_codec.specs.Grammar.{payload, payload_type, rtp_fault}

-- the fields of the fixed header (RFC 3550 section 5.1)
abbrev pub head_of : List ℕ → RtpHead
head_of d = record {
  marker = slice_index d 1 / 128 == 1;
  payload_type = payload_type d;
  sequence = big_number 2 (drop 2 d);
  timestamp = big_number 4 (drop 4 d);
  ssrc = big_number 4 (drop 8 d);
}

-- what contracts see of a view
pub record Packet : Type 0 where
  pub head : RtpHead
  pub payload : List ℕ

-- what a datagram that is not refused is read as
abbrev pub packet_of : List ℕ → Packet
packet_of d = record { head = head_of d; payload = payload d }

-- at most ten whole frames, each with its first nibble 0xD
pub record IsPayload (octets : List ℕ) : Type 0 where
  pub whole : length octets % 33 ≡ 0
  pub few : length octets ≤ 330
  pub signed : (i : ℕ) → i < length octets / 33 → slice_index octets (33 * i) / 16 ≡ 13

-- the octets of the frame at place i
abbrev pub frame_at : List ℕ → ℕ → List ℕ
frame_at octets i = take 33 (drop (33 * i) octets)

-- the fixed header of version 2, with no padding, extension or contributing sources
abbrev pub head_octets : RtpHead → List ℕ
head_octets h =
    128 ∷ ((if h.marker then 128 else 0) + h.payload_type) ∷ (big_bytes 2 h.sequence ++ (big_bytes 4 h.timestamp ++ big_bytes 4 h.ssrc))

-- the numbers of a head fit their fields, and the payload type is that of full-rate frames
pub record IsFullRate (h : RtpHead) : Type 0 where
  pub payload_type : h.payload_type ≡ 3
  pub sequence : h.sequence < 2 ^ 16
  pub timestamp : h.timestamp < 2 ^ 32
  pub ssrc : h.ssrc < 2 ^ 32

-- what is written is read as the same head and payload
abbrev pub IsReadBack : Type 0
IsReadBack = (h : RtpHead) (octets : List ℕ) → IsFullRate h → IsPayload octets
    → (rtp_fault (head_octets h ++ octets) ≡ None) × (packet_of (head_octets h ++ octets) ≡ record { head = h; payload = octets })

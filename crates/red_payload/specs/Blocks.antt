-- A redundant payload: the headers of its blocks, and behind them their octets in the same order (RFC 2198 section 3).
use Rattle.std.specs.Prelude.{◌≡◌, ℕ, ◌+◌, ◌/◌, ◌%◌, ◌==◌, ◌&&◌, ◌≤◌, not, Bool, List, [], ◌∷◌, ◌++◌, length, take, drop, slice_index, slice_get, nat_lt, Option, Some, None, option_map, if◌then◌else◌}
use Rattle.std.specs.Option.{option_or}
use Rattle.byteorder.specs.Endian.{big_number}
use Rattle.rtp_codec.specs.Grammar.{first_unsigned}
use Rattle.rtp_codec.specs.Packets.{IsPayload}
use Rattle.red_payload.specs.declared.block.RedBlock.{RedBlock}
use Rattle.red_payload.specs.declared.fault.RedFault.{RedFault}
use Rattle.red_payload.specs.declared.fault.RedFault.TheVariants as fault

-- the header of an older block: how much its timestamp is below the packet's, and how many octets it has
pub record Older : Type 0 where
  pub payload_type : ℕ
  pub offset : ℕ
  pub size : ℕ

-- a bit that is set and 7 bits of payload type; then 14 bits of offset and 10 of size
abbrev pub older_of : List ℕ → Older
older_of octets = record {
  payload_type = slice_index octets 0 % 128;
  offset = big_number 3 (drop 1 octets) / 1024;
  size = big_number 3 (drop 1 octets) % 1024;
}

-- the headers of the older blocks, the payload type of the primary one, and what is behind all headers
pub record Heads : Type 0 where
  pub older : List Older
  pub primary : ℕ
  pub behind : List ℕ

abbrev pub with_older : Older → Heads → Heads
with_older o h = record { older = o ∷ h.older; primary = h.primary; behind = h.behind }

-- the last header is one octet below 128
abbrev pub last_header : ℕ → List ℕ → Option Heads
last_header a behind = if nat_lt a 128 then Some (record { older = []; primary = a; behind = behind }) else None

-- the headers, where the last one comes before the octets run out
abbrev pub headers : List ℕ → Option Heads
headers [] = None
headers (a ∷ []) = last_header a []
headers (a ∷ b ∷ []) = last_header a (b ∷ [])
headers (a ∷ b ∷ c ∷ []) = last_header a (b ∷ c ∷ [])
headers (a ∷ b ∷ c ∷ d ∷ rest) =
    if nat_lt a 128 then last_header a (b ∷ c ∷ d ∷ rest)
    else option_map (with_older (older_of (a ∷ b ∷ c ∷ d ∷ rest))) (headers rest)

-- what contracts see of a block
pub record Block : Type 0 where
  pub payload_type : ℕ
  pub offset : ℕ
  pub octets : List ℕ

abbrev pub seen : RedBlock → Block
seen b = record { payload_type = b.payload_type; offset = b.offset; octets = b.octets.now }

-- each older block has as many octets as its header says; the primary one is the last, and has the others
abbrev pub blocks_from : List Older → ℕ → List ℕ → List Block
blocks_from [] primary octets = record { payload_type = primary; offset = 0; octets = octets } ∷ []
blocks_from (o ∷ os) primary octets =
    record { payload_type = o.payload_type; offset = o.offset; octets = take o.size octets } ∷ blocks_from os primary (drop o.size octets)

abbrev pub blocks_behind : Option Heads → List Block
blocks_behind None = []
blocks_behind (Some h) = blocks_from h.older h.primary h.behind

abbrev pub blocks_of : List ℕ → List Block
blocks_of payload = blocks_behind (headers payload)

-- how many octets the older blocks have
abbrev pub total : List Older → ℕ
total [] = 0
total (o ∷ os) = o.size + total os

-- the headers do not end, or the older blocks go past the end
abbrev pub fault_of_heads : Option Heads → Option RedFault
fault_of_heads None = Some fault.Header
fault_of_heads (Some h) = if nat_lt (length h.behind) (total h.older) then Some fault.Block else None

abbrev pub header_fault : List ℕ → Option RedFault
header_fault payload = fault_of_heads (headers payload)

-- payload type 3 is full-rate frames (RFC 3551 section 6)
abbrev pub is_speech : Block → Bool
is_speech b = b.payload_type == 3

-- the octets of the blocks of frames, one after the other
abbrev pub speech : List Block → List ℕ
speech [] = []
speech (b ∷ bs) = if is_speech b then b.octets ++ speech bs else speech bs

-- of the blocks from place i on, the first of frames whose length is no multiple of 33 octets
abbrev pub first_broken : ℕ → List Block → Option ℕ
first_broken i [] = None
first_broken i (b ∷ bs) = if is_speech b && not (length b.octets % 33 == 0) then Some i else first_broken (i + 1) bs

-- over all blocks of frames: more than 10 frames, or the first one with another signature than 0xD
abbrev pub frames_fault : List ℕ → Option RedFault
frames_fault octets =
    if nat_lt 330 (length octets) then Some fault.TooMany
    else option_map fault.Signature (first_unsigned 0 (length octets / 33) octets)

-- blocks of other payload types are passed over
abbrev pub blocks_fault : List Block → Option RedFault
blocks_fault bs = option_or (option_map fault.Length (first_broken 0 bs)) (frames_fault (speech bs))

-- the first case that holds, where one does
abbrev pub red_fault : List ℕ → Option RedFault
red_fault payload = option_or (header_fault payload) (blocks_fault (blocks_of payload))

-- what holds of the blocks of a payload that is not refused: at most ten whole frames in all, each with its signature
pub record HaveFrames (bs : List Block) : Type 0 where
  pub each : (i : ℕ) (b : Block) → slice_get bs i ≡ Some b → b.payload_type ≡ 3 → IsPayload b.octets
  pub few : length (speech bs) ≤ 330

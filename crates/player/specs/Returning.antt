-- The return stream: speech of the microphone, coded and sent in packets.
use Rattle.std.specs.Prelude.{ℕ, ◌≡◌, ◌⊎◌, ◌+◌, ◌*◌, ◌%◌, ◌^◌, ◌<◌, List, [], ◌∷◌, ◌++◌, length, ℤ, Bool, true, false, Option, get_or, flat_map}
use Rattle.std.specs.Io.KnownBytes.{Consumes, IsAtEnd}
use Rattle.gate_io.specs.Flow.{ConsumesFewer}
use Rattle.gate_io.specs.Links.{GoesTo, LinkLog, with_sent}
use Rattle.frame_codec.specs.Frame.{Fields, Spells}
use Rattle.frame_codec.specs.Octets.{IsFrame}
use Rattle.fr_encoder.specs.Coding.{Encodes, Held}
use Rattle.rtp_codec.specs.Packets.{head_octets}
use Rattle.substitution.specs.Heard.{sample_octets}
use Rattle.player.specs.Pieces.{IsPiece, whole_piece}
use Rattle.player.specs.declared.return_stream.ReturnEnd.{ReturnEnd}
use Rattle.player.specs.declared.return_stream.ReturnEnd.TheVariants.{Sent, Silent, MicFault, ReplyFault}

-- the source that is told, the sequence number and the timestamp of the next packet, whether the microphone has ended, and what the encoder keeps
pub record Stream : Type 0 where
  pub own : ℕ
  pub sequence : ℕ
  pub stamp : ℕ
  pub ended : Bool
  pub encoder : Held

-- the packet of one frame (RFC 3550 section 5.1, RFC 3551 payload type 3)
abbrev pub packet : ℕ → ℕ → ℕ → List ℕ → List ℕ
packet own sequence stamp frame = head_octets (record { marker = false; payload_type = 3; sequence = sequence; timestamp = stamp; ssrc = own }) ++ frame

abbrev pub next_packet : Stream → List ℕ → List ℕ
next_packet s frame = packet s.own s.sequence s.stamp frame

-- the numbers go on by one packet, and wrap
abbrev pub gone_on : Stream → Held → Stream
gone_on s encoder = record s { sequence = (s.sequence + 1) % 2 ^ 16; stamp = (s.stamp + 160) % 2 ^ 32; encoder = encoder }

-- ---- one call

-- an encoder has gone on by these samples, and these are their fields
abbrev pub EncodesNext : Held → Held → List ℤ → Fields → Type 0
EncodesNext old new samples fields = (before : List ℤ) (frames : List Fields) → Encodes before frames old → Encodes (before ++ samples) (frames ++ fields ∷ []) new

-- the octets are the packet of the frame that these samples become
abbrev pub IsPacketOf : Stream → Stream → List ℤ → List ℕ → Type 0
IsPacketOf old new samples octets =
    (frame : List ℕ) × (fields : Fields) × IsFrame frame × Spells frame fields × (octets ≡ next_packet old frame) × EncodesNext old.encoder new.encoder samples fields

-- the next piece was taken from the microphone, and its frame is the next of the coded speech
pub record Codes (old new : Stream) (left left_now : Option (List ℕ)) (octets frame : List ℕ) : Type 0 where
  pub samples : List ℤ
  pub fields : Fields
  pub running : old.ended ≡ false
  pub piece : IsPiece left left_now octets samples
  pub framed : IsFrame frame
  pub spelled : Spells frame fields
  pub coded : EncodesNext old.encoder new.encoder samples fields
  pub state : new ≡ gone_on old new.encoder

-- The next packet was sent. Nothing was left of the microphone, now or before. The microphone failed, and what came of the piece is lost. The reply link
-- failed, and the packet was sent or not.
abbrev pub Returns : Stream → Stream → Option (List ℕ) → Option (List ℕ) → Option LinkLog → Option LinkLog → ReturnEnd → Type 0
Returns old new left left_now log log_now Sent =
    (octets frame : List ℕ) × Codes old new left left_now octets frame × GoesTo log log_now (λ a b. b ≡ with_sent a (next_packet old frame))
Returns old new left left_now log log_now Silent =
    (new ≡ record old { ended = true }) × (log_now ≡ log) × (((old.ended ≡ true) × (left_now ≡ left)) ⊎ ((old.ended ≡ false) × Consumes left left_now [] × IsAtEnd left_now))
Returns old new left left_now log log_now MicFault = (new ≡ old) × (log_now ≡ log) × (old.ended ≡ false) × ConsumesFewer 320 left left_now
Returns old new left left_now log log_now ReplyFault =
    (octets frame : List ℕ) × Codes old new left left_now octets frame × GoesTo log log_now (λ a b. (b ≡ a) ⊎ (b ≡ with_sent a (next_packet old frame)))

-- ---- over a list of pieces

abbrev pub fields_at : List Fields → ℕ → Fields
fields_at frames i = get_or frames i (record { larc = []; sub = [] })

-- The packets are those of these pieces from the first numbers on, and the stream stands after them: what each piece spoke is coded with those before it.
pub record Streams (own sequence stamp : ℕ) (pieces packets : List (List ℕ)) (s : Stream) : Type 0 where
  pub samples : List ℤ
  pub frames : List Fields
  pub encodes : Encodes samples frames s.encoder
  pub spoken : sample_octets samples ≡ flat_map whole_piece pieces
  pub frame_count : length frames ≡ length pieces
  pub packet_count : length packets ≡ length pieces
  pub packets_are : (i : ℕ) → i < length pieces
      → (frame : List ℕ) × IsFrame frame × Spells frame (fields_at frames i) × (get_or packets i [] ≡ packet own ((sequence + i) % 2 ^ 16) ((stamp + 160 * i) % 2 ^ 32) frame)
  pub own_is : s.own ≡ own
  pub sequence_is : s.sequence ≡ (sequence + length pieces) % 2 ^ 16
  pub stamp_is : s.stamp ≡ (stamp + 160 * length pieces) % 2 ^ 32

-- After any pieces and their packets, the piece that was coded and its packet follow them.
abbrev pub StreamsOn : Stream → Stream → Option (List ℕ) → Option (List ℕ) → Type 0
StreamsOn old new left left_now =
    (own sequence stamp : ℕ) (pieces packets : List (List ℕ)) (octets frame : List ℕ) → Streams own sequence stamp pieces packets old → Codes old new left left_now octets frame
    → Streams own sequence stamp (pieces ++ octets ∷ []) (packets ++ next_packet old frame ∷ []) new

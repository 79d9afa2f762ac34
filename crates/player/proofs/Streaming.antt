-- A return stream, packet by packet.
use Rattle.std.proofs.Common.{◌≡◌, ℕ, ◌+◌, ◌*◌, ◌%◌, ◌^◌, ◌<◌, false, List, [], ◌∷◌, ◌++◌, length, Option, get_or, refl, sym, ap, subst, ◌∙◌, append-nil, length-append, inl, inr, arith}
use Rattle.std.specs.Prelude.{ℤ}
use Rattle.std.specs.List.{flat_map}
use Rattle.std.specs.Int.{w16, cast_unsigned}
use Rattle.std.proofs.lemmas.Bool.{cases_lt}
use Rattle.std.proofs.lemmas.List.Concat.{flat_map-append}
use Rattle.std.proofs.Math.ListN.{get_or-append}
use Rattle.std.proofs.Math.Seq.{get_or-append_seam}
use Rattle.byteorder.specs.Endian.{little_bytes}
use Rattle.frame_codec.specs.Frame.{Spells}
use Rattle.frame_codec.specs.Octets.{IsFrame}
use Rattle.fr_encoder.specs.Coding.{Encodes, Held}
use Rattle.substitution.specs.Heard.{sample_octets}
use Rattle.player.specs.Pieces.{whole_piece}
use Rattle.player.specs.Returning.{Codes, Stream, Streams, fields_at, next_packet, packet}

-- nothing was sent
pub Streams-start : (own sequence stamp : ℕ) (encoder : Held) → sequence < 2 ^ 16 → stamp < 2 ^ 32 → Encodes [] [] encoder
    → Streams own sequence stamp [] [] (record { own = own; sequence = sequence; stamp = stamp; ended = false; encoder = encoder })
Streams-start own sequence stamp encoder small short encodes = record {
  samples = [];
  frames = [];
  encodes = encodes;
  spoken = refl;
  frame_count = refl;
  packet_count = refl;
  packets_are = λ i h. absurd (omega arith);
  own_is = refl;
  sequence_is = omega arith;
  stamp_is = omega arith;
}

octets-more : (xs ys : List ℤ) → sample_octets (xs ++ ys) ≡ sample_octets xs ++ sample_octets ys
octets-more xs ys = flat_map-append (λ (sample : ℤ). little_bytes 2 (cast_unsigned w16 sample)) xs ys

pieces-more : (pieces : List (List ℕ)) (octets : List ℕ) → flat_map whole_piece (pieces ++ octets ∷ []) ≡ flat_map whole_piece pieces ++ whole_piece octets
pieces-more pieces octets = flat_map-append whole_piece pieces (octets ∷ []) ∙ ap (λ (l : List ℕ). flat_map whole_piece pieces ++ l) (append-nil (whole_piece octets))

-- the element behind a list of so many
behind : {A : Type 0} (xs : List A) (x d : A) (n : ℕ) → length xs ≡ n → get_or (xs ++ x ∷ []) n d ≡ x
behind xs x d n is = ap (λ (k : ℕ). get_or (xs ++ x ∷ []) k d) (sym is) ∙ get_or-append_seam xs x [] d

-- the numbers of the packet behind n others
sequence-more : (sequence n : ℕ) → ((sequence + n) % 2 ^ 16 + 1) % 2 ^ 16 ≡ (sequence + (n + 1)) % 2 ^ 16
sequence-more sequence n = omega arith

stamp-more : (stamp n : ℕ) → ((stamp + 160 * n) % 2 ^ 32 + 160) % 2 ^ 32 ≡ (stamp + 160 * (n + 1)) % 2 ^ 32
stamp-more stamp n = omega arith

module _ (own sequence stamp : ℕ) (pieces packets : List (List ℕ)) (old new : Stream) (left left' : Option (List ℕ)) (octets frame : List ℕ) (s : Streams own sequence stamp pieces packets old) (c : Codes old new left left' octets frame) where
  numbered : next_packet old frame ≡ packet own ((sequence + length pieces) % 2 ^ 16) ((stamp + 160 * length pieces) % 2 ^ 32) frame
  numbered = λ i. packet (s.own_is i) (s.sequence_is i) (s.stamp_is i) frame

  one-more : length (pieces ++ octets ∷ []) ≡ length pieces + 1
  one-more = omega (arith, length-append pieces (octets ∷ []))

  at-place : (i : ℕ) → i < length (pieces ++ octets ∷ []) → (f : List ℕ) × IsFrame f × Spells f (fields_at (s.frames ++ c.fields ∷ []) i)
      × (get_or (packets ++ next_packet old frame ∷ []) i [] ≡ packet own ((sequence + i) % 2 ^ 16) ((stamp + 160 * i) % 2 ^ 32) f)
  at-place i h = elim (cases_lt i (length pieces)) [
    | inl before ↦
        let was = s.packets_are i before in
        let same : fields_at (s.frames ++ c.fields ∷ []) i ≡ fields_at s.frames i = get_or-append s.frames (c.fields ∷ []) _ i (omega (arith, s.frame_count)) in
        let there : get_or (packets ++ next_packet old frame ∷ []) i [] ≡ get_or packets i [] = get_or-append packets (next_packet old frame ∷ []) [] i (omega (arith, s.packet_count)) in
        (was.0, was.1, subst (Spells was.0) (sym same) was.2, there ∙ was.3)
    | inr here ↦
        let is : i ≡ length pieces = omega (arith, one-more) in
        let same : fields_at (s.frames ++ c.fields ∷ []) i ≡ c.fields = behind s.frames c.fields _ i (s.frame_count ∙ sym is) in
        let there : get_or (packets ++ next_packet old frame ∷ []) i [] ≡ next_packet old frame = behind packets (next_packet old frame) [] i (s.packet_count ∙ sym is) in
        (frame, c.framed, subst (Spells frame) (sym same) c.spelled, there ∙ numbered ∙ ap (λ (k : ℕ). packet own ((sequence + k) % 2 ^ 16) ((stamp + 160 * k) % 2 ^ 32) frame) (sym is))
  ]

  -- one packet more
  pub Streams-more : Streams own sequence stamp (pieces ++ octets ∷ []) (packets ++ next_packet old frame ∷ []) new
  Streams-more = record {
    samples = s.samples ++ c.samples;
    frames = s.frames ++ c.fields ∷ [];
    encodes = c.coded s.samples s.frames s.encodes;
    spoken = octets-more s.samples c.samples ∙ ap (λ (l : List ℕ). l ++ sample_octets c.samples) s.spoken ∙ ap (λ (l : List ℕ). flat_map whole_piece pieces ++ l) c.piece.spoken ∙ sym (pieces-more pieces octets);
    frame_count = omega (arith, length-append s.frames (c.fields ∷ []), s.frame_count, one-more);
    packet_count = omega (arith, length-append packets (next_packet old frame ∷ []), s.packet_count, one-more);
    packets_are = at-place;
    own_is = ap (λ (t : Stream). t.own) c.state ∙ s.own_is;
    sequence_is = ap (λ (t : Stream). t.sequence) c.state ∙ ap (λ (k : ℕ). (k + 1) % 2 ^ 16) s.sequence_is ∙ sequence-more sequence (length pieces) ∙ ap (λ (k : ℕ). (sequence + k) % 2 ^ 16) (sym one-more);
    stamp_is = ap (λ (t : Stream). t.stamp) c.state ∙ ap (λ (k : ℕ). (k + 160) % 2 ^ 32) s.stamp_is ∙ stamp-more stamp (length pieces) ∙ ap (λ (k : ℕ). (stamp + 160 * k) % 2 ^ 32) (sym one-more);
  }

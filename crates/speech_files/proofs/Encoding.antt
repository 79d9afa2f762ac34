-- What the loop over pieces keeps.
use Rattle.std.proofs.Common.{◌≡◌, ◌≢◌, ℕ, ◌+◌, ◌*◌, ◌≤◌, ◌<◌, List, [], ◌∷◌, ◌++◌, length, Option, Some, None, Ok, Err, refl, sym, ap, subst, ◌∙◌, append-nil, length-append, inl, inr, arith}
use Rattle.std.specs.Prelude.{ℤ, IfSome}
use Rattle.std.specs.List.{flat_map, AllByRecursion}
use Rattle.std.specs.Int.{w16, cast_unsigned}
use Rattle.std.specs.Io.KnownBytes.{Appends, Consumes, IsAtEnd}
use Rattle.std.proofs.lemmas.Bool.{cases_lt}
use Rattle.std.proofs.lemmas.List.Concat.{flat_map-append}
use Rattle.std.proofs.KnownBytes.{Appends-trans}
use Rattle.byteorder.specs.Endian.{little_bytes}
use Rattle.gate_io.specs.Flow.{AppendsPart}
use Rattle.gate_io.specs.FlowLaws.{AppendsPart-after}
use Rattle.frame_codec.specs.Frame.{Fields, IsWithinWidths, Spells}
use Rattle.frame_codec.specs.Octets.{IsFrame}
use Rattle.fr_encoder.specs.Coding.{Encodes, Held}
use Rattle.player.specs.Pieces.{CutsOff, IsPiece, whole_piece}
use Rattle.recorder.specs.declared.fault.RecordFault.TheVariants.{TooLong}
use Rattle.substitution.specs.Heard.{sample_octets}
use Rattle.speech_files.specs.Decode.{AreSpelled, coded, frame_limit}
use Rattle.speech_files.specs.Encode.{Begins, IsEncoded}
use Rattle.speech_files.specs.EncodeRuns.{HasEncoded}
use Rattle.gate_notes.specs.declared.stop.Stop.TheVariants.{Refused, ReadFault, WriteFault}
use Rattle.speech_files.proofs.Decoding.{coded-more, whole-more, spelled-more}

-- the pieces were cut off the known octets
abbrev pub CutFrom : Option (List ℕ) → Option (List ℕ) → List (List ℕ) → Type 0
CutFrom None left pieces = Unit {0}
CutFrom (Some x) None pieces = ⊥
CutFrom (Some x) (Some y) pieces = CutsOff x pieces y

-- these pieces were read and coded
pub record Encoding (count : ℕ) (encoder : Held) (input left before now : Option (List ℕ)) (pieces frames : List (List ℕ)) (fields : List Fields) (samples : List ℤ) : Type 0 where
  pub whole : AllByRecursion IsFrame frames
  pub few : length pieces ≤ frame_limit
  pub counted : count ≡ length pieces
  pub lengths : length frames ≡ length pieces
  pub spelled : AreSpelled frames fields
  pub encodes : Encodes samples fields encoder
  pub spoken : sample_octets samples ≡ flat_map whole_piece pieces
  pub cut : CutFrom input left pieces
  pub given : Appends before now (coded frames)

-- nothing was cut off
pub CutFrom-start : (input : Option (List ℕ)) → CutFrom input input []
CutFrom-start None = tt
CutFrom-start (Some x) = refl

-- one piece more is cut off
CutsOff-more : (octets : List ℕ) (pieces : List (List ℕ)) (rest piece more : List ℕ) → CutsOff octets pieces rest → rest ≡ piece ++ more → 0 < length piece → length piece ≤ 320
    → (length piece < 320 → more ≡ []) → CutsOff octets (pieces ++ piece ∷ []) more
CutsOff-more octets [] rest piece more cut is some most ended = (more, cut ∙ is, some, most, ended, refl)
CutsOff-more octets (p ∷ ps) rest piece more (next, q, a, b, c, cut) is some most ended = (next, q, a, b, c, CutsOff-more next ps rest piece more cut is some most ended)

CutFrom-more : (input left left' : Option (List ℕ)) (pieces : List (List ℕ)) (octets : List ℕ) (samples : List ℤ) → CutFrom input left pieces → IsPiece left left' octets samples → CutFrom input left' (pieces ++ octets ∷ [])
CutFrom-more None left left' pieces octets samples cut p = tt
CutFrom-more (Some x) None left' pieces octets samples cut p = absurd cut
CutFrom-more (Some x) (Some y) None pieces octets samples cut p = absurd p.taken
CutFrom-more (Some x) (Some y) (Some z) pieces octets samples cut p = CutsOff-more x pieces y octets z cut p.taken p.some p.most p.ended

-- what is left of which P holds stands behind the pieces
pub begins : (input left : Option (List ℕ)) (pieces : List (List ℕ)) (P : List ℕ → Type 0) → CutFrom input left pieces → IfSome left P → IfSome input (Begins pieces P)
begins None left pieces P cut p = tt
begins (Some x) None pieces P cut p = absurd cut
begins (Some x) (Some y) pieces P cut p = (y, cut, p)

pub at-end : (left now : Option (List ℕ)) → Consumes left now [] → IsAtEnd now → IfSome left (λ rest. rest ≡ [])
at-end None now p end = tt
at-end (Some x) None p end = absurd p
at-end (Some x) (Some y) p end = p ∙ end

nothing-said : (left : Option (List ℕ)) → IfSome left (λ rest. Unit {0})
nothing-said None = tt
nothing-said (Some x) = tt

-- a piece stands at the front of what is left
goes-on : (left left' : Option (List ℕ)) (octets : List ℕ) (samples : List ℤ) → IsPiece left left' octets samples → IfSome left (λ rest. rest ≢ [])
goes-on None left' octets samples p = tt
goes-on (Some x) None octets samples p = absurd p.taken
goes-on (Some x) (Some y) octets samples p = λ none. absurd (omega (arith, p.some, ap length (sym p.taken ∙ none), length-append octets y))

octets-more : (xs ys : List ℤ) → sample_octets (xs ++ ys) ≡ sample_octets xs ++ sample_octets ys
octets-more xs ys = flat_map-append (λ (sample : ℤ). little_bytes 2 (cast_unsigned w16 sample)) xs ys

pieces-more : (pieces : List (List ℕ)) (octets : List ℕ) → flat_map whole_piece (pieces ++ octets ∷ []) ≡ flat_map whole_piece pieces ++ whole_piece octets
pieces-more pieces octets = flat_map-append whole_piece pieces (octets ∷ []) ∙ ap (λ (l : List ℕ). flat_map whole_piece pieces ++ l) (append-nil (whole_piece octets))

module _ (count : ℕ) (encoder : Held) (input left before now : Option (List ℕ)) (pieces frames : List (List ℕ)) (fields : List Fields) (samples : List ℤ) (s : Encoding count encoder input left before now pieces frames fields samples) where
  pub encoded : IsEncoded pieces frames
  encoded = record { samples = samples; fields = fields; spoken = s.spoken; speech = s.encodes.speech; whole = s.whole; spelled = s.spelled; count = s.lengths; few = s.few }

  -- there are too many pieces
  pub refused : (left' : Option (List ℕ)) (octets : List ℕ) (more : List ℤ) → IsPiece left left' octets more → frame_limit ≤ count → HasEncoded (Err (Refused TooLong)) input before now pieces frames
  refused left' octets more p many = record {
    encoded = encoded;
    text = begins input left pieces (λ rest. rest ≢ []) s.cut (goes-on left left' octets more p);
    limited = (refl, omega (arith, s.counted, s.few));
    given = s.given;
    counted = tt;
  }

  pub stopped : HasEncoded (Err ReadFault) input before now pieces frames
  stopped = record { encoded = encoded; text = begins input left pieces (λ rest. Unit {0}) s.cut (nothing-said left); limited = tt; given = s.given; counted = tt }

  pub ended : (left' : Option (List ℕ)) → Consumes left left' [] → IsAtEnd left' → HasEncoded (Ok count) input before now pieces frames
  ended left' none end = record { encoded = encoded; text = begins input left pieces (λ rest. rest ≡ []) s.cut (at-end left left' none end); limited = tt; given = s.given; counted = s.counted ∙ sym s.lengths }

module _ (count : ℕ) (encoder encoder' : Held) (input left left' before given given' : Option (List ℕ)) (pieces frames : List (List ℕ)) (fields : List Fields) (samples : List ℤ)
    (octets frame : List ℕ) (more : List ℤ) (p : Fields) (s : Encoding count encoder input left before given pieces frames fields samples) (few : count < frame_limit)
    (piece : IsPiece left left' octets more) (is : IsFrame frame) (spells : Spells frame p) (within : IsWithinWidths p) (encodes : Encodes (samples ++ more) (fields ++ p ∷ []) encoder') where
  more-few : length (pieces ++ octets ∷ []) ≤ frame_limit
  more-few = omega (arith, length-append pieces (octets ∷ []), s.counted)

  more-lengths : length (frames ++ frame ∷ []) ≡ length (pieces ++ octets ∷ [])
  more-lengths = omega (arith, length-append pieces (octets ∷ []), length-append frames (frame ∷ []), s.lengths)

  more-spoken : sample_octets (samples ++ more) ≡ flat_map whole_piece (pieces ++ octets ∷ [])
  more-spoken = octets-more samples more ∙ ap (λ (l : List ℕ). l ++ sample_octets more) s.spoken ∙ ap (λ (l : List ℕ). flat_map whole_piece pieces ++ l) piece.spoken ∙ sym (pieces-more pieces octets)

  more-cut : CutFrom input left' (pieces ++ octets ∷ [])
  more-cut = CutFrom-more input left left' pieces octets more s.cut piece

  pub encoding-more : Appends given given' frame → Encoding (count + 1) encoder' input left' before given' (pieces ++ octets ∷ []) (frames ++ frame ∷ []) (fields ++ p ∷ []) (samples ++ more)
  encoding-more gave = record {
    whole = whole-more frames frame s.whole is;
    few = more-few;
    counted = omega (arith, s.counted, length-append pieces (octets ∷ []));
    lengths = more-lengths;
    spelled = spelled-more frames fields frame p s.spelled spells within;
    encodes = encodes;
    spoken = more-spoken;
    cut = more-cut;
    given = subst (Appends before given') (sym (coded-more frames frame)) (Appends-trans before given given' (coded frames) frame s.given gave);
  }

  pub encoding-broken : AppendsPart given given' frame → HasEncoded (Err WriteFault) input before given' (pieces ++ octets ∷ []) (frames ++ frame ∷ [])
  encoding-broken gave = record {
    encoded = record {
      samples = samples ++ more;
      fields = fields ++ p ∷ [];
      spoken = more-spoken;
      speech = encodes.speech;
      whole = whole-more frames frame s.whole is;
      spelled = spelled-more frames fields frame p s.spelled spells within;
      count = more-lengths;
      few = more-few;
    };
    text = begins input left' (pieces ++ octets ∷ []) (λ rest. Unit {0}) more-cut (nothing-said left');
    limited = tt;
    given = subst (AppendsPart before given') (sym (coded-more frames frame)) (AppendsPart-after before given given' (coded frames) frame s.given gave);
    counted = tt;
  }

-- nothing but no piece is cut off no octets
none-left : (pieces : List (List ℕ)) (rest : List ℕ) → CutsOff [] pieces rest → rest ≡ []
none-left [] rest cut = sym cut
none-left (p ∷ ps) rest (more, is, some, most, ended, cut) = absurd (omega (arith, some, ap length is, length-append p more))

-- where something is left, each piece is whole
pub long : (octets : List ℕ) (pieces : List (List ℕ)) (rest : List ℕ) → CutsOff octets pieces rest → rest ≢ [] → 320 * length pieces < length octets
long octets [] [] cut left = absurd (left refl)
long octets [] (x ∷ rest) cut left = omega (arith, ap length cut)
long octets (p ∷ ps) rest (more, is, some, most, ended, cut) left = elim (cases_lt (length p) 320) [
  | inl short ↦ absurd (left (none-left ps rest (subst (λ (l : List ℕ). CutsOff l ps rest) (ended short) cut)))
  | inr full ↦ omega (arith, long more ps rest cut left, ap length is, length-append p more, full)
]

-- What the loop over frames does.
use Rattle.std.specs.Prelude.{ℕ, ◌≡◌, List, [], ◌∷◌, ◌++◌, length, take, ℤ, Option, Some, Result, Ok, Err, IfSome}
use Rattle.std.specs.Io.KnownBytes.{Appends}
use Rattle.gate_io.specs.Flow.{AppendsPart, Gives}
use Rattle.frame_codec.specs.Frame.{Fields, IsWithinWidths, Spells}
use Rattle.fr_decoder.specs.Decoding.{Decodes, Kept}
use Rattle.speech_files.specs.Decode.{BeginsWith, IsDecoded, frame_fault}
use Rattle.substitution.specs.Heard.{sample_octets}
use Rattle.gate_notes.specs.declared.stop.Stop.{Stop}
use Rattle.gate_notes.specs.declared.stop.Stop.TheVariants.{Refused, ReadFault, WriteFault}

-- a decoder has gone on by these fields, and this is their speech
abbrev pub DecodesNext : Kept → Kept → Fields → List ℤ → Type 0
DecodesNext old new p speech = (frames : List Fields) (samples : List ℤ) → Decodes frames samples old → Decodes (frames ++ p ∷ []) (samples ++ speech) new

-- a frame was decoded, and its speech was given, or a prefix of it where the give failed
abbrev pub GivesSpeechOf : {T E : Type 0} → List ℕ → Kept → Kept → Option (List ℕ) → Option (List ℕ) → Result T E → Type 0
GivesSpeechOf frame old new before now result =
    (p : Fields) × (speech : List ℤ) × Spells frame p × IsWithinWidths p × DecodesNext old new p speech × Gives before now result (sample_octets speech)

-- what stands after this many frames, by how the loop ended
abbrev pub FollowsFrames : Result ℕ Stop → ℕ → List ℕ → Type 0
FollowsFrames (Ok n) count rest = rest ≡ []
FollowsFrames (Err (Refused f)) count rest = frame_fault count (take 33 rest) ≡ Some f
FollowsFrames (Err ReadFault) count rest = Unit {0}
FollowsFrames (Err WriteFault) count rest = Unit {0}

-- what the output has of the speech: all of it, and where a give failed a prefix
abbrev pub HasSpeech : Result ℕ Stop → Option (List ℕ) → Option (List ℕ) → List ℕ → Type 0
HasSpeech (Ok n) before now text = Appends before now text
HasSpeech (Err (Refused f)) before now text = Appends before now text
HasSpeech (Err ReadFault) before now text = Appends before now text
HasSpeech (Err WriteFault) before now text = AppendsPart before now text

-- at the end of the input the frames are counted
abbrev pub IsCounted : Result ℕ Stop → ℕ → Type 0
IsCounted (Ok n) count = n ≡ count
IsCounted (Err stop) count = Unit {0}

-- the frames were read and decoded, and their speech was given
pub record HasDecoded (result : Result ℕ Stop) (input before now : Option (List ℕ)) (frames : List (List ℕ)) (samples : List ℤ) : Type 0 where
  pub decoded : IsDecoded frames samples
  pub text : IfSome input (BeginsWith frames (FollowsFrames result (length frames)))
  pub given : HasSpeech result before now (sample_octets samples)
  pub counted : IsCounted result (length frames)

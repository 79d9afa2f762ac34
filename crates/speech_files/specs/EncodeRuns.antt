-- What the loop over pieces does.
use Rattle.std.specs.Prelude.{ℕ, ◌≡◌, ◌≢◌, List, [], length, ℤ, Option, Result, Ok, Err, IfSome}
use Rattle.gate_io.specs.Flow.{Gives}
use Rattle.frame_codec.specs.Frame.{Fields, IsWithinWidths, Spells}
use Rattle.frame_codec.specs.Octets.{IsFrame}
use Rattle.fr_encoder.specs.Coding.{Held}
use Rattle.player.specs.Returning.{EncodesNext}
use Rattle.recorder.specs.declared.fault.RecordFault.TheVariants.{TooLong}
use Rattle.speech_files.specs.Decode.{coded, frame_limit}
use Rattle.speech_files.specs.DecodeRuns.{HasSpeech, IsCounted}
use Rattle.speech_files.specs.Encode.{Begins, IsEncoded}
use Rattle.gate_notes.specs.declared.stop.Stop.{Stop}
use Rattle.gate_notes.specs.declared.stop.Stop.TheVariants.{Refused, ReadFault, WriteFault}

-- samples were coded, and their frame was given, or a prefix of it where the give failed
abbrev pub GivesFrameOf : {T E : Type 0} → List ℤ → Held → Held → Option (List ℕ) → Option (List ℕ) → Result T E → Type 0
GivesFrameOf samples old new before now result =
    (frame : List ℕ) × (p : Fields) × IsFrame frame × Spells frame p × IsWithinWidths p × EncodesNext old new samples p × Gives before now result frame

-- what stands after the pieces, by how the loop ended
abbrev pub FollowsPieces : Result ℕ Stop → List ℕ → Type 0
FollowsPieces (Ok n) rest = rest ≡ []
FollowsPieces (Err (Refused f)) rest = rest ≢ []
FollowsPieces (Err ReadFault) rest = Unit {0}
FollowsPieces (Err WriteFault) rest = Unit {0}

-- pieces are refused for their number alone
abbrev pub IsLimited : Result ℕ Stop → ℕ → Type 0
IsLimited (Ok n) count = Unit {0}
IsLimited (Err (Refused f)) count = (f ≡ TooLong) × (count ≡ frame_limit)
IsLimited (Err ReadFault) count = Unit {0}
IsLimited (Err WriteFault) count = Unit {0}

-- the pieces were read and coded, and their frames were given
pub record HasEncoded (result : Result ℕ Stop) (input before now : Option (List ℕ)) (pieces frames : List (List ℕ)) : Type 0 where
  pub encoded : IsEncoded pieces frames
  pub text : IfSome input (Begins pieces (FollowsPieces result))
  pub limited : IsLimited result (length pieces)
  pub given : HasSpeech result before now (coded frames)
  pub counted : IsCounted result (length frames)

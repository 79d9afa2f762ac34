-- What `encode` does: speech becomes coded frames.
use Rattle.std.specs.Prelude.{◌⊎◌, ℕ, ◌≡◌, ◌≢◌, ◌≤◌, ◌*◌, List, [], length, ℤ, Option, Some, IfSome, flat_map}
use Rattle.std.specs.List.{AllByRecursion}
use Rattle.frame_codec.specs.Frame.{Fields}
use Rattle.frame_codec.specs.Octets.{IsFrame}
use Rattle.fr_encoder.specs.Coding.{IsCoded}
use Rattle.player.specs.Pieces.{CutsOff, whole_piece}
use Rattle.substitution.specs.Heard.{sample_octets}
use Rattle.recorder.specs.declared.fault.RecordFault.TheVariants.{TooLong}
use Rattle.speech_files.specs.Decode.{AreSpelled, coded, frame_limit}
use Rattle.gate_notes.specs.Exchange.{Exchange, Gave, GavePart, Noted, NotedPart, NotedUnlessFault}
use Rattle.gate_notes.specs.Notes.{fault_line, frames_line}
use Rattle.gate_notes.specs.declared.status.Status.{Status}
use Rattle.gate_notes.specs.declared.status.Status.TheVariants.{Done, Illegal, Usage, Input, ReadFault, WriteFault, LinkFault, OutOfMemory}

-- each frame is the coded speech of the piece at its place, after those before it; the last piece is filled with zeros
pub record IsEncoded (pieces frames : List (List ℕ)) : Type 0 where
  pub samples : List ℤ
  pub fields : List Fields
  pub spoken : sample_octets samples ≡ flat_map whole_piece pieces
  pub speech : IsCoded samples fields
  pub whole : AllByRecursion IsFrame frames
  pub spelled : AreSpelled frames fields
  pub count : length frames ≡ length pieces
  pub few : length pieces ≤ frame_limit

-- the octets begin with these pieces, and go on with octets of which P holds
abbrev pub Begins : List (List ℕ) → (List ℕ → Type 0) → List ℕ → Type 0
Begins pieces P octets = (rest : List ℕ) × CutsOff octets pieces rest × P rest

-- what stands after this many pieces, where the command ended so
abbrev pub Encoded : Exchange → Type 0
Encoded x = (pieces frames : List (List ℕ)) × IsEncoded pieces frames × IfSome x.input (Begins pieces (λ rest. rest ≡ []))
    × Gave x (coded frames) × Noted x (frames_line (length frames))

-- there are too many pieces; the output has the frames of those before
abbrev pub Refused : Exchange → Type 0
Refused x = (pieces frames : List (List ℕ)) × IsEncoded pieces frames × (length pieces ≡ frame_limit) × IfSome x.input (Begins pieces (λ rest. rest ≢ []))
    × Gave x (coded frames) × NotedUnlessFault x (fault_line 0 TooLong)

-- a read failed after some pieces
abbrev pub Stopped : Exchange → Type 0
Stopped x = (pieces frames : List (List ℕ)) × IsEncoded pieces frames × IfSome x.input (Begins pieces (λ rest. Unit {0}))
    × Gave x (coded frames) × Noted x []

-- A give failed: one of some pieces' frames, of which the output has a prefix, and nothing is noted; or that of the count after the
-- input's end, and the output has all of the frames.
abbrev pub Broken : Exchange → Type 0
Broken x = (pieces frames : List (List ℕ)) × IsEncoded pieces frames
    × ((IfSome x.input (Begins pieces (λ rest. Unit {0})) × GavePart x (coded frames) × Noted x [])
    ⊎ (IfSome x.input (Begins pieces (λ rest. rest ≡ [])) × Gave x (coded frames) × NotedPart x (frames_line (length frames))))

-- what each status says
abbrev pub Ends : Status → Exchange → Type 0
Ends Done x = Encoded x
Ends Input x = Refused x
Ends ReadFault x = Stopped x
Ends WriteFault x = Broken x
Ends OutOfMemory x = ⊥
Ends Usage x = ⊥
Ends Illegal x = ⊥
Ends LinkFault x = ⊥

-- where the input is not too long and none of the objects failed, the command reaches its end
abbrev pub Completes : Status → Option (List ℕ) → Type 0 → Type 0
Completes status input failed = (octets : List ℕ) → input ≡ Some octets → length octets ≤ 320 * frame_limit → ¬ failed → status ≡ Done

-- What `decode` does: coded frames become speech.
use Rattle.std.specs.Prelude.{◌⊎◌, ℕ, ◌≡◌, ◌≤◌, ◌+◌, ◌*◌, ◌/◌, ◌==◌, List, [], ◌∷◌, ◌++◌, length, take, ℤ, Option, Some, None, IfSome, nat_le, nat_lt, if◌then◌else◌}
use Rattle.std.specs.List.{flat_map, AllByRecursion}
use Rattle.frame_codec.specs.Frame.{Fields, IsWithinWidths, Spells}
use Rattle.frame_codec.specs.Octets.{IsFrame}
use Rattle.fr_decoder.specs.Speech.{IsSpeech}
use Rattle.recorder.specs.declared.fault.RecordFault.{RecordFault}
use Rattle.recorder.specs.declared.fault.RecordFault.TheVariants.{Cut, Field, TooLong}
use Rattle.gate_notes.specs.Exchange.{Exchange, Gave, GavePart, Noted, NotedPart, NotedUnlessFault}
use Rattle.gate_notes.specs.Notes.{fault_line, frames_line}
use Rattle.substitution.specs.Heard.{sample_octets}
use Rattle.gate_notes.specs.declared.status.Status.{Status}
use Rattle.gate_notes.specs.declared.status.Status.TheVariants.{Done, Illegal, Usage, Input, ReadFault, WriteFault, LinkFault, OutOfMemory}

-- this many frames a run takes at most
abbrev pub frame_limit : ℕ
frame_limit = 16777216

-- the octets of frames, one after another
abbrev pub coded : List (List ℕ) → List ℕ
coded frames = flat_map (λ (frame : List ℕ). frame) frames

-- the fault that stands after this many frames, where these octets follow, 33 of them at most
abbrev pub frame_fault : ℕ → List ℕ → Option RecordFault
frame_fault count [] = None
frame_fault count (octet ∷ octets) =
    if nat_le frame_limit count then Some TooLong
    else if nat_lt (length (octet ∷ octets)) 33 then Some (Cut (33 * count + length (octet ∷ octets)))
    else if octet / 16 == 13 then None
    else Some (Field (33 * count))

-- each frame spells the fields at its place
abbrev pub AreSpelled : List (List ℕ) → List Fields → Type 0
AreSpelled [] [] = Unit {0}
AreSpelled (frame ∷ frames) (p ∷ ps) = Spells frame p × IsWithinWidths p × AreSpelled frames ps
AreSpelled [] (p ∷ ps) = ⊥
AreSpelled (frame ∷ frames) [] = ⊥

-- frames, the fields that they spell, and the decoded speech of these
pub record IsDecoded (frames : List (List ℕ)) (samples : List ℤ) : Type 0 where
  pub fields : List Fields
  pub whole : AllByRecursion IsFrame frames
  pub few : length frames ≤ frame_limit
  pub spelled : AreSpelled frames fields
  pub speech : IsSpeech fields samples

-- the octets begin with these frames, and go on with octets of which P holds
abbrev pub BeginsWith : List (List ℕ) → (List ℕ → Type 0) → List ℕ → Type 0
BeginsWith frames P octets = (rest : List ℕ) × (octets ≡ coded frames ++ rest) × P rest

-- the input is frames and nothing more; the output has their speech
abbrev pub Decoded : Exchange → Type 0
Decoded x = (frames : List (List ℕ)) × (samples : List ℤ) × IsDecoded frames samples
    × IfSome x.input (BeginsWith frames (λ rest. rest ≡ []))
    × Gave x (sample_octets samples) × Noted x (frames_line (length frames))

-- after some frames the input has this fault; the output has the speech of the frames
abbrev pub Refused : Exchange → Type 0
Refused x = (f : RecordFault) × (frames : List (List ℕ)) × (samples : List ℤ) × IsDecoded frames samples
    × IfSome x.input (BeginsWith frames (λ rest. frame_fault (length frames) (take 33 rest) ≡ Some f))
    × Gave x (sample_octets samples) × NotedUnlessFault x (fault_line 0 f)

-- a read failed after some frames
abbrev pub Stopped : Exchange → Type 0
Stopped x = (frames : List (List ℕ)) × (samples : List ℤ) × IsDecoded frames samples
    × IfSome x.input (BeginsWith frames (λ rest. Unit {0}))
    × Gave x (sample_octets samples) × Noted x []

-- A give failed: one of some frames' speech, of which the output has a prefix, and nothing is noted; or that of the count after the
-- input's end, and the output has all of the speech.
abbrev pub Broken : Exchange → Type 0
Broken x = (frames : List (List ℕ)) × (samples : List ℤ) × IsDecoded frames samples
    × ((IfSome x.input (BeginsWith frames (λ rest. Unit {0})) × GavePart x (sample_octets samples) × Noted x [])
    ⊎ (IfSome x.input (BeginsWith frames (λ rest. rest ≡ [])) × Gave x (sample_octets samples) × NotedPart x (frames_line (length frames))))

-- what each status says
abbrev pub Ends : Status → Exchange → Type 0
Ends Done x = Decoded x
Ends Input x = Refused x
Ends ReadFault x = Stopped x
Ends WriteFault x = Broken x
Ends OutOfMemory x = ⊥
Ends Usage x = ⊥
Ends Illegal x = ⊥
Ends LinkFault x = ⊥

-- where the input is whole frames, not too many, and none of the objects failed, the command reaches its end
abbrev pub Completes : Status → Option (List ℕ) → Type 0 → Type 0
Completes status input failed = (frames : List (List ℕ)) → input ≡ Some (coded frames) → AllByRecursion IsFrame frames → length frames ≤ frame_limit → ¬ failed → status ≡ Done

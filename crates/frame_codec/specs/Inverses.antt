-- Packing and unpacking give each other's argument back.
use Rattle.std.specs.Prelude.{◌≡◌, ℕ, List}
use Rattle.frame_codec.specs.Octets.{IsFrame}
use Rattle.frame_codec.specs.Frame.{Fields, IsWithinWidths, Spells}

-- a frame is packed of the fields that it was unpacked to: two frames that spell the same fields are the same
abbrev pub FramesAreOne : Type 0
FramesAreOne = (octets again : List ℕ) (p : Fields) → IsFrame octets → IsFrame again → Spells octets p → Spells again p → again ≡ octets

-- fields are unpacked of the frame that they were packed to: fields within their widths that the same octets spell are the same
abbrev pub FieldsAreOne : Type 0
FieldsAreOne = (octets : List ℕ) (p again : Fields) → IsWithinWidths p → IsWithinWidths again → Spells octets p → Spells octets again → again ≡ p

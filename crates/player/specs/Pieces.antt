-- Speech that is read in pieces of 20 ms.
use Rattle.std.specs.Prelude.{ℕ, ◌≡◌, ◌-◌, ◌<◌, ◌≤◌, List, [], ◌∷◌, ◌++◌, length, replicate, ℤ, Option, Some, None, Result, Ok, Err}
use Rattle.std.specs.Io.KnownBytes.{Consumes, IsAtEnd}
use Rattle.gate_io.specs.Flow.{ConsumesFewer}
use Rattle.substitution.specs.Heard.{sample_octets}

-- the octets of a piece: 320, where fewer came zeros after them
abbrev pub whole_piece : List ℕ → List ℕ
whole_piece octets = octets ++ replicate (320 - length octets) 0

-- these octets were taken, fewer than a piece only at the end of the input, and the samples are those of the whole piece
pub record IsPiece (old new : Option (List ℕ)) (octets : List ℕ) (samples : List ℤ) : Type 0 where
  pub some : 0 < length octets
  pub most : length octets ≤ 320
  pub taken : Consumes old new octets
  pub ended : length octets < 320 → IsAtEnd new
  pub spoken : sample_octets samples ≡ whole_piece octets

-- the next piece came, or nothing is left; or the read failed, and what was taken is lost
abbrev pub TakesPiece : {E : Type 0} → Option (List ℕ) → Option (List ℕ) → Result (Option (List ℤ)) E → Type 0
TakesPiece old new (Ok (Some samples)) = (octets : List ℕ) × IsPiece old new octets samples
TakesPiece old new (Ok None) = Consumes old new [] × IsAtEnd new
TakesPiece old new (Err e) = ConsumesFewer 320 old new

-- the pieces are cut off the octets one after the other, fewer than 320 octets only where nothing follows, and so much is left
abbrev pub CutsOff : List ℕ → List (List ℕ) → List ℕ → Type 0
CutsOff octets [] rest = octets ≡ rest
CutsOff octets (piece ∷ pieces) rest =
    (more : List ℕ) × (octets ≡ piece ++ more) × (0 < length piece) × (length piece ≤ 320) × (length piece < 320 → more ≡ []) × CutsOff more pieces rest

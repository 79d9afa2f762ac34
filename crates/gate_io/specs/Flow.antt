-- What a call does to the octets of a source or a sink, where it tells them.
use Rattle.std.specs.Prelude.{ℕ, ◌<◌, List, length, take, Option, Result, MatchResult, IfOk}
use Rattle.std.specs.Io.KnownBytes.{Appends, Consumes, IsAtEnd}

-- known octets grow by a prefix of bs
abbrev pub AppendsPart : Option (List ℕ) → Option (List ℕ) → List ℕ → Type 0
AppendsPart old new bs = (k : ℕ) × Appends old new (take k bs)

-- known octets grow by all of bs, or by a prefix of it where the call fails
abbrev pub Gives : {T E : Type 0} → Option (List ℕ) → Option (List ℕ) → Result T E → List ℕ → Type 0
Gives old new result bs = MatchResult result (λ _. Appends old new bs) (λ _. AppendsPart old new bs)

-- fewer than n known octets were taken from the beginning
abbrev pub ConsumesFewer : ℕ → Option (List ℕ) → Option (List ℕ) → Type 0
ConsumesFewer n old new = (bs : List ℕ) × (length bs < n) × Consumes old new bs

-- the first n octets of the piece were taken from the beginning, fewer than all only where nothing is left
abbrev pub Fills : {E : Type 0} → Option (List ℕ) → Option (List ℕ) → Result ℕ E → List ℕ → Type 0
Fills old new result piece = IfOk result (λ n. Consumes old new (take n piece) × (n < length piece → IsAtEnd new))

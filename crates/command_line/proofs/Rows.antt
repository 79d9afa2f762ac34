-- What is found under names, and how it is looked up.
use Rattle.std.proofs.Common.{◌≡◌, ◌||◌, cond, Bool, true, false, List, [], ◌∷◌, ◌++◌, Option, Some, None, refl, ap}
use Rattle.std.specs.Prelude.{find}
use Rattle.std.specs.Str.{bytes_eq}
use Rattle.clap.specs.Walk.{Row, Text, has_row}
use Rattle.clap.specs.declared.builder.value_parser.Reading.TheVariants as reading
use Rattle.clap.specs.declared.parser.matches.ValueSource.TheVariants.{CommandLine, DefaultValue}

-- what the words gave a name
abbrev pub row : Text → List Text → Row
row name values = record { id = name; values = values; count = None; source = Some CommandLine; reading = reading.AsWritten }

abbrev pub option_rows : List (Text × Text) → List Row
option_rows [] = []
option_rows (o ∷ os) = row o.0 (o.1 ∷ []) ∷ option_rows os

-- what a default gave a name
abbrev pub default_row : Text → List Text → Row
default_row name values = record { id = name; values = values; count = None; source = Some DefaultValue; reading = reading.AsWritten }

-- a name that has no row is found behind the rows
pub find_new : (name : Text) (rows more : List Row) → has_row name rows ≡ false → find (λ (r : Row). bytes_eq r.id name) (rows ++ more) ≡ find (λ (r : Row). bytes_eq r.id name) more
find_new name [] more h = refl
find_new name (r ∷ rs) more h = go (find_new name rs more) (bytes_eq r.id name) h
  where
    go : (has_row name rs ≡ false → find (λ (x : Row). bytes_eq x.id name) (rs ++ more) ≡ find (λ (x : Row). bytes_eq x.id name) more) → (b : Bool) → (b || has_row name rs) ≡ false
        → cond b (Some r) (find (λ (x : Row). bytes_eq x.id name) (rs ++ more)) ≡ find (λ (x : Row). bytes_eq x.id name) more
    go next true e = cc
    go next false e = next e

-- a row of another name is not found
pub find_other : (name : Text) (rows : List Row) (last : Row) → bytes_eq last.id name ≡ false → find (λ (r : Row). bytes_eq r.id name) (rows ++ last ∷ []) ≡ find (λ (r : Row). bytes_eq r.id name) rows
find_other name [] last other = ap (λ (b : Bool). cond b (Some last) None) other
find_other name (r ∷ rs) last other = ap (λ (o : Option Row). cond (bytes_eq r.id name) (Some r) o) (find_other name rs last other)

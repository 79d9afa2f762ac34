-- A generator of random words by what it draws next.
use Rattle.std.specs.Prelude.{ℕ, List}

-- the eight words of the key, and the place of the next word
pub record Drawn : Type 0 where
  pub key : List ℕ
  pub place : ℕ

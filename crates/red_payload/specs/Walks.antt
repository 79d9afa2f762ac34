-- The blocks that are left of a payload, by the rest of its headers and the rest of their octets.
use Rattle.std.specs.Prelude.{◌≡◌, ℕ, ◌≤◌, ◌&&◌, Bool, List, [], ◌∷◌, length, slice_index, nat_lt, nat_le, Option, Some, None}
use Rattle.red_payload.specs.Blocks.{Heads, Block, headers, blocks_from, total}

abbrev pub blocks_with : Option Heads → List ℕ → List Block
blocks_with None octets = []
blocks_with (Some h) octets = blocks_from h.older h.primary octets

-- what is behind the headers decides nothing here
abbrev pub blocks_left : List ℕ → List ℕ → List Block
blocks_left heads octets = blocks_with (headers heads) octets

-- no header is left, or the headers end and the older blocks fit
abbrev pub AreLeft : List ℕ → List ℕ → Type 0
AreLeft [] octets = Unit {0}
AreLeft (a ∷ more) octets = (h : Heads) × (headers (a ∷ more) ≡ Some h) × (total h.older ≤ length octets)

-- the header at the front is an older block's
abbrev pub is_older : List ℕ → Bool
is_older heads = nat_lt 0 (length heads) && nat_le 128 (slice_index heads 0)

-- so many blocks are left
pub record IsSplit (heads octets : List ℕ) (count : ℕ) : Type 0 where
  pub left : AreLeft heads octets
  pub blocks : count ≡ length (blocks_left heads octets)
  pub few : count ≤ 512

-- Blocks by their places.
use Rattle.std.proofs.Common.{◌≡◌, ℕ, zero, suc, ◌+◌, ◌*◌, ◌<◌, List, length, slice_get, Some, refl, ap, ◌∙◌, arith}
use Rattle.rtcp_stats.specs.Reports.{blocks_from, block_at}

pub length-blocks : (n : ℕ) (d : List ℕ) (at : ℕ) → length (blocks_from n d at) ≡ n
length-blocks zero d at = refl
length-blocks (suc n) d at = ap suc (length-blocks n d (at + 24))

pub block-of : (n : ℕ) (d : List ℕ) (at i : ℕ) → i < n → slice_get (blocks_from n d at) i ≡ Some (block_at d (at + 24 * i))
block-of zero d at i below = absurd (omega arith)
block-of (suc n) d at zero below = ap (λ (k : ℕ). Some (block_at d k)) (plain at)
  where
    plain : (at : ℕ) → at ≡ at + 24 * 0
    plain at = omega arith
block-of (suc n) d at (suc i) below = block-of n d (at + 24) i (omega arith) ∙ ap (λ (k : ℕ). Some (block_at d k)) (next at i)
  where
    next : (at i : ℕ) → at + 24 + 24 * i ≡ at + 24 * suc i
    next at i = omega arith

-- The source word and the base word, read back.
use Rattle.std.proofs.Common.{◌≡◌, ℕ, ◌-◌, eq-eqb, ne_eqb, Option, Some, None, Bool, cond, ap, ◌∙◌, arith}
use Rattle.ring_core.specs.Ring.{word_of}
use Rattle.ring_core.specs.Core.{held_in}

-- what is read of a word is what is held
pub held_is : (o : Option ℕ) (word : ℕ) → word ≡ word_of o → held_in word ≡ o
held_is None word is = ap (λ (b : Bool). cond b None (Some (word - 4294967296))) (eq-eqb word 0 is)
held_is (Some x) word is =
    ap (λ (b : Bool). cond b None (Some (word - 4294967296))) (ne_eqb word 0 (λ e. omega arith)) ∙ ap Some (let h : word - 4294967296 ≡ x = omega arith in h)

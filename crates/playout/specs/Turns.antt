-- Numbers that share a slot: those of one remainder by the number of slots.
use Rattle.std.proofs.Common.{◌≡◌, ℕ, ◌+◌, ◌*◌, ◌/◌, ◌%◌, ◌<◌, ◌≤◌, inl, inr, arith}
use Rattle.std.proofs.Math.Nat.{add-mul, div-add-mod', mul-le-mul_right}
use Rattle.std.proofs.lemmas.Bool.{cases_lt}

-- two numbers of one remainder, of which one is greater, are a turn apart
pub turn_apart : (a b r : ℕ) → a < b → a % r ≡ b % r → a + r ≤ b
turn_apart a b r lt e =
    let one : a / r * r + a % r ≡ a = div-add-mod' a r in
    let two : b / r * r + b % r ≡ b = div-add-mod' b r in
    let apart : a / r * r < b / r * r = omega arith in
    elim (cases_lt (a / r) (b / r)) [
      | inl up ↦
          let next : a / r + 1 ≤ b / r = omega arith in
          let turns : (a / r + 1) * r ≤ b / r * r = mul-le-mul_right r next in
          let more : (a / r + 1) * r ≡ a / r * r + 1 * r = add-mul (a / r) 1 r in
          omega (arith, turns, more, one, two, e)
      | inr down ↦
          let turns : b / r * r ≤ a / r * r = mul-le-mul_right r down in
          absurd (omega (arith, turns, apart))
    ]

-- two numbers of one remainder, less than a turn apart, are one
pub one_turn : (a b r : ℕ) → a ≤ b → b < a + r → a % r ≡ b % r → a ≡ b
one_turn a b r low near same = elim (cases_lt a b) [ inl above ↦ absurd (omega (arith, turn_apart a b r above same)) | inr equal ↦ omega arith ]

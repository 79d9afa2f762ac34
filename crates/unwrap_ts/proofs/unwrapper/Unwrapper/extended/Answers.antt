use Rattle.std.proofs.Common.{◌≡◌, ◌^◌, pos, ℤ, ◌+ℤ◌, ◌-ℤ◌, ap, ◌∙◌, arith, to_z, of_z, w64}
use Rattle.std.proofs.lemmas.Int.{ints}
use Rattle.std.specs.Int.{int_rem_euclid}
use Rattle.unwrap_ts.proofs.unwrapper.Unwrapper.extended.Goals as goal

pub returns-clause-value : goal.returns-clause-value
returns-clause-value c =
    let r = c.rem_euclid.result in
    let ref = c.self.inside.reference in
    let rest : r ≡ int_rem_euclid (((pos c.args.ts -ℤ pos c.self.inside.base) -ℤ ref) +ℤ pos (2 ^ 31)) (pos (2 ^ 32)) =
    c.rem_euclid.ensures.value ∙ ap (λ (z : ℤ). int_rem_euclid z (pos (2 ^ 32))) (omega (arith, ints)) in
    let plain : to_z w64 (of_z w64 (to_z w64 (of_z w64 (to_z w64 (of_z w64 ref) +ℤ to_z w64 (of_z w64 r))) -ℤ pos 2147483648)) ≡ (ref +ℤ r) -ℤ pos (2 ^ 31) = omega (arith, ints) in
    rw (← c.self.view_is) (plain ∙ ap (λ (z : ℤ). (ref +ℤ z) -ℤ pos (2 ^ 31)) rest)

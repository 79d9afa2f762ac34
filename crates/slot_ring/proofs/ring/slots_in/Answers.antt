use Rattle.std.proofs.Common.{◌≡◌, ◌*◌, ◌%◌, ◌^◌, ◌≤◌, arith}
use Rattle.std.proofs.lemmas.Nat.{one_shl, pow_pos}
use Rattle.std.proofs.Math.Nat.{pow-le-pow_right}
use Rattle.slot_ring.proofs.ring.slots_in.Goals as goal

pub returns-clause-few : goal.returns-clause-few
returns-clause-few c =
    let is : 1 * 2 ^ c.args.g % 4294967296 ≡ 2 ^ c.args.g = one_shl c.args.g 32 (omega (arith, c.requires)) in
    let top : 2 ^ c.args.g ≤ 2 ^ 10 = pow-le-pow_right {n = 2} (omega arith) c.requires in
    omega (arith, is, top)

pub returns-clause-some : goal.returns-clause-some
returns-clause-some c =
    let is : 1 * 2 ^ c.args.g % 4294967296 ≡ 2 ^ c.args.g = one_shl c.args.g 32 (omega (arith, c.requires)) in
    omega (arith, is, pow_pos c.args.g)

use Rattle.std.proofs.Common.{◌^◌, ◌≤◌, arith}
use Rattle.std.proofs.lemmas.Nat.{one_shl, pow_pos}
use Rattle.std.proofs.Math.Nat.{pow-le-pow_right}
use Rattle.playout.proofs.map_line.slots_of.Goals as goal

pub returns : goal.returns
returns c =
    let is = one_shl c.args.g 64 (omega (arith, c.requires)) in
    let top : 2 ^ c.args.g ≤ 2 ^ 10 = pow-le-pow_right {n = 2} (omega arith) c.requires in
    record { value = is; some = omega (arith, is, pow_pos c.args.g); few = omega (arith, is, top) }

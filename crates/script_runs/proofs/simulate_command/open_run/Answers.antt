use Rattle.std.proofs.Common.{arith}
use Rattle.std.proofs.Math.Nat.{pow-le-pow_right}
use Rattle.script_runs.proofs.simulate_command.open_run.Goals as goal

pub new_filers-requires : goal.new_filers-requires
new_filers-requires c =
    let most = pow-le-pow_right {n = 2} (omega arith) c.head.invariant.g in
    omega (arith, c.head.invariant.delay, most)

use Rattle.std.proofs.Common.{ℕ, ◌≤◌, ◌-◌, ◌^◌, arith}
use Rattle.std.proofs.Math.Nat.{pow-le-pow_right}
use Rattle.line_run.proofs.plan.Plan.filer.Goals as goal

pub new-requires-clause-delay : goal.new-requires-clause-delay
new-requires-clause-delay c =
    let o = c.self.invariant.2 in
    let n : ℕ = 2 ^ c.self.inside.options.g in let few : n ≤ 2 ^ 10 = pow-le-pow_right {n = 2} (omega arith) o.ring in
    let low : c.self.inside.options.delay ≤ 2 ^ c.self.inside.options.g - 1 = o.delay in omega arith

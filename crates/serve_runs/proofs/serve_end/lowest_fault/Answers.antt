use Rattle.std.proofs.Common.{sym, ◌∙◌}
use Rattle.serve_runs.specs.Serve.{lowest_fault}
use Rattle.serve_runs.proofs.LinkLines.{found-fault, no-fault}
use Rattle.serve_runs.proofs.serve_end.lowest_fault.Goals as goal

pub returns-then-is_some : goal.returns-then-is_some
returns-then-is_some c =
    found-fault c.filers.k c.args.filers.now c.get.result.now c.get.ensures c.filer_fault-fault.result c.filer_fault-fault.ensures (sym c.is_some.ensures ∙ c.if-is_some.true) (lowest_fault c.args.filers.now) c.filers.invariant

pub filers-preserved : goal.filers-preserved
filers-preserved c =
    no-fault c.filers.k c.args.filers.now c.get.result.now c.get.ensures c.filer_fault-fault.result c.filer_fault-fault.ensures (sym c.is_some.ensures ∙ c.if-is_some.false) (lowest_fault c.args.filers.now) c.filers.invariant

use Rattle.line_run.proofs.Carried.{ran_over}
use Rattle.line_run.proofs.caller.run_over.Goals as goal

pub returns-clause-pass : goal.returns-clause-pass
returns-clause-pass g c = (ran_over _ _ _ _ _ _ _ _ _ _ _ _ _ c.new-side.ensures c.into_pass.ensures c.requires.list c.run-end.ensures.ran).same

pub returns-clause-ran : goal.returns-clause-ran
returns-clause-ran g c = (ran_over _ _ _ _ _ _ _ _ _ _ _ _ _ c.new-side.ensures c.into_pass.ensures c.requires.list c.run-end.ensures.ran).ran

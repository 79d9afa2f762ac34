use Rattle.std.proofs.Common.{arith, rules, FitsSigned, w16}
use Rattle.std.proofs.lemmas.Int.{to_z-of_z}
use Rattle.fixed_arith.specs.Signal.{at}
use Rattle.lar_filter.specs.Rising.{RisesTo}
use Rattle.lar_filter.proofs.RunLaws.{RunsInPlace-more, RunsInPlace-whole, Runs-join}
use Rattle.lar_filter.proofs.RisingTraceLaws.{RisesOver-from_run}
use Rattle.lar_filter.proofs.analysis.Analysis.run.Goals as goal

pub loop-sample-preserved : goal.loop-sample-preserved
loop-sample-preserved c =
    let y : FitsSigned w16 c.step.result = search rules in
    let x : FitsSigned w16 (at c.loop-sample.samples c.loop-sample.sample-index) = search rules in
    simp to_z-of_z (RunsInPlace-more RisesTo c.args.rp.now c.args.self.now c.args.samples.now c.loop-sample.samples c.loop-sample.u c.step.new.u c.step.result c.loop-sample.sample-index
    (search rules) (search rules) c.loop-sample.invariant (simp to_z-of_z at c.step.ensures))

pub returns-clause-run : goal.returns-clause-run
returns-clause-run c = RunsInPlace-whole RisesTo c.args.rp.now c.args.self.now c.args.samples.now c.loop-sample.samples c.loop-sample.u c.loop-sample.sample-index
    (omega arith) (search rules) c.loop-sample.invariant

pub returns-clause-goes_on : goal.returns-clause-goes_on
returns-clause-goes_on c = λ start inputs ys run. Runs-join RisesTo start inputs ys c.args.self.now _ _ _ run (returns-clause-run c)

pub returns-clause-equations : goal.returns-clause-equations
returns-clause-equations c = λ start inputs ys run. RisesOver-from_run start _ _ _ (returns-clause-goes_on c start inputs ys run)

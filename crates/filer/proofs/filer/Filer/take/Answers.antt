use Rattle.filer.proofs.Chains.{chained-append}
use Rattle.filer.proofs.RunsOn.{taken-more}
use Rattle.filer.proofs.filer.Filer.take.Goals as goal

pub returns-clause-goes_on : goal.returns-clause-goes_on
returns-clause-goes_on g c = λ k first ds os cs taken chained. (
  taken-more k ds os cs c.args.self.now (c.args.datagram.now, c.args.at) c.take_one.result c.take_one.new.self taken c.take_one.ensures.taken,
  chained-append g.S.FilerSide.did first c.args.side.now c.take_one.new.side cs _ chained c.take_one.ensures.calls,
)

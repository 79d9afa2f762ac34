use Rattle.std.proofs.Common.{rules, subst, arith}
use Rattle.line_run.specs.Callers.{CallerRan, Stands}
use Rattle.line_run.specs.Fan.{AtEach}
use Rattle.line_run.specs.Seen.{link_seen, sink_seen}
use Rattle.line_run.proofs.Halves.{each_front, each_back, joined, single}
use Rattle.line_run.proofs.Places.{first_at}
use Rattle.line_run.proofs.fan.+halves.Goals as goal

pub fan_out-run_one-requires : goal.fan_out-run_one-requires
fan_out-run_one-requires g t c = c.requires.stand 0 _ (first_at c.args.callers.now c.index-callers-0.result (omega (arith, c.if-count-eq1.true)))

pub fan_out-returns-then-count-eq1 : goal.fan_out-returns-then-count-eq1
fan_out-returns-then-count-eq1 g t c = single _ _ _ _ _ _ _ _ _ _ (search rules) (search rules) (search rules)
    (first_at c.args.callers.now c.index-callers-0.result (omega (arith, c.if-count-eq1.true)))
    (first_at c.args.links.now c.index-links-0.result (omega (arith, c.if-count-eq1.true, c.requires.links)))
    (first_at c.args.journals.now c.index-journals-0.result (omega (arith, c.if-count-eq1.true, c.requires.journals)))
    c.run_one.ensures

pub fan_out-both_halves-requires-clause-front : goal.fan_out-both_halves-requires-clause-front
fan_out-both_halves-requires-clause-front g t c κs within =
    let stand = Stands c.args.plan.now c.args.ring.now in let cut = c.split_at_mut-a in
    (search rules, search rules, each_front stand cut.result.0.now cut.result.1.now (subst (AtEach stand) cut.ensures.value c.requires.stand))

pub fan_out-both_halves-requires-clause-back : goal.fan_out-both_halves-requires-clause-back
fan_out-both_halves-requires-clause-back g t c κs within =
    let stand = Stands c.args.plan.now c.args.ring.now in let cut = c.split_at_mut-a in
    (search rules, search rules, each_back stand cut.result.0.now cut.result.1.now (subst (AtEach stand) cut.ensures.value c.requires.stand))

pub fan_out-returns : goal.fan_out-returns
fan_out-returns g t c =
    let a = c.split_at_mut-a in let p = c.split_at_mut-p in let j = c.split_at_mut-j in let new = c.both_halves.new in
    joined (CallerRan c.args.plan.now c.args.ring.now (link_seen g.P.Link) (sink_seen g.J.Sink) g.J.Sink.kin)
    c.args.callers.now a.result.0.now a.result.1.now c.args.links.now p.result.0.now p.result.1.now c.args.journals.now j.result.0.now j.result.1.now
    new.a new.b new.p new.q new.j new.k a.ensures.value p.ensures.value j.ensures.value (search rules) (search rules) c.both_halves.ensures.front c.both_halves.ensures.back

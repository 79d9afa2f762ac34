use Rattle.std.proofs.Common.{rules, ◌++◌, Option, ap, ◌∙◌}
use Rattle.std.specs.Prelude.{option_to_list}
use Rattle.line_run.specs.declared.caller.Caller.{Caller}
use Rattle.line_run.proofs.Leaving.{front_numbered, last_has, one_more, still_room}
use Rattle.line_run.proofs.gathering.gather_filers.Goals as goal

pub gather_caller-requires-clause-caller : goal.gather_caller-requires-clause-caller
gather_caller-requires-clause-caller g c =
    let e = c.pop.ensures.items ∙ ap (λ (o : Option Caller). c.pop.new.self.items ++ option_to_list o) c.in-Some.is in
    last_has c.args.ring.now c.loop-caller.callers.items c.pop.new.self.items c.in-Some.caller c.len.result e (search rules) c.loop-caller.invariant.numbered

pub loop-caller-preserved : goal.loop-caller-preserved
loop-caller-preserved g c =
    let e = c.pop.ensures.items ∙ ap (λ (o : Option Caller). c.pop.new.self.items ++ option_to_list o) c.in-Some.is in
    let ring = c.args.ring.now in let inv = c.loop-caller.invariant in
    let cs = c.loop-caller.callers.items in let xs = c.pop.new.self.items in let d = c.in-Some.caller in
    let before = c.loop-caller.gather.lists in let mid = c.gather_caller.new.gather.lists in let one = c.gather_caller.ensures.lists in
    record {
      numbered = front_numbered ring cs xs d e inv.numbered;
      ring = c.gather_caller.ensures.ring;
      room = still_room ring cs xs d before mid e inv.numbered inv.room one;
      goes_on = λ after h. inv.goes_on after (one_more ring cs xs d before mid after e inv.numbered inv.room one h);
    }

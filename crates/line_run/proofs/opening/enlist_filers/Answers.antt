use Rattle.std.proofs.Common.{rules, ◌∙◌}
use Rattle.line_run.proofs.Enlisting.{new_after, rights_after, stands}
use Rattle.line_run.proofs.opening.enlist_filers.Goals as goal

pub loop-who-preserved : goal.loop-who-preserved
loop-who-preserved g c =
    let inv = c.loop-who.invariant in let who = c.loop-who.who in let e = c.enlist_filer-pass.ensures in
    let new = stands c.args.plan.now c.args.ring.now c.newcomer.result c.enlist_filer-pass.result who c.newcomer.ensures.pass c.newcomer.ensures.number (e.ring ∙ search rules) e.who e.list (search rules) in
    let h = new_after c.args.plan.now c.args.ring.now c.loop-who.callers.items c.push.new.self.items who c.newcomer.result inv.new inv.many new c.newcomer.ensures.number (search rules) in
    record {
      ring = search rules;
      rights = rights_after who c.args.filers c.loop-who.blank.rights c.split-one.new.blank.rights inv.rights c.split-one.ensures.rights;
      new = h.0;
      many = h.1;
      low = search rules;
    }

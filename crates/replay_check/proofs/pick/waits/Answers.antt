use Rattle.replay_check.proofs.Denied.{waits-is}
use Rattle.replay_check.proofs.pick.waits.Goals as goal

pub returns-in-Accepted : goal.returns-in-Accepted
returns-in-Accepted c =
    waits-is c.args.line.now c.args.lists.now c.args.at.now c.args.player _ _ _ c.args.call.now c.denies.result c.requires.player c.requires.here c.in-FileCall.is c.in-Accepted.is c.denies.ensures

use Rattle.replay_check.proofs.Recordings.{are_journals, lists-short}
use Rattle.replay_check.proofs.replay.verify.Goals as goal

pub judge-requires-clause-journals : goal.judge-requires-clause-journals
judge-requires-clause-journals c =
    rw c.in_ok-lists.ensures.journals (are_journals c.deref.result.now c.args.player.now c.in_ok-lists.ensures.filers c.of.ensures.player)

pub judge-requires-clause-short : goal.judge-requires-clause-short
judge-requires-clause-short c =
    rw c.in_ok-lists.ensures.journals (lists-short c.deref.result.now c.args.player.now c.in_ok-lists.ensures.filers c.of.ensures.player)

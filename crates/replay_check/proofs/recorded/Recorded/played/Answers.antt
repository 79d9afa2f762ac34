use Rattle.std.proofs.Common.{◌∙◌, ap, arith, Some}
use Rattle.playout.specs.declared.call.Call.{Call}
use Rattle.replay_check.proofs.Recordings.{play-found}
use Rattle.replay_check.proofs.recorded.Recorded.played.Goals as goal

pub returns-then-place-len : goal.returns-then-place-len
returns-then-place-len c =
    rw (← c.self.view_is)
    (ap (λ (x : Call). Some x) c.play_of.ensures
    ∙ play-found c.self.inside.player.now.events c.args.place c.get.result.now (omega (arith, c.if-place-len.true, c.len.ensures.value)) c.get.ensures.value)

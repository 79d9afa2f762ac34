use Rattle.player.specs.Beats.{standing_of}
use Rattle.player.proofs.WholeRun.{whole-run}
use Rattle.player.proofs.player.Player.run.Goals as goal

pub returns-clause-told : goal.returns-clause-told
returns-clause-told g c = λ seed own sequence stamp most elastic starts.
    whole-run g.S.PlayerSide.did seed own sequence stamp most elastic (g.J.Sink.faults c.args.journal.now) (g.J.Sink.faults c.run_to_end.new.journal)
    (standing_of g.S.PlayerSide g.O.Sink g.J.Sink g.I.Source g.P.Link c.args.self.now c.args.side.now c.args.speaker.now c.args.journal.now c.args.microphone.now c.args.reply.now)
    (standing_of g.S.PlayerSide g.O.Sink g.J.Sink g.I.Source g.P.Link c.run_to_end.new.self c.run_to_end.new.side c.run_to_end.new.speaker c.run_to_end.new.journal c.run_to_end.new.microphone c.run_to_end.new.reply)
    starts c.run_to_end.result c.run_to_end.ensures.ran

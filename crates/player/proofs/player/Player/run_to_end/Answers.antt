use Rattle.std.proofs.Common.{inr, refl}
use Rattle.player.specs.Beats.{standing_of}
use Rattle.player.specs.declared.run.PlayerEnd.TheVariants.{SpeakerFault, MicFault, ReplyFault}
use Rattle.player.proofs.Running.{offered}
use Rattle.player.proofs.player.Player.run_to_end.Goals as goal

pub returns-in-Ok-clause-ran : goal.returns-in-Ok-clause-ran
returns-in-Ok-clause-ran g c = ((standing_of g.S.PlayerSide g.O.Sink g.J.Sink g.I.Source g.P.Link c.play_on.new.self c.play_on.new.side c.play_on.new.speaker c.play_on.new.journal c.play_on.new.microphone c.play_on.new.reply), c.in-Ended.ensures.stopped, refl, c.in-Ok.ensures.given)

pub returns-in-Err-clause-ran : goal.returns-in-Err-clause-ran
returns-in-Err-clause-ran g c = inr ((standing_of g.S.PlayerSide g.O.Sink g.J.Sink g.I.Source g.P.Link c.play_on.new.self c.play_on.new.side c.play_on.new.speaker c.play_on.new.journal c.play_on.new.microphone c.play_on.new.reply), c.in-Ended.ensures.stopped, refl, c.in-Err.ensures.given)

pub returns-in-SpeakerFault-clause-ran : goal.returns-in-SpeakerFault-clause-ran
returns-in-SpeakerFault-clause-ran g c =
    offered g.S.PlayerSide.did (g.J.Sink.faults c.args.journal.now) (g.J.Sink.faults c.play_on.new.journal) (g.J.Sink.faults c.write_end-offered.new.sink)
    (standing_of g.S.PlayerSide g.O.Sink g.J.Sink g.I.Source g.P.Link c.args.self.now c.args.side.now c.args.speaker.now c.args.journal.now c.args.microphone.now c.args.reply.now)
    (standing_of g.S.PlayerSide g.O.Sink g.J.Sink g.I.Source g.P.Link c.play_on.new.self c.play_on.new.side c.play_on.new.speaker c.play_on.new.journal c.play_on.new.microphone c.play_on.new.reply)
    (g.J.Sink.given c.write_end-offered.new.sink) c.write_end-offered.result SpeakerFault c.in-SpeakerFault.ensures.stopped c.write_end-offered.ensures.given c.in-SpeakerFault.ensures.journal_later c.write_end-offered.ensures.cause

pub returns-in-MicFault-clause-ran : goal.returns-in-MicFault-clause-ran
returns-in-MicFault-clause-ran g c =
    offered g.S.PlayerSide.did (g.J.Sink.faults c.args.journal.now) (g.J.Sink.faults c.play_on.new.journal) (g.J.Sink.faults c.write_end-offered-in-MicFault.new.sink)
    (standing_of g.S.PlayerSide g.O.Sink g.J.Sink g.I.Source g.P.Link c.args.self.now c.args.side.now c.args.speaker.now c.args.journal.now c.args.microphone.now c.args.reply.now)
    (standing_of g.S.PlayerSide g.O.Sink g.J.Sink g.I.Source g.P.Link c.play_on.new.self c.play_on.new.side c.play_on.new.speaker c.play_on.new.journal c.play_on.new.microphone c.play_on.new.reply)
    (g.J.Sink.given c.write_end-offered-in-MicFault.new.sink) c.write_end-offered-in-MicFault.result MicFault c.in-MicFault.ensures.stopped c.write_end-offered-in-MicFault.ensures.given c.in-MicFault.ensures.journal_later c.write_end-offered-in-MicFault.ensures.cause

pub returns-in-ReplyFault-clause-ran : goal.returns-in-ReplyFault-clause-ran
returns-in-ReplyFault-clause-ran g c =
    offered g.S.PlayerSide.did (g.J.Sink.faults c.args.journal.now) (g.J.Sink.faults c.play_on.new.journal) (g.J.Sink.faults c.write_end-offered-in-ReplyFault.new.sink)
    (standing_of g.S.PlayerSide g.O.Sink g.J.Sink g.I.Source g.P.Link c.args.self.now c.args.side.now c.args.speaker.now c.args.journal.now c.args.microphone.now c.args.reply.now)
    (standing_of g.S.PlayerSide g.O.Sink g.J.Sink g.I.Source g.P.Link c.play_on.new.self c.play_on.new.side c.play_on.new.speaker c.play_on.new.journal c.play_on.new.microphone c.play_on.new.reply)
    (g.J.Sink.given c.write_end-offered-in-ReplyFault.new.sink) c.write_end-offered-in-ReplyFault.result ReplyFault c.in-ReplyFault.ensures.stopped c.write_end-offered-in-ReplyFault.ensures.given c.in-ReplyFault.ensures.journal_later c.write_end-offered-in-ReplyFault.ensures.cause

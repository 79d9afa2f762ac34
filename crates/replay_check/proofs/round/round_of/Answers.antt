use Rattle.std.proofs.Common.{ap}
use Rattle.replay_check.specs.Drawn.{Drawn}
use Rattle.replay_check.proofs.Rounds.{event_is}
use Rattle.replay_check.proofs.round.round_of.Goals as goal

pub returns-clause-event : goal.returns-clause-event
returns-clause-event c =
    event_is c.args.words.now.key c.next-word.new.self.key c.args.filers c.args.round c.next-word.result c.args.words.now.place c.next-word.new.self.place c.number_of.result c.frame_of_words.result
    c.next-word.ensures.word c.requires.place c.number_of.ensures.value c.frame_of_words.ensures.text (ap (λ (d : Drawn). d.key) c.next-word.ensures.state) (ap (λ (d : Drawn). d.place) c.next-word.ensures.state)

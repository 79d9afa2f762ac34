use Rattle.substitution.proofs.VoiceLaws.{Voices-start}
use Rattle.substitution.proofs.voice.Voice.new.Goals as goal

pub returns : goal.returns
returns c = Voices-start c.args.seed c.new.result c.new-2.result c.new.ensures c.new-2.ensures

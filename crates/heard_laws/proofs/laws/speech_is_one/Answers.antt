use Rattle.heard_laws.proofs.OneSpeech.{one_speech}
use Rattle.heard_laws.proofs.laws.speech_is_one.Goals as goal

pub returns : goal.returns
returns c = one_speech

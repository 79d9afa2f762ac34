use Rattle.std.proofs.Common.{rules, ◌≡◌, length}
use Rattle.substitution.specs.Heard.{Sounding, Voices}
use Rattle.substitution.proofs.VoiceLaws.{Voices-nothing, Voices-speech}
use Rattle.substitution.proofs.voice.Voice.play.Goals as goal

pub returns-in-Nothing-clause-goes_on : goal.returns-in-Nothing-clause-goes_on
returns-in-Nothing-clause-goes_on c = λ seed items samples voices.
    let kept : Sounding = record { masker = c.self.inside.masker; decoder = c.self.inside.decoder } in
    let old : Voices seed items samples kept = rw (← c.self.view_is) at voices in
    Voices-nothing seed items samples c.be_silent.new.out kept c.args.item c.step.new.self old
    (c.in-Nothing.ensures.goes_on seed items old.heard.heard old.masks) c.be_silent.ensures

pub returns-in-Speech-clause-goes_on : goal.returns-in-Speech-clause-goes_on
returns-in-Speech-clause-goes_on c = λ seed items samples voices.
    let kept : Sounding = record { masker = c.self.inside.masker; decoder = c.self.inside.decoder } in
    let old : Voices seed items samples kept = rw (← c.self.view_is) at voices in
    let block : length c.decode.new.out ≡ 160 = search rules in
    Voices-speech seed items samples c.decode.new.out kept (record { masker = c.step.new.self; decoder = c.decode.new.self }) c.args.item c.in-Speech.params old
    (c.in-Speech.ensures.goes_on seed items old.heard.heard old.masks) block (c.decode.ensures.goes_on _ _ old.decodes)

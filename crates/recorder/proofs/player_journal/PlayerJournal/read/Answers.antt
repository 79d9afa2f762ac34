use Rattle.recorder.specs.Heads.{head_fault, play_magic}
use Rattle.recorder.specs.Journals.{HasPlayerFault}
use Rattle.recorder.proofs.Refused.{player_first, by_head}
use Rattle.std.proofs.Common.{take, inl}
use Rattle.recorder.proofs.player_journal.PlayerJournal.read.Goals as goal

pub returns-clause-first : goal.returns-clause-first
returns-clause-first g c =
    let r = c.read_whole in
    player_first (g.I.Source.left c.args.source.now) (g.I.Source.left r.new.source) r.result r.ensures.text r.ensures.fits r.ensures.fault

pub returns-clause-head : goal.returns-clause-head
returns-clause-head g c =
    by_head _ (λ octets. head_fault play_magic (take 12 octets)) HasPlayerFault (λ octets f is. inl is) (g.I.Source.left c.args.source.now) c.read_whole.result (returns-clause-first g c) c.read_whole.ensures.memory

use Rattle.recorder.specs.Filing.{filer_head_fault}
use Rattle.recorder.specs.Journals.{HasFilerFault}
use Rattle.recorder.proofs.Refused.{filer_first, by_head}
use Rattle.std.proofs.Common.{take, inl}
use Rattle.recorder.proofs.filer_journal.FilerJournal.read.Goals as goal

pub returns-clause-first : goal.returns-clause-first
returns-clause-first g c =
    let r = c.read_whole in
    filer_first (g.I.Source.left c.args.source.now) (g.I.Source.left r.new.source) r.result r.ensures.text r.ensures.fits r.ensures.fault

pub returns-clause-head : goal.returns-clause-head
returns-clause-head g c =
    by_head _ (λ octets. filer_head_fault (take 13 octets)) HasFilerFault (λ octets f is. inl is) (g.I.Source.left c.args.source.now) c.read_whole.result (returns-clause-first g c) c.read_whole.ensures.memory

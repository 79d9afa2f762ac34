use Rattle.std.proofs.Common.{◌≡◌, Some, None, inr, sym, ap, ◌∙◌}
use Rattle.recorder.specs.declared.fault.RecordFault.{RecordFault}
use Rattle.journal_runs.specs.Verify.{filer_misfit}
use Rattle.journal_runs.proofs.ReadJournals.{fits-filer, tells-filer}
use Rattle.journal_runs.proofs.journals.read_filer.Goals as goal

pub returns-in-Some-clause-fault : goal.returns-in-Some-clause-fault
returns-in-Some-clause-fault g c = λ f is.
    let left = g.I.Source.left in
    let j = c.in-Ok.journal in
    let same : c.in-Some.fault ≡ f = cc in
    let told : Some c.in-Some.fault ≡ filer_misfit c.args.head.now c.args.k j = c.in-Some.ensures in
    let misfit : filer_misfit c.args.head.now c.args.k j ≡ Some f = sym told ∙ ap (λ (x : RecordFault). Some x) same in
    inr (j, tells-filer (left c.args.input.now) (left c.read.new.source) j c.in-Ok.ensures.fits c.in-Ok.ensures.text, misfit)

pub returns-in-None-clause-told : goal.returns-in-None-clause-told
returns-in-None-clause-told g c =
    let left = g.I.Source.left in
    let j = c.in-Ok.journal in
    let told : None ≡ filer_misfit c.args.head.now c.args.k j = c.in-None.ensures in
    let fits = fits-filer c.args.head.now c.args.k j (sym told) in
    (tells-filer (left c.args.input.now) (left c.read.new.source) j c.in-Ok.ensures.fits c.in-Ok.ensures.text, fits.0, fits.1)

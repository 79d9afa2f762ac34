use Rattle.std.proofs.Common.{◌≡◌, Some, None, inr, sym, ap, ◌∙◌}
use Rattle.recorder.specs.declared.fault.RecordFault.{RecordFault}
use Rattle.journal_runs.specs.Verify.{player_misfit}
use Rattle.journal_runs.proofs.ReadJournals.{fits-player, tells-player}
use Rattle.journal_runs.proofs.journals.read_player.Goals as goal

pub returns-in-Some-clause-fault : goal.returns-in-Some-clause-fault
returns-in-Some-clause-fault g c = λ f is.
    let left = g.I.Source.left in
    let p = c.in-Ok.journal in
    let same : c.in-Some.fault ≡ f = cc in
    let misfit : player_misfit c.args.filers p.head ≡ Some f = ap (player_misfit c.args.filers) (sym c.head.ensures.value) ∙ sym c.in-Some.ensures ∙ ap (λ (x : RecordFault). Some x) same in
    inr (p, tells-player (left c.args.input.now) (left c.read.new.source) p c.in-Ok.ensures.fits c.in-Ok.ensures.text, misfit)

pub returns-in-None-clause-told : goal.returns-in-None-clause-told
returns-in-None-clause-told g c =
    let left = g.I.Source.left in
    let p = c.in-Ok.journal in
    let fits : player_misfit c.args.filers p.head ≡ None = ap (player_misfit c.args.filers) (sym c.head.ensures.value) ∙ sym c.in-None.ensures in
    (tells-player (left c.args.input.now) (left c.read.new.source) p c.in-Ok.ensures.fits c.in-Ok.ensures.text, fits-player c.args.filers p.head fits)

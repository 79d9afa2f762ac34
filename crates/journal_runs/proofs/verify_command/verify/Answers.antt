use Rattle.std.proofs.Common.{Err, map, ap, inl}
use Rattle.std.specs.Prelude.{◌⊎◌}
use Rattle.gate_base.specs.Faults.{Rose}
use Rattle.gate_notes.specs.Exchange.{SomeRose}
use Rattle.journal_runs.specs.declared.journals.Unread.{Unread}
use Rattle.journal_runs.proofs.VerifyEnds.{refused-completes}
use Rattle.journal_runs.proofs.verify_command.verify.Goals as goal

pub returns-in-Err-clause-complete : goal.returns-in-Err-clause-complete
returns-in-Err-clause-complete g c =
    let faults = g.I.Source.faults in
    refused-completes (map g.I.Source.left c.args.inputs.now) c.player_journals_have_no_fault.ensures c.filer_journals_have_no_fault.ensures c.in-Err.unread c.refuse.result
    (g.E.Sink.given c.args.notes.now) (g.E.Sink.given c.refuse.new.notes) (g.E.Sink.faults c.args.notes.now) (g.E.Sink.faults c.refuse.new.notes)
    (SomeRose (map faults c.args.inputs.now) (map faults c.read_journals.new.inputs) ⊎ Rose (g.O.Sink.faults c.args.output.now) (g.O.Sink.faults c.args.output.now) ⊎ Rose (g.E.Sink.faults c.args.notes.now) (g.E.Sink.faults c.refuse.new.notes))
    c.in-Err.ensures.read c.refuse.ensures.refused (λ is. inl (c.in-Err.ensures.failed (ap (λ (u : Unread). Err u) is)))

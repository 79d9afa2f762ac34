use Rattle.journal_runs.proofs.ReadJournals.{Read}
use Rattle.journal_runs.proofs.journals.read_filers.Given as goal

abbrev pub invariant-journals : goal.invariant-journals
invariant-journals g l = Read g.I.Source.left g.I.Source.faults l.head l.k l.fn.inputs l.inputs l.filers.items

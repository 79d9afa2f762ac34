use Rattle.line_run.proofs.Enlisting.{all_rights}
use Rattle.line_run.proofs.opening.open_line.Goals as goal

pub enlist_all-requires-clause-blank : goal.enlist_all-requires-clause-blank
enlist_all-requires-clause-blank c = (c.in_ok-ring.ensures.blank.0, all_rights c.args.filers c.in_ok-ring.blank.rights c.in_ok-ring.ensures.blank.1)

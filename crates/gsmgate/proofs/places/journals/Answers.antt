use Rattle.std.proofs.Common.{◌∙◌, ap, map}
use Rattle.std.specs.String.{string_bytes}
use Rattle.gsmgate.proofs.JournalNames.{journals-more}
use Rattle.gsmgate.proofs.places.journals.Goals as goal

pub filers-preserved : goal.filers-preserved
filers-preserved c =
    ap (map string_bytes) c.in_ok-push-2.ensures.items
    ∙ journals-more string_bytes c.filers.names.items c.in_ok-filer_journal.field-0 c.args.prefix.now c.filers.filer c.filers.invariant c.in_ok-filer_journal.ensures

use Rattle.std.proofs.Common.{◌≡◌, map}
use Rattle.std.specs.String.{string_bytes}
use Rattle.gsmgate.specs.Places.{journals_of}
use Rattle.gsmgate.proofs.places.journals.Given as goal

abbrev pub invariant-filers : goal.invariant-filers
invariant-filers l = map string_bytes l.names.items ≡ journals_of l.prefix l.filer

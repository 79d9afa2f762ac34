use Rattle.std.proofs.Common.{List, take}
use Rattle.std.specs.Prelude.{ℤ}
use Rattle.substitution.specs.Heard.{Voices}
use Rattle.heard_laws.proofs.Compared.{Compared}
use Rattle.heard_laws.proofs.hearing.is_heard.Given as goal

abbrev pub invariant-play : goal.invariant-play
invariant-play l = (all : List ℤ) × Voices l.fn.seed (take l.item-index l.items) all l.voice × Compared l.fn.samples all l.left l.same

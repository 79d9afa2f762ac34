use Rattle.std.proofs.Common.{rules, ◌+◌, ◌*◌, refl}
use Rattle.slot_ring.proofs.OpeningWords.{berths-next}
use Rattle.slot_ring.proofs.opening.push_berths.Goals as goal

pub loop-i-preserved : goal.loop-i-preserved
loop-i-preserved c = (berths-next c.args.words.now.items c.loop-i.words.items c.push.new.self.items c.args.first c.loop-i.i (4 * (c.args.first + c.loop-i.i)) (search rules) c.loop-i.invariant.0 refl, search rules)

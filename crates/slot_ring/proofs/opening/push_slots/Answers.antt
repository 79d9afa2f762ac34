use Rattle.std.proofs.Common.{rules, ◌≡◌, ◌+◌, ◌*◌, ℕ, arith}
use Rattle.slot_ring.proofs.OpeningWords.{slots-next}
use Rattle.slot_ring.proofs.opening.push_slots.Goals as goal

pub loop-i-preserved : goal.loop-i-preserved
loop-i-preserved c = let i : ℕ = c.loop-i.i in (slots-next c.args.words.now.items c.loop-i.words.items c.push.new.self.items i _ (search rules) c.loop-i.invariant.0 (let h : i * 281474976710656 + 4294967296 + i ≡ 0 + (0 + i) * 281474976710656 + (4294967296 + (0 + i)) = omega arith in h), search rules)

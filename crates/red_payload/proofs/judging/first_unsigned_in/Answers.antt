use Rattle.std.proofs.Common.{arith}
use Rattle.red_payload.specs.Blocks.{seen}
use Rattle.red_payload.proofs.Unsigned.{found_here, none_here}
use Rattle.red_payload.proofs.judging.first_unsigned_in.Goals as goal

pub overflow_add-result : goal.overflow_add-result
overflow_add-result c =
    omega (arith, (found_here c.args.walk c.loop-block.walk c.next_block.new.self (seen c.in-Some.block) c.loop-block.before _ c.loop-block.invariant c.in-Some.ensures.next c.if-block-eq3.true c.in-Some-first_unsigned.ensures).few)

pub returns-in-Some-first_unsigned : goal.returns-in-Some-first_unsigned
returns-in-Some-first_unsigned c =
    (found_here c.args.walk c.loop-block.walk c.next_block.new.self (seen c.in-Some.block) c.loop-block.before _ c.loop-block.invariant c.in-Some.ensures.next c.if-block-eq3.true c.in-Some-first_unsigned.ensures).told

pub loop-block-preserved-in-None : goal.loop-block-preserved-in-None
loop-block-preserved-in-None c =
    none_here c.args.walk c.loop-block.walk c.next_block.new.self (seen c.in-Some.block) c.loop-block.before c.loop-block.invariant c.in-Some.ensures.next c.if-block-eq3.true c.in-None.ensures

use Rattle.std.proofs.Common.{arith}
use Rattle.red_payload.proofs.Places.{has_frames, is_here, is_there, walks_on}
use Rattle.red_payload.proofs.view.RedView.block.Goals as goal

pub loop-preserved : goal.loop-preserved
loop-preserved c = walks_on c.next_block.result _ _ _ c.loop.counter c.loop.invariant (omega (arith, c.loop-test.true, c.requires)) c.next_block.ensures.ended c.next_block.ensures.next

pub unwrap-requires : goal.unwrap-requires
unwrap-requires c =
    is_there c.next_block-2.result c.args.self.now c.loop.walk c.loop.counter c.args.i c.loop.invariant c.loop-test.false c.loop.auto.counter-end c.requires c.next_block-2.ensures.ended

pub returns-clause-block : goal.returns-clause-block
returns-clause-block c =
    is_here c.next_block-2.result c.unwrap.result c.args.self.now c.loop.walk _ c.loop.counter c.args.i c.unwrap.ensures c.loop.invariant c.loop-test.false c.loop.auto.counter-end c.next_block-2.ensures.next

pub returns-clause-frames : goal.returns-clause-frames
returns-clause-frames c =
    has_frames _ c.args.self.now c.args.i c.unwrap.result c.self.invariant c.self.view_is
    (is_here c.next_block-2.result c.unwrap.result c.args.self.now c.loop.walk _ c.loop.counter c.args.i c.unwrap.ensures c.loop.invariant c.loop-test.false c.loop.auto.counter-end c.next_block-2.ensures.next)

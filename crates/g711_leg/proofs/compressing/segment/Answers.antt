use Rattle.g711_leg.proofs.SegmentLaws.{clear_most, segment_by_digits}
use Rattle.g711_leg.proofs.compressing.segment.Goals as goal

pub overflow_sub-raised : goal.overflow_sub-raised
overflow_sub-raised c = clear_most c.args.raised c.requires.low c.requires.high

pub returns : goal.returns
returns c = rw c.min.ensures (segment_by_digits c.args.raised c.requires.low c.requires.high)

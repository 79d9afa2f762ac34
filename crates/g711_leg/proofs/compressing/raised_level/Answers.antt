use Rattle.g711_leg.proofs.SegmentLaws.{about_segment, quotient_low}
use Rattle.g711_leg.proofs.compressing.raised_level.Goals as goal

pub overflow_sub-raised : goal.overflow_sub-raised
overflow_sub-raised c = quotient_low c.args.raised c.segment-segment.result c.segment-segment.ensures

pub returns-clause-about : goal.returns-clause-about
returns-clause-about c =
    rw c.min-step.ensures (about_segment c.args.raised c.segment-segment.result c.segment-segment.ensures c.requires.high)

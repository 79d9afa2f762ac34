use Rattle.std.proofs.Common.{sym}
use Rattle.std.proofs.lemmas.Bool.{eqb-false}
use Rattle.red_payload.proofs.Walking.{older_is, next_is, left_is}
use Rattle.red_payload.proofs.walk.Walk.next_block.Goals as goal

pub split_at-requires : goal.split_at-requires
split_at-requires c = rw c.length_of.ensures.size (older_is _ _ c.self.invariant (eqb-false _ 0 (sym c.if-is_empty.ensures)) c.if-self-lt128.false).fits

pub invariant_of-self-2 : goal.invariant_of-self-2
invariant_of-self-2 c = left_is _ _ _ _ (older_is _ _ c.self.invariant (eqb-false _ 0 (sym c.if-is_empty.ensures)) c.if-self-lt128.false) c.length_of.ensures.size c.split_at.ensures.back

pub returns-clause-next : goal.returns-clause-next
returns-clause-next c =
    next_is _ _ _ _ _ _ _ c.self.view_is (older_is _ _ c.self.invariant (eqb-false _ 0 (sym c.if-is_empty.ensures)) c.if-self-lt128.false) c.length_of.ensures.size c.offset_of-offset.ensures c.split_at.ensures.front c.split_at.ensures.back

use Rattle.std.proofs.Common.{sym, ◌∙◌, arith}
use Rattle.std.proofs.lemmas.Bool.{eqb-false}
use Rattle.red_payload.proofs.Splitting.{blocks_so, fits_so, front_high, is_told_on, one_more, past_so, split_so}
use Rattle.red_payload.proofs.blocks.split.Goals as goal

pub loop-left-preserved : goal.loop-left-preserved
loop-left-preserved c =
    one_more c.args.payload.now c.loop-left.left.now _ _ _ c.loop-left.invariant (omega (arith, c.if-left-lt4.false)) (front_high c.loop-left.left.now c.loop-left-test.ensures) c.length_of-lengths.ensures.size c.length_of-lengths.ensures.few

pub returns-then-octets-lengths-clause-fault : goal.returns-then-octets-lengths-clause-fault
returns-then-octets-lengths-clause-fault c =
    past_so c.args.payload.now _ _ _ (is_told_on c.args.payload.now c.loop-left.left.now _ _ c.loop-left.invariant.0 c.loop-left-test.ensures (eqb-false _ 0 (sym c.if-is_empty.ensures))) c.if-octets-lengths.true

pub of-requires : goal.of-requires
of-requires c =
    split_so c.args.payload.now _ _ _ (is_told_on c.args.payload.now c.loop-left.left.now _ _ c.loop-left.invariant.0 c.loop-left-test.ensures (eqb-false _ 0 (sym c.if-is_empty.ensures))) c.if-octets-lengths.false (omega (arith, c.loop-left.invariant.1, c.requires))

pub returns-clause-blocks : goal.returns-clause-blocks
returns-clause-blocks c =
    c.of.ensures ∙ blocks_so c.args.payload.now _ _ _ (is_told_on c.args.payload.now c.loop-left.left.now _ _ c.loop-left.invariant.0 c.loop-left-test.ensures (eqb-false _ 0 (sym c.if-is_empty.ensures)))

pub returns-clause-fault : goal.returns-clause-fault
returns-clause-fault c =
    fits_so c.args.payload.now _ _ _ (is_told_on c.args.payload.now c.loop-left.left.now _ _ c.loop-left.invariant.0 c.loop-left-test.ensures (eqb-false _ 0 (sym c.if-is_empty.ensures))) c.if-octets-lengths.false

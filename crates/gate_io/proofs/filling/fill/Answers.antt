use Rattle.std.proofs.Common.{length, ◌≡◌, ◌+◌, ◌-◌, ◌≤◌, ◌++◌, take, subst, sym, arith}
use Rattle.std.specs.Io.KnownBytes.{Consumes}
use Rattle.std.proofs.KnownBytes.{Consumes-trans}
use Rattle.std.proofs.lemmas.Grind.{common_steps}
use borrow.Rule.Slice.PartMut.{put_mid}
use Rattle.gate_io.proofs.Pieces.{take-filled}
use Rattle.gate_io.proofs.filling.fill.Goals as goal

pub loop-count-preserved : goal.loop-count-preserved
loop-count-preserved g c =
    let i = c.loop-count.count in
    let xs = c.loop-count.into in
    let ys = c.take.new.into in
    let n = c.in_ok-more.more in
    let k = length xs - i in
    let fits : n ≤ length ys = c.in_ok-more.ensures.within.0 in
    let whole : length (put_mid i k xs ys) ≡ length xs = grind (arith, common_steps) in
    let text : take (i + n) (put_mid i k xs ys) ≡ take i xs ++ take n ys = take-filled i n xs ys _ c.loop-count.invariant.room fits in
    record {
      room = omega (arith, whole, c.take.auto.into);
      taken = subst (Consumes _ _) (sym text) (Consumes-trans _ (g.I.Source.left c.loop-count.source) _ (take i xs) (take n ys) c.loop-count.invariant.taken c.in_ok-more.ensures.taken.0);
      cause = omega (arith, c.take.ensures.cause.later);
    }

use Rattle.std.proofs.Common.{arith}
use Rattle.filer.proofs.Filing.{filing-more}
use Rattle.filer.proofs.packet.file_frames.Goals as goal

pub loop-i-preserved : goal.loop-i-preserved
loop-i-preserved g c =
    let did = rw (c.from.ensures, c.frame.ensures) at c.file-reply.ensures.did in
    let fits = rw c.from.ensures at c.file-reply.ensures.fits in
    rw (c.push.ensures, c.is_accepted-any.ensures)
    (filing-more g.S.FilerSide.did c.args.side.now c.loop-i.side c.file-reply.new.self c.args.first c.args.view.now.payload c.loop-i.i c.loop-i.replies c.loop-i.any c.file-reply.result
    c.loop-i.invariant (omega (arith, c.count-i-end.ensures.few)) did fits)

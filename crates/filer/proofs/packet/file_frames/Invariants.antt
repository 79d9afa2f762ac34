use Rattle.filer.proofs.Filing.{Filing}
use Rattle.filer.proofs.packet.file_frames.Given as goal

abbrev pub invariant-loop-i : goal.invariant-loop-i
invariant-loop-i g l = Filing g.S.FilerSide.did l.fn.side l.side l.first l.view.payload l.i l.replies l.any

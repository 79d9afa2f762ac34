use Rattle.std.proofs.Common.{sym}
use Rattle.red_payload.proofs.Frames.{have_frames}
use Rattle.red_payload.proofs.read.read_red.Goals as goal

pub of-requires : goal.of-requires
of-requires c = have_frames _ (sym c.in-None.ensures)

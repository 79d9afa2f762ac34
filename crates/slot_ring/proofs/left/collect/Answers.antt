use Rattle.std.proofs.Common.{rules, ◌+◌, ◌*◌, ℕ}
use Rattle.slot_ring.specs.Remains.{read_at}
use Rattle.slot_ring.proofs.Reading.{one_read, pushed, unpushed}
use Rattle.slot_ring.proofs.left.collect.Goals.{in-Some, in_default}
use Rattle.slot_ring.proofs.left.collect.Goals as goal

pub loop-i-preserved : goal.loop-i-preserved
loop-i-preserved c =
    let words = c.args.closed.now.words in let cells = c.args.closed.now.cells in
    let a : ℕ = c.saturating_sub-first.result in let i : ℕ = c.loop-i.i in (
      one_read (read_at c.args.slots words cells) a i (2 * c.args.slots) c.loop-i.frames.items c.match-frame_at.frames.items _ (search rules) c.loop-i.invariant.0
          (elim c.match-frame_at.branch [
            | in-Some w ↦ pushed c.loop-i.frames.items c.match-frame_at.frames.items (a + i) w.in-Some.frame (read_at c.args.slots words cells (a + i)) c.frame_at.result (search rules) w.in-Some.is c.frame_at.ensures
            | in_default w ↦ unpushed c.loop-i.frames.items c.match-frame_at.frames.items (a + i) (read_at c.args.slots words cells (a + i)) c.frame_at.result (search rules) (search rules) c.frame_at.ensures
          ]),
      search rules,
      (elim c.match-frame_at.branch [ in-Some w ↦ search rules | in_default w ↦ search rules ]),
      (elim c.match-frame_at.branch [ in-Some w ↦ search rules | in_default w ↦ search rules ]),
    )

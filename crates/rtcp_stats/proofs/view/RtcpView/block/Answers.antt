use Rattle.std.proofs.Common.{◌≡◌, ℕ, ◌<◌, ◌+◌, ◌*◌, sym, ap, subst, ◌∙◌, slice_get, Some, arith}
use Rattle.rtcp_stats.specs.declared.block.ReportBlock.{ReportBlock}
use Rattle.rtcp_stats.specs.Reports.{Reports, blocks_start, blocks_from, block_at}
use Rattle.rtcp_stats.specs.Compound.{count}
use Rattle.rtcp_stats.proofs.Blocks.{length-blocks, block-of}
use Rattle.rtcp_stats.proofs.view.RtcpView.block.Goals as goal

pub read_block-requires : goal.read_block-requires
read_block-requires c =
    let d = c.self.inside.datagram.now in
    let below : c.args.i < count d 0 = rw (← c.self.view_is, length-blocks (count d 0) d (blocks_start d)) at c.requires in
    omega (arith, c.self.invariant.size)

pub returns : goal.returns
returns c =
    let d = c.self.inside.datagram.now in
    let below : c.args.i < count d 0 = rw (← c.self.view_is, length-blocks (count d 0) d (blocks_start d)) at c.requires in
    let found : slice_get (blocks_from (count d 0) d (blocks_start d)) c.args.i ≡ Some (block_at d (blocks_start d + 24 * c.args.i)) = block-of (count d 0) d (blocks_start d) c.args.i below in
    let place : block_at d (blocks_start d + 24 * c.args.i) ≡ c.read_block.result =
    sym (c.read_block.ensures ∙ ap (λ (k : ℕ). block_at d (k + 24 * c.args.i)) c.blocks_start.ensures) in
    subst (λ (r : Reports). slice_get r.blocks c.args.i ≡ Some c.read_block.result) c.self.view_is (found ∙ ap (λ (b : ReportBlock). Some b) place)

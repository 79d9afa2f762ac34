use Rattle.std.proofs.Common.{sym, ap, ◌∙◌, length}
use Rattle.rtcp_stats.specs.Reports.{Reports, blocks_start}
use Rattle.rtcp_stats.specs.Compound.{count}
use Rattle.rtcp_stats.proofs.Blocks.{length-blocks}
use Rattle.rtcp_stats.proofs.view.RtcpView.block_count.Goals as goal

pub returns-clause-count : goal.returns-clause-count
returns-clause-count c =
    let d = c.self.inside.datagram.now in
    c.from.ensures ∙ sym (length-blocks (count d 0) d (blocks_start d)) ∙ ap (λ (r : Reports). length r.blocks) c.self.view_is

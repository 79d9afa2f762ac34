use Rattle.std.proofs.Common.{◌^◌}
use Rattle.playout.proofs.OneReply.{can_file}
use Rattle.playout.proofs.map_line.MapLine.can.Goals as goal

pub returns-in-FileCall : goal.returns-in-FileCall
returns-in-FileCall c =
    can_file (2 ^ c.args.self.now.g) c.args.self.now.machine c.args.call.now c.in-FileCall.number c.in-FileCall.frame c.in-FileCall.reply c.reply_to.result c.same_reply.result c.in-FileCall.is c.reply_to.ensures.reply c.same_reply.ensures

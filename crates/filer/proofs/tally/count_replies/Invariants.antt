use Rattle.std.proofs.Common.{◌≡◌, fold, take}
use Rattle.recorder.specs.Tallies.{reply_counted}
use Rattle.filer.proofs.tally.count_replies.Given as goal

abbrev pub invariant-loop-reply : goal.invariant-loop-reply
invariant-loop-reply l = l.tally ≡ fold reply_counted l.initial.tally (take l.reply-index l.reply-items)

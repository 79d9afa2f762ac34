-- What one round does to the run of a script.
use Rattle.std.specs.Prelude.{ℕ, ◌≡◌, ◌^◌, List}
use Rattle.frame_codec.specs.declared.item.Item.{Item}
use Rattle.playout.specs.declared.reply.FileReply.{FileReply}
use Rattle.playout.specs.declared.call.Call.TheVariants.{FileCall, TickCall}
use Rattle.playout.specs.Machine.{Replies, after}
use Rattle.recorder.specs.Tallies.{call_counted, reply_counted}
use Rattle.replay_check.specs.declared.played.Played.{Played}

-- the frame was filed, and the player ticked, with the machine's replies, which were counted
pub record Plays (caller number : ℕ) (frame : List ℕ) (old new : Played) : Type 0 where
  pub reply : FileReply
  pub item : Item
  pub filed : Replies (2 ^ old.line.g) old.line.machine (FileCall number frame reply)
  pub ticked : Replies (2 ^ old.line.g) (after old.line.machine (FileCall number frame reply)) (TickCall item)
  pub line : new.line ≡ record old.line { machine = after (after old.line.machine (FileCall number frame reply)) (TickCall item) }
  pub items : new.items ≡ call_counted old.items (TickCall item)
  pub replies : new.replies ≡ reply_counted old.replies reply

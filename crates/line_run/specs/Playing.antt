-- What the player of a line results in.
use Rattle.std.specs.Prelude.{◌≡◌, ◌⊎◌, ℕ, ◌+◌, ◌≤◌, List, [], true}
use Rattle.std.specs.Io.KnownBytes.{Appends}
use Rattle.gate_base.specs.Faults.{Rose}
use Rattle.gate_io.specs.Flow.{AppendsPart}
use Rattle.playout.specs.declared.call.Call.{Call}
use Rattle.recorder.specs.declared.tally.PlayTally.{PlayTally}
use Rattle.recorder.specs.Heads.{head_text, play_magic}
use Rattle.recorder.specs.Tallies.{no_plays, play_tally}
use Rattle.player.specs.Whole.{PlayerGave, Ports}
use Rattle.player.specs.declared.run.PlayerEnd.{PlayerEnd}
use Rattle.player.specs.declared.run.PlayerEnd.TheVariants.{Ended, SpeakerFault, JournalFault, MicFault, ReplyFault}
use Rattle.line_run.specs.declared.options.LineOptions.{LineOptions}
use Rattle.line_run.specs.Opening.{heading}
use Rattle.line_run.specs.Seen.{PlayerSeen, SinkSeen}

-- the player's objects, with the journal after its head or as it is
abbrev pub ports : PlayerSeen → SinkSeen → Ports
ports a journal = record { heard = a.speaker.given; written = journal.given; left = a.microphone.left; log = a.reply.log }

-- Its journal was given the head, and then a player that had made no beat ran: one beat for each tick of the clock, with these calls, within
-- the limit of the line.
pub record PlayerWent (filers : ℕ) (o : LineOptions) (a : PlayerSeen) (j : SinkSeen) (b : PlayerSeen) (j' : SinkSeen) (calls : List Call) (end : PlayerEnd) (tally : PlayTally) : Type 0 where
  pub opened : SinkSeen
  pub made : ℕ
  pub head : Appends j.given opened.given (head_text play_magic (heading filers o))
  pub later : j.faults ≤ opened.faults
  pub gave : PlayerGave o.seed o.own o.sequence o.stamp o.elastic o.g opened.faults j'.faults made calls (ports a opened) (ports b j') end
  pub ticked : b.clock.ticks ≡ a.clock.ticks + made
  pub within : made ≤ o.ticks
  pub ended : end ≡ Ended → (b.clock.ended ≡ true) ⊎ (made ≡ o.ticks)
  pub counted : tally ≡ play_tally calls
  pub open_still : b.reply.ended ≡ a.reply.ended

-- its journal failed at the head: no tick was taken, and it made no call
pub record PlayerUnread (filers : ℕ) (o : LineOptions) (a : PlayerSeen) (j : SinkSeen) (b : PlayerSeen) (j' : SinkSeen) (calls : List Call) (end : PlayerEnd) (tally : PlayTally) : Type 0 where
  pub fault : end ≡ JournalFault
  pub head : AppendsPart j.given j'.given (head_text play_magic (heading filers o))
  pub clock : b.clock ≡ a.clock
  pub speaker : b.speaker ≡ a.speaker
  pub microphone : b.microphone ≡ a.microphone
  pub reply : b.reply ≡ a.reply
  pub none : calls ≡ []
  pub counted : tally ≡ no_plays

-- what the player results in, and why it ended so
pub record PlayerCame (filers : ℕ) (o : LineOptions) (a : PlayerSeen) (j : SinkSeen) (b : PlayerSeen) (j' : SinkSeen) (calls : List Call) (end : PlayerEnd) (tally : PlayTally) : Type 0 where
  pub came : PlayerWent filers o a j b j' calls end tally ⊎ PlayerUnread filers o a j b j' calls end tally
  pub speaker_later : a.speaker.faults ≤ b.speaker.faults
  pub journal_later : j.faults ≤ j'.faults
  pub mic_later : a.microphone.faults ≤ b.microphone.faults
  pub reply_later : a.reply.faults ≤ b.reply.faults
  pub speaker_fault : end ≡ SpeakerFault → Rose a.speaker.faults b.speaker.faults
  pub journal_fault : end ≡ JournalFault → Rose j.faults j'.faults
  pub mic_fault : end ≡ MicFault → Rose a.microphone.faults b.microphone.faults
  pub reply_fault : end ≡ ReplyFault → Rose a.reply.faults b.reply.faults

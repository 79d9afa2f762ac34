-- A whole run by its beats.
use Rattle.std.proofs.Common.{ℕ, List, inl, inr, sym, subst}
use Rattle.playout.specs.declared.call.Call.{Call}
use Rattle.player.specs.declared.run.PlayerEnd.{PlayerEnd}
use Rattle.player.specs.declared.run.PlayerEnd.TheVariants as ended
use Rattle.player.specs.Beats.{Standing, Starts}
use Rattle.player.specs.PlayerRuns.{Offered, PlayerRan, PlaysOn}
use Rattle.player.specs.Whole.{PlayerTold}
use Rattle.player.proofs.WholeBeats.{WholeBeats, WholeBeats-all}
use Rattle.player.proofs.WholeEnds.{told-ended, told-journal, told-mic, told-reply, told-speaker, told-unmarked}

module _ {S : Type 0} (did : S → Call → S → Type 0) (seed : List ℕ) (own sequence stamp most elastic before now : ℕ) (a b : Standing S) (starts : Starts seed own sequence stamp most elastic a.player) where
  abbrev Told : PlayerEnd → Standing S → Type 0
  Told end s = PlayerTold did seed own sequence stamp elastic before now a s end

  whole : (m : Standing S) → PlaysOn did m.player.made a m → WholeBeats did seed own sequence stamp elastic m.player.made a m
  whole m on = WholeBeats-all did seed own sequence stamp most elastic m.player.made a m starts on

  when-ended : PlayerRan did before now a b ended.Ended → Told ended.Ended b
  when-ended (m, on, is, mark) = subst (Told ended.Ended) (sym is) (told-ended did seed own sequence stamp elastic before now a m b.written (whole m on) mark)

  when-speaker : Offered did before now a b ended.SpeakerFault → Told ended.SpeakerFault b
  when-speaker (s, (m, on, last), is, mark) = subst (Told ended.SpeakerFault) (sym is) (told-speaker did seed own sequence stamp elastic before now a m s (whole m on) last b.written mark)

  when-journal : PlayerRan did before now a b ended.JournalFault → Told ended.JournalFault b
  when-journal (inl (m, on, last)) = told-journal did seed own sequence stamp elastic before now a m b (whole m on) last
  when-journal (inr (m, on, is, mark)) = subst (Told ended.JournalFault) (sym is) (told-unmarked did seed own sequence stamp elastic before now a m b.written (whole m on) mark)

  when-mic : Offered did before now a b ended.MicFault → Told ended.MicFault b
  when-mic (s, (m, on, last), is, mark) = subst (Told ended.MicFault) (sym is) (told-mic did seed own sequence stamp elastic before now a m s (whole m on) last b.written mark)

  when-reply : Offered did before now a b ended.ReplyFault → Told ended.ReplyFault b
  when-reply (s, (m, on, last), is, mark) = subst (Told ended.ReplyFault) (sym is) (told-reply did seed own sequence stamp elastic before now a m s (whole m on) last b.written mark)

  pub whole-run : (end : PlayerEnd) → PlayerRan did before now a b end → PlayerTold did seed own sequence stamp elastic before now a b end
  whole-run ended.Ended ran = when-ended ran
  whole-run ended.SpeakerFault ran = when-speaker ran
  whole-run ended.JournalFault ran = when-journal ran
  whole-run ended.MicFault ran = when-mic ran
  whole-run ended.ReplyFault ran = when-reply ran

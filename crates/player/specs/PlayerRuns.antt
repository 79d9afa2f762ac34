-- What a player does until its clock ends, all its beats are made or a fault comes.
use Rattle.std.specs.Prelude.{◌≡◌, ◌⊎◌, ℕ, zero, suc, List, [], ◌∷◌, Option}
use Rattle.std.specs.Io.KnownBytes.{Appends}
use Rattle.gate_base.specs.Faults.{Rose}
use Rattle.gate_io.specs.Flow.{AppendsPart}
use Rattle.gate_io.specs.declared.link.Link as link
use Rattle.gate_io.specs.declared.sink.Sink as sink
use Rattle.gate_io.specs.declared.source.Source as source
use Rattle.playout.specs.declared.call.Call.{Call}
use Rattle.playout.specs.declared.side.PlayerSide as player_side
use Rattle.recorder.specs.Files.{end_mark}
use Rattle.player.specs.declared.beat.Beat.{Beat}
use Rattle.player.specs.declared.beat.Beat.TheVariants as beat
use Rattle.player.specs.declared.run.PlayerEnd.{PlayerEnd}
use Rattle.player.specs.declared.run.PlayerEnd.TheVariants as ended
use Rattle.player.specs.Beats.{Beats, Playing, Standing, standing_of}

-- this many beats, one after the other, and nothing failed
abbrev pub PlaysOn : {S : Type 0} → (S → Call → S → Type 0) → ℕ → Standing S → Standing S → Type 0
PlaysOn {S} did zero a b = a ≡ b
PlaysOn {S} did (suc n) a b = (m : Standing S) × PlaysOn did n a m × Beats did m b beat.Played

-- and then one more, which reached this end
abbrev pub PlaysLast : {S : Type 0} → (S → Call → S → Type 0) → Beat → Standing S → Standing S → Type 0
PlaysLast {S} did end a b = (m : Standing S) × PlaysOn did m.player.made a m × Beats did m b end

-- all beats of a run that ends so; the run was before its first beat
abbrev pub Stopped : {S : Type 0} → (S → Call → S → Type 0) → Standing S → Standing S → PlayerEnd → Type 0
Stopped did a b ended.Ended = PlaysOn did b.player.made a b
Stopped did a b ended.SpeakerFault = PlaysLast did beat.SpeakerFault a b
Stopped did a b ended.JournalFault = PlaysLast did beat.JournalFault a b
Stopped did a b ended.MicFault = PlaysLast did beat.MicFault a b
Stopped did a b ended.ReplyFault = PlaysLast did beat.ReplyFault a b

-- the same moment, with so much given to the journal
abbrev pub with_written : {S : Type 0} → Standing S → Option (List ℕ) → Standing S
with_written s written = record s { written = written }

-- the end mark was given, or none of it where the journal's count rose
abbrev pub Marked : Option (List ℕ) → Option (List ℕ) → ℕ → ℕ → Type 0
Marked old new before now = Appends old new (end_mark ∷ []) ⊎ (Appends old new [] × Rose before now)

-- after a fault of another than the journal the end mark was offered
abbrev pub Offered : {S : Type 0} → (S → Call → S → Type 0) → ℕ → ℕ → Standing S → Standing S → PlayerEnd → Type 0
Offered {S} did before now a b end = (m : Standing S) × Stopped did a m end × (b ≡ with_written m b.written) × Marked m.written b.written before now

-- what stands after a run, by its end; the journal's count of faults was `before` and is `now`
abbrev pub PlayerRan : {S : Type 0} → (S → Call → S → Type 0) → ℕ → ℕ → Standing S → Standing S → PlayerEnd → Type 0
PlayerRan {S} did before now a b ended.Ended = (m : Standing S) × Stopped did a m ended.Ended × (b ≡ with_written m b.written) × Appends m.written b.written (end_mark ∷ [])
PlayerRan did before now a b ended.SpeakerFault = Offered did before now a b ended.SpeakerFault
PlayerRan {S} did before now a b ended.JournalFault =
    Stopped did a b ended.JournalFault
    ⊎ ((m : Standing S) × Stopped did a m ended.Ended × (b ≡ with_written m b.written) × AppendsPart m.written b.written (end_mark ∷ []))
PlayerRan did before now a b ended.MicFault = Offered did before now a b ended.MicFault
PlayerRan did before now a b ended.ReplyFault = Offered did before now a b ended.ReplyFault

-- ---- over a player's side, its speaker, its journal, its microphone and its reply link, by what these tell before and now

-- all beats of a run, before the end mark
abbrev pub BeatsEnd : {S O J I P : Type 0} → player_side.Ghosts S → sink.Ghosts O → sink.Ghosts J → source.Ghosts I → link.Ghosts P
    → Playing → S → O → J → I → P → Playing → S → O → J → I → P → PlayerEnd → Type 0
BeatsEnd s o j i p player side speaker journal microphone reply player_now side_now speaker_now journal_now microphone_now reply_now end =
    Stopped s.did (standing_of s o j i p player side speaker journal microphone reply) (standing_of s o j i p player_now side_now speaker_now journal_now microphone_now reply_now) end

-- a whole run
abbrev pub RunEnds : {S O J I P : Type 0} → player_side.Ghosts S → sink.Ghosts O → sink.Ghosts J → source.Ghosts I → link.Ghosts P
    → Playing → S → O → J → I → P → Playing → S → O → J → I → P → PlayerEnd → Type 0
RunEnds s o j i p player side speaker journal microphone reply player_now side_now speaker_now journal_now microphone_now reply_now end =
    PlayerRan s.did (j.faults journal) (j.faults journal_now)
    (standing_of s o j i p player side speaker journal microphone reply) (standing_of s o j i p player_now side_now speaker_now journal_now microphone_now reply_now) end

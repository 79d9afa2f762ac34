-- A line none of whose objects failed.
use Rattle.std.proofs.Common.{◌≡◌, ℕ, ◌+◌, ◌<◌, List, length, refl, sym, ap, ◌∙◌, subst, arith}
use mathlib.Core.Option.{some-injective}
use Rattle.slot_ring.specs.Remains.{LeftView}
use Rattle.recorder.specs.declared.tally.PlayTally.{PlayTally}
use Rattle.recorder.specs.declared.tally.Tally.{Tally}
use Rattle.filer.specs.declared.run.FilerEnd.{FilerEnd}
use Rattle.filer.specs.declared.run.FilerEnd.TheVariants as filed
use Rattle.player.specs.declared.run.PlayerEnd.{PlayerEnd}
use Rattle.player.specs.declared.run.PlayerEnd.TheVariants as played
use Rattle.line_run.specs.Ending.{AllEnded, NoneRose, PlayerNone}
use Rattle.line_run.specs.Line.{LineRan}
use Rattle.line_run.specs.Opening.{LineSeen}
use Rattle.line_run.specs.Seen.{LinkSeen, PlayerSeen, SinkSeen}
use Rattle.line_run.proofs.Places.{at_below, at_exists}

filer_ended : (end : FilerEnd) → (end ≡ filed.LinkFault → ⊥) → (end ≡ filed.JournalFault → ⊥) → end ≡ filed.Ended
filer_ended filed.Ended n m = refl
filer_ended filed.LinkFault n m = absurd (n refl)
filer_ended filed.JournalFault n m = absurd (m refl)

player_ended : (end : PlayerEnd) → (end ≡ played.SpeakerFault → ⊥) → (end ≡ played.JournalFault → ⊥) → (end ≡ played.MicFault → ⊥) → (end ≡ played.ReplyFault → ⊥) → end ≡ played.Ended
player_ended played.Ended s j m r = refl
player_ended played.SpeakerFault s j m r = absurd (s refl)
player_ended played.JournalFault s j m r = absurd (j refl)
player_ended played.MicFault s j m r = absurd (m refl)
player_ended played.ReplyFault s j m r = absurd (r refl)

pub completed : {P J : Type 0} (l : LineSeen) (link : P → LinkSeen) (sink : J → SinkSeen) (ps : List P) (js : List J) (ps' : List P) (js' : List J) (a b : PlayerSeen) (player : PlayerEnd) (tally : PlayTally) (filers : List (FilerEnd × Tally)) (left : LeftView)
    → LineRan l link sink ps js ps' js' a b player tally filers left → length ps ≡ l.filers → length js ≡ 1 + l.filers
    → NoneRose (λ p. (link p).faults) ps ps' → NoneRose (λ j. (sink j).faults) js js' → PlayerNone a b → (player ≡ played.Ended) × AllEnded filers
completed {P} {J} l link sink ps js ps' js' a b player tally filers left ran links journals no_link no_sink none = (
  (let h = ran.played_so in let came = h.4 in
      player_ended player (λ e. none.speaker (came.speaker_fault e)) (λ e. no_sink 0 h.0 h.1 h.2 h.3 (came.journal_fault e)) (λ e. none.microphone (came.mic_fault e)) (λ e. none.reply (came.reply_fault e))),
  (λ i end tally at.
      let low : i < l.filers = subst (λ (n : ℕ). i < n) ran.ends (at_below filers i (end, tally) at) in
      let p = at_exists ps i (subst (λ (n : ℕ). i < n) (sym links) low) in
      let j = at_exists js (1 + i) (subst (λ (n : ℕ). 1 + i < n) (sym journals) (omega arith)) in
      let h = ran.filed i p.0 j.0 low p.1 j.1 in let came = h.7 in
      let same : Path (FilerEnd × Tally) (h.2, h.3) (end, tally) = some-injective (h.2, h.3) (end, tally) (sym h.6 ∙ at) in
      ap (λ (t : FilerEnd × Tally). t.0) (sym same) ∙ filer_ended h.2 (λ e. no_link i p.0 h.0 p.1 h.4 (came.link_fault e)) (λ e. no_sink (1 + i) j.0 h.1 j.1 h.5 (came.journal_fault e))),
)

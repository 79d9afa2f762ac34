-- What the player of a line comes to.
use Rattle.std.proofs.Common.{◌≡◌, ◌⊎◌, inl, ℕ, ◌+◌, ◌≤◌, List, [], ◌++◌, true, false, Result, sym, ap, ◌∙◌, subst, arith}
use Rattle.std.specs.Prelude.{is_err}
use Rattle.gate_base.specs.Faults.{HasCause, Rose}
use Rattle.gate_io.specs.Flow.{Gives}
use Rattle.playout.specs.declared.call.Call.{Call}
use Rattle.recorder.specs.declared.tally.PlayTally.{PlayTally}
use Rattle.recorder.specs.Heads.{Heading, head_text, play_magic}
use Rattle.recorder.specs.Tallies.{play_tally}
use Rattle.slot_ring.specs.Seen.{PassView, Grown}
use Rattle.player.specs.Beats.{Playing, Starts, standing}
use Rattle.player.specs.Whole.{PlayerGave, PlayerTold}
use Rattle.player.specs.declared.run.PlayerEnd.{PlayerEnd}
use Rattle.player.specs.declared.run.PlayerEnd.TheVariants.{Ended, SpeakerFault, JournalFault, MicFault, ReplyFault}
use Rattle.line_run.specs.declared.options.LineOptions.{LineOptions}
use Rattle.line_run.specs.Callers.{PassPlayed}
use Rattle.line_run.specs.Opening.{heading}
use Rattle.line_run.specs.Playing.{PlayerCame, ports}
use Rattle.line_run.specs.Seen.{PlayerSeen, SinkSeen}
use Rattle.line_run.proofs.CameSo.{gave, rose_from}
use Rattle.line_run.proofs.Carried.{all_grown}

-- a run over the side of a pass that had made no call
pub record PlayedOver (o : LineOptions) (a : PlayerSeen) (j : SinkSeen) (b : PlayerSeen) (j' : SinkSeen) (pass result : PassView) (end : PlayerEnd) (tally : PlayTally) : Type 0 where
  pub same : (result.ring ≡ pass.ring) × (result.who ≡ pass.who)
  pub played : PassPlayed o result.list a j b j' end tally

pub played_over : (o : LineOptions) (a b : PlayerSeen) (j j' : SinkSeen) (pass side side2 result : PassView) (p q : Playing) (at at2 slots slots2 : ℕ) (end : PlayerEnd) (tally : PlayTally)
    → side ≡ pass → result ≡ side2 → pass.list ≡ [] → slots ≡ o.g → Starts o.seed o.own o.sequence o.stamp o.ticks o.elastic p
    → PlayerTold Grown o.seed o.own o.sequence o.stamp o.elastic j.faults j'.faults (standing p side at slots a.speaker.given j.given a.microphone.left a.reply.log) (standing q side2 at2 slots2 b.speaker.given j'.given b.microphone.left b.reply.log) end
    → b.clock.ticks ≡ a.clock.ticks + q.made → q.made ≤ p.ticks → (end ≡ Ended → (b.clock.ended ≡ true) ⊎ (q.made ≡ p.ticks)) → tally ≡ q.tally → b.reply.ended ≡ a.reply.ended
    → PlayedOver o a j b j' pass result end tally
played_over o a b j j' pass side side2 result p q at at2 slots slots2 end tally first last none size starts told ticked within ended counted open_still =
    let h = all_grown side told.calls side2 told.side in
    let calls : told.calls ≡ result.list = sym (ap (λ (x : PassView). x.list) last ∙ (h.2 ∙ (λ i. ((ap (λ (x : PassView). x.list) first ∙ none) i) ++ told.calls))) in
    record {
      same = (ap (λ (x : PassView). x.ring) last ∙ (h.0 ∙ ap (λ (x : PassView). x.ring) first), ap (λ (x : PassView). x.who) last ∙ (h.1 ∙ ap (λ (x : PassView). x.who) first));
      played = record {
        made = q.made;
        gave = subst (λ (x : List Call × ℕ). PlayerGave o.seed o.own o.sequence o.stamp o.elastic x.1 j.faults j'.faults q.made x.0 (ports a j) (ports b j') end) (λ i. (calls i, size i)) told.gave;
        ticked = ticked;
        within = subst (λ (n : ℕ). q.made ≤ n) starts.limit within;
        ended = subst (λ (n : ℕ). end ≡ Ended → (b.clock.ended ≡ true) ⊎ (q.made ≡ n)) starts.limit ended;
        counted = counted ∙ (told.tally ∙ ap play_tally calls);
        open_still = open_still;
      };
    }

-- the counts of a run, and why it ended so
pub record Blamed (a : PlayerSeen) (j : SinkSeen) (b : PlayerSeen) (j' : SinkSeen) (end : PlayerEnd) : Type 0 where
  pub speaker_later : a.speaker.faults ≤ b.speaker.faults
  pub journal_later : j.faults ≤ j'.faults
  pub mic_later : a.microphone.faults ≤ b.microphone.faults
  pub reply_later : a.reply.faults ≤ b.reply.faults
  pub speaker_fault : end ≡ SpeakerFault → Rose a.speaker.faults b.speaker.faults
  pub journal_fault : end ≡ JournalFault → Rose j.faults j'.faults
  pub mic_fault : end ≡ MicFault → Rose a.microphone.faults b.microphone.faults
  pub reply_fault : end ≡ ReplyFault → Rose a.reply.faults b.reply.faults

-- behind its head
pub sounded : {T E : Type 0} (filers : ℕ) (o : LineOptions) (a b : PlayerSeen) (j opened j' : SinkSeen) (r : Result T E) (head : Heading) (calls : List Call) (end : PlayerEnd) (tally : PlayTally)
    → Gives j.given opened.given r (head_text play_magic head) → HasCause j.faults opened.faults r → is_err r ≡ false → head ≡ heading filers o → PassPlayed o calls a opened b j' end tally → Blamed a opened b j' end
    → PlayerCame filers o a j b j' calls end tally
sounded filers o a b j opened j' r head calls end tally gives cause fine is p blamed =
    let later : j.faults ≤ opened.faults = cause.later in let more : opened.faults ≤ j'.faults = blamed.journal_later in
    record {
      came = inl (record {
        opened = opened;
        made = p.made;
        head = gave j.given opened.given r (head_text play_magic (heading filers o)) (subst (λ (h : Heading). Gives j.given opened.given r (head_text play_magic h)) is gives) fine;
        later = later;
        gave = p.gave;
        ticked = p.ticked;
        within = p.within;
        ended = p.ended;
        counted = p.counted;
        open_still = p.open_still;
      });
      speaker_later = blamed.speaker_later;
      journal_later = omega arith;
      mic_later = blamed.mic_later;
      reply_later = blamed.reply_later;
      speaker_fault = blamed.speaker_fault;
      journal_fault = λ e. rose_from j.faults opened.faults j'.faults later (blamed.journal_fault e);
      mic_fault = blamed.mic_fault;
      reply_fault = blamed.reply_fault;
    }

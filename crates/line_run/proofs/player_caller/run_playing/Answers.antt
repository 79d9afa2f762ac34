use Rattle.std.proofs.Common.{rules, ◌≡◌, refl, ap, ◌∙◌}
use Rattle.slot_ring.specs.Seen.{PassView}
use Rattle.line_run.specs.Seen.{player_seen, sink_seen}
use Rattle.line_run.proofs.Sounded.{sounded}
use Rattle.line_run.proofs.player_caller.run_playing.Goals as goal

pub returns-clause-ran : goal.returns-clause-ran
returns-clause-ran g c =
    let l = c.args.plan.now in let r = c.requires in let k = c.args in let ran = c.play_over-pass in let e = ran.ensures in let new = ran.new in let head = c.write_play_head in
    let sink = sink_seen g.J.Sink in
    let same : c.in-Some.pass ≡ r.pass = search rules in
    record {
      pass = ran.result.0;
      has = refl;
      of_ring = e.pass.0 ∙ (ap (λ (x : PassView). x.ring) same ∙ r.of_ring);
      who = e.pass.1 ∙ (ap (λ (x : PassView). x.who) same ∙ r.who);
      came = sounded l.filers l.options (player_seen g.C.TickClock g.O.Sink g.I.Source g.P.Link k.clock.now k.speaker.now k.microphone.now k.reply.now) (player_seen g.C.TickClock g.O.Sink g.I.Source g.P.Link new.clock new.speaker new.microphone new.reply)
          (sink k.journal.now) (sink head.new.sink) (sink new.journal) head.result c.head.result ran.result.0.list ran.result.1 ran.result.2
          head.ensures.given head.ensures.cause (search rules) c.head.ensures e.played (record {
            speaker_later = e.speaker_later;
            journal_later = e.journal_later;
            mic_later = e.mic_later;
            reply_later = e.reply_later;
            speaker_fault = e.speaker_fault;
            journal_fault = e.journal_fault;
            mic_fault = e.mic_fault;
            reply_fault = e.reply_fault;
          });
    }

pub returns-clause-journal_kin : goal.returns-clause-journal_kin
returns-clause-journal_kin g c = g.met.J.Sink.kin_after c.args.journal.now c.write_play_head.new.sink c.play_over-pass.new.journal c.write_play_head.ensures.kin c.play_over-pass.ensures.journal_kin

use Rattle.std.proofs.Common.{◌≤◌, ap, ◌∙◌, refl, arith}
use Rattle.player.specs.Beats.{Playing, standing_of}
use Rattle.player.proofs.Running.{plays-more, plays-none}
use Rattle.player.proofs.player.Player.play_on.Goals as goal

pub loop-self-init : goal.loop-self-init
loop-self-init g c =
    let speaker : g.O.Sink.faults c.args.speaker.now ≤ g.O.Sink.faults c.args.speaker.now = omega arith in
    let journal : g.J.Sink.faults c.args.journal.now ≤ g.J.Sink.faults c.args.journal.now = omega arith in
    let mic : g.I.Source.faults c.args.microphone.now ≤ g.I.Source.faults c.args.microphone.now = omega arith in
    let reply : g.P.Link.faults c.args.reply.now ≤ g.P.Link.faults c.args.reply.now = omega arith in (
      plays-none g.S.PlayerSide.did c.args.self.now.made (standing_of g.S.PlayerSide g.O.Sink g.J.Sink g.I.Source g.P.Link c.args.self.now c.args.side.now c.args.speaker.now c.args.journal.now c.args.microphone.now c.args.reply.now) c.requires.made,
      omega (arith, c.requires.made),
      refl,
      omega (arith, c.requires.made),
      omega (arith, c.requires.made, c.requires.position, c.held-few.ensures.few),
      refl,
      refl,
      refl,
      speaker,
      journal,
      mic,
      reply,
      g.met.O.Sink.kin_same c.args.speaker.now,
      g.met.J.Sink.kin_same c.args.journal.now,
    )

pub loop-self-preserved : goal.loop-self-preserved
loop-self-preserved g c =
    let inv = c.loop-self.invariant in
    let e = c.beat.ensures in
    let made = ap (λ (p : Playing). p.made) c.self-in-loop-self.view_is in
    let ticks = ap (λ (p : Playing). p.ticks) c.self-in-loop-self.view_is in
    let speaker : g.O.Sink.faults c.args.speaker.now ≤ g.O.Sink.faults c.beat.new.speaker = omega (arith, inv.8, e.speaker_later) in
    let journal : g.J.Sink.faults c.args.journal.now ≤ g.J.Sink.faults c.beat.new.journal = omega (arith, inv.9, e.journal_later) in
    let mic : g.I.Source.faults c.args.microphone.now ≤ g.I.Source.faults c.beat.new.microphone = omega (arith, inv.10, e.mic_later) in
    let reply : g.P.Link.faults c.args.reply.now ≤ g.P.Link.faults c.beat.new.reply = omega (arith, inv.11, e.reply_later) in (
      plays-more g.S.PlayerSide.did c.loop-self.self.made c.beat.new.self.made
          (standing_of g.S.PlayerSide g.O.Sink g.J.Sink g.I.Source g.P.Link c.args.self.now c.args.side.now c.args.speaker.now c.args.journal.now c.args.microphone.now c.args.reply.now)
          (standing_of g.S.PlayerSide g.O.Sink g.J.Sink g.I.Source g.P.Link c.loop-self.self c.loop-self.side c.loop-self.speaker c.loop-self.journal c.loop-self.microphone c.loop-self.reply)
          (standing_of g.S.PlayerSide g.O.Sink g.J.Sink g.I.Source g.P.Link c.beat.new.self c.beat.new.side c.beat.new.speaker c.beat.new.journal c.beat.new.microphone c.beat.new.reply)
          e.made inv.0 c.in-Played.ensures.beats,
      omega (arith, c.in-Tick.ensures.waits.0, inv.1, e.made),
      e.most ∙ inv.2,
      omega (arith, e.made, e.most, c.loop-self-test.true, made, ticks),
      e.position,
      e.elastic ∙ inv.5,
      e.slots ∙ inv.6,
      e.ended ∙ inv.7,
      speaker,
      journal,
      mic,
      reply,
      g.met.O.Sink.kin_after c.args.speaker.now c.loop-self.speaker c.beat.new.speaker inv.12 e.speaker_kin,
      g.met.J.Sink.kin_after c.args.journal.now c.loop-self.journal c.beat.new.journal inv.13 e.journal_kin,
    )

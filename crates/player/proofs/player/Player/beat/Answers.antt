use Rattle.std.proofs.Common.{◌≡◌, ◌+◌, refl, sym, ap, subst, ◌∙◌}
use Rattle.std.specs.List.{flat_map}
use Rattle.substitution.specs.Heard.{sample_octets}
use Rattle.recorder.specs.Play.{call_text}
use Rattle.player.specs.Beats.{Beats, Playing, standing_of}
use Rattle.player.specs.declared.beat.Beat.{Beat}
use Rattle.player.specs.declared.beat.Beat.TheVariants.{SpeakerFault, JournalFault}
use Rattle.player.proofs.Beating.{beat-is, beat_of, beaten-is, hears-of, replies-of, writes-of}
use Rattle.player.proofs.player.Player.beat.Goals.{in-Sent, in-Silent, in-MicFault, in-ReplyFault}
use Rattle.player.proofs.player.Player.beat.Goals as goal

pub returns-in-Err-clause-beats : goal.returns-in-Err-clause-beats
returns-in-Err-clause-beats g c =
    let inside = c.self.inside in
    let was : Playing = record { voice = inside.voice; stream = inside.stream; tally = inside.tally; opened = inside.opened; made = inside.made; ticks = inside.ticks; held = inside.held; elastic = inside.elastic } in
    let now : Playing = record { voice = c.speak.new.voice; stream = inside.stream; tally = c.count_calls.new.tally; opened = c.opened_after-self-inside.result; made = inside.made + 1; ticks = inside.ticks; held = c.held_after-self-inside.result; elastic = inside.elastic } in
    let spoken = c.in-Err.ensures.spoken in
    let asked = c.ask-calls.ensures in
    beat-is g.S.PlayerSide.did _ _ was SpeakerFault c.ask-calls.result c.item_of_beat-item.result spoken.0 (record {
      was_is = c.self.view_is;
      asks = asked.asks;
      told = asked.told;
      side = asked.side;
      position = asked.position;
      slots = asked.slots;
      gives = c.item_of_beat-item.ensures;
      now = beaten-is was now c.ask-calls.result c.count_calls.ensures c.opened_after-self-inside.ensures refl refl c.held_after-self-inside.ensures refl;
    }) spoken.3 spoken.2 spoken.1 refl (refl, refl, refl)

pub returns-in-Err-write_calls-clause-beats : goal.returns-in-Err-write_calls-clause-beats
returns-in-Err-write_calls-clause-beats g c =
    let inside = c.self.inside in
    let was : Playing = record { voice = inside.voice; stream = inside.stream; tally = inside.tally; opened = inside.opened; made = inside.made; ticks = inside.ticks; held = inside.held; elastic = inside.elastic } in
    let now : Playing = record { voice = c.speak.new.voice; stream = inside.stream; tally = c.count_calls.new.tally; opened = c.opened_after-self-inside.result; made = inside.made + 1; ticks = inside.ticks; held = c.held_after-self-inside.result; elastic = inside.elastic } in
    let spoken = c.in_default.ensures.spoken in
    let asked = c.ask-calls.ensures in
    beat-is g.S.PlayerSide.did _ _ was JournalFault c.ask-calls.result c.item_of_beat-item.result spoken.0 (record {
      was_is = c.self.view_is;
      asks = asked.asks;
      told = asked.told;
      side = asked.side;
      position = asked.position;
      slots = asked.slots;
      gives = c.item_of_beat-item.ensures;
      now = beaten-is was now c.ask-calls.result c.count_calls.ensures c.opened_after-self-inside.ensures refl refl c.held_after-self-inside.ensures refl;
    }) spoken.3 spoken.2 spoken.1 c.in-Err-write_calls.ensures.given (refl, refl, refl)

pub returns-clause-beats : goal.returns-clause-beats
returns-clause-beats g c =
    let inside = c.self.inside in
    let was : Playing = record { voice = inside.voice; stream = inside.stream; tally = inside.tally; opened = inside.opened; made = inside.made; ticks = inside.ticks; held = inside.held; elastic = inside.elastic } in
    let now : Playing = record { voice = c.speak.new.voice; stream = c.send.new.self; tally = c.count_calls.new.tally; opened = c.opened_after-self-inside.result; made = inside.made + 1; ticks = inside.ticks; held = c.held_after-self-inside.result; elastic = inside.elastic } in
    let spoken = c.in_default.ensures.spoken in
    let asked = c.ask-calls.ensures in
    let r = c.send.result in
    let end-is : c.match-send.result ≡ beat_of r = elim c.match-send.branch [
      | in-Sent w ↦ w.result-is ∙ ap beat_of (sym w.in-Sent.is)
      | in-Silent w ↦ w.result-is ∙ ap beat_of (sym w.in-Silent.is)
      | in-MicFault w ↦ w.result-is ∙ ap beat_of (sym w.in-MicFault.is)
      | in-ReplyFault w ↦ w.result-is ∙ ap beat_of (sym w.in-ReplyFault.is)
    ] in
    subst (λ (e : Beat). Beats g.S.PlayerSide.did
    (standing_of g.S.PlayerSide g.O.Sink g.J.Sink g.I.Source g.P.Link c.args.self.now c.args.side.now c.args.speaker.now c.args.journal.now c.args.microphone.now c.args.reply.now)
    (standing_of g.S.PlayerSide g.O.Sink g.J.Sink g.I.Source g.P.Link now c.ask-calls.new.side c.speak.new.speaker c.write_calls.new.journal c.send.new.microphone c.send.new.reply) e)
    (sym end-is)
    (beat-is g.S.PlayerSide.did _ _ was (beat_of r) c.ask-calls.result c.item_of_beat-item.result spoken.0 (record {
      was_is = c.self.view_is;
      asks = asked.asks;
      told = asked.told;
      side = asked.side;
      position = asked.position;
      slots = asked.slots;
      gives = c.item_of_beat-item.ensures;
      now = beaten-is was now c.ask-calls.result c.count_calls.ensures c.opened_after-self-inside.ensures refl refl c.held_after-self-inside.ensures refl;
    }) spoken.3 spoken.2
    (hears-of _ _ (sample_octets spoken.0) r spoken.1) (writes-of _ _ (flat_map call_text c.ask-calls.result) r c.in_default-write_calls.ensures.given)
    (replies-of _ _ _ _ _ _ r c.send.ensures.returns))

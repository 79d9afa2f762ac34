use Rattle.std.proofs.Common.{List, ℕ, ◌∷◌, [], subst, sym}
use Rattle.std.specs.List.{flat_map}
use Rattle.frame_codec.specs.declared.item.Item.{Item}
use Rattle.substitution.specs.Heard.{sample_octets}
use Rattle.recorder.specs.Play.{call_text}
use Rattle.recorder.specs.Tallies.{call_items}
use Rattle.script_runs.specs.Playing.{GoesOn}
use Rattle.script_runs.specs.declared.playback.Playback.{Playback}
use Rattle.script_runs.specs.declared.playback.Playback.TheVariants.{Pcm}
use Rattle.script_runs.proofs.Playbacks.{speech-goes-on}
use Rattle.script_runs.proofs.playback.Playback.beat.Goals as goal

pub returns-in-Pcm-clause-played : goal.returns-in-Pcm-clause-played
returns-in-Pcm-clause-played g c =
    let journal : List ℕ = flat_map call_text c.args.calls.now in
    let said = c.speak.ensures.spoken in
    let goes_on = speech-goes-on journal c.item_of_beat.result c.in-Pcm.voice c.speak.new.voice said.0 said.2 in (
      sample_octets said.0,
      subst (λ (p : Playback). GoesOn journal (flat_map call_items c.args.calls.now) p (Pcm c.speak.new.voice) (sample_octets said.0)) (sym c.in-Pcm.is)
          (subst (λ (is : List Item). GoesOn journal is (Pcm c.in-Pcm.voice) (Pcm c.speak.new.voice) (sample_octets said.0)) (sym c.item_of_beat.ensures) goes_on),
      said.1,
    )

use Rattle.std.proofs.Common.{◌≡◌, List, [], ◌∷◌, ◌++◌, sym, ap, subst, ◌∙◌, append-nil}
use Rattle.std.specs.Prelude.{ℤ}
use Rattle.std.proofs.KnownBytes.{Appends-nil}
use Rattle.frame_codec.specs.declared.item.Item.{Item}
use Rattle.substitution.specs.Heard.{Voices}
use Rattle.replay_check.specs.Render.{event_items}
use Rattle.replay_check.proofs.rendering.play_event.Goals as goal

pub returns-in-Some-clause-played : goal.returns-in-Some-clause-played
returns-in-Some-clause-played g c =
    let p = c.give_speech.ensures.played in
    let is : event_items c.args.event.now ≡ c.in-Some.item ∷ [] = c.in-Some.ensures in (
      p.0,
      λ seed items samples before. subst (λ (l : List Item). Voices seed (items ++ l) (samples ++ p.0) c.give_speech.new.voice) (sym is) (p.1 seed items samples before),
      p.2,
    )

pub returns-in-None-clause-played : goal.returns-in-None-clause-played
returns-in-None-clause-played g c =
    let none : event_items c.args.event.now ≡ [] = c.in-None.ensures in (
      [],
      λ seed items samples before.
          subst (λ (l : List Item). Voices seed l (samples ++ []) c.args.voice.now) (sym (append-nil items) ∙ ap (λ (l : List Item). items ++ l) (sym none))
          (subst (λ (l : List ℤ). Voices seed items l c.args.voice.now) (sym (append-nil samples)) before),
      Appends-nil (g.O.Sink.given c.args.pcm.now),
    )

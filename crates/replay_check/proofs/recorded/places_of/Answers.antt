use Rattle.std.proofs.Common.{◌<◌, ◌∙◌, ℕ, length, sym, ap, arith}
use Rattle.std.specs.Prelude.{Vec}
use Rattle.std.specs.Global.{Global}
use Rattle.replay_check.proofs.Recordings.{found-none, found-some, none-there, some-there}
use Rattle.replay_check.proofs.recorded.places_of.Goals as goal
use Rattle.replay_check.proofs.recorded.places_of.Goals.{then-is_some+in_ok-push, else-is_some}

pub events-preserved : goal.events-preserved
events-preserved c =
    let below : c.events.place < length c.args.journal.now.events = omega (arith, c.events-test.true, c.len-place-end.ensures.value) in
    elim c.if-is_some.branch [
      | then-is_some+in_ok-push w ↦
          let call = some-there c.call_of.result (sym c.is_some.ensures ∙ w.if-is_some.true) in
          found-some c.args.journal.now.events c.events.places.items c.if-is_some.places.items c.events.place c.get.result.now call.0 below c.get.ensures.value
          (sym c.call_of.ensures ∙ call.1) (ap (λ (v : Vec ℕ Global). v.items) w.places-is ∙ w.in_ok-push.ensures.items) c.events.invariant
      | else-is_some w ↦
          rw w.places-is (found-none c.args.journal.now.events c.events.places.items c.events.place c.get.result.now below c.get.ensures.value
          (sym c.call_of.ensures ∙ none-there c.call_of.result (sym c.is_some.ensures ∙ w.if-is_some.false)) c.events.invariant)
    ]

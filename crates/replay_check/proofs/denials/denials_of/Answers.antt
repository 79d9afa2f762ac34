use Rattle.std.proofs.Common.{◌≡◌, ◌+◌, ◌<◌, ◌∙◌, ℕ, List, [], length, take, drop, Some, ap, sym, subst, refl, arith}
use Rattle.std.proofs.lemmas.List.{length-replicate}
use Rattle.playout.specs.declared.call.Call.{Call}
use Rattle.playout.specs.History.{moves}
use Rattle.replay_check.specs.Denials.{AreDenials, LooksWithin}
use Rattle.replay_check.specs.Journals.{plays_in}
use Rattle.replay_check.specs.Lists.{first_of}
use Rattle.replay_check.proofs.Denied.{denials-length, denials-more, denials-none, looks_within, moves-few, moves-more, one-move, take-more}
use Rattle.replay_check.proofs.Recordings.{play-found}
use Rattle.replay_check.proofs.denials.denials_of.Goals as goal

pub events-init : goal.events-init
events-init c = record {
  room = ap length c.in_ok-denials.ensures ∙ length-replicate _ _ ∙ ap (λ (n : ℕ). n + 1024) c.len.ensures.value;
  moved = refl;
  denials = subst (λ (l : List ℕ). AreDenials l []) (sym c.in_ok-denials.ensures) (denials-none _);
}

pub note-requires-clause-reach : goal.note-requires-clause-reach
note-requires-clause-reach c =
    let below : c.events.place < length c.args.player.now.events = omega (arith, c.events-test.true, c.len-place-end.ensures.value) in
    subst (LooksWithin 1024) (sym c.play_of-call.ensures) (looks_within c.args.player.now c.events.place c.get.result.now c.len.ensures.fits below c.get.ensures.value)

pub note-requires-clause-room : goal.note-requires-clause-room
note-requires-clause-room c =
    let few = moves-few (plays_in c.args.player.now.events) c.events.place in
    omega (arith, few, c.events-test.true, c.len-place-end.ensures.value, c.events.invariant.moved, c.events.invariant.room)

pub overflow_add-moved : goal.overflow_add-moved
overflow_add-moved c =
    let few = moves-few (plays_in c.args.player.now.events) c.events.place in
    let one = one-move c.play_of-call.result in
    omega (arith, few, one, c.weight_of-moved.ensures, c.events-test.true, c.len-place-end.ensures.value, c.events.invariant.moved, c.len.ensures.fits.few)

pub events-preserved : goal.events-preserved
events-preserved c =
    let plays = plays_in c.args.player.now.events in
    let place = c.events.place in
    let call = c.play_of-call.result in
    let below : place < length c.args.player.now.events = omega (arith, c.events-test.true, c.len-place-end.ensures.value) in
    let next : Some call ≡ first_of (drop place plays) = ap (λ (x : Call). Some x) c.play_of-call.ensures ∙ play-found c.args.player.now.events place c.get.result.now below c.get.ensures.value in
    let few = moves-few plays place in
    record {
      room = ap length c.note.ensures ∙ denials-length call c.events.moved place c.events.denials.items ∙ c.events.invariant.room;
      moved = omega (arith, c.events.invariant.moved, c.weight_of-moved.ensures, ap moves (take-more plays place call next), moves-more (take place plays) call);
      denials = denials-more plays c.events.denials.items c.note.new.denials.items place c.events.moved call next c.events.invariant.moved (omega (arith, few, below, c.events.invariant.moved, c.events.invariant.room))
          (subst (LooksWithin 1024) (sym c.play_of-call.ensures) (looks_within c.args.player.now place c.get.result.now c.len.ensures.fits below c.get.ensures.value)) c.note.ensures c.events.invariant.denials;
    }

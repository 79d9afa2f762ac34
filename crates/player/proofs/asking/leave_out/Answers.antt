use Rattle.std.proofs.Common.{◌≡◌, ◌<◌, ◌^◌, ◌∷◌, [], true, false, inl, inr, sym, subst}
use Rattle.std.proofs.lemmas.Nat.{pow_below, pow_pos}
use Rattle.playout.specs.declared.call.Call.TheVariants.{LookCall}
use Rattle.player.specs.Parts.{LeavesOut}
use Rattle.player.proofs.BeatParts.{Asks-as, left-out, looked, looked-twice}
use Rattle.player.proofs.asking.leave_out.Goals as goal

pub look-after-requires-clause-slot : goal.look-after-requires-clause-slot
look-after-requires-clause-slot g c = subst (λ k. 1 < 2 ^ k) (sym c.look-next.ensures.slots) (pow_below 0 _ c.requires.slots)

pub returns-else-after-clause-asks : goal.returns-else-after-clause-asks
returns-else-after-clause-asks g c =
    let s = g.S.PlayerSide in
    let slot : 1 < 2 ^ s.g c.look-next.new.self = subst (λ k. 1 < 2 ^ k) (sym c.look-next.ensures.slots) (pow_below 0 _ c.requires.slots) in
    let first = looked s 0 c.look-next.result false c.args.side.now c.look-next.new.self c.args.calls.now c.push.new.self c.if-next.false (pow_pos _) c.look-next.ensures.did c.look-next.ensures.stays c.look-next.ensures.slots c.push.ensures in
    let second = looked s 1 c.look-after.result false c.look-next.new.self c.look-after.new.self c.push.new.self c.push-2.new.self c.if-after.false slot c.look-after.ensures.did c.look-after.ensures.stays c.look-after.ensures.slots c.push-2.ensures in
    let both = looked-twice s false c.args.side.now c.look-next.new.self c.look-after.new.self c.args.calls.now c.push.new.self c.push-2.new.self first second in
    Asks-as s (λ part. part ≡ LookCall 0 false ∷ LookCall 1 false ∷ []) LeavesOut c.args.side.now c.look-after.new.self c.args.calls.now c.push-2.new.self (λ part is. inr (inl is)) both

pub returns-then-after-clause-asks : goal.returns-then-after-clause-asks
returns-then-after-clause-asks g c =
    let s = g.S.PlayerSide in
    let slot : 1 < 2 ^ s.g c.look-next.new.self = subst (λ k. 1 < 2 ^ k) (sym c.look-next.ensures.slots) (pow_below 0 _ c.requires.slots) in
    let first = looked s 0 c.look-next.result false c.args.side.now c.look-next.new.self c.args.calls.now c.push.new.self c.if-next.false (pow_pos _) c.look-next.ensures.did c.look-next.ensures.stays c.look-next.ensures.slots c.push.ensures in
    let second = looked s 1 c.look-after.result true c.look-next.new.self c.look-after.new.self c.push.new.self c.push-2.new.self c.if-after.true slot c.look-after.ensures.did c.look-after.ensures.stays c.look-after.ensures.slots c.push-2.ensures in
    let both = looked-twice s true c.args.side.now c.look-next.new.self c.look-after.new.self c.args.calls.now c.push.new.self c.push-2.new.self first second in
    left-out s c.args.side.now c.look-after.new.self c.retire.new.side c.args.calls.now c.push-2.new.self c.retire.new.calls both c.retire.ensures.asks

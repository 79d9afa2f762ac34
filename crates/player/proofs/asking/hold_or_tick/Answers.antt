use Rattle.std.proofs.Common.{◌≡◌, ◌∷◌, [], true, inl, ap, arith}
use Rattle.playout.specs.declared.call.Call.TheVariants.{HoldCall}
use Rattle.player.specs.Beats.{HoldsOrTicks}
use Rattle.player.proofs.BeatParts.{Asks-as, Asks-one}
use Rattle.player.proofs.asking.hold_or_tick.Goals as goal

pub returns-else-not-held : goal.returns-else-not-held
returns-else-not-held g c =
    Asks-as g.S.PlayerSide (λ part. part ≡ HoldCall true ∷ []) HoldsOrTicks c.args.side.now c.hold-held.new.self c.args.calls.now c.push.new.self (λ part is. inl is)
    (Asks-one g.S.PlayerSide (HoldCall c.hold-held.result) (HoldCall true) c.args.side.now c.hold-held.new.self c.args.calls.now c.push.new.self
    (ap HoldCall c.if-not-held.false) tt c.hold-held.ensures.did (omega (arith, c.hold-held.ensures.stays)) c.hold-held.ensures.slots c.push.ensures)

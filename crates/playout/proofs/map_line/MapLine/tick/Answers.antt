use Rattle.std.proofs.Common.{◌+◌, ◌^◌, ap, ◌∙◌, arith}
use Rattle.playout.specs.Machine.{Frames, item_of}
use Rattle.playout.specs.Line.{Line}
use Rattle.playout.proofs.Moved.{moved}
use Rattle.playout.proofs.map_line.MapLine.tick.Goals as goal

pub invariant_of-self : goal.invariant_of-self
invariant_of-self c =
    let a = c.self.inside in
    let m = moved (2 ^ a.g) a.position a.pairs.items c.take_front-front.new.pairs.items c.take_front-front.result c.self.invariant.rises c.self.invariant.window c.take_front-front.ensures.pairs in
    record { g = c.self.invariant.g; started = omega (arith, c.self.invariant.started); position = omega (arith, c.requires, ap (λ (l : Line). l.machine.position) c.self.view_is); rises = m.rises; window = m.window; room = omega (arith, c.self.invariant.room, c.take_front-front.ensures.capacity) }

pub returns-clause-step : goal.returns-clause-step
returns-clause-step c =
    let a = c.self.inside in
    let m = moved (2 ^ a.g) a.position a.pairs.items c.take_front-front.new.pairs.items c.take_front-front.result c.self.invariant.rises c.self.invariant.window c.take_front-front.ensures.pairs in
    let made : Frames → Line = λ h. record { filers = a.filers; g = a.g; machine = record { source = a.source; base = a.base; position = a.position + 1; frames = h } } in
    rw (← c.self.view_is) (c.item_of.ensures.value ∙ ap item_of m.item, ap made m.rest)

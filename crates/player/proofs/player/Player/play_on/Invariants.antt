use Rattle.std.proofs.Common.{◌≡◌, ◌≤◌, ◌+◌, ◌-◌, ◌^◌}
use Rattle.player.specs.Beats.{standing_of}
use Rattle.player.specs.PlayerRuns.{PlaysOn}
use Rattle.player.proofs.player.Player.play_on.Given as goal

abbrev pub invariant-loop-self : goal.invariant-loop-self
invariant-loop-self g l =
    PlaysOn g.S.PlayerSide.did l.self.made
    (standing_of g.S.PlayerSide g.O.Sink g.J.Sink g.I.Source g.P.Link l.fn.self l.fn.side l.fn.speaker l.fn.journal l.fn.microphone l.fn.reply)
    (standing_of g.S.PlayerSide g.O.Sink g.J.Sink g.I.Source g.P.Link l.self l.side l.speaker l.journal l.microphone l.reply)
    × (g.C.TickClock.ticks l.clock ≡ g.C.TickClock.ticks l.fn.clock + l.self.made)
    × (l.self.ticks ≡ l.fn.self.ticks)
    × (l.self.made ≤ l.self.ticks)
    × (g.S.PlayerSide.position l.side + l.self.held ≤ 2 ^ 32 + l.self.made)
    × (l.self.elastic ≡ l.fn.self.elastic)
    × (g.S.PlayerSide.g l.side ≡ g.S.PlayerSide.g l.fn.side)
    × (g.P.Link.ended l.reply ≡ g.P.Link.ended l.fn.reply)
    × (g.O.Sink.faults l.fn.speaker ≤ g.O.Sink.faults l.speaker)
    × (g.J.Sink.faults l.fn.journal ≤ g.J.Sink.faults l.journal)
    × (g.I.Source.faults l.fn.microphone ≤ g.I.Source.faults l.microphone)
    × (g.P.Link.faults l.fn.reply ≤ g.P.Link.faults l.reply)
    × g.O.Sink.kin l.fn.speaker l.speaker
    × g.J.Sink.kin l.fn.journal l.journal

abbrev pub decreases-loop-self : goal.decreases-loop-self
decreases-loop-self g l = l.self.ticks - l.self.made

use Rattle.std.proofs.Common.{[], ◌≤◌, arith}
use Rattle.filer.specs.Turns.{standing}
use Rattle.filer.proofs.Ending.{goes-idle, goes-went, stops-ended, stops-journal, stops-link}
use Rattle.filer.proofs.Turning.{went-none}
use Rattle.filer.proofs.filer.Filer.run_on.Goals as goal

pub loop-init : goal.loop-init
loop-init g c =
    let link : g.P.Link.faults c.args.link.now ≤ g.P.Link.faults c.args.link.now = omega arith in
    let journal : g.J.Sink.faults c.args.journal.now ≤ g.J.Sink.faults c.args.journal.now = omega arith in
    (([], [], 0, went-none g.S.FilerSide.did (standing c.args.self.now c.args.side.now (g.P.Link.log c.args.link.now) (g.J.Sink.given c.args.journal.now))), link, journal, g.met.J.Sink.kin_same c.args.journal.now)

pub loop-preserved-in-Went : goal.loop-preserved-in-Went
loop-preserved-in-Went g c =
    let link : g.P.Link.faults c.args.link.now ≤ g.P.Link.faults c.turn.new.link = omega (arith, c.loop.invariant.1, c.turn.ensures.link_later) in
    let journal : g.J.Sink.faults c.args.journal.now ≤ g.J.Sink.faults c.turn.new.journal = omega (arith, c.loop.invariant.2, c.turn.ensures.journal_later) in (
      goes-went g.S.FilerSide.did (standing c.args.self.now c.args.side.now (g.P.Link.log c.args.link.now) (g.J.Sink.given c.args.journal.now)) (standing c.loop.self c.loop.side (g.P.Link.log c.loop.link) (g.J.Sink.given c.loop.journal)) (standing c.turn.new.self c.turn.new.side (g.P.Link.log c.turn.new.link) (g.J.Sink.given c.turn.new.journal)) c.loop.invariant.0 c.in-Went.ensures.turned,
      link,
      journal,
      g.met.J.Sink.kin_after c.args.journal.now c.loop.journal c.turn.new.journal c.loop.invariant.3 c.turn.ensures.kin,
    )

pub loop-preserved : goal.loop-preserved
loop-preserved g c =
    let link : g.P.Link.faults c.args.link.now ≤ g.P.Link.faults c.turn.new.link = omega (arith, c.loop.invariant.1, c.turn.ensures.link_later) in
    let journal : g.J.Sink.faults c.args.journal.now ≤ g.J.Sink.faults c.turn.new.journal = omega (arith, c.loop.invariant.2, c.turn.ensures.journal_later) in (
      goes-idle g.S.FilerSide.did (standing c.args.self.now c.args.side.now (g.P.Link.log c.args.link.now) (g.J.Sink.given c.args.journal.now)) (standing c.loop.self c.loop.side (g.P.Link.log c.loop.link) (g.J.Sink.given c.loop.journal)) (standing c.turn.new.self c.turn.new.side (g.P.Link.log c.turn.new.link) (g.J.Sink.given c.turn.new.journal)) c.loop.invariant.0 c.in-Idle.ensures.turned,
      link,
      journal,
      g.met.J.Sink.kin_after c.args.journal.now c.loop.journal c.turn.new.journal c.loop.invariant.3 c.turn.ensures.kin,
    )

pub returns-in-Ended-clause-stopped : goal.returns-in-Ended-clause-stopped
returns-in-Ended-clause-stopped g c = stops-ended g.S.FilerSide.did (standing c.args.self.now c.args.side.now (g.P.Link.log c.args.link.now) (g.J.Sink.given c.args.journal.now)) (standing c.loop.self c.loop.side (g.P.Link.log c.loop.link) (g.J.Sink.given c.loop.journal)) (standing c.turn.new.self c.turn.new.side (g.P.Link.log c.turn.new.link) (g.J.Sink.given c.turn.new.journal)) c.loop.invariant.0 c.in-Ended.ensures.turned

pub returns-in-Ended-clause-kin : goal.returns-in-Ended-clause-kin
returns-in-Ended-clause-kin g c = g.met.J.Sink.kin_after c.args.journal.now c.loop.journal c.turn.new.journal c.loop.invariant.3 c.turn.ensures.kin

pub returns-in-LinkFault-clause-stopped : goal.returns-in-LinkFault-clause-stopped
returns-in-LinkFault-clause-stopped g c = stops-link g.S.FilerSide.did (standing c.args.self.now c.args.side.now (g.P.Link.log c.args.link.now) (g.J.Sink.given c.args.journal.now)) (standing c.loop.self c.loop.side (g.P.Link.log c.loop.link) (g.J.Sink.given c.loop.journal)) (standing c.turn.new.self c.turn.new.side (g.P.Link.log c.turn.new.link) (g.J.Sink.given c.turn.new.journal)) c.loop.invariant.0 c.in-LinkFault.ensures.turned

pub returns-in-LinkFault-clause-kin : goal.returns-in-LinkFault-clause-kin
returns-in-LinkFault-clause-kin g c = g.met.J.Sink.kin_after c.args.journal.now c.loop.journal c.turn.new.journal c.loop.invariant.3 c.turn.ensures.kin

pub returns-in-JournalFault-clause-stopped : goal.returns-in-JournalFault-clause-stopped
returns-in-JournalFault-clause-stopped g c = stops-journal g.S.FilerSide.did (standing c.args.self.now c.args.side.now (g.P.Link.log c.args.link.now) (g.J.Sink.given c.args.journal.now)) (standing c.loop.self c.loop.side (g.P.Link.log c.loop.link) (g.J.Sink.given c.loop.journal)) (standing c.turn.new.self c.turn.new.side (g.P.Link.log c.turn.new.link) (g.J.Sink.given c.turn.new.journal)) c.loop.invariant.0 c.in-JournalFault.ensures.turned

pub returns-in-JournalFault-clause-kin : goal.returns-in-JournalFault-clause-kin
returns-in-JournalFault-clause-kin g c = g.met.J.Sink.kin_after c.args.journal.now c.loop.journal c.turn.new.journal c.loop.invariant.3 c.turn.ensures.kin

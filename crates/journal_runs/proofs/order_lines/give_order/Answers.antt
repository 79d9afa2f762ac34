use Rattle.std.proofs.Common.{◌≡◌, List, ℕ, ◌++◌, take, slice_index, sym, ap, subst, ◌∙◌, arith}
use Rattle.std.proofs.lemmas.List.{take_all}
use Rattle.gate_io.specs.Flow.{Gives}
use Rattle.gate_io.specs.FlowLaws.{Gives-after}
use Rattle.gate_notes.specs.Notes.{caller_line, order_lines}
use Rattle.journal_runs.proofs.OrderLines.{Written, broken-off, nothing-written, written-more}
use Rattle.journal_runs.proofs.order_lines.give_order.Goals as goal

pub calls-init : goal.calls-init
calls-init g c =
    let given = g.O.Sink.given in
    record {
      sofar = subst (λ (p : List ℕ). Written c.args.filers c.args.order.now 0 (given c.args.output.now) (given c.args.output.now) p) (sym c.new-page.ensures) (nothing-written c.args.filers c.args.order.now (given c.args.output.now));
      later = omega arith;
      kin = g.met.O.Sink.kin_same c.args.output.now;
    }

pub calls-preserved : goal.calls-preserved
calls-preserved g c =
    let given = g.O.Sink.given in
    let front = c.in-Ok.ensures.front in
    let more : c.put_caller.new.page ≡ c.make_room.new.page ++ caller_line c.args.filers (slice_index c.args.order.now c.calls.i) =
    c.put_caller.ensures.text ∙ ap (λ (who : ℕ). c.make_room.new.page ++ caller_line c.args.filers who) c.get.ensures in
    record {
      sofar = written-more c.args.filers c.args.order.now c.calls.i (given c.args.output.now) (given c.calls.output) (given c.make_room.new.output) c.calls.page c.calls.invariant.sofar
          c.make_room.new.page c.put_caller.new.page front.text front.rest (omega (arith, c.calls-test.true, c.len-i-end.ensures)) front.parts front.given front.left more;
      later = omega (arith, c.calls.invariant.later, c.make_room.ensures.cause.later);
      kin = g.met.O.Sink.kin_after c.args.output.now c.calls.output c.make_room.new.output c.calls.invariant.kin c.make_room.ensures.kin;
    }

pub returns-in-Err-clause-given : goal.returns-in-Err-clause-given
returns-in-Err-clause-given g c =
    let given = g.O.Sink.given in
    let front = c.in-Err.ensures.front in
    broken-off c.args.filers c.args.order.now c.calls.i (given c.args.output.now) (given c.calls.output) (given c.make_room.new.output) c.calls.page c.calls.invariant.sofar front.text front.rest front.parts front.given

pub returns-clause-given : goal.returns-clause-given
returns-clause-given g c =
    let given = g.O.Sink.given in
    let w = c.calls.invariant.sofar in
    let whole : take c.calls.i c.args.order.now ≡ c.args.order.now = take_all c.calls.i c.args.order.now (omega (arith, c.len-i-end.ensures)) in
    let all : w.text ++ c.calls.page ≡ order_lines c.args.filers c.args.order.now = w.written ∙ ap (order_lines c.args.filers) whole in
    subst (Gives (given c.args.output.now) (given c.give.new.output) c.give.result) all
    (Gives-after (given c.args.output.now) (given c.calls.output) (given c.give.new.output) c.give.result w.text c.calls.page w.given c.give.ensures.given)

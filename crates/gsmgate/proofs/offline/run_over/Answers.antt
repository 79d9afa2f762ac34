use Rattle.std.proofs.Common.{◌≡◌, List, length, map, sym, ap, subst, arith}
use Rattle.std.specs.Prelude.{◌⊎◌}
use Rattle.std.specs.Vec.{with_items}
use Rattle.std.proofs.lemmas.List.{with_items_is}
use Rattle.gate_base.specs.Faults.{Rose}
use Rattle.command_line.specs.Said.{FilesSaid}
use Rattle.command_line.specs.declared.line.Command.{Command}
use Rattle.gsmgate.specs.Commands.{CompletesAs, EndsAs, StopsAs}
use Rattle.gate_notes.specs.Exchange.{Giving, SomeRose}
use Rattle.gsmgate.proofs.offline.run_over.Goals as goal

pub returns-clause-ran : goal.returns-clause-ran
returns-clause-ran g c = λ line.
    let left = g.I.Source.left in
    let faults = g.I.Source.faults in
    let inputs = c.args.inputs.now in
    let seen : c.as_mut_slice.result.now ≡ inputs.items = c.as_mut_slice.ensures.value in
    let long : length c.run_command.new.inputs ≡ inputs.len = omega (arith, ap (λ (l : List g.row.I.Denot). length l) seen, inputs.ok.0) in
    let now = with_items_is inputs c.run_command.new.inputs long in
    let command : c.line.inside.command ≡ c.args.line.now.command = ap (λ (s : FilesSaid). s.command) c.line.view_is in
    let giving : Giving = record { output = g.O.Sink.given c.args.output.now; output_now = g.O.Sink.given c.run_command.new.output; notes = g.E.Sink.given c.args.notes.now; notes_now = g.E.Sink.given c.run_command.new.notes; noted = g.E.Sink.faults c.args.notes.now; noted_now = g.E.Sink.faults c.run_command.new.notes } in
    let Completed : Command → List g.row.I.Denot → List g.row.I.Denot → Type 0 = λ k l l'. CompletesAs k c.run_command.result (map left l)
    (SomeRose (map faults l) (map faults l') ⊎ Rose (g.O.Sink.faults c.args.output.now) (g.O.Sink.faults c.run_command.new.output) ⊎ Rose (g.E.Sink.faults c.args.notes.now) (g.E.Sink.faults c.run_command.new.notes)) in (
      subst (λ (k : Command). EndsAs k c.run_command.result (map left inputs.items) giving) command
          (subst (λ (l : List g.row.I.Denot). EndsAs c.line.inside.command c.run_command.result (map left l) giving) seen c.run_command.ensures.ends),
      subst (λ (k : Command). Completed k inputs.items (with_items inputs c.run_command.new.inputs).items) command
          (subst (λ (l : List g.row.I.Denot). Completed c.line.inside.command inputs.items l) (sym now)
          (subst (λ (l : List g.row.I.Denot). Completed c.line.inside.command l c.run_command.new.inputs) seen c.run_command.ensures.complete)),
    )

pub returns-clause-stops : goal.returns-clause-stops
returns-clause-stops g c = λ line.
    let left = g.I.Source.left in
    let faults = g.I.Source.faults in
    let inputs = c.args.inputs.now in
    let seen : c.as_mut_slice.result.now ≡ inputs.items = c.as_mut_slice.ensures.value in
    let long : length c.run_command.new.inputs ≡ inputs.len = omega (arith, ap (λ (l : List g.row.I.Denot). length l) seen, inputs.ok.0) in
    let now = with_items_is inputs c.run_command.new.inputs long in
    let command : c.line.inside.command ≡ c.args.line.now.command = ap (λ (s : FilesSaid). s.command) c.line.view_is in
    let giving : Giving = record { output = g.O.Sink.given c.args.output.now; output_now = g.O.Sink.given c.run_command.new.output; notes = g.E.Sink.given c.args.notes.now; notes_now = g.E.Sink.given c.run_command.new.notes; noted = g.E.Sink.faults c.args.notes.now; noted_now = g.E.Sink.faults c.run_command.new.notes } in
    let Stopped : Command → List g.row.I.Denot → List g.row.I.Denot → Type 0 = λ k l l'. StopsAs k c.run_command.result left faults l l' giving in
    subst (λ (k : Command). Stopped k inputs.items (with_items inputs c.run_command.new.inputs).items) command
    (subst (λ (l : List g.row.I.Denot). Stopped c.line.inside.command inputs.items l) (sym now)
    (subst (λ (l : List g.row.I.Denot). Stopped c.line.inside.command l c.run_command.new.inputs) seen c.run_command.ensures.stops))

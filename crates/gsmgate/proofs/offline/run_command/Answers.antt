use Rattle.std.proofs.Common.{◌≡◌, ◌∷◌, [], List, length, map, slice_index_or, slice_set, sym, subst}
use Rattle.std.specs.Prelude.{◌⊎◌}
use Rattle.gate_base.specs.Faults.{Rose}
use Rattle.gsmgate.specs.Commands.{CompletesAs, EndsAs, StopsAs}
use Rattle.gate_notes.specs.Exchange.{Giving, SomeRose}
use Rattle.gsmgate.proofs.Lines.{completes-weaker, one-fell, one-input, one-item, one-rose, one-set, rose-among}
use Rattle.gsmgate.proofs.offline.run_command.Goals as goal

pub returns-in_default : goal.returns-in_default
returns-in_default g c =
    let left = g.I.Source.left in
    let faults = g.I.Source.faults in
    let inputs = c.args.inputs.now in
    let y = c.run_one.new.input in
    let one = one-input c.args.command (length inputs) c.requires c.in_default.not-Verify c.in_default.not-Make in
    let x = slice_index_or inputs 0 c.index-inputs-0.result in
    let before : inputs ≡ x ∷ [] = one-item inputs c.index-inputs-0.result one in
    let now : slice_set inputs 0 y ≡ y ∷ [] = one-set inputs y one in
    let giving : Giving = record { output = g.O.Sink.given c.args.output.now; output_now = g.O.Sink.given c.run_one.new.output; notes = g.E.Sink.given c.args.notes.now; notes_now = g.E.Sink.given c.run_one.new.notes; noted = g.E.Sink.faults c.args.notes.now; noted_now = g.E.Sink.faults c.run_one.new.notes } in
    record {
      ends = subst (λ (l : List g.row.I.Denot). EndsAs c.args.command c.run_one.result (map left l) giving) (sym before) c.run_one.ensures.ends;
      stops = subst (λ (l : List g.row.I.Denot). StopsAs c.args.command c.run_one.result left faults l (slice_set inputs 0 y) giving) (sym before)
          (subst (λ (l : List g.row.I.Denot). StopsAs c.args.command c.run_one.result left faults (x ∷ []) l giving) (sym now) c.run_one.ensures.stops);
      line = c.run_one.ensures.line;
      later = (one-fell faults inputs (slice_set inputs 0 y) x y before now c.run_one.ensures.later.0, c.run_one.ensures.later.1, c.run_one.ensures.later.2);
      read = λ is. one-rose faults inputs (slice_set inputs 0 y) x y before now (c.run_one.ensures.read is);
      write = c.run_one.ensures.write;
      complete = completes-weaker c.args.command c.run_one.result (map left inputs)
          (Rose (faults x) (faults y) ⊎ Rose (g.O.Sink.faults c.args.output.now) (g.O.Sink.faults c.run_one.new.output) ⊎ Rose (g.E.Sink.faults c.args.notes.now) (g.E.Sink.faults c.run_one.new.notes))
          (SomeRose (map faults inputs) (map faults (slice_set inputs 0 y)) ⊎ Rose (g.O.Sink.faults c.args.output.now) (g.O.Sink.faults c.run_one.new.output) ⊎ Rose (g.E.Sink.faults c.args.notes.now) (g.E.Sink.faults c.run_one.new.notes))
          (rose-among faults inputs (slice_set inputs 0 y) x y before now)
          (subst (λ (l : List g.row.I.Denot). CompletesAs c.args.command c.run_one.result (map left l) (Rose (faults x) (faults y) ⊎ Rose (g.O.Sink.faults c.args.output.now) (g.O.Sink.faults c.run_one.new.output) ⊎ Rose (g.E.Sink.faults c.args.notes.now) (g.E.Sink.faults c.run_one.new.notes))) (sym before) c.run_one.ensures.complete);
      kin = c.run_one.ensures.kin;
    }

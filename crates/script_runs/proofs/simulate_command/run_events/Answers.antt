use Rattle.std.proofs.Common.{◌≡◌, ◌≤◌, ◌+◌, ℕ, ◌∷◌, [], ◌++◌, sym, ap, subst, ◌∙◌, inl, inr, arith}
use Rattle.gate_base.specs.Faults.{Rose}
use Rattle.playout.specs.Line.{Line}
use Rattle.recorder.specs.Reader.{Progress}
use Rattle.script_runs.specs.Calls.{IsCallable}
use Rattle.script_runs.specs.Applies.{Applies}
use Rattle.script_runs.specs.declared.run.Run.{Run}
use Rattle.script_runs.proofs.Sofar.{sofar-more, sofar-none, breaks, broken, callable, halts, refused}
use Rattle.script_runs.proofs.simulate_command.run_events.Goals as goal

pub apply-requires-clause-callable : goal.apply-requires-clause-callable
apply-requires-clause-callable g c =
    let s = c.events.invariant.sofar.2 in
    let all = rw c.in-Ok-Some.field-0-is at c.in-Ok-Some.ensures in
    let fits = all.fits c.args.head.now s.head s.over in
    subst (λ (n : ℕ). IsCallable n c.in-Ok-Some.event) (sym (ap (λ (l : Line). l.filers) s.line)) (callable c.args.head.now c.in-Ok-Some.event fits.0)

pub events-smaller : goal.events-smaller
events-smaller g c =
    let s = c.events.invariant.sofar.2 in
    let all = rw c.in-Ok-Some.field-0-is at c.in-Ok-Some.ensures in
    let fits = all.fits c.args.head.now s.head s.over in
    let count : c.next.new.self.count ≡ c.events.reader.count + 1 = ap (λ (r : Progress). r.count) (all.state s.over) in
    omega (arith, count, fits.1)

pub events-init : goal.events-init
events-init g c =
    let left = g.I.Source.left c.args.input.now in
    record {
      sofar = ([], [], sofar-none c.args.head.now c.args.playback.now c.args.reader.now c.args.start left (g.O.Sink.given c.args.output.now) (g.E.Sink.given c.args.notes.now) c.requires);
      read = omega arith;
      written = omega arith;
      counted = omega arith;
      output_kin = g.met.O.Sink.kin_same c.args.output.now;
      notes_kin = g.met.E.Sink.kin_same c.args.notes.now;
    }

pub apply-requires-clause-filers : goal.apply-requires-clause-filers
apply-requires-clause-filers g c =
    let s = c.events.invariant.sofar.2 in
    s.filers ∙ sym (ap (λ (l : Line). l.filers) s.line)

pub events-preserved : goal.events-preserved
events-preserved g c =
    let s = c.events.invariant.sofar.2 in
    let e = c.in-Ok-Some.event in
    let all = rw c.in-Ok-Some.field-0-is at c.in-Ok-Some.ensures in
    let fits = all.fits c.args.head.now s.head s.over in
    let left = g.I.Source.left in
    let given = g.O.Sink.given in
    let noted = g.E.Sink.given in
    let done = c.in-Ok.ensures.applied in
    let applies = subst (λ (r : Run). Applies e c.events.run r done.1) (sym done.4) done.3 in
    record {
      sofar = (
        c.events.invariant.sofar.0 ++ e ∷ [],
        c.events.invariant.sofar.1 ++ done.1 ∷ [],
        sofar-more c.args.head.now c.args.playback.now c.events.playback c.apply.new.playback c.events.reader c.next.new.self c.events.run c.in-Ok.next (left c.args.input.now) (left c.events.input) (left c.next.new.source)
            (given c.args.output.now) (given c.events.output) (given c.apply.new.output) (noted c.args.notes.now) (noted c.events.notes) (noted c.apply.new.notes)
            c.events.invariant.sofar.0 c.events.invariant.sofar.1 e done.1 done.2 s fits.0 fits.1 (all.text s.over) applies done.5 (all.state s.over) done.6 done.7,
      );
      read = omega (arith, c.events.invariant.read, c.next.ensures.later);
      written = omega (arith, c.events.invariant.written, c.apply.ensures.later.0);
      counted = omega (arith, c.events.invariant.counted, c.apply.ensures.later.1);
      output_kin = g.met.O.Sink.kin_after c.args.output.now c.events.output c.apply.new.output c.events.invariant.output_kin c.apply.ensures.kin.0;
      notes_kin = g.met.E.Sink.kin_after c.args.notes.now c.events.notes c.apply.new.notes c.events.invariant.notes_kin c.apply.ensures.kin.1;
    }

pub returns-in-Err-clause-ran : goal.returns-in-Err-clause-ran
returns-in-Err-clause-ran g c =
    let s = c.events.invariant.sofar.2 in
    let e = c.in-Ok-Some.event in
    let all = rw c.in-Ok-Some.field-0-is at c.in-Ok-Some.ensures in
    let fits = all.fits c.args.head.now s.head s.over in
    let left = g.I.Source.left in
    let given = g.O.Sink.given in
    let noted = g.E.Sink.given in
    let done = c.in-Err.ensures.applied in (
      c.events.invariant.sofar.0 ++ e ∷ [],
      c.events.invariant.sofar.1 ++ done.1 ∷ [],
      broken c.args.head.now c.args.playback.now c.events.playback c.apply.new.playback c.events.reader c.next.new.self c.events.run done.0 (left c.args.input.now) (left c.events.input) (left c.next.new.source)
          (given c.args.output.now) (given c.events.output) (given c.apply.new.output) (noted c.args.notes.now) (noted c.events.notes) (noted c.apply.new.notes)
          c.events.invariant.sofar.0 c.events.invariant.sofar.1 e done.1 done.2 s fits.0 fits.1 (all.text s.over) done.3 done.5 done.6 done.7,
    )

-- a count that rose since some moment rose since an earlier one
rose-since : (a b d : ℕ) → a ≤ b → Rose b d → Rose a d
rose-since a b d le r = omega arith

pub returns-in-Err-clause-write : goal.returns-in-Err-clause-write
returns-in-Err-clause-write g c = λ is.
    elim c.in-Err.ensures.failed [
      | inl output ↦ inl (rose-since _ _ _ c.events.invariant.written output)
      | inr notes ↦ inr (rose-since _ _ _ c.events.invariant.counted notes)
    ]

pub returns-in-Err-clause-kin : goal.returns-in-Err-clause-kin
returns-in-Err-clause-kin g c = (
  g.met.O.Sink.kin_after c.args.output.now c.events.output c.apply.new.output c.events.invariant.output_kin c.apply.ensures.kin.0,
  g.met.E.Sink.kin_after c.args.notes.now c.events.notes c.apply.new.notes c.events.invariant.notes_kin c.apply.ensures.kin.1,
)

pub returns-in-Err-Fault-clause-ran : goal.returns-in-Err-Fault-clause-ran
returns-in-Err-Fault-clause-ran g c =
    let s = c.events.invariant.sofar.2 in
    let all = rw c.in-Err-Fault.field-0-is at c.in-Err-Fault.ensures in
    (c.events.invariant.sofar.0, c.events.invariant.sofar.1, refused c.args.head.now c.args.playback.now c.events.playback c.events.reader c.events.run _ _ _ _ _ _ _ _ c.in-Err-Fault.fault s (all.fault c.args.head.now s.head s.over))

pub returns-in-Err-clause-stops : goal.returns-in-Err-clause-stops
returns-in-Err-clause-stops g c =
    let s = c.events.invariant.sofar.2 in
    let e = c.in-Ok-Some.event in
    let all = rw c.in-Ok-Some.field-0-is at c.in-Ok-Some.ensures in
    let fits = all.fits c.args.head.now s.head s.over in
    let left = g.I.Source.left in
    let given = g.O.Sink.given in
    let noted = g.E.Sink.given in
    let done = c.in-Err.ensures.applied in
    breaks c.args.head.now c.args.playback.now c.events.playback c.apply.new.playback c.events.reader c.next.new.self c.events.run done.0 (left c.args.input.now) (left c.events.input) (left c.next.new.source)
    (given c.args.output.now) (given c.events.output) (given c.apply.new.output) (noted c.args.notes.now) (noted c.events.notes) (noted c.apply.new.notes)
    c.events.invariant.sofar.0 c.events.invariant.sofar.1 e done.1 done.2 s fits.0 fits.1 (all.text s.over) done.3 done.5 c.requires.heading done.6 done.7

pub returns-in-Err-Fault-clause-stops : goal.returns-in-Err-Fault-clause-stops
returns-in-Err-Fault-clause-stops g c =
    let all = rw c.in-Err-Fault.field-0-is at c.in-Err-Fault.ensures in
    halts c.args.head.now c.args.playback.now c.events.playback c.events.reader c.events.run _ _ (g.I.Source.left c.next.new.source) _ _ _ _ _ _ c.requires.heading c.events.invariant.sofar.2 all.part

pub returns-in-Err-ReadFailed-clause-stops : goal.returns-in-Err-ReadFailed-clause-stops
returns-in-Err-ReadFailed-clause-stops g c =
    let all = rw c.in-Err-ReadFailed.field-0-is at c.in-Err-ReadFailed.ensures in
    halts c.args.head.now c.args.playback.now c.events.playback c.events.reader c.events.run _ _ (g.I.Source.left c.next.new.source) _ _ _ _ _ _ c.requires.heading c.events.invariant.sofar.2 all.part

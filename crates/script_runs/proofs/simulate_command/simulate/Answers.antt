use Rattle.std.proofs.Common.{[], refl, inl}
use Rattle.std.proofs.KnownBytes.{Appends-nil, Keeps-refl}
use Rattle.gate_notes.specs.Exchange.{Exchange}
use Rattle.script_runs.proofs.Ends.{breaks-off, broken-off, finished, front-breaks, gained, halted, head-refused, no-front, not_refused, refused-after, stopped, stops-behind}
use Rattle.script_runs.proofs.simulate_command.simulate.Goals as goal

pub returns-in-Err-Fault-clause-ends : goal.returns-in-Err-Fault-clause-ends
returns-in-Err-Fault-clause-ends g c =
    let all = rw c.in-Err-Fault.field-0-is at c.in-Err-Fault.ensures in
    let x : Exchange = record { input = g.I.Source.left c.args.input.now; output = g.O.Sink.given c.args.output.now; output_now = g.O.Sink.given c.args.output.now; notes = g.E.Sink.given c.args.notes.now; notes_now = g.E.Sink.given c.note_fault.new.notes; noted = g.E.Sink.faults c.args.notes.now; noted_now = g.E.Sink.faults c.note_fault.new.notes } in
    let last = rw c.in-Err-Fault.fault-is at c.note_fault.ensures.noted in
    head-refused c.args.voice x c.in-Err-Fault.fault refl (all.fault c.new-reader.ensures) last

pub returns-in-Err-front-clause-ends : goal.returns-in-Err-front-clause-ends
returns-in-Err-front-clause-ends g c =
    let x : Exchange = record { input = g.I.Source.left c.args.input.now; output = g.O.Sink.given c.args.output.now; output_now = g.O.Sink.given c.front.new.output; notes = g.E.Sink.given c.args.notes.now; notes_now = g.E.Sink.given c.args.notes.now; noted = g.E.Sink.faults c.args.notes.now; noted_now = g.E.Sink.faults c.args.notes.now } in
    no-front c.args.voice x c.in-Ok.head (g.I.Source.left c.head.new.source) c.new-playback.result (c.in-Ok.ensures.fits c.new-reader.ensures) c.new-playback.ensures (c.in-Ok.ensures.text c.new-reader.ensures) c.in-Err-front.ensures.given refl

pub returns-in-Ok-run_events-clause-ends : goal.returns-in-Ok-run_events-clause-ends
returns-in-Ok-run_events-clause-ends g c =
    let x : Exchange = record { input = g.I.Source.left c.args.input.now; output = g.O.Sink.given c.args.output.now; output_now = g.O.Sink.given c.finish.new.output; notes = g.E.Sink.given c.args.notes.now; notes_now = g.E.Sink.given c.finish.new.notes; noted = g.E.Sink.faults c.args.notes.now; noted_now = g.E.Sink.faults c.finish.new.notes } in
    let ran = c.in-Ok-run_events.ensures.ran in
    finished c.args.voice x c.in-Ok.head (g.I.Source.left c.head.new.source) c.new-playback.result (c.in-Ok.ensures.fits c.new-reader.ensures) c.new-playback.ensures (c.in-Ok.ensures.text c.new-reader.ensures)
    (g.O.Sink.given c.front.new.output) c.run_events.new.playback ran.0 ran.1 c.in-Ok-front.ensures.given
    c.in-Ok-run_events.last (g.O.Sink.given c.run_events.new.output) (g.E.Sink.given c.run_events.new.notes) ran.2 c.finish.result c.finish.ensures.finishes

pub returns-in-Ok-run_events-clause-kin : goal.returns-in-Ok-run_events-clause-kin
returns-in-Ok-run_events-clause-kin g c = (
  g.met.O.Sink.kin_after c.args.output.now c.run_events.new.output c.finish.new.output
      (g.met.O.Sink.kin_after c.args.output.now c.front.new.output c.run_events.new.output c.front.ensures.kin c.run_events.ensures.kin.0) c.finish.ensures.kin.0,
  g.met.E.Sink.kin_after c.args.notes.now c.run_events.new.notes c.finish.new.notes c.run_events.ensures.kin.1 c.finish.ensures.kin.1,
)

pub returns-in-Err-Refused-clause-ends : goal.returns-in-Err-Refused-clause-ends
returns-in-Err-Refused-clause-ends g c =
    let x : Exchange = record { input = g.I.Source.left c.args.input.now; output = g.O.Sink.given c.args.output.now; output_now = g.O.Sink.given c.run_events.new.output; notes = g.E.Sink.given c.args.notes.now; notes_now = g.E.Sink.given c.note_fault-in-Err-Refused.new.notes; noted = g.E.Sink.faults c.args.notes.now; noted_now = g.E.Sink.faults c.note_fault-in-Err-Refused.new.notes } in
    let all = rw c.in-Err-Refused.field-0-is at c.in-Err-Refused.ensures in
    let ran = all.ran in
    refused-after c.args.voice x c.in-Ok.head (g.I.Source.left c.head.new.source) c.new-playback.result (c.in-Ok.ensures.fits c.new-reader.ensures) c.new-playback.ensures (c.in-Ok.ensures.text c.new-reader.ensures)
    (g.O.Sink.given c.front.new.output) c.run_events.new.playback ran.0 ran.1 c.in-Ok-front.ensures.given
    c.in-Err-Refused.fault (g.E.Sink.given c.run_events.new.notes) (g.E.Sink.faults c.run_events.new.notes) ran.2 c.run_events.ensures.later.2 (rw c.in-Err-Refused.fault-is at c.note_fault-in-Err-Refused.ensures.noted)

pub returns-in-Err-ReadFault-clause-ends : goal.returns-in-Err-ReadFault-clause-ends
returns-in-Err-ReadFault-clause-ends g c =
    let x : Exchange = record { input = g.I.Source.left c.args.input.now; output = g.O.Sink.given c.args.output.now; output_now = g.O.Sink.given c.run_events.new.output; notes = g.E.Sink.given c.args.notes.now; notes_now = g.E.Sink.given c.run_events.new.notes; noted = g.E.Sink.faults c.args.notes.now; noted_now = g.E.Sink.faults c.run_events.new.notes } in
    let all = rw c.in-Err-ReadFault.field-0-is at c.in-Err-ReadFault.ensures in
    let ran = all.ran in
    stopped c.args.voice x c.in-Ok.head (g.I.Source.left c.head.new.source) c.new-playback.result (c.in-Ok.ensures.fits c.new-reader.ensures) c.new-playback.ensures (c.in-Ok.ensures.text c.new-reader.ensures)
    (g.O.Sink.given c.front.new.output) c.run_events.new.playback ran.0 ran.1 c.in-Ok-front.ensures.given ran.2

pub returns-in-Err-WriteFault-clause-ends : goal.returns-in-Err-WriteFault-clause-ends
returns-in-Err-WriteFault-clause-ends g c =
    let x : Exchange = record { input = g.I.Source.left c.args.input.now; output = g.O.Sink.given c.args.output.now; output_now = g.O.Sink.given c.run_events.new.output; notes = g.E.Sink.given c.args.notes.now; notes_now = g.E.Sink.given c.run_events.new.notes; noted = g.E.Sink.faults c.args.notes.now; noted_now = g.E.Sink.faults c.run_events.new.notes } in
    let all = rw c.in-Err-WriteFault.field-0-is at c.in-Err-WriteFault.ensures in
    let ran = all.ran in
    broken-off c.args.voice x c.in-Ok.head (g.I.Source.left c.head.new.source) c.new-playback.result (c.in-Ok.ensures.fits c.new-reader.ensures) c.new-playback.ensures (c.in-Ok.ensures.text c.new-reader.ensures)
    (g.O.Sink.given c.front.new.output) c.run_events.new.playback ran.0 ran.1 c.in-Ok-front.ensures.given ran.2

pub returns-in-Err-Fault-clause-complete : goal.returns-in-Err-Fault-clause-complete
returns-in-Err-Fault-clause-complete g c = λ octets h events told script fine.
    let x : Exchange = record { input = g.I.Source.left c.args.input.now; output = g.O.Sink.given c.args.output.now; output_now = g.O.Sink.given c.args.output.now; notes = g.E.Sink.given c.args.notes.now; notes_now = g.E.Sink.given c.note_fault.new.notes; noted = g.E.Sink.faults c.args.notes.now; noted_now = g.E.Sink.faults c.note_fault.new.notes } in
    absurd (not_refused c.scripts_have_no_fault.ensures c.args.voice x octets h events (returns-in-Err-Fault-clause-ends g c) told script)

pub returns-in-Err-Refused-clause-complete : goal.returns-in-Err-Refused-clause-complete
returns-in-Err-Refused-clause-complete g c = λ octets h events told script fine.
    let x : Exchange = record { input = g.I.Source.left c.args.input.now; output = g.O.Sink.given c.args.output.now; output_now = g.O.Sink.given c.run_events.new.output; notes = g.E.Sink.given c.args.notes.now; notes_now = g.E.Sink.given c.note_fault-in-Err-Refused.new.notes; noted = g.E.Sink.faults c.args.notes.now; noted_now = g.E.Sink.faults c.note_fault-in-Err-Refused.new.notes } in
    absurd (not_refused c.scripts_have_no_fault.ensures c.args.voice x octets h events (returns-in-Err-Refused-clause-ends g c) told script)

pub returns-in-Err-Fault-clause-stops : goal.returns-in-Err-Fault-clause-stops
returns-in-Err-Fault-clause-stops g c =
    let all = rw c.in-Err-Fault.field-0-is at c.in-Err-Fault.ensures in
    inl (Keeps-refl (g.O.Sink.given c.args.output.now), all.part)

pub returns-in-Err-ReadFailed-clause-stops : goal.returns-in-Err-ReadFailed-clause-stops
returns-in-Err-ReadFailed-clause-stops g c =
    let all = rw c.in-Err-ReadFailed.field-0-is at c.in-Err-ReadFailed.ensures in
    inl (Keeps-refl (g.O.Sink.given c.args.output.now), all.part)

pub returns-in-Err-front-clause-stops : goal.returns-in-Err-front-clause-stops
returns-in-Err-front-clause-stops g c =
    let x : Exchange = record { input = g.I.Source.left c.args.input.now; output = g.O.Sink.given c.args.output.now; output_now = g.O.Sink.given c.front.new.output; notes = g.E.Sink.given c.args.notes.now; notes_now = g.E.Sink.given c.args.notes.now; noted = g.E.Sink.faults c.args.notes.now; noted_now = g.E.Sink.faults c.args.notes.now } in
    front-breaks c.args.voice x c.in-Ok.head (g.I.Source.left c.head.new.source) c.new-playback.result (c.in-Ok.ensures.fits c.new-reader.ensures) c.new-playback.ensures (c.in-Ok.ensures.text c.new-reader.ensures) c.in-Err-front.ensures.given refl

pub returns-in-Ok-run_events-clause-stops : goal.returns-in-Ok-run_events-clause-stops
returns-in-Ok-run_events-clause-stops g c =
    let x : Exchange = record { input = g.I.Source.left c.args.input.now; output = g.O.Sink.given c.args.output.now; output_now = g.O.Sink.given c.finish.new.output; notes = g.E.Sink.given c.args.notes.now; notes_now = g.E.Sink.given c.finish.new.notes; noted = g.E.Sink.faults c.args.notes.now; noted_now = g.E.Sink.faults c.finish.new.notes } in
    let ran = c.in-Ok-run_events.ensures.ran in
    stops-behind c.args.voice x c.in-Ok.head (g.I.Source.left c.head.new.source) c.new-playback.result (c.in-Ok.ensures.fits c.new-reader.ensures) c.new-playback.ensures (c.in-Ok.ensures.text c.new-reader.ensures)
    (g.O.Sink.given c.front.new.output) c.run_events.new.playback ran.0 ran.1 c.in-Ok-front.ensures.given
    c.in-Ok-run_events.last (g.O.Sink.given c.run_events.new.output) (g.E.Sink.given c.run_events.new.notes) ran.2 c.finish.result (g.I.Source.left c.run_events.new.input) c.finish.ensures.finishes

pub returns-in-Err-Refused-clause-stops : goal.returns-in-Err-Refused-clause-stops
returns-in-Err-Refused-clause-stops g c =
    let x : Exchange = record { input = g.I.Source.left c.args.input.now; output = g.O.Sink.given c.args.output.now; output_now = g.O.Sink.given c.run_events.new.output; notes = g.E.Sink.given c.args.notes.now; notes_now = g.E.Sink.given c.note_fault-in-Err-Refused.new.notes; noted = g.E.Sink.faults c.args.notes.now; noted_now = g.E.Sink.faults c.note_fault-in-Err-Refused.new.notes } in
    let all = rw c.in-Err-Refused.field-0-is at c.in-Err-Refused.ensures in
    let line = gained (g.E.Sink.given c.run_events.new.notes) (g.E.Sink.given c.note_fault-in-Err-Refused.new.notes) (g.E.Sink.faults c.run_events.new.notes) (g.E.Sink.faults c.note_fault-in-Err-Refused.new.notes) _ c.note_fault-in-Err-Refused.ensures.noted in
    halted c.args.voice x c.in-Ok.head (g.I.Source.left c.head.new.source) c.new-playback.result (c.in-Ok.ensures.fits c.new-reader.ensures) c.new-playback.ensures (c.in-Ok.ensures.text c.new-reader.ensures)
    (g.O.Sink.given c.front.new.output) c.run_events.new.playback (g.I.Source.left c.run_events.new.input) c.in-Ok-front.ensures.given (g.E.Sink.given c.run_events.new.notes) line.0 all.stops line.1

pub returns-in-Err-ReadFault-clause-stops : goal.returns-in-Err-ReadFault-clause-stops
returns-in-Err-ReadFault-clause-stops g c =
    let x : Exchange = record { input = g.I.Source.left c.args.input.now; output = g.O.Sink.given c.args.output.now; output_now = g.O.Sink.given c.run_events.new.output; notes = g.E.Sink.given c.args.notes.now; notes_now = g.E.Sink.given c.run_events.new.notes; noted = g.E.Sink.faults c.args.notes.now; noted_now = g.E.Sink.faults c.run_events.new.notes } in
    let all = rw c.in-Err-ReadFault.field-0-is at c.in-Err-ReadFault.ensures in
    halted c.args.voice x c.in-Ok.head (g.I.Source.left c.head.new.source) c.new-playback.result (c.in-Ok.ensures.fits c.new-reader.ensures) c.new-playback.ensures (c.in-Ok.ensures.text c.new-reader.ensures)
    (g.O.Sink.given c.front.new.output) c.run_events.new.playback (g.I.Source.left c.run_events.new.input) c.in-Ok-front.ensures.given (g.E.Sink.given c.run_events.new.notes) [] all.stops (Appends-nil (g.E.Sink.given c.run_events.new.notes))

pub returns-in-Err-WriteFault-clause-stops : goal.returns-in-Err-WriteFault-clause-stops
returns-in-Err-WriteFault-clause-stops g c =
    let x : Exchange = record { input = g.I.Source.left c.args.input.now; output = g.O.Sink.given c.args.output.now; output_now = g.O.Sink.given c.run_events.new.output; notes = g.E.Sink.given c.args.notes.now; notes_now = g.E.Sink.given c.run_events.new.notes; noted = g.E.Sink.faults c.args.notes.now; noted_now = g.E.Sink.faults c.run_events.new.notes } in
    let all = rw c.in-Err-WriteFault.field-0-is at c.in-Err-WriteFault.ensures in
    breaks-off c.args.voice x c.in-Ok.head (g.I.Source.left c.head.new.source) c.new-playback.result (c.in-Ok.ensures.fits c.new-reader.ensures) c.new-playback.ensures (c.in-Ok.ensures.text c.new-reader.ensures)
    (g.O.Sink.given c.front.new.output) c.run_events.new.playback (g.I.Source.left c.run_events.new.input) c.in-Ok-front.ensures.given all.stops

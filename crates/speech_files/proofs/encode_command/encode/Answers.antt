use Rattle.std.proofs.Common.{inl}
use Rattle.std.proofs.KnownBytes.{Appends-nil}
use Rattle.gate_notes.specs.Exchange.{Exchange}
use Rattle.speech_files.proofs.EncodeEnds.{cut, not_refused}
use Rattle.speech_files.proofs.encode_command.encode.Goals as goal

pub returns-in-Err-clause-ends : goal.returns-in-Err-clause-ends
returns-in-Err-clause-ends g c =
    let x : Exchange = record { input = g.I.Source.left c.args.input.now; output = g.O.Sink.given c.args.output.now; output_now = g.O.Sink.given c.code_pieces.new.output; notes = g.E.Sink.given c.args.notes.now; notes_now = g.E.Sink.given c.give_frames.new.notes; noted = g.E.Sink.faults c.args.notes.now; noted_now = g.E.Sink.faults c.give_frames.new.notes } in
    let ran = c.in-Ok.ensures.ran in
    cut x ran.0 ran.1 c.in-Ok.count ran.2 c.in-Err.ensures.given

pub returns-in-Err-WriteFault-clause-ends : goal.returns-in-Err-WriteFault-clause-ends
returns-in-Err-WriteFault-clause-ends g c =
    let all = rw c.in-Err-WriteFault.field-0-is at c.in-Err-WriteFault.ensures in
    let ran = all.ran in
    (ran.0, ran.1, ran.2.encoded, inl (ran.2.text, ran.2.given, Appends-nil (g.E.Sink.given c.args.notes.now)))

pub returns-in-Err-Refused-clause-ends : goal.returns-in-Err-Refused-clause-ends
returns-in-Err-Refused-clause-ends g c =
    let all = rw c.in-Err-Refused.field-0-is at c.in-Err-Refused.ensures in
    let ran = all.ran in
    let noted = rw ran.2.limited.0 at (rw c.in-Err-Refused.fault-is at c.note_fault.ensures.noted) in
    (ran.0, ran.1, ran.2.encoded, ran.2.limited.1, ran.2.text, ran.2.given, noted)

pub returns-in-Err-Refused-clause-complete : goal.returns-in-Err-Refused-clause-complete
returns-in-Err-Refused-clause-complete g c = λ octets told few fine.
    let x : Exchange = record { input = g.I.Source.left c.args.input.now; output = g.O.Sink.given c.args.output.now; output_now = g.O.Sink.given c.code_pieces.new.output; notes = g.E.Sink.given c.args.notes.now; notes_now = g.E.Sink.given c.note_fault.new.notes; noted = g.E.Sink.faults c.args.notes.now; noted_now = g.E.Sink.faults c.note_fault.new.notes } in
    let all = rw c.in-Err-Refused.field-0-is at c.in-Err-Refused.ensures in
    let ran = all.ran in
    let noted = rw ran.2.limited.0 at (rw c.in-Err-Refused.fault-is at c.note_fault.ensures.noted) in
    absurd (not_refused x octets (ran.0, ran.1, ran.2.encoded, ran.2.limited.1, ran.2.text, ran.2.given, noted) told few)

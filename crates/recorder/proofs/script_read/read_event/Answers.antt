use Rattle.std.proofs.Common.{ℕ, Option, Err, sym, subst, ◌∷◌, [], arith}
use Rattle.std.specs.Prelude.{IfSome}
use Rattle.recorder.specs.declared.fault.RecordFault.{RecordFault}
use Rattle.recorder.specs.declared.events.ScriptEvent.{ScriptEvent}
use Rattle.recorder.specs.Reader.{Tells}
use Rattle.recorder.specs.Script.{kind_fault}
use Rattle.recorder.proofs.Taken.{behind_kind, fewer_of, fewer_behind, fewer_one}
use Rattle.recorder.proofs.script_read.read_event.Goals as goal

pub returns-in-Err-clause-fault : goal.returns-in-Err-clause-fault
returns-in-Err-clause-fault g c = c.in-Err.ensures.fault (kind_fault c.args.head.now)

pub returns-in-Err-read_file-clause-fault : goal.returns-in-Err-read_file-clause-fault
returns-in-Err-read_file-clause-fault g c =
    let mid = g.I.Source.left c.read_kind.new.source in
    let read = rw c.in-Ok-Some.field-0-is at c.in-Ok-Some.ensures in
    let Q : Option RecordFault → Type 0 = λ f. Tells {T = Option ScriptEvent} (Err c.in-Err-read_file.end) f in
    behind_kind (g.I.Source.left c.args.source.now) mid c.in-Ok-Some.kind c.args.count c.args.at (kind_fault c.args.head.now) Q read.kind.0 read.kind.1 read.text
    (subst (λ (k : ℕ). IfSome mid (λ rest. Q (kind_fault c.args.head.now k c.args.at rest))) (sym c.in-2.is) c.in-Err-read_file.ensures.fault)

pub returns-in-Err-read_datagram-clause-fault : goal.returns-in-Err-read_datagram-clause-fault
returns-in-Err-read_datagram-clause-fault g c =
    let mid = g.I.Source.left c.read_kind.new.source in
    let read = rw c.in-Ok-Some.field-0-is at c.in-Ok-Some.ensures in
    let Q : Option RecordFault → Type 0 = λ f. Tells {T = Option ScriptEvent} (Err c.in-Err-read_datagram.end) f in
    behind_kind (g.I.Source.left c.args.source.now) mid c.in-Ok-Some.kind c.args.count c.args.at (kind_fault c.args.head.now) Q read.kind.0 read.kind.1 read.text
    (subst (λ (k : ℕ). IfSome mid (λ rest. Q (kind_fault c.args.head.now k c.args.at rest))) (sym c.in-3.is) c.in-Err-read_datagram.ensures.fault)

pub returns-in-Err-clause-part : goal.returns-in-Err-clause-part
returns-in-Err-clause-part g c = fewer_of 2 2057 (g.I.Source.left c.args.source.now) (g.I.Source.left c.read_kind.new.source) (omega arith) c.in-Err.ensures.part

pub returns-in-Err-read_file-clause-part : goal.returns-in-Err-read_file-clause-part
returns-in-Err-read_file-clause-part g c =
    let read = rw c.in-Ok-Some.field-0-is at c.in-Ok-Some.ensures in
    fewer_behind 43 2057 (g.I.Source.left c.args.source.now) (g.I.Source.left c.read_kind.new.source) (g.I.Source.left c.read_file.new.source) (c.in-Ok-Some.kind ∷ []) (omega arith) read.text c.in-Err-read_file.ensures.part

pub returns-in-Err-read_datagram-clause-part : goal.returns-in-Err-read_datagram-clause-part
returns-in-Err-read_datagram-clause-part g c =
    let read = rw c.in-Ok-Some.field-0-is at c.in-Ok-Some.ensures in
    fewer_behind 2056 2057 (g.I.Source.left c.args.source.now) (g.I.Source.left c.read_kind.new.source) (g.I.Source.left c.read_datagram.new.source) (c.in-Ok-Some.kind ∷ []) (omega arith) read.text c.in-Err-read_datagram.ensures.part

pub returns-in_default-clause-part : goal.returns-in_default-clause-part
returns-in_default-clause-part g c =
    let read = rw c.in-Ok-Some.field-0-is at c.in-Ok-Some.ensures in
    fewer_one c.in-Ok-Some.kind 2057 (g.I.Source.left c.args.source.now) (g.I.Source.left c.read_kind.new.source) (omega arith) read.text

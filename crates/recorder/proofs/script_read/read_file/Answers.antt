use Rattle.std.proofs.Common.{◌≡◌, ℕ, List, length, None, Some, arith}
use Rattle.recorder.specs.Script.{file_fault}
use Rattle.recorder.specs.PieceLaws.{told}
use Rattle.recorder.proofs.Taken.{fewer_of, fewer_taken}
use Rattle.recorder.proofs.script_read.read_file.Goals as goal

pub returns-in-Ok-file_event-clause-fault : goal.returns-in-Ok-file_event-clause-fault
returns-in-Ok-file_event-clause-fault g c =
    let len : length c.fill.new.into ≡ 42 = c.fill.auto.into in
    told (g.I.Source.left c.args.source.now) (g.I.Source.left c.fill.new.source) c.in-Ok.count 42 c.fill.new.into
    (λ (l : List ℕ). file_fault c.args.head.now c.args.from l ≡ None)
    (omega (arith, len, c.in-Ok.ensures.within.0)) len c.in-Ok.ensures.filled.0 (λ lt. c.in-Ok.ensures.filled.1 (omega (arith, len))) c.in-Ok-file_event.ensures.fault

pub returns-in-Err-file_event-clause-fault : goal.returns-in-Err-file_event-clause-fault
returns-in-Err-file_event-clause-fault g c =
    let len : length c.fill.new.into ≡ 42 = c.fill.auto.into in
    told (g.I.Source.left c.args.source.now) (g.I.Source.left c.fill.new.source) c.in-Ok.count 42 c.fill.new.into
    (λ (l : List ℕ). file_fault c.args.head.now c.args.from l ≡ Some c.in-Err-file_event.fault)
    (omega (arith, len, c.in-Ok.ensures.within.0)) len c.in-Ok.ensures.filled.0 (λ lt. c.in-Ok.ensures.filled.1 (omega (arith, len))) c.in-Err-file_event.ensures.fault

pub returns-in-Err-clause-part : goal.returns-in-Err-clause-part
returns-in-Err-clause-part g c = fewer_of 42 43 (g.I.Source.left c.args.source.now) (g.I.Source.left c.fill.new.source) (omega arith) c.in-Err.ensures.part

pub returns-in-Err-file_event-clause-part : goal.returns-in-Err-file_event-clause-part
returns-in-Err-file_event-clause-part g c =
    let len : length c.fill.new.into ≡ 42 = c.fill.auto.into in
    fewer_taken c.in-Ok.count 42 43 (g.I.Source.left c.args.source.now) (g.I.Source.left c.fill.new.source) c.fill.new.into (omega (arith, len, c.in-Ok.ensures.within.0)) len (omega arith) c.in-Ok.ensures.filled.0

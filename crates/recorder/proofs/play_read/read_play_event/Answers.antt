use Rattle.std.proofs.Common.{◌≡◌, length, Option, None, Some, sym, ◌∙◌, arith, ◌∷◌, []}
use Rattle.std.proofs.lemmas.List.{length-take-le}
use Rattle.recorder.specs.Fields.{judged_behind}
use Rattle.recorder.specs.Play.{play_field_fault, play_width}
use Rattle.recorder.specs.declared.fault.RecordFault.{RecordFault}
use Rattle.recorder.proofs.Taken.{told_behind, fewer_of, fewer_behind, fewer_one, fewer_taken}
use Rattle.recorder.proofs.play_read.read_play_event.Goals as goal

pub returns-in-Err-clause-fault : goal.returns-in-Err-clause-fault
returns-in-Err-clause-fault g c = c.in-Err.ensures.fault (λ kind. judged_behind (play_width c.args.opening kind) (play_field_fault c.args.head.now.g kind))

pub returns-in-Err-play_event-clause-fault : goal.returns-in-Err-play_event-clause-fault
returns-in-Err-play_event-clause-fault g c =
    let left = g.I.Source.left in
    let kind = rw c.in-Ok-Some.field-0-is at c.in-Ok-Some.ensures in
    let len : length c.fill.new.into ≡ c.in-Some.width = c.fill.auto.into ∙ length-take-le c.in-Some.width _ c.in-Some.ensures.few in
    told_behind (left c.args.source.now) (left c.read_kind.new.source) (left c.fill.new.source) c.in-Ok-Some.kind c.args.count c.args.at c.in-Ok.there c.in-Some.width c.fill.new.into
    (play_width c.args.opening) (play_field_fault c.args.head.now.g) (λ (f : Option RecordFault). f ≡ Some c.in-Err-play_event.fault)
    kind.kind.0 kind.kind.1 kind.text (sym c.in-Some.ensures.width) (omega (arith, len, c.in-Ok.ensures.within.0)) len
    c.in-Ok.ensures.filled.0 (λ lt. c.in-Ok.ensures.filled.1 (omega (arith, len))) c.in-Err-play_event.ensures.fault

pub returns-in-Ok-play_event-clause-fault : goal.returns-in-Ok-play_event-clause-fault
returns-in-Ok-play_event-clause-fault g c =
    let left = g.I.Source.left in
    let kind = rw c.in-Ok-Some.field-0-is at c.in-Ok-Some.ensures in
    let len : length c.fill.new.into ≡ c.in-Some.width = c.fill.auto.into ∙ length-take-le c.in-Some.width _ c.in-Some.ensures.few in
    told_behind (left c.args.source.now) (left c.read_kind.new.source) (left c.fill.new.source) c.in-Ok-Some.kind c.args.count c.args.at c.in-Ok.there c.in-Some.width c.fill.new.into
    (play_width c.args.opening) (play_field_fault c.args.head.now.g) (λ (f : Option RecordFault). f ≡ None)
    kind.kind.0 kind.kind.1 kind.text (sym c.in-Some.ensures.width) (omega (arith, len, c.in-Ok.ensures.within.0)) len
    c.in-Ok.ensures.filled.0 (λ lt. c.in-Ok.ensures.filled.1 (omega (arith, len))) c.in-Ok-play_event.ensures.fault

pub returns-in-Err-clause-part : goal.returns-in-Err-clause-part
returns-in-Err-clause-part g c = fewer_of 2 35 (g.I.Source.left c.args.source.now) (g.I.Source.left c.read_kind.new.source) (omega arith) c.in-Err.ensures.part

pub returns-in-None-clause-part : goal.returns-in-None-clause-part
returns-in-None-clause-part g c =
    let read = rw c.in-Ok-Some.field-0-is at c.in-Ok-Some.ensures in
    fewer_one c.in-Ok-Some.kind 35 (g.I.Source.left c.args.source.now) (g.I.Source.left c.read_kind.new.source) (omega arith) read.text

pub returns-in-Err-fill-clause-part : goal.returns-in-Err-fill-clause-part
returns-in-Err-fill-clause-part g c =
    let read = rw c.in-Ok-Some.field-0-is at c.in-Ok-Some.ensures in
    let len : length c.fill.new.into ≡ c.in-Some.width = c.fill.auto.into ∙ length-take-le c.in-Some.width _ c.in-Some.ensures.few in
    fewer_behind _ 35 (g.I.Source.left c.args.source.now) (g.I.Source.left c.read_kind.new.source) (g.I.Source.left c.fill.new.source) (c.in-Ok-Some.kind ∷ []) (omega (arith, c.in-Some.ensures.few)) read.text c.in-Err-fill.ensures.part

pub returns-in-Err-play_event-clause-part : goal.returns-in-Err-play_event-clause-part
returns-in-Err-play_event-clause-part g c =
    let read = rw c.in-Ok-Some.field-0-is at c.in-Ok-Some.ensures in
    let len : length c.fill.new.into ≡ c.in-Some.width = c.fill.auto.into ∙ length-take-le c.in-Some.width _ c.in-Some.ensures.few in
    fewer_behind 34 35 (g.I.Source.left c.args.source.now) (g.I.Source.left c.read_kind.new.source) (g.I.Source.left c.fill.new.source) (c.in-Ok-Some.kind ∷ []) (omega arith) read.text
    (fewer_taken c.in-Ok.there c.in-Some.width 34 (g.I.Source.left c.read_kind.new.source) (g.I.Source.left c.fill.new.source) c.fill.new.into (omega (arith, len, c.in-Ok.ensures.within.0)) len (omega (arith, c.in-Some.ensures.few)) c.in-Ok.ensures.filled.0)

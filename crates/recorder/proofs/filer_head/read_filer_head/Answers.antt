use Rattle.std.proofs.Common.{◌≡◌, ℕ, List, length, Some, arith}
use Rattle.recorder.specs.Filing.{filer_head_fault}
use Rattle.recorder.specs.PieceLaws.{told}
use Rattle.recorder.proofs.Taken.{fewer_of, fewer_taken}
use Rattle.recorder.proofs.filer_head.read_filer_head.Goals as goal

pub returns-in-Err-filer_head_of-clause-fault : goal.returns-in-Err-filer_head_of-clause-fault
returns-in-Err-filer_head_of-clause-fault g c =
    let len : length c.fill.new.into ≡ 13 = c.fill.auto.into in
    told (g.I.Source.left c.args.source.now) (g.I.Source.left c.fill.new.source) c.in-Ok.count 13 c.fill.new.into
    (λ (l : List ℕ). filer_head_fault l ≡ Some c.in-Err-filer_head_of.fault)
    (omega (arith, len, c.in-Ok.ensures.within.0)) len c.in-Ok.ensures.filled.0 (λ lt. c.in-Ok.ensures.filled.1 (omega (arith, len))) c.in-Err-filer_head_of.ensures.fault

pub returns-in-Err-clause-part : goal.returns-in-Err-clause-part
returns-in-Err-clause-part g c = fewer_of 13 14 (g.I.Source.left c.args.source.now) (g.I.Source.left c.fill.new.source) (omega arith) c.in-Err.ensures.part

pub returns-in-Err-filer_head_of-clause-part : goal.returns-in-Err-filer_head_of-clause-part
returns-in-Err-filer_head_of-clause-part g c =
    let len : length c.fill.new.into ≡ 13 = c.fill.auto.into in
    fewer_taken c.in-Ok.count 13 14 (g.I.Source.left c.args.source.now) (g.I.Source.left c.fill.new.source) c.fill.new.into (omega (arith, len, c.in-Ok.ensures.within.0)) len (omega arith) c.in-Ok.ensures.filled.0

use Rattle.std.proofs.Common.{rules, arith, FitsSigned, w16, ◌≡◌, ◌<◌, length}
use Rattle.std.proofs.lemmas.Int.{to_z-of_z}
use Rattle.fixed_arith.specs.Signal.{at}
use Rattle.fr_encoder.proofs.PreprocessingLaws.{Preprocesses, Preprocesses-start, Preprocesses-more}
use Rattle.fr_encoder.proofs.preprocessing.Preprocessing.run.Goals as goal

pub loop-sample-init : goal.loop-sample-init
loop-sample-init c = Preprocesses-start c.args.self.now c.args.samples.now

pub loop-sample-preserved : goal.loop-sample-preserved
loop-sample-preserved c =
    let x : FitsSigned w16 (at c.loop-sample.samples c.loop-sample.sample-index) = search rules in
    let y : FitsSigned w16 c.step.result = search rules in
    let room : c.loop-sample.sample-index < length c.loop-sample.samples = omega (arith, c.loop-sample.invariant.size) in
    simp to_z-of_z (Preprocesses-more c.args.self.now c.args.samples.now c.loop-sample.samples c.loop-sample.self c.step.new.self c.step.result c.loop-sample.sample-index
    room c.loop-sample.invariant (simp to_z-of_z at c.step.ensures.next) c.step.ensures.output)

pub returns : goal.returns
returns c =
    let end : c.loop-sample.sample-index ≡ 160 = omega arith in
    let done : Preprocesses c.args.self.now c.args.samples.now c.loop-sample.samples c.loop-sample.self 160 = rw end at c.loop-sample.invariant in
    record { last = done.now_is; output = done.done }

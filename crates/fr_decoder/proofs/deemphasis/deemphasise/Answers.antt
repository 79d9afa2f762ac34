use Rattle.std.proofs.Common.{rules, arith, FitsSigned, w16, to_z, ◌≡◌, ◌<◌, length}
use Rattle.std.proofs.lemmas.Int.{to_z-of_z}
use Rattle.fixed_arith.specs.Signal.{at}
use Rattle.fr_decoder.proofs.DeemphasisLaws.{Deemphasises, Deemphasises-start, Deemphasises-more}
use Rattle.fr_decoder.proofs.deemphasis.deemphasise.Goals as goal

pub loop-sample-init : goal.loop-sample-init
loop-sample-init c =
    let before : FitsSigned w16 c.args.before = c.ranges.before in
    simp to_z-of_z (Deemphasises-start c.args.before c.args.samples.now)

pub loop-sample-preserved : goal.loop-sample-preserved
loop-sample-preserved c =
    let before : FitsSigned w16 c.args.before = c.ranges.before in
    let x : FitsSigned w16 (at c.loop-sample.samples c.loop-sample.sample-index) = search rules in
    let value : FitsSigned w16 c.emphasise-value.result = search rules in
    let y : FitsSigned w16 c.output.result = search rules in
    let room : c.loop-sample.sample-index < length c.loop-sample.samples = omega (arith, c.loop-sample.invariant.size) in
    simp to_z-of_z (Deemphasises-more c.args.before c.args.samples.now c.loop-sample.samples (to_z w16 c.loop-sample.value-bits) c.emphasise-value.result c.output.result c.loop-sample.sample-index
    room (simp to_z-of_z at c.loop-sample.invariant) (simp to_z-of_z at c.emphasise-value.ensures) (simp to_z-of_z at c.output.ensures))

pub returns : goal.returns
returns c =
    let before : FitsSigned w16 c.args.before = c.ranges.before in
    let end : c.loop-sample.sample-index ≡ 160 = omega arith in
    let done : Deemphasises c.args.before c.args.samples.now c.loop-sample.samples (to_z w16 c.loop-sample.value-bits) 160 = rw end at (simp to_z-of_z at c.loop-sample.invariant) in
    record { last = done.now; output = done.done }

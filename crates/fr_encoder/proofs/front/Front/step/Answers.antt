use Rattle.std.proofs.Common.{rules, ◌≡◌, ◌++◌, pos, replicate, length}
use Rattle.lar_filter.specs.Ratios.{ratios_of}
use Rattle.lar_filter.specs.Autocorrelation.{onward}
use Rattle.lar_filter.specs.Rising.{RisesTo}
use Rattle.lar_filter.specs.RisingTrace.{RisesOver}
use Rattle.lar_filter.specs.Parts.{PassesFrame}
use Rattle.fr_encoder.specs.Fronting.{Kept, Carries, Fronts}
use Rattle.fr_encoder.proofs.FrontLaws.{Fronts-more}
use Rattle.fr_encoder.proofs.front.Front.step.Goals as goal

pub returns-clause-goes_on : goal.returns-clause-goes_on
returns-clause-goes_on c = λ before codes residual fronts.
    let kept : Kept = record { offset = c.self.inside.offset; ratios = c.self.inside.ratios; filter = c.self.inside.filter } in
    let next : Kept = record { offset = c.run.new.self; ratios = c.decode_lars-ratios.result; filter = c.run_frame.new.self } in
    let old : Fronts before codes residual kept = rw (← c.self.view_is) at fronts in
    let carried : Carries before codes residual kept = old.carried in
    let piece_size : length c.args.samples.now ≡ 160 = search rules in
    let ys_size : length c.run.new.samples ≡ 160 = search rules in
    let out_size : length c.run_frame.new.samples ≡ 160 = search rules in
    let passes : PassesFrame RisesTo RisesOver c.self.inside.ratios (ratios_of c.code_ratios-larc.result) (onward c.run.new.samples) (replicate 8 (pos 0)) carried.inputs
    (residual ++ c.run_frame.new.samples) c.run_frame.new.self =
    rw (← c.code_ratios-larc.ensures.samples, ← c.decode_lars-ratios.ensures) (c.run_frame.ensures.goes_on (replicate 8 (pos 0)) carried.inputs residual carried.run) in
    Fronts-more before codes residual kept next carried c.args.samples.now c.run.new.samples c.code_ratios-larc.result c.run_frame.new.samples
    piece_size ys_size out_size c.run.ensures.last c.run.ensures.output c.code_ratios-larc.ensures.codes passes c.decode_lars-ratios.ensures

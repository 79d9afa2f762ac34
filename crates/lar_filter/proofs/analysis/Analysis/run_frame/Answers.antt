use Rattle.lar_filter.specs.Rising.{RisesTo}
use Rattle.lar_filter.specs.RisingTrace.{RisesOver}
use Rattle.std.proofs.Common.{rules, ◌≡◌, ◌++◌, length}
use Rattle.lar_filter.specs.PartLaws.{PassesFrame-from_parts, pieces_are}
use Rattle.lar_filter.proofs.analysis.Analysis.run_frame.Goals as goal

pub returns : goal.returns
returns c =
    let size0 : length c.split_at_mut-first.result.0.now ≡ 13 = search rules in
    let size1 : length c.split_at_mut-second.result.0.now ≡ 14 = search rules in
    let size2 : length c.split_at_mut-third.result.0.now ≡ 13 = search rules in
    let whole : c.args.samples.now ≡ c.split_at_mut-first.result.0.now ++ (c.split_at_mut-second.result.0.now ++ (c.split_at_mut-third.result.0.now ++ c.split_at_mut-third.result.1.now)) =
    pieces_are c.args.samples.now _ _ _ _ _ _ 13 14 13 c.split_at_mut-first.ensures.front c.split_at_mut-first.ensures.back c.split_at_mut-second.ensures.front c.split_at_mut-second.ensures.back
    c.split_at_mut-third.ensures.front c.split_at_mut-third.ensures.back in
    record {
      goes_on = λ start inputs ys run.
          let first = c.run.ensures.goes_on start inputs ys run in
          let second = c.run-2.ensures.goes_on start _ _ first in
          let third = c.run-3.ensures.goes_on start _ _ second in
          PassesFrame-from_parts RisesTo RisesOver c.args.before.now c.args.now.now c.part_coefficients.result c.part_coefficients-2.result c.part_coefficients-3.result c.part_coefficients-4.result c.args.samples.now
          c.split_at_mut-first.result.0.now c.split_at_mut-second.result.0.now c.split_at_mut-third.result.0.now c.split_at_mut-third.result.1.now
          start inputs ys c.run.new.samples c.run-2.new.samples c.run-3.new.samples c.run-4.new.samples c.run-4.new.self
          whole size0 size1 size2 c.part_coefficients.ensures c.part_coefficients-2.ensures c.part_coefficients-3.ensures c.part_coefficients-4.ensures
          (c.run-4.ensures.goes_on start _ _ third) (c.run-4.ensures.equations start _ _ third);
    }

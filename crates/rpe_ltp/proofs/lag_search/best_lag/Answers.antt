use Rattle.std.proofs.Common.{rules, arith, refl, ◌∙◌, ◌≡◌, ◌≤◌, ◌<◌, ◌-◌, ◌*◌, ◌^◌, FitsSigned, w32}
use Rattle.std.specs.Prelude.{unsigned_abs}
use Rattle.std.proofs.lemmas.Int.{to_z-of_z}
use Rattle.fixed_arith.specs.Signal.{at}
use Rattle.rpe_ltp.specs.LagSearch.{lag_sum, lag_scaled}
use Rattle.rpe_ltp.proofs.LagLaws.{scan_same, best_small, by_place_small, place_of_lag}
use Rattle.rpe_ltp.proofs.lag_search.best_lag.Goals as goal

pub level-requires-clause-small : goal.level-requires-clause-small
level-requires-clause-small c =
    let best : FitsSigned w32 c.first_greatest-lag.result.1 = search rules in
    let inside : 120 - c.first_greatest-lag.result.0 < 81 = omega (arith, c.first_greatest-lag.ensures.least) in
    let sum : unsigned_abs (at c.lag_sums-sums.result (120 - c.first_greatest-lag.result.0)) ≤ 40 * 2 ^ 24 =
    rw (c.lag_sums-sums.ensures (120 - c.first_greatest-lag.result.0) inside) (by_place_small c.scaled_down-scale.result.0 c.widened-kept.result (120 - c.first_greatest-lag.result.0) c.scaled_down-scale.ensures.small c.widened-kept.ensures.words) in
    let small : unsigned_abs c.first_greatest-lag.result.1 ≤ 40 * 2 ^ 24 =
    best_small (λ l. at c.lag_sums-sums.result (120 - l)) c.first_greatest-lag.result.0 c.first_greatest-lag.result.1 (40 * 2 ^ 24) c.first_greatest-lag.ensures sum in
    simp to_z-of_z small

pub returns-clause-choice : goal.returns-clause-choice
returns-clause-choice c =
    let best : FitsSigned w32 c.first_greatest-lag.result.1 = search rules in
    let sum : FitsSigned w32 c.level.result = search rules in
    let power : FitsSigned w32 c.power.result = search rules in
    let kept : c.widened-kept.result ≡ c.args.history.now = c.widened-kept.ensures.value ∙ c.values.ensures in
    let told = simp to_z-of_z at c.gain.ensures.value in
    let level = simp to_z-of_z at c.level.ensures in
    record {
      best = c.first_greatest-lag.result.1;
      choice = scan_same (λ l. at c.lag_sums-sums.result (120 - l)) (lag_sum (lag_scaled c.args.d.now) c.args.history.now) c.first_greatest-lag.result.0 c.first_greatest-lag.result.1
          (λ l low high.
          let inside : 120 - l < 81 = omega arith in
          c.lag_sums-sums.ensures (120 - l) inside ∙ place_of_lag c.scaled_down-scale.result.0 c.widened-kept.result l low high
          ∙ (rw (c.scaled_down-scale.ensures.values, kept) refl))
          c.first_greatest-lag.ensures;
      coded = told ∙ (rw (level, c.power.ensures, c.scaled_down-scale.ensures.scale, kept) refl);
    }

use Rattle.std.proofs.Common.{arith, ◌∙◌, ◌≤◌, ◌+◌, ◌<◌, ◌^◌, ◌*ℤ◌, ◌+ℤ◌, refl, pos, get_or, replicate, FitsSigned, w32, to_z, of_z}
use Rattle.std.specs.Prelude.{unsigned_abs}
use Rattle.std.proofs.lemmas.Int.{fits_signed_from_abs}
use Rattle.std.proofs.lemmas.List.{length-map}
use borrow.Rule.Simd.Lanes.{act2}
use borrow.Table.Row.{s_int}
use mir.Syntax.{wrap_add, wrap_mul}
use Rattle.rpe_ltp.proofs.LaneLaws.{lane_at, lane_length, total_fits, product_below}
use Rattle.rpe_ltp.proofs.lag_sums.add_products.Goals as goal

pub returns-clause-lanes : goal.returns-clause-lanes
returns-clause-lanes c = length-map _ (to_z w32) ∙ lane_length (act2 wrap_add (s_int w32) (s_int w32) (s_int w32)) (act2 wrap_mul (s_int w32) (s_int w32) (s_int w32)) c.args.sums c.args.kept.now c.args.w (replicate 8 (of_z w32 c.args.w)) c.args.place refl c.requires.lanes c.requires.room

pub returns-clause-each : goal.returns-clause-each
returns-clause-each c = λ i h.
    let w : FitsSigned w32 c.args.w = c.ranges.w in
    let below : unsigned_abs (c.args.w *ℤ get_or c.args.kept.now (c.args.place + i) (pos 0)) ≤ 2 ^ 24 = product_below c.args.w (get_or c.args.kept.now (c.args.place + i) (pos 0)) c.requires.scaled (c.requires.words i h) in
    let x : FitsSigned w32 (get_or c.args.kept.now (c.args.place + i) (pos 0)) = fits_signed_from_abs w32 _ (omega (arith, c.requires.words i h)) in
    let held : FitsSigned w32 (get_or c.args.sums i (pos 0)) = fits_signed_from_abs w32 _ (omega (arith, c.requires.small i h)) in
    let product : FitsSigned w32 (c.args.w *ℤ get_or c.args.kept.now (c.args.place + i) (pos 0)) = fits_signed_from_abs w32 _ (omega (arith, below)) in
    let less : unsigned_abs (c.args.w *ℤ get_or c.args.kept.now (c.args.place + i) (pos 0)) < 2 ^ 30 = omega (arith, below) in
    let total : FitsSigned w32 (get_or c.args.sums i (pos 0) +ℤ c.args.w *ℤ get_or c.args.kept.now (c.args.place + i) (pos 0)) = total_fits (get_or c.args.sums i (pos 0)) (c.args.w *ℤ get_or c.args.kept.now (c.args.place + i) (pos 0)) (c.requires.small i h) less in
    lane_at (act2 wrap_add (s_int w32) (s_int w32) (s_int w32)) (act2 wrap_mul (s_int w32) (s_int w32) (s_int w32)) (λ a b. refl) (λ a b. refl) c.args.sums c.args.kept.now c.args.w (replicate 8 (of_z w32 c.args.w)) c.args.place i refl c.requires.lanes c.requires.room h w held x product total

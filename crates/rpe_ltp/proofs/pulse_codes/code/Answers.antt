use Rattle.std.proofs.Common.{rules, refl, sym, ◌∙◌, ◌≡◌, ◌^◌, pos, ◌+ℤ◌, ◌*ℤ◌, FitsSigned, w16}
use Rattle.std.specs.Int.{int_shr}
use Rattle.std.proofs.lemmas.Int.{to_z-of_z}
use Rattle.fixed_arith.specs.Signal.{at}
use Rattle.fixed_arith.specs.WordLaws.{word_from_shift}
use Rattle.rpe_ltp.specs.PulseCodes.{reciprocals}
use Rattle.rpe_ltp.proofs.PulseLaws.{word_at}
use Rattle.rpe_ltp.proofs.PulseCodeLaws.{PulseFits, pulse_fits, step_of, step_is, IsStep, code_fits, code_below, code_casts, code_value, pulse_code_is}
use Rattle.rpe_ltp.proofs.pulse_codes.code.Goals as goal

-- the step before 4 is added
record Step (c : goal.After-mult-step) : Type 0 where
  is : int_shr c.mult-step.result 12 ≡ step_of (c.args.x *ℤ pos (2 ^ c.args.shift) *ℤ at reciprocals c.args.mantissa)
  small : IsStep (int_shr c.mult-step.result 12)
  word : FitsSigned w16 (int_shr c.mult-step.result 12)
  sum : FitsSigned w16 (int_shr c.mult-step.result 12 +ℤ pos 4)

step : (c : goal.After-mult-step) → Step c
step c =
    let x : FitsSigned w16 c.args.x = c.ranges.x in
    let fits : PulseFits c.args.x c.args.shift c.args.mantissa = pulse_fits c.args.x c.args.top c.args.shift c.args.mantissa x c.requires.mantissa c.requires.reach c.requires.room in
    let reciprocal : FitsSigned w16 (at reciprocals c.args.mantissa) = word_at reciprocals refl c.args.mantissa in
    let up : FitsSigned w16 c.shift_left.result = search rules in
    let product : FitsSigned w16 c.mult-step.result = search rules in
    let up_is = simp to_z-of_z at c.shift_left.ensures in
    let product_is = simp to_z-of_z at c.mult-step.ensures in
    let same : int_shr c.mult-step.result 12 ≡ step_of (c.args.x *ℤ pos (2 ^ c.args.shift) *ℤ at reciprocals c.args.mantissa) =
    step_is c.args.x c.shift_left.result c.mult-step.result c.args.shift c.args.mantissa fits.word up_is product_is in
    let small : IsStep (int_shr c.mult-step.result 12) = rw same fits.step in
    record { is = same; small = small; word = word_from_shift c.mult-step.result 12 product; sum = code_fits (int_shr c.mult-step.result 12) small }

pub overflow_cast-result : goal.overflow_cast-result
overflow_cast-result c =
    let product : FitsSigned w16 c.mult-step.result = search rules in
    let word : FitsSigned w16 (int_shr c.mult-step.result 12) = (step c).word in
    let sum : FitsSigned w16 (int_shr c.mult-step.result 12 +ℤ pos 4) = (step c).sum in
    simp to_z-of_z (code_casts (int_shr c.mult-step.result 12) (step c).small)

pub returns-clause-value : goal.returns-clause-value
returns-clause-value c =
    let product : FitsSigned w16 c.mult-step.result = search rules in
    let word : FitsSigned w16 (int_shr c.mult-step.result 12) = (step c).word in
    let sum : FitsSigned w16 (int_shr c.mult-step.result 12 +ℤ pos 4) = (step c).sum in
    simp to_z-of_z (code_value (int_shr c.mult-step.result 12) (step c).small ∙ (rw (step c).is (sym (pulse_code_is c.args.x c.args.shift c.args.mantissa))))

pub returns-clause-most : goal.returns-clause-most
returns-clause-most c =
    let product : FitsSigned w16 c.mult-step.result = search rules in
    let word : FitsSigned w16 (int_shr c.mult-step.result 12) = (step c).word in
    let sum : FitsSigned w16 (int_shr c.mult-step.result 12 +ℤ pos 4) = (step c).sum in
    simp to_z-of_z (code_below (int_shr c.mult-step.result 12) (step c).small)

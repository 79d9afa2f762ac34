use Rattle.std.proofs.Common.{◌≡◌, ◌∙◌, sym, ap, Some, arith}
use Rattle.std.specs.Str.Parse.{without_leading_plus}
use Rattle.command_line.proofs.Numerals.{is_inside, is_outside, no_plus}
use Rattle.command_line.proofs.values.read_number.Goals as goal

pub returns-then-number-high-clause-value : goal.returns-then-number-high-clause-value
returns-then-number-high-clause-value c =
    let bs = c.args.text.now in
    let same : without_leading_plus bs ≡ bs = no_plus bs (sym c.begins_with_plus.ensures ∙ c.if-begins_with_plus.false) in
    let read = rw same at c.in-Ok.ensures.value.0 in
    ap Some read.1 ∙ is_inside c.args.low c.args.high bs read.0.0 (omega arith) (omega arith)

pub returns-in-Err-clause-value : goal.returns-in-Err-clause-value
returns-in-Err-clause-value c =
    let bs = c.args.text.now in
    let same : without_leading_plus bs ≡ bs = no_plus bs (sym c.begins_with_plus.ensures ∙ c.if-begins_with_plus.false) in
    let never = rw same at c.in-Err.ensures.value.0 in
    is_outside c.args.low c.args.high bs (λ number a b. never (number, omega (arith, c.ranges.high.fits)))

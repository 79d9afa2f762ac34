use Rattle.std.proofs.Common.{◌∙◌, ap}
use Rattle.clap.specs.Words.{found_of}
use Rattle.clap.proofs.WalkLemmas.{first_value-rows}
use Rattle.command_line.specs.Values.{number_or}
use Rattle.command_line.proofs.found.number_at.Goals as goal

pub returns-in-Some-clause-value : goal.returns-in-Some-clause-value
returns-in-Some-clause-value c =
    c.read_number.ensures.value ∙ ap (number_or c.args.low c.args.high c.args.default) (c.in-Some.ensures ∙ first_value-rows (found_of c.args.matches.now) c.args.name.now)

pub returns-in-None-clause-value : goal.returns-in-None-clause-value
returns-in-None-clause-value c = ap (number_or c.args.low c.args.high c.args.default) (c.in-None.ensures ∙ first_value-rows (found_of c.args.matches.now) c.args.name.now)

use Rattle.std.proofs.Common.{◌∙◌, ap}
use Rattle.clap.specs.Words.{found_of}
use Rattle.clap.proofs.WalkLemmas.{first_value-rows}
use Rattle.command_line.specs.Values.{seed_or}
use Rattle.command_line.proofs.found.seed_at.Goals as goal

pub returns-in-Some : goal.returns-in-Some
returns-in-Some c = c.read_seed.ensures ∙ ap seed_or (c.in-Some.ensures ∙ first_value-rows (found_of c.args.matches.now) c.args.name.now)

pub returns-in-None : goal.returns-in-None
returns-in-None c = ap seed_or (c.in-None.ensures ∙ first_value-rows (found_of c.args.matches.now) c.args.name.now)

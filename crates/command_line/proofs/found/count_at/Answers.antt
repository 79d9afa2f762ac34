use Rattle.std.proofs.Common.{◌∙◌, sym, ap, List, ℕ, [], Option, length}
use Rattle.std.specs.Prelude.{unwrap_or}
use Rattle.std.proofs.lemmas.List.{length-map}
use Rattle.clap.specs.Words.{found_of}
use Rattle.clap.proofs.WalkLemmas.{raw_values-rows}
use Rattle.command_line.proofs.found.count_at.Goals as goal

pub returns-in-Some : goal.returns-in-Some
returns-in-Some c = sym (length-map c.in-Some.texts.now (λ t. t.now)) ∙ ap (λ (o : Option (List (List ℕ))). length (unwrap_or o [])) (c.in-Some.ensures ∙ raw_values-rows (found_of c.args.matches.now) c.args.name.now)

pub returns-in-None : goal.returns-in-None
returns-in-None c = ap (λ (o : Option (List (List ℕ))). length (unwrap_or o [])) (c.in-None.ensures ∙ raw_values-rows (found_of c.args.matches.now) c.args.name.now)

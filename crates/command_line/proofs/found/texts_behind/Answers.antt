use Rattle.std.proofs.Common.{◌∙◌, sym, ap, append-nil, List, ℕ, [], Option, map, ◌++◌}
use Rattle.std.specs.Prelude.{unwrap_or}
use Rattle.clap.specs.Words.{found_of}
use Rattle.std.proofs.lemmas.Result.{IfOk-weaker}
use Rattle.clap.proofs.WalkLemmas.{raw_values-rows}
use Rattle.command_line.proofs.found.texts_behind.Goals as goal

pub returns-in-Some : goal.returns-in-Some
returns-in-Some c =
    let e = ap (λ (o : Option (List (List ℕ))). map (λ t. t.now) c.args.words.items ++ unwrap_or o []) (c.in-Some.ensures ∙ raw_values-rows (found_of c.args.matches.now) c.args.name.now) in
    IfOk-weaker c.append.result _ _ (λ s h. h ∙ e) c.append.ensures

pub returns-in-None : goal.returns-in-None
returns-in-None c =
    sym (append-nil (map (λ t. t.now) c.args.words.items))
    ∙ ap (λ (o : Option (List (List ℕ))). map (λ t. t.now) c.args.words.items ++ unwrap_or o []) (c.in-None.ensures ∙ raw_values-rows (found_of c.args.matches.now) c.args.name.now)

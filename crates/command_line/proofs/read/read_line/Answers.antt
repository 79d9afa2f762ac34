use Rattle.std.proofs.Common.{◌≡◌, ◌∙◌, ap, map, Err, Result}
use Rattle.std.specs.String.{string_bytes}
use Rattle.std.proofs.lemmas.Result.{IfOk-weaker}
use Rattle.command_line.specs.declared.line.Line.{Line}
use Rattle.command_line.specs.declared.line.Refusal.{Refusal}
use Rattle.command_line.specs.declared.line.Refusal.TheVariants.{Usage}
use Rattle.command_line.proofs.Accepted.{line_refused, line_taken}
use Rattle.command_line.proofs.Within.{line_within}
use Rattle.command_line.proofs.read.read_line.Goals as goal

pub returns-in-Ok-clause-line : goal.returns-in-Ok-clause-line
returns-in-Ok-clause-line c =
    let is = line_taken (map string_bytes c.args.words.now) _ c.in-Ok.ensures.taken c.in-Ok.ensures.rows in
    IfOk-weaker c.line_in.result _ _ (λ l h. is ∙ h) c.line_in.ensures.line

pub returns-in-Ok-clause-within : goal.returns-in-Ok-clause-within
returns-in-Ok-clause-within c =
    let is = line_taken (map string_bytes c.args.words.now) _ c.in-Ok.ensures.taken c.in-Ok.ensures.rows in
    IfOk-weaker c.line_in.result _ _ (λ l h. line_within (map string_bytes c.args.words.now) l (is ∙ h)) c.line_in.ensures.line

pub returns-in-Ok-clause-usage : goal.returns-in-Ok-clause-usage
returns-in-Ok-clause-usage c =
    let is = line_taken (map string_bytes c.args.words.now) _ c.in-Ok.ensures.taken c.in-Ok.ensures.rows in
    λ h. is ∙ c.line_in.ensures.usage h

pub returns-in-Err-clause-usage : goal.returns-in-Err-clause-usage
returns-in-Err-clause-usage c = λ h. line_refused (map string_bytes c.args.words.now) (c.in-Err.ensures.usage (ap Err (same_refusal c.in-Err.refusal h)))
  where
    same_refusal : (r : Refusal) → ◌≡◌ {A = Result Line Refusal} (Err r) (Err Usage) → r ≡ Usage
    same_refusal r h = cc

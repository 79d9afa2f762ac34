-- Options without a value.
use Rattle.std.proofs.Common.{◌≡◌, ℕ, ◌&&◌, not, cond, Bool, false, List, [], ◌∷◌, ◌++◌, Option, Some, None, ap, ◌∙◌, append-nil, codes}
use Rattle.clap.specs.declared.builder.value_parser.Reading.TheVariants as reading
use Rattle.clap.specs.declared.parser.matches.ValueSource.TheVariants.{CommandLine}
use Rattle.clap.specs.declared.error.kind.ErrorKind.TheVariants as kind
use Rattle.std.specs.Str.{bytes_eq}
use Rattle.clap.specs.Lexer.{long_of}
use Rattle.clap.specs.Walk.{Held, Row, Rule, Step, Text, after_flag, after_step, arg_by_long, has_row, idle, long_met, long_or_other, more_values, next, reacted, settled, settled_rows, trailing, walked, with_values, word_met}
use Rattle.clap.specs.Simple.{Shape, filled}
use Rattle.clap.specs.Kinds.{Kinds, or_else}
use Rattle.clap.specs.Faults.{flag_word_fault, long_fault, settle_fault, step_fault, turn_fault, use_fault, word_fault}
use Rattle.command_line.specs.Table.{flag_rule}
use Rattle.command_line.proofs.Rows.{row}
use Rattle.command_line.proofs.Words.{held, state, or_else-nil, at_row-new}

abbrev pub alone_rule : Text → Rule
alone_rule name = filled (flag_rule name)

pub record IsAlone (c : List Rule) (name : Text) : Type 0 where
  pub dashes : bytes_eq (45 ∷ 45 ∷ name) (45 ∷ 45 ∷ []) ≡ false
  pub long : long_of (45 ∷ 45 ∷ name) ≡ Some (name, None)
  pub found : arg_by_long c name ≡ Some (alone_rule name)

alone_met_is : (c : List Rule) (name : Text) (position : ℕ) (h : Held) → IsAlone c name → word_met c [] false idle position (45 ∷ 45 ∷ name) h ≡ (reacted c (alone_rule name) [] h, next idle)
alone_met_is c name position h q =
    ap (λ (b : Bool). cond b (h, trailing position) (long_or_other c idle (45 ∷ 45 ∷ name) (long_of (45 ∷ 45 ∷ name)) h)) q.dashes
    ∙ ap (λ (o : Option (Text × Option Text)). long_or_other c idle (45 ∷ 45 ∷ name) o h) q.long
    ∙ ap (λ (o : Option Rule). after_flag c idle (45 ∷ 45 ∷ name) (long_met c o None h).0 (long_met c o None h).1) q.found

pub alone_walked : (c : List Rule) (name : Text) (rows : List Row) (pending : Option (Text × List Text)) (position : ℕ) → IsAlone c name → has_row name (settled_rows c pending rows) ≡ false
    → walked c [] (state rows pending idle position) (45 ∷ 45 ∷ name) ≡ state (settled_rows c pending rows ++ row name (codes "true" ∷ []) ∷ []) None idle position
unfolding walked
alone_walked c name rows pending position q new =
    let now = settled_rows c pending rows in
    ap (λ (m : Held × Step). after_step c (45 ∷ 45 ∷ name) (state rows pending idle position) m.0 m.1) (alone_met_is c name position (held rows pending) q)
    ∙ ap (λ (r : List Row). state (with_values name reading.AsWritten CommandLine (codes "true" ∷ []) r) None idle position) (at_row-new name (λ _. []) [] now new ∙ append-nil now)
    ∙ ap (λ (r : List Row). state r None idle position) (at_row-new name (more_values CommandLine (codes "true" ∷ [])) (row name (codes "true" ∷ []) ∷ []) now new)

pub alone_turn : (s : Shape) (name : Text) (rows : List Row) (pending : Option (Text × List Text)) (position : ℕ) → IsAlone s.rules name → has_row name (settled_rows s.rules pending rows) ≡ false
    → settle_fault s.rules s.args_override_self (held rows pending) ≡ [] → turn_fault s [] (state rows pending idle position) (45 ∷ 45 ∷ name) ≡ []
alone_turn s name rows pending position q new fine =
    let h = held rows pending in
    let w : Text = 45 ∷ 45 ∷ name in
    ap (λ (m : Held × Step). or_else (word_fault s [] false idle w h) (step_fault s position m.0 m.1)) (alone_met_is s.rules name position h q)
    ∙ or_else-nil (word_fault s [] false idle w h)
    ∙ ap (λ (b : Bool). cond b [] (flag_word_fault s.rules s.args_override_self (long_of w) w h)) q.dashes
    ∙ ap (λ (o : Option (Text × Option Text)). flag_word_fault s.rules s.args_override_self o w h) q.long
    ∙ ap (λ (o : Option Rule). long_fault s.rules s.args_override_self o None h) q.found
    ∙ ap (λ (ks : Kinds). or_else ks (use_fault s.args_override_self (alone_rule name) [] (settled s.rules h).rows)) fine
    ∙ ap (λ (b : Bool). or_else (cond (b && not s.args_override_self) (kind.ArgumentConflict ∷ []) []) []) new

-- One word of a plain line.
use Rattle.std.proofs.Common.{◌≡◌, ℕ, ◌==◌, ◌&&◌, ◌||◌, not, cond, Bool, true, false, List, [], ◌∷◌, ◌++◌, Option, Some, None, refl, ap, ◌∙◌, nat_lt, append-nil}
use Rattle.std.specs.Prelude.{nat_eq, option_and_then}
use Rattle.clap.specs.declared.builder.value_parser.Reading.TheVariants as reading
use Rattle.clap.specs.declared.parser.matches.ValueSource.TheVariants.{CommandLine}
use Rattle.clap.specs.declared.error.kind.ErrorKind.TheVariants as kind
use Rattle.std.specs.Option.{option_map_or}
use Rattle.std.specs.Cmp.Lexicographic.{pointwise}
use Rattle.std.specs.Str.{bytes_eq}
use Rattle.clap.specs.Lexer.{long_of, long_of_rest, short_of_rest, strip_byte}
use Rattle.clap.specs.Walk.{Held, Row, Rule, Step, Text, Waiting, Walk, after_flag, after_step, arg_by_id, arg_by_long, at_row, has_row, idle, long_met, long_or_other, more_values, next, option, option_word, plain_word, settled, settled_rows, short_or_plain, subcommand_or_other, trailing, used_by_id, walked, with_values, word_met}
use Rattle.clap.specs.Simple.{Shape, filled}
use Rattle.clap.specs.Kinds.{Kinds, or_else}
use Rattle.clap.specs.Faults.{bundle_fault, flag_word_fault, long_fault, other_fault, settle_fault, step_fault, turn_fault, use_fault, word_fault}
use Rattle.command_line.specs.Table.{option_rule}
use Rattle.command_line.specs.Plain.{is_word}
use Rattle.command_line.proofs.Rows.{row}

-- a walk between two words, that has not met `--`
abbrev pub held : List Row → Option (Text × List Text) → Held
held rows pending = record { rows = rows; pending = pending; skip = 0 }

abbrev pub state : List Row → Option (Text × List Text) → Waiting → ℕ → Walk
state rows pending waiting position = record { held = held rows pending; waiting = waiting; position = position; is_trailing = false; stopped = None }

abbrev pub value_rule : Bool → Text → Rule
value_rule required name = filled (option_rule required name)

-- the rules know the option
pub record IsOption (c : List Rule) (required : Bool) (name : Text) : Type 0 where
  pub dashes : bytes_eq (45 ∷ 45 ∷ name) (45 ∷ 45 ∷ []) ≡ false
  pub long : long_of (45 ∷ 45 ∷ name) ≡ Some (name, None)
  pub found : arg_by_long c name ≡ Some (value_rule required name)
  pub known : arg_by_id c name ≡ Some (value_rule required name)
  pub same : bytes_eq name name ≡ true

is_false : (b : Bool) → not b ≡ true → b ≡ false
is_false true h = cc
is_false false h = refl

pub or_else-nil : (ks : Kinds) → or_else ks [] ≡ ks
or_else-nil [] = refl
or_else-nil (k ∷ ks) = refl

-- a word that does not begin with `-` is plain
pub plain_met : (c : List Rule) (waiting : Waiting) (position : ℕ) (v : Text) (h : Held) → is_word v ≡ true → subcommand_or_other c None waiting position v h ≡ plain_word c waiting v h
plain_met c waiting position [] h e = refl
plain_met c waiting position (x ∷ xs) h e =
    let other : (x == 45) ≡ false = is_false (x == 45) e in
    ap (λ (b : Bool). cond (b && pointwise nat_eq xs (45 ∷ [])) (h, trailing position) (long_or_other c waiting (x ∷ xs) (option_and_then long_of_rest (option_and_then (strip_byte 45) (cond b (Some xs) None))) h)) other
    ∙ ap (λ (b : Bool). short_or_plain c waiting (x ∷ xs) (option_and_then short_of_rest (cond b (Some xs) None)) h) other

pub plain_fault : (s : Shape) (v : Text) (h : Held) → is_word v ≡ true → other_fault s None v h ≡ []
plain_fault s [] h e = refl
plain_fault s (x ∷ xs) h e =
    let other : (x == 45) ≡ false = is_false (x == 45) e in
    ap (λ (b : Bool). cond (b && pointwise nat_eq xs (45 ∷ [])) [] (flag_word_fault s.rules s.args_override_self (option_and_then long_of_rest (option_and_then (strip_byte 45) (cond b (Some xs) None))) (x ∷ xs) h)) other
    ∙ ap (λ (b : Bool). option_map_or (λ flags. bundle_fault s.rules s.args_override_self flags h) (option_and_then short_of_rest (cond b (Some xs) None)) []) other

-- ---- `--name`

option_met_is : (c : List Rule) (required : Bool) (name : Text) (position : ℕ) (h : Held) → IsOption c required name
    → word_met c [] false idle position (45 ∷ 45 ∷ name) h ≡ (record (settled c h) { pending = Some (name, []) }, next (option name))
option_met_is c required name position h q =
    ap (λ (b : Bool). cond b (h, trailing position) (long_or_other c idle (45 ∷ 45 ∷ name) (long_of (45 ∷ 45 ∷ name)) h)) q.dashes
    ∙ ap (λ (o : Option (Text × Option Text)). long_or_other c idle (45 ∷ 45 ∷ name) o h) q.long
    ∙ ap (λ (o : Option Rule). after_flag c idle (45 ∷ 45 ∷ name) (long_met c o None h).0 (long_met c o None h).1) q.found

pub option_walked : (c : List Rule) (required : Bool) (name : Text) (rows : List Row) (pending : Option (Text × List Text)) (position : ℕ) → IsOption c required name
    → walked c [] (state rows pending idle position) (45 ∷ 45 ∷ name) ≡ state (settled_rows c pending rows) (Some (name, [])) (option name) position
unfolding walked
option_walked c required name rows pending position q =
    ap (λ (m : Held × Step). after_step c (45 ∷ 45 ∷ name) (state rows pending idle position) m.0 m.1) (option_met_is c required name position (held rows pending) q)

pub option_turn : (s : Shape) (required : Bool) (name : Text) (rows : List Row) (pending : Option (Text × List Text)) (position : ℕ) → IsOption s.rules required name
    → turn_fault s [] (state rows pending idle position) (45 ∷ 45 ∷ name) ≡ settle_fault s.rules s.args_override_self (held rows pending)
option_turn s required name rows pending position q =
    let h = held rows pending in
    let w : Text = 45 ∷ 45 ∷ name in
    ap (λ (m : Held × Step). or_else (word_fault s [] false idle w h) (step_fault s position m.0 m.1)) (option_met_is s.rules required name position h q)
    ∙ or_else-nil (word_fault s [] false idle w h)
    ∙ ap (λ (b : Bool). cond b [] (flag_word_fault s.rules s.args_override_self (long_of w) w h)) q.dashes
    ∙ ap (λ (o : Option (Text × Option Text)). flag_word_fault s.rules s.args_override_self o w h) q.long
    ∙ ap (λ (o : Option Rule). long_fault s.rules s.args_override_self o None h) q.found

-- ---- its value

value_met_is : (c : List Rule) (required : Bool) (name v : Text) (rows : List Row) (position : ℕ) → IsOption c required name → is_word v ≡ true
    → word_met c [] false (option name) position v (held rows (Some (name, []))) ≡ (held rows (Some (name, v ∷ [])), next idle)
value_met_is c required name v rows position q e =
    let h = held rows (Some (name, [])) in
    plain_met c (option name) position v h e
    ∙ ap (λ (o : Option Rule). ((option_word o name v h).0, next (option_word o name v h).1)) q.known
    ∙ ap (λ (b : Bool). (held rows (Some (name, v ∷ [])), next (cond (nat_lt (cond b 1 0) 1) (option name) idle))) q.same

pub value_walked : (c : List Rule) (required : Bool) (name v : Text) (rows : List Row) (position : ℕ) → IsOption c required name → is_word v ≡ true
    → walked c [] (state rows (Some (name, [])) (option name) position) v ≡ state rows (Some (name, v ∷ [])) idle position
unfolding walked
value_walked c required name v rows position q e =
    ap (λ (m : Held × Step). after_step c v (state rows (Some (name, [])) (option name) position) m.0 m.1) (value_met_is c required name v rows position q e)

pub value_turn : (s : Shape) (required : Bool) (name v : Text) (rows : List Row) (position : ℕ) → IsOption s.rules required name → is_word v ≡ true
    → turn_fault s [] (state rows (Some (name, [])) (option name) position) v ≡ []
value_turn s required name v rows position q e =
    let h = held rows (Some (name, [])) in
    ap (λ (m : Held × Step). or_else (word_fault s [] false (option name) v h) (step_fault s position m.0 m.1)) (value_met_is s.rules required name v rows position q e)
    ∙ or_else-nil (word_fault s [] false (option name) v h)
    ∙ plain_fault s v h e

-- ---- rows

pub at_row-new : (id : Text) (change : Row → List Row) (missing rows : List Row) → has_row id rows ≡ false → at_row id change missing rows ≡ rows ++ missing
at_row-new id change missing [] e = refl
at_row-new id change missing (r ∷ rs) e = go (at_row-new id change missing rs) (bytes_eq r.id id) e
  where
    go : (has_row id rs ≡ false → at_row id change missing rs ≡ rs ++ missing) → (b : Bool) → (b || has_row id rs) ≡ false → cond b (change r ++ rs) (r ∷ at_row id change missing rs) ≡ r ∷ (rs ++ missing)
    go more true h = cc
    go more false h = ap (λ xs. r ∷ xs) (more h)

pub at_row-last : (change : Row → List Row) (missing rows : List Row) (r : Row) → bytes_eq r.id r.id ≡ true → has_row r.id rows ≡ false
    → at_row r.id change missing (rows ++ r ∷ []) ≡ rows ++ change r
at_row-last change missing [] r same e = ap (λ (b : Bool). cond b (change r ++ []) (r ∷ missing)) same ∙ append-nil (change r)
at_row-last change missing (x ∷ rs) r same e = go (at_row-last change missing rs r same) (bytes_eq x.id r.id) e
  where
    go : (has_row r.id rs ≡ false → at_row r.id change missing (rs ++ r ∷ []) ≡ rs ++ change r) → (b : Bool) → (b || has_row r.id rs) ≡ false
        → cond b (change x ++ (rs ++ r ∷ [])) (x ∷ at_row r.id change missing (rs ++ r ∷ [])) ≡ x ∷ (rs ++ change r)
    go more true h = cc
    go more false h = ap (λ xs. x ∷ xs) (more h)

-- ---- what a use leaves

pub used_rows : (c : List Rule) (required : Bool) (name v : Text) (rows : List Row) → IsOption c required name → has_row name rows ≡ false
    → settled_rows c (Some (name, v ∷ [])) rows ≡ rows ++ row name (v ∷ []) ∷ []
used_rows c required name v rows q new =
    ap (λ (o : Option Rule). used_by_id o (v ∷ []) rows) q.known
    ∙ ap (with_values name reading.AsWritten CommandLine (v ∷ [])) (at_row-new name (λ _. []) [] rows new ∙ append-nil rows)
    ∙ at_row-new name (more_values CommandLine (v ∷ [])) (row name (v ∷ []) ∷ []) rows new

pub used_fault : (c : List Rule) (again required : Bool) (name v : Text) (rows : List Row) → IsOption c required name → has_row name rows ≡ false
    → settle_fault c again (held rows (Some (name, v ∷ []))) ≡ []
used_fault c again required name v rows q new =
    ap (λ (o : Option Rule). option_map_or (λ a. use_fault again a (v ∷ []) rows) o []) q.known
    ∙ ap (λ (b : Bool). or_else (cond (b && not again) (kind.ArgumentConflict ∷ []) []) []) new

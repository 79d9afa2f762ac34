-- Positional words.
use Rattle.std.proofs.Common.{◌≡◌, ℕ, ◌+◌, ◌&&◌, not, min, cond, Bool, true, false, List, [], ◌∷◌, ◌++◌, Option, Some, None, refl, sym, ap, ◌∙◌, append-nil, append_assoc}
use Rattle.std.specs.Prelude.{fold}
use Rattle.clap.specs.declared.builder.value_parser.Reading.TheVariants as reading
use Rattle.clap.specs.declared.parser.matches.ValueSource.TheVariants.{CommandLine}
use Rattle.clap.specs.declared.error.kind.ErrorKind.TheVariants as kind
use Rattle.std.specs.Option.{option_map_or}
use Rattle.std.specs.Str.{bytes_eq}
use Rattle.clap.specs.Lexer.{usize_max}
use Rattle.clap.specs.Walk.{Held, Row, Rule, Step, Text, Waiting, Walk, after_step, arg_by_id, arg_by_index, has_row, idle, is_pending, more_values, option, positional, pushed, settled, settled_rows, to_positional, used_by_id, value, walked, with_values, word_met}
use Rattle.clap.specs.Simple.{Shape, filled, with_index}
use Rattle.clap.specs.Kinds.{Kinds, or_else}
use Rattle.clap.specs.Faults.{positional_fault, settle_fault, step_fault, stray_fault, turn_fault, use_fault, walk_fault, word_fault}
use Rattle.command_line.specs.Table.{place_rule, places_rule}
use Rattle.command_line.specs.Plain.{AreWords, is_word}
use Rattle.command_line.proofs.Rows.{row}
use Rattle.command_line.proofs.Words.{held, state, plain_met, plain_fault, at_row-new, at_row-last}
use Rattle.command_line.proofs.Runs.{Walks, one_turn}

abbrev pub place_at : ℕ → Text → Rule
place_at i name = with_index i (filled (place_rule name))

abbrev pub places_at : ℕ → Text → Rule
places_at i name = with_index i (filled (places_rule name))

-- the rule stands at this position
pub record IsPlace (c : List Rule) (i : ℕ) (name : Text) (a : Rule) : Type 0 where
  pub found : arg_by_index c i ≡ Some a
  pub known : arg_by_id c name ≡ Some a
  pub same : bytes_eq name name ≡ true

and_false : (b : Bool) → (b && false) ≡ false
and_false true = refl
and_false false = refl

place_walked : (c : List Rule) (i : ℕ) (name v : Text) (rows : List Row) (pending : Option (Text × List Text)) → IsPlace c i name (place_at i name) → is_word v ≡ true
    → walked c [] (state rows pending idle i) v ≡ state (settled_rows c pending rows) (Some (name, v ∷ [])) idle (min (i + 1) usize_max)
unfolding walked
place_walked c i name v rows pending q e =
    let h = held rows pending in
    ap (λ (m : Held × Step). after_step c v (state rows pending idle i) m.0 m.1) (plain_met c idle i v h e)
    ∙ ap (λ (o : Option Rule). to_positional c o v (state rows pending idle i) h) q.found
    ∙ ap (λ (b : Bool). record { held = pushed name v (cond b h (settled c h)); waiting = idle; position = min (i + 1) usize_max; is_trailing = false; stopped = None }) (and_false (is_pending (place_at i name) pending))

place_turn : (s : Shape) (i : ℕ) (name v : Text) (rows : List Row) (pending : Option (Text × List Text)) → IsPlace s.rules i name (place_at i name) → is_word v ≡ true
    → turn_fault s [] (state rows pending idle i) v ≡ settle_fault s.rules s.args_override_self (held rows pending)
place_turn s i name v rows pending q e =
    let h = held rows pending in
    ap (λ (m : Held × Step). or_else (word_fault s [] false idle v h) (step_fault s i m.0 m.1)) (plain_met s.rules idle i v h e)
    ∙ ap (λ (ks : Kinds). or_else ks (step_fault s i h value)) (plain_fault s v h e)
    ∙ ap (λ (o : Option Rule). option_map_or (λ a. positional_fault s.rules s.args_override_self a h) o (stray_fault s)) q.found
    ∙ ap (λ (b : Bool). cond b [] (settle_fault s.rules s.args_override_self h)) (and_false (is_pending (place_at i name) pending))

place_rows : (c : List Rule) (i : ℕ) (name v : Text) (rows : List Row) → IsPlace c i name (place_at i name) → has_row name rows ≡ false
    → settled_rows c (Some (name, v ∷ [])) rows ≡ rows ++ row name (v ∷ []) ∷ []
place_rows c i name v rows q new =
    ap (λ (o : Option Rule). used_by_id o (v ∷ []) rows) q.known
    ∙ ap (with_values name reading.AsWritten CommandLine (v ∷ [])) (at_row-new name (λ _. []) [] rows new ∙ append-nil rows)
    ∙ at_row-new name (more_values CommandLine (v ∷ [])) (row name (v ∷ []) ∷ []) rows new

place_fault : (c : List Rule) (again : Bool) (i : ℕ) (name v : Text) (rows : List Row) → IsPlace c i name (place_at i name) → has_row name rows ≡ false
    → settle_fault c again (held rows (Some (name, v ∷ []))) ≡ []
place_fault c again i name v rows q new =
    ap (λ (o : Option Rule). option_map_or (λ a. use_fault again a (v ∷ []) rows) o []) q.known
    ∙ ap (λ (b : Bool). or_else (cond (b && not again) (kind.ArgumentConflict ∷ []) []) []) new

-- one positional word more
pub place_walk : (s : Shape) (from : Walk) (words rest : List Text) (rows : List Row) (i : ℕ) (name v : Text) → IsPlace s.rules i name (place_at i name) → is_word v ≡ true → has_row name rows ≡ false
    → Walks s from words (v ∷ rest) rows idle i → Walks s from (words ++ v ∷ []) rest (rows ++ row name (v ∷ []) ∷ []) idle (min (i + 1) usize_max)
place_walk s from words rest rows i name v q e new h =
    let c = s.rules in
    let now = settled_rows c h.pending h.done in
    let fresh : has_row name now ≡ false = ap (has_row name) h.rows_are ∙ new in
    let step = place_walked c i name v h.done h.pending q e in
    let both : (words ++ v ∷ []) ++ rest ≡ words ++ v ∷ rest = append_assoc words (v ∷ []) rest in
    record {
      done = now;
      pending = Some (name, v ∷ []);
      rows_are = place_rows c i name v now q fresh ∙ ap (λ (r : List Row). r ++ row name (v ∷ []) ∷ []) h.rows_are;
      fine = place_fault c s.args_override_self i name v now q fresh;
      walk_is = ap (λ (ws : List Text). fold (walked c []) from ws) both ∙ h.walk_is ∙ ap (λ (w : Walk). fold (walked c []) w rest) step;
      fault_is = ap (λ (ws : List Text). walk_fault s [] from ws) both ∙ h.fault_is ∙ one_turn s _ _ v rest step (place_turn s i name v h.done h.pending q e ∙ h.fine);
    }

-- ---- the last positional, which takes one word or more

-- what waits before a positional word
pub data Between : Waiting → Type 0 where
  first : Between idle
  later : Between positional

many_met : (c : List Rule) (waiting : Waiting) (i : ℕ) (v : Text) (h : Held) → Between waiting → is_word v ≡ true → word_met c [] false waiting i v h ≡ (h, value)
many_met c idle i v h b e = plain_met c idle i v h e
many_met c positional i v h b e = plain_met c positional i v h e
many_met c (option id) i v h b e = elim b [ ]

no_word_fault : (s : Shape) (waiting : Waiting) (v : Text) (h : Held) → Between waiting → is_word v ≡ true → word_fault s [] false waiting v h ≡ []
no_word_fault s idle v h b e = plain_fault s v h e
no_word_fault s positional v h b e = plain_fault s v h e
no_word_fault s (option id) v h b e = elim b [ ]

many_walked : (c : List Rule) (waiting : Waiting) (i : ℕ) (name v : Text) (rows : List Row) (pending : Option (Text × List Text)) → Between waiting → IsPlace c i name (places_at i name) → is_word v ≡ true
    → walked c [] (state rows pending waiting i) v ≡ state (settled_rows c pending rows) (Some (name, v ∷ [])) positional i
unfolding walked
many_walked c waiting i name v rows pending w q e =
    let h = held rows pending in
    ap (λ (m : Held × Step). after_step c v (state rows pending waiting i) m.0 m.1) (many_met c waiting i v h w e)
    ∙ ap (λ (o : Option Rule). to_positional c o v (state rows pending waiting i) h) q.found
    ∙ ap (λ (b : Bool). record { held = pushed name v (cond b h (settled c h)); waiting = positional; position = i; is_trailing = false; stopped = None }) (and_false (is_pending (places_at i name) pending))

many_turn : (s : Shape) (waiting : Waiting) (i : ℕ) (name v : Text) (rows : List Row) (pending : Option (Text × List Text)) → Between waiting → IsPlace s.rules i name (places_at i name) → is_word v ≡ true
    → turn_fault s [] (state rows pending waiting i) v ≡ settle_fault s.rules s.args_override_self (held rows pending)
many_turn s waiting i name v rows pending w q e =
    let h = held rows pending in
    ap (λ (m : Held × Step). or_else (word_fault s [] false waiting v h) (step_fault s i m.0 m.1)) (many_met s.rules waiting i v h w e)
    ∙ ap (λ (ks : Kinds). or_else ks (step_fault s i h value)) (no_word_fault s waiting v h w e)
    ∙ ap (λ (o : Option Rule). option_map_or (λ a. positional_fault s.rules s.args_override_self a h) o (stray_fault s)) q.found
    ∙ ap (λ (b : Bool). cond b [] (settle_fault s.rules s.args_override_self h)) (and_false (is_pending (places_at i name) pending))

many_fault : (c : List Rule) (again : Bool) (i : ℕ) (name v : Text) (rows : List Row) → IsPlace c i name (places_at i name) → settle_fault c again (held rows (Some (name, v ∷ []))) ≡ []
many_fault c again i name v rows q = ap (λ (o : Option Rule). option_map_or (λ a. use_fault again a (v ∷ []) rows) o []) q.known

-- after vs, of which there is one or more
many_more : (s : Shape) (i : ℕ) (name : Text) (before rows : List Row) (pending : Option (Text × List Text)) (vs ws : List Text) → IsPlace s.rules i name (places_at i name) → has_row name before ≡ false
    → settled_rows s.rules pending rows ≡ before ++ row name vs ∷ [] → settle_fault s.rules s.args_override_self (held rows pending) ≡ [] → AreWords ws
    → Walks s (state rows pending positional i) ws [] (before ++ row name (vs ++ ws) ∷ []) positional i
many_more s i name before rows pending vs [] q new are fine words =
    record { done = rows; pending = pending; rows_are = are ∙ ap (λ (xs : List Text). before ++ row name xs ∷ []) (sym (append-nil vs)); fine = fine; walk_is = refl; fault_is = refl }
many_more s i name before rows pending vs (w ∷ ws) q new are fine words =
    let c = s.rules in
    let now = settled_rows c pending rows in
    let then : settled_rows c (Some (name, w ∷ [])) now ≡ before ++ row name (vs ++ w ∷ []) ∷ [] =
    ap (λ (o : Option Rule). used_by_id o (w ∷ []) now) q.known
    ∙ ap (with_values name reading.AsWritten CommandLine (w ∷ [])) are
    ∙ at_row-last (more_values CommandLine (w ∷ [])) (row name (w ∷ []) ∷ []) before (row name vs) q.same new in
    let step = many_walked c positional i name w rows pending later q words.0 in
    let more = many_more s i name before now (Some (name, w ∷ [])) (vs ++ w ∷ []) ws q new then (many_fault c s.args_override_self i name w now q) words.1 in
    record {
      done = more.done;
      pending = more.pending;
      rows_are = more.rows_are ∙ ap (λ (xs : List Text). before ++ row name xs ∷ []) (append_assoc vs (w ∷ []) ws);
      fine = more.fine;
      walk_is = ap (λ (x : Walk). fold (walked c []) x (ws ++ [])) step ∙ more.walk_is;
      fault_is = one_turn s _ _ w (ws ++ []) step (many_turn s positional i name w rows pending later q words.0 ∙ fine) ∙ more.fault_is;
    }

pub many_walk : (s : Shape) (i : ℕ) (name : Text) (before rows : List Row) (pending : Option (Text × List Text)) (w : Text) (ws : List Text) → IsPlace s.rules i name (places_at i name) → has_row name before ≡ false
    → settled_rows s.rules pending rows ≡ before → settle_fault s.rules s.args_override_self (held rows pending) ≡ [] → AreWords (w ∷ ws)
    → Walks s (state rows pending idle i) (w ∷ ws) [] (before ++ row name (w ∷ ws) ∷ []) positional i
many_walk s i name before rows pending w ws q new are fine words =
    let c = s.rules in
    let now = settled_rows c pending rows in
    let then : settled_rows c (Some (name, w ∷ [])) now ≡ before ++ row name (w ∷ []) ∷ [] =
    ap (λ (o : Option Rule). used_by_id o (w ∷ []) now) q.known
    ∙ ap (with_values name reading.AsWritten CommandLine (w ∷ [])) are
    ∙ at_row-new name (more_values CommandLine (w ∷ [])) (row name (w ∷ []) ∷ []) before new in
    let step = many_walked c idle i name w rows pending first q words.0 in
    let more = many_more s i name before now (Some (name, w ∷ [])) (w ∷ []) ws q new then (many_fault c s.args_override_self i name w now q) words.1 in
    record {
      done = more.done;
      pending = more.pending;
      rows_are = more.rows_are;
      fine = more.fine;
      walk_is = ap (λ (x : Walk). fold (walked c []) x (ws ++ [])) step ∙ more.walk_is;
      fault_is = one_turn s _ _ w (ws ++ []) step (many_turn s idle i name w rows pending first q words.0 ∙ fine) ∙ more.fault_is;
    }

-- the last positional behind a run
pub run_many : (s : Shape) (from : Walk) (words : List Text) (rows : List Row) (i : ℕ) (name w : Text) (ws : List Text) → IsPlace s.rules i name (places_at i name) → has_row name rows ≡ false → AreWords (w ∷ ws)
    → Walks s from words (w ∷ ws) rows idle i → Walks s from (words ++ (w ∷ ws)) [] (rows ++ row name (w ∷ ws) ∷ []) positional i
run_many s from words rows i name w ws q new plain h =
    let last = many_walk s i name rows h.done h.pending w ws q new h.rows_are h.fine plain in
    let end : (w ∷ ws) ++ [] ≡ w ∷ ws = append-nil (w ∷ ws) in
    let all : (words ++ (w ∷ ws)) ++ [] ≡ words ++ (w ∷ ws) = append-nil (words ++ (w ∷ ws)) in
    record {
      done = last.done;
      pending = last.pending;
      rows_are = last.rows_are;
      fine = last.fine;
      walk_is = ap (λ (ws : List Text). fold (walked s.rules []) from ws) all ∙ h.walk_is ∙ sym (ap (λ (ws : List Text). fold (walked s.rules []) (state h.done h.pending idle i) ws) end) ∙ last.walk_is;
      fault_is = ap (λ (ws : List Text). walk_fault s [] from ws) all ∙ h.fault_is ∙ sym (ap (λ (ws : List Text). walk_fault s [] (state h.done h.pending idle i) ws) end) ∙ last.fault_is;
    }

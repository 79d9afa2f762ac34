-- A command whose words were walked.
use Rattle.std.proofs.Common.{◌≡◌, ℕ, ◌&&◌, ◌||◌, cond, Bool, true, false, List, [], ◌∷◌, ◌++◌, None, refl, sym, ap, ◌∙◌, append-nil}
use Rattle.std.specs.Prelude.{fold}
use Rattle.std.specs.List.{list_all}
use Rattle.clap.specs.Walk.{Held, Row, Rule, Text, Waiting, Walk, default_rows, has_row, idle, is_empty, nothing_held, reading_by, rows_after, settled, walk, walked, with_default}
use Rattle.clap.specs.Simple.{Shape}
use Rattle.clap.specs.Kinds.{Kinds, or_else}
use Rattle.clap.specs.Faults.{check_fault, default_fault, defaults_fault, given_default_fault, level_fault, settle_fault, walk_fault}
use Rattle.clap.proofs.SimpleLemmas.{is_nil}
use Rattle.command_line.proofs.Words.{held, state}
use Rattle.command_line.proofs.Runs.{Walks}

no_default : (rows : List Row) (a : Rule) → is_empty a.defaults ≡ true → (default_fault rows a ≡ []) × (with_default rows a ≡ rows)
no_default rows a e = go (has_row a.id rows) (is_nil a.defaults e)
  where
    go : (b : Bool) → a.defaults ≡ [] → (cond (b || is_empty a.defaults) [] (given_default_fault a a.defaults) ≡ []) × (cond b rows (default_rows a.id (reading_by a) a.defaults rows) ≡ rows)
    go true n = (refl, refl)
    go false n = (ap (λ (b : Bool). cond b [] (given_default_fault a a.defaults)) e, ap (λ (ds : List Text). default_rows a.id (reading_by a) ds rows) n)

both : (a b : Bool) → (a && b) ≡ true → (a ≡ true) × (b ≡ true)
both true b e = (refl, e)
both false b e = cc

pub no_defaults : (c : List Rule) (rows : List Row) → list_all (λ (a : Rule). is_empty a.defaults) c ≡ true → (defaults_fault rows c ≡ []) × (fold with_default rows c ≡ rows)
unfolding defaults_fault
no_defaults [] rows e = (refl, refl)
no_defaults (a ∷ c) rows e =
    let two = both (is_empty a.defaults) (list_all (λ (r : Rule). is_empty r.defaults) c) e in
    let here = no_default rows a two.0 in
    let more = no_defaults c rows two.1 in (
      ap (λ (ks : Kinds). or_else ks (defaults_fault (with_default rows a) c)) here.0 ∙ ap (λ (r : List Row). defaults_fault r c) here.1 ∙ more.0,
      ap (λ (r : List Row). fold with_default r c) here.1 ∙ more.1,
    )

-- ---- a command whose words were walked

pub record IsRead (s : Shape) (words : List Text) (rows : List Row) : Type 0 where
  pub fault : level_fault s [] nothing_held words false [] ≡ []
  pub rows_are : rows_after s.rules [] words ≡ rows

-- final is what the defaults make of the rows
pub leaf_ends : (s : Shape) (words : List Text) (rows final : List Row) (waiting : Waiting) (position : ℕ) → Walks s (state [] None idle 1) words [] rows waiting position
    → (defaults_fault rows s.rules ≡ []) × (fold with_default rows s.rules ≡ final) → check_fault s final false ≡ [] → IsRead s words final
unfolding walk_fault
leaf_ends s words rows final waiting position h free check =
    let c = s.rules in
    let all : words ++ [] ≡ words = append-nil words in
    let end : walk c [] nothing_held words ≡ state h.done h.pending waiting position = sym (ap (λ (ws : List Text). fold (walked c []) (state [] None idle 1) ws) all) ∙ h.walk_is in
    let walked_fine : walk_fault s [] (state [] None idle 1) words ≡ [] = sym (ap (λ (ws : List Text). walk_fault s [] (state [] None idle 1) ws) all) ∙ h.fault_is in
    record {
      fault = ap (λ (ks : Kinds). or_else ks (rest_of (walk c [] nothing_held words).held)) walked_fine
          ∙ ap (λ (w : Walk). rest_of w.held) end
          ∙ ap (λ (ks : Kinds). or_else ks (or_else (defaults_fault (settled c (held h.done h.pending)).rows c) (check_fault s (fold with_default (settled c (held h.done h.pending)).rows c) false))) h.fine
          ∙ ap (λ (r : List Row). or_else (defaults_fault r c) (check_fault s (fold with_default r c) false)) h.rows_are
          ∙ ap (λ (ks : Kinds). or_else ks (check_fault s (fold with_default rows c) false)) free.0
          ∙ ap (λ (r : List Row). check_fault s r false) free.1
          ∙ check;
      rows_are = ap (λ (w : Walk). fold with_default (settled c w.held).rows c) end ∙ ap (λ (r : List Row). fold with_default r c) h.rows_are ∙ free.1;
    }
  where
    rest_of : Held → Kinds
    rest_of end = or_else (settle_fault s.rules s.args_override_self end) (or_else (defaults_fault (settled s.rules end).rows s.rules) (check_fault s (fold with_default (settled s.rules end).rows s.rules) false))

pub leaf_read : (s : Shape) (words : List Text) (rows : List Row) (waiting : Waiting) (position : ℕ) → Walks s (state [] None idle 1) words [] rows waiting position
    → list_all (λ (a : Rule). is_empty a.defaults) s.rules ≡ true → check_fault s rows false ≡ [] → IsRead s words rows
leaf_read s words rows waiting position h bare check = leaf_ends s words rows rows waiting position h (no_defaults s.rules rows bare) check

-- no words yet
pub start_walk : (s : Shape) (rest : List Text) → Walks s (state [] None idle 1) [] rest [] idle 1
start_walk s rest = record { done = []; pending = None; rows_are = refl; fine = refl; walk_is = refl; fault_is = refl }

-- The lines of an order, page by page.
use Rattle.std.proofs.Common.{◌≡◌, ℕ, zero, suc, ◌+◌, ◌<◌, List, [], ◌∷◌, ◌++◌, length, take, drop, slice_index, Option, refl, sym, ap, subst, ◌∙◌, add-one, append_assoc, append-nil, take-append-drop, arith}
use Rattle.std.specs.Io.KnownBytes.{Appends}
use Rattle.std.proofs.KnownBytes.{Appends-nil, Appends-trans}
use Rattle.std.proofs.lemmas.List.Concat.{flat_map-append}
use Rattle.gate_io.specs.Flow.{AppendsPart}
use Rattle.gate_io.specs.FlowLaws.{AppendsPart-after, AppendsPart-longer}
use Rattle.gate_notes.specs.Notes.{caller_line, order_lines}

-- the first callers, one more
next-line : (filers : ℕ) (order : List ℕ) (i : ℕ) → i < length order → order_lines filers (take (suc i) order) ≡ order_lines filers (take i order) ++ caller_line filers (slice_index order i)
next-line filers [] i below = absurd (omega arith)
next-line filers (who ∷ order) zero below = append-nil (caller_line filers who)
next-line filers (who ∷ order) (suc i) below =
    ap (λ (l : List ℕ). caller_line filers who ++ l) (next-line filers order i (omega arith))
    ∙ sym (append_assoc (caller_line filers who) (order_lines filers (take i order)) (caller_line filers (slice_index order i)))

-- so many lines were written, and these are given but for those on the page
pub record Written (filers : ℕ) (order : List ℕ) (i : ℕ) (before now : Option (List ℕ)) (page : List ℕ) : Type 0 where
  pub text : List ℕ
  pub given : Appends before now text
  pub written : text ++ page ≡ order_lines filers (take i order)

pub nothing-written : (filers : ℕ) (order : List ℕ) (before : Option (List ℕ)) → Written filers order 0 before before []
nothing-written filers order before = record { text = []; given = Appends-nil before; written = refl }

module _ (filers : ℕ) (order : List ℕ) (i : ℕ) (before mid now : Option (List ℕ)) (page : List ℕ) (w : Written filers order i before mid page) where
  pub written-more : (page_now last : List ℕ) (text rest : List ℕ) → i < length order → page ≡ text ++ rest → Appends mid now text → page_now ≡ rest → last ≡ page_now ++ caller_line filers (slice_index order i)
      → Written filers order (i + 1) before now last
  written-more page_now last text rest below parts gave left more = record {
    text = w.text ++ text;
    given = Appends-trans before mid now w.text text w.given gave;
    written = ap (λ (l : List ℕ). (w.text ++ text) ++ l) (more ∙ ap (λ (l : List ℕ). l ++ caller_line filers (slice_index order i)) left)
        ∙ sym (append_assoc (w.text ++ text) rest (caller_line filers (slice_index order i)))
        ∙ ap (λ (l : List ℕ). l ++ caller_line filers (slice_index order i)) (append_assoc w.text text rest ∙ ap (λ (l : List ℕ). w.text ++ l) (sym parts) ∙ w.written)
        ∙ sym (next-line filers order i below)
        ∙ ap (λ (n : ℕ). order_lines filers (take n order)) (sym (add-one i));
  }

  -- the rest of the lines
  all-lines : order_lines filers (take i order) ++ order_lines filers (drop i order) ≡ order_lines filers order
  all-lines = sym (flat_map-append (caller_line filers) (take i order) (drop i order)) ∙ ap (order_lines filers) (take-append-drop i order)

  -- a page was not given whole
  pub broken-off : (text rest : List ℕ) → page ≡ text ++ rest → AppendsPart mid now text → AppendsPart before now (order_lines filers order)
  broken-off text rest parts gave =
      let front = AppendsPart-longer before now (w.text ++ text) (rest ++ order_lines filers (drop i order)) (AppendsPart-after before mid now w.text text w.given gave) in
      let whole : (w.text ++ text) ++ (rest ++ order_lines filers (drop i order)) ≡ order_lines filers order =
      sym (append_assoc (w.text ++ text) rest (order_lines filers (drop i order)))
      ∙ ap (λ (l : List ℕ). l ++ order_lines filers (drop i order)) (append_assoc w.text text rest ∙ ap (λ (l : List ℕ). w.text ++ l) (sym parts) ∙ w.written)
      ∙ all-lines in
      subst (AppendsPart before now) whole front

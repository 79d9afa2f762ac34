-- Plain lines of verify.
use Rattle.std.proofs.Common.{◌≡◌, ℕ, suc, nat_le, cond, Bool, true, List, [], ◌∷◌, length, Some, None, refl, ap, ◌∙◌, codes, arith, option_map}
use Rattle.std.proofs.lemmas.Bool.Decides.{nat_tests}
use Rattle.clap.specs.Walk.{Row, idle, positional}
use Rattle.command_line.specs.Table.{verify_shape}
use Rattle.command_line.specs.Lines.{files_of}
use Rattle.command_line.specs.Plain.{PlainVerify}
use Rattle.command_line.specs.declared.line.Command.{Command}
use Rattle.command_line.specs.declared.line.Command.TheVariants.{Verify}
use Rattle.command_line.specs.declared.line.Line.TheVariants.{Files}
use Rattle.command_line.proofs.Rows.{row}
use Rattle.command_line.proofs.Words.{state}
use Rattle.command_line.proofs.Places.{place_walk, run_many}
use Rattle.command_line.proofs.Ends.{leaf_read, start_walk}
use Rattle.command_line.proofs.Program.{leaf, line_says, verify_sub}

pub one_or_more : (n : ℕ) → nat_le 1 (suc n) ≡ true
one_or_more n = grind (arith, nat_tests)

pub plain_verify : PlainVerify
plain_verify output player filer filers a b words =
    let s = leaf verify_shape in
    let start = state [] None idle 1 in
    let first : List Row = row (codes "output") (output ∷ []) ∷ [] in
    let two_rows : List Row = row (codes "output") (output ∷ []) ∷ row (codes "player") (player ∷ []) ∷ [] in
    let rows : List Row = row (codes "output") (output ∷ []) ∷ row (codes "player") (player ∷ []) ∷ row (codes "filer") (filer ∷ filers) ∷ [] in
    let one = place_walk s start [] (player ∷ filer ∷ filers) [] 1 (codes "output") output (record { found = refl; known = refl; same = refl }) a refl (start_walk s (output ∷ player ∷ filer ∷ filers)) in
    let two = place_walk s start (output ∷ []) (filer ∷ filers) first 2 (codes "player") player (record { found = refl; known = refl; same = refl }) b refl one in
    let all = run_many s start (output ∷ player ∷ []) two_rows 3 (codes "filer") filer filers (record { found = refl; known = refl; same = refl }) refl words two in
    line_says (codes "verify") verify_shape (output ∷ player ∷ filer ∷ filers) rows verify_sub (leaf_read s (output ∷ player ∷ filer ∷ filers) rows positional 3 all refl refl)
    ∙ ap (λ (b : Bool). option_map (λ (c : Command). Files (files_of rows c)) (cond b (Some Verify) None)) (one_or_more (length filers))

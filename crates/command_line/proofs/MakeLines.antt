-- Plain lines of make.
use Rattle.std.proofs.Common.{◌≡◌, ℕ, ◌-◌, ◌^◌, List, [], ◌∷◌, Option, Some, None, refl, ◌∙◌, codes, option_map}
use Rattle.std.specs.Prelude.{option_and_then}
use Rattle.clap.specs.Walk.{Row, Text, idle}
use Rattle.command_line.specs.Table.{make_shape}
use Rattle.command_line.specs.Values.{number_in}
use Rattle.command_line.specs.Lines.{files_of, make_of, text_of}
use Rattle.command_line.specs.Plain.{PlainMake, over_files}
use Rattle.command_line.specs.declared.line.Command.{Command}
use Rattle.command_line.specs.declared.line.Command.TheVariants.{Make}
use Rattle.command_line.specs.declared.line.Line.TheVariants.{Files}
use Rattle.command_line.proofs.Rows.{row}
use Rattle.command_line.proofs.Words.{state}
use Rattle.command_line.proofs.Places.{place_walk}
use Rattle.command_line.proofs.Ends.{leaf_read, start_walk}
use Rattle.command_line.proofs.Program.{leaf, line_says, make_sub}

-- it reads no file
no_input : (rows : List Row) (seed count filers : Text) → option_map (λ (c : Command). Files (files_of rows c)) (make_of seed count filers) ≡ option_map (over_files [] (text_of (codes "output") rows)) (make_of seed count filers)
unfolding make_of
no_input rows seed count filers = go (number_in 0 (2 ^ 64 - 1) seed) (number_in 1 1000000 count) (number_in 1 64 filers)
  where
    made : Option ℕ → Option ℕ → Option ℕ → Option Command
    made s n f = option_and_then (λ (x : ℕ). option_and_then (λ (y : ℕ). option_and_then (λ (z : ℕ). Some (Make x y z)) f) n) s

    go : (s n f : Option ℕ) → option_map (λ (c : Command). Files (files_of rows c)) (made s n f) ≡ option_map (over_files [] (text_of (codes "output") rows)) (made s n f)
    go None n f = refl
    go (Some x) None f = refl
    go (Some x) (Some y) None = refl
    go (Some x) (Some y) (Some z) = refl

pub plain_make : PlainMake
plain_make seed count filers output a b c d =
    let s = leaf make_shape in
    let start = state [] None idle 1 in
    let seed_row : Row = row (codes "seed") (seed ∷ []) in
    let count_row : Row = row (codes "count") (count ∷ []) in
    let filers_row : Row = row (codes "filers") (filers ∷ []) in
    let output_row : Row = row (codes "output") (output ∷ []) in
    let one = place_walk s start [] (count ∷ filers ∷ output ∷ []) [] 1 (codes "seed") seed (record { found = refl; known = refl; same = refl }) a refl (start_walk s (seed ∷ count ∷ filers ∷ output ∷ [])) in
    let two = place_walk s start (seed ∷ []) (filers ∷ output ∷ []) (seed_row ∷ []) 2 (codes "count") count (record { found = refl; known = refl; same = refl }) b refl one in
    let three = place_walk s start (seed ∷ count ∷ []) (output ∷ []) (seed_row ∷ count_row ∷ []) 3 (codes "filers") filers (record { found = refl; known = refl; same = refl }) c refl two in
    let four = place_walk s start (seed ∷ count ∷ filers ∷ []) [] (seed_row ∷ count_row ∷ filers_row ∷ []) 4 (codes "output") output (record { found = refl; known = refl; same = refl }) d refl three in
    let rows : List Row = seed_row ∷ count_row ∷ filers_row ∷ output_row ∷ [] in
    line_says (codes "make") make_shape (seed ∷ count ∷ filers ∷ output ∷ []) rows make_sub (leaf_read s (seed ∷ count ∷ filers ∷ output ∷ []) rows idle 5 four refl refl)
    ∙ no_input rows seed count filers

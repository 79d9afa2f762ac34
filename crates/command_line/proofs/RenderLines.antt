-- Plain lines of render.
use Rattle.std.proofs.Common.{◌≡◌, ℕ, List, [], ◌∷◌, Option, Some, None, false, refl, ◌∙◌, codes, option_map}
use Rattle.clap.specs.Walk.{Row, Text, idle}
use Rattle.command_line.specs.Table.{render_shape}
use Rattle.command_line.specs.Values.{seed_of}
use Rattle.command_line.specs.Lines.{files_of}
use Rattle.command_line.specs.Plain.{PlainRender, over_files}
use Rattle.command_line.specs.declared.line.Command.{Command}
use Rattle.command_line.specs.declared.line.Command.TheVariants.{Render}
use Rattle.command_line.specs.declared.line.Line.TheVariants.{Files}
use Rattle.command_line.proofs.Rows.{row}
use Rattle.command_line.proofs.Words.{IsOption, state}
use Rattle.command_line.proofs.Runs.{options_walk}
use Rattle.command_line.proofs.Places.{IsPlace, place_at, place_walk}
use Rattle.command_line.proofs.Ends.{leaf_read, start_walk}
use Rattle.command_line.proofs.Program.{leaf, line_says, render_sub}

seed_known : IsOption (leaf render_shape).rules false (codes "seed")
seed_known = record { dashes = refl; long = refl; found = refl; known = refl; same = refl }

input_known : IsPlace (leaf render_shape).rules 1 (codes "input") (place_at 1 (codes "input"))
input_known = record { found = refl; known = refl; same = refl }

output_known : IsPlace (leaf render_shape).rules 2 (codes "output") (place_at 2 (codes "output"))
output_known = record { found = refl; known = refl; same = refl }

pub plain_render : PlainRender
plain_render None input output said a b =
    let s = leaf render_shape in
    let one = place_walk s (state [] None idle 1) [] (output ∷ []) [] 1 (codes "input") input input_known a refl (start_walk s (input ∷ output ∷ [])) in
    let two = place_walk s (state [] None idle 1) (input ∷ []) [] (row (codes "input") (input ∷ []) ∷ []) 2 (codes "output") output output_known b refl one in
    line_says (codes "render") render_shape (input ∷ output ∷ []) _ render_sub (leaf_read s (input ∷ output ∷ []) _ idle 3 two refl refl)
plain_render (Some text) input output said a b =
    let s = leaf render_shape in
    let start = state [] None idle 1 in
    let seed_row : Row = row (codes "seed") (text ∷ []) in
    let input_row : Row = row (codes "input") (input ∷ []) in
    let output_row : Row = row (codes "output") (output ∷ []) in
    let zero = options_walk s [] None 1 ((codes "seed", text) ∷ []) (input ∷ output ∷ []) (false, seed_known, said, refl, tt) refl in
    let one = place_walk s start (codes "--seed" ∷ text ∷ []) (output ∷ []) (seed_row ∷ []) 1 (codes "input") input input_known a refl zero in
    let two = place_walk s start (codes "--seed" ∷ text ∷ input ∷ []) [] (seed_row ∷ input_row ∷ []) 2 (codes "output") output output_known b refl one in
    let rows : List Row = seed_row ∷ input_row ∷ output_row ∷ [] in
    let words : List Text = codes "--seed" ∷ text ∷ input ∷ output ∷ [] in
    line_says (codes "render") render_shape words rows render_sub (leaf_read s words rows idle 3 two refl refl)
    ∙ mapped (seed_of text)
  where
    mapped : (o : Option (List ℕ)) → option_map (λ (c : Command). Files (files_of (row (codes "seed") (text ∷ []) ∷ row (codes "input") (input ∷ []) ∷ row (codes "output") (output ∷ []) ∷ []) c)) (option_map (λ (x : List ℕ). Render x) o) ≡ option_map (λ (x : List ℕ). over_files (input ∷ []) output (Render x)) o
    mapped None = refl
    mapped (Some x) = refl

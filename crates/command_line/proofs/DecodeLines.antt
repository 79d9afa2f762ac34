-- Plain lines of decode and of encode.
use Rattle.std.proofs.Common.{[], ◌∷◌, None, refl, codes}
use Rattle.clap.specs.Walk.{idle}
use Rattle.command_line.specs.Table.{decode_shape, encode_shape}
use Rattle.command_line.specs.Plain.{PlainDecode, PlainEncode}
use Rattle.command_line.proofs.Rows.{row}
use Rattle.command_line.proofs.Words.{state}
use Rattle.command_line.proofs.Places.{place_walk}
use Rattle.command_line.proofs.Ends.{leaf_read, start_walk}
use Rattle.command_line.proofs.Program.{leaf, line_says, decode_sub, encode_sub}

pub plain_decode : PlainDecode
plain_decode input output a b =
    let s = leaf decode_shape in
    let one = place_walk s (state [] None idle 1) [] (output ∷ []) [] 1 (codes "input") input (record { found = refl; known = refl; same = refl }) a refl (start_walk s (input ∷ output ∷ [])) in
    let two = place_walk s (state [] None idle 1) (input ∷ []) [] (row (codes "input") (input ∷ []) ∷ []) 2 (codes "output") output (record { found = refl; known = refl; same = refl }) b refl one in
    line_says (codes "decode") decode_shape (input ∷ output ∷ []) _ decode_sub (leaf_read s (input ∷ output ∷ []) _ idle 3 two refl refl)

pub plain_encode : PlainEncode
plain_encode input output a b =
    let s = leaf encode_shape in
    let one = place_walk s (state [] None idle 1) [] (output ∷ []) [] 1 (codes "input") input (record { found = refl; known = refl; same = refl }) a refl (start_walk s (input ∷ output ∷ [])) in
    let two = place_walk s (state [] None idle 1) (input ∷ []) [] (row (codes "input") (input ∷ []) ∷ []) 2 (codes "output") output (record { found = refl; known = refl; same = refl }) b refl one in
    line_says (codes "encode") encode_shape (input ∷ output ∷ []) _ encode_sub (leaf_read s (input ∷ output ∷ []) _ idle 3 two refl refl)

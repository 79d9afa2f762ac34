-- Plain lines of serve.
use Rattle.std.proofs.Common.{[], ◌∷◌, ◌++◌, None, refl, ◌∙◌, codes}
use Rattle.clap.specs.Walk.{idle, positional}
use Rattle.command_line.specs.Table.{serve_shape}
use Rattle.command_line.specs.Plain.{PlainServe, named, option_words}
use Rattle.command_line.proofs.Rows.{option_rows, row}
use Rattle.command_line.proofs.Words.{state}
use Rattle.command_line.proofs.Runs.{options_walk}
use Rattle.command_line.proofs.Places.{run_many}
use Rattle.command_line.proofs.Ends.{leaf_read}
use Rattle.command_line.proofs.Program.{leaf, line_says, serve_sub}
use Rattle.command_line.proofs.ServeRows.{given, given_last, no_listen, options_fit, rows_say, serve_check, serve_listen}

pub plain_serve : PlainServe
plain_serve os w ws once words reply_said speaker_said microphone_said journals_said =
    let s = leaf serve_shape in
    let texts = named os in
    let tail = row (codes "listen") (w ∷ ws) ∷ [] in
    let rows = option_rows texts ++ tail in
    let first = options_walk s [] None 1 texts (w ∷ ws) (options_fit [] os once) refl in
    let all = run_many s (state [] None idle 1) (option_words texts) (option_rows texts) 1 (codes "listen") w ws serve_listen (no_listen os) words first in
    let read = leaf_read s (option_words texts ++ (w ∷ ws)) rows positional 1 all refl
    (serve_check rows (given (codes "reply") texts tail reply_said) (given (codes "speaker") texts tail speaker_said) (given (codes "microphone") texts tail microphone_said) (given (codes "journals") texts tail journals_said) (given_last os (w ∷ ws))) in
    line_says (codes "serve") serve_shape (option_words texts ++ (w ∷ ws)) rows serve_sub read ∙ rows_say os (w ∷ ws)

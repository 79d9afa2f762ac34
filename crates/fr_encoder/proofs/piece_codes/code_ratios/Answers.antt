use Rattle.std.proofs.Common.{◌∙◌, ap}
use Rattle.lar_filter.specs.Autocorrelation.{scaled, correlation}
use Rattle.lar_filter.specs.Quantising.{codes_from}
use Rattle.fixed_arith.specs.Signal.{at}
use Rattle.fr_encoder.specs.ShortTerm.{codes_of_piece}
use Rattle.fr_encoder.proofs.ShortTermLaws.{reflections_same}
use Rattle.fr_encoder.proofs.piece_codes.code_ratios.Goals as goal

pub returns-clause-codes : goal.returns-clause-codes
unfolding codes_of_piece
returns-clause-codes c =
    c.quantise_lars.ensures.value
    ∙ ap codes_from (c.schur.ensures ∙ reflections_same (at c.autocorrelate-sums.result) (correlation (scaled c.args.samples.now)) c.autocorrelate-sums.ensures.values)

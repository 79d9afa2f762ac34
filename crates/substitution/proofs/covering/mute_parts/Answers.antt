use Rattle.std.proofs.Common.{[], ◌∷◌}
use Rattle.std.proofs.lemmas.List.Elements.{All-from_recursion}
use Rattle.frame_codec.specs.Frame.{SubFits}
use Rattle.substitution.proofs.covering.mute_parts.Goals as goal

pub returns-clause-fit : goal.returns-clause-fit
returns-clause-fit c = All-from_recursion SubFits (c.mute.result ∷ c.mute-2.result ∷ c.mute-3.result ∷ c.mute-4.result ∷ [])
    (c.mute.ensures.fits, (c.mute-2.ensures.fits, (c.mute-3.ensures.fits, (c.mute-4.ensures.fits, tt))))

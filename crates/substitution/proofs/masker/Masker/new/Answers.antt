use Rattle.std.proofs.Common.{◌≡◌}
use Rattle.rand_chacha.specs.ChaCha.{of_seed}
use Rattle.substitution.proofs.MaskLaws.{Masks-start}
use Rattle.substitution.proofs.masker.Masker.new.Goals as goal

pub returns : goal.returns
returns c =
    let words : c.from_seed.result ≡ of_seed c.args.seed = c.from_seed.ensures in
    rw words (Masks-start c.args.seed)

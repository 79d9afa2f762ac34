use Rattle.std.proofs.Common.{rules, ◌≡◌, ◌++◌, [], ◌∷◌, length}
use Rattle.std.proofs.lemmas.List.Elements.{All-from_recursion}
use Rattle.frame_codec.specs.Frame.{SubFits}
use Rattle.lar_filter.specs.PartLaws.{pieces_are}
use Rattle.fr_encoder.proofs.ExcitationLaws.{Excites-next}
use Rattle.fr_encoder.proofs.CodingLaws.{Excites-four}
use Rattle.fr_encoder.proofs.excitation.code_residual.Goals as goal

pub returns-clause-goes_on : goal.returns-clause-goes_on
returns-clause-goes_on c = λ before subs excites.
    let size0 : length c.forty.result ≡ 40 = search rules in
    let size1 : length c.forty-2.result ≡ 40 = search rules in
    let size2 : length c.forty-3.result ≡ 40 = search rules in
    let size3 : length c.forty-4.result ≡ 40 = search rules in
    let whole : c.args.d.now ≡ c.forty.result ++ (c.forty-2.result ++ (c.forty-3.result ++ c.forty-4.result)) =
    rw (c.forty.ensures, c.forty-2.ensures, c.forty-3.ensures, c.forty-4.ensures)
    (pieces_are c.args.d.now _ _ _ _ _ _ 40 40 40 c.split_at.ensures.front c.split_at.ensures.back c.split_at-2.ensures.front c.split_at-2.ensures.back
    c.split_at-3.ensures.front c.split_at-3.ensures.back) in
    let first = Excites-next before c.forty.result subs c.code.result c.args.long_term.now c.code.new.self excites size0 c.code.ensures.coded (c.code.ensures.goes_on _) in
    let second = Excites-next _ c.forty-2.result _ c.code-2.result c.code.new.self c.code-2.new.self first size1 c.code-2.ensures.coded (c.code-2.ensures.goes_on _) in
    let third = Excites-next _ c.forty-3.result _ c.code-3.result c.code-2.new.self c.code-3.new.self second size2 c.code-3.ensures.coded (c.code-3.ensures.goes_on _) in
    let fourth = Excites-next _ c.forty-4.result _ c.code-4.result c.code-3.new.self c.code-4.new.self third size3 c.code-4.ensures.coded (c.code-4.ensures.goes_on _) in
    Excites-four before c.args.d.now c.forty.result c.forty-2.result c.forty-3.result c.forty-4.result subs
    c.code.result c.code-2.result c.code-3.result c.code-4.result c.code-4.new.self whole fourth

pub returns-clause-fit : goal.returns-clause-fit
returns-clause-fit c = All-from_recursion SubFits (c.code.result ∷ c.code-2.result ∷ c.code-3.result ∷ c.code-4.result ∷ [])
    (c.code.ensures.fits, (c.code-2.ensures.fits, (c.code-3.ensures.fits, (c.code-4.ensures.fits, tt))))

use Rattle.std.proofs.Common.{rules, ◌∙◌, sym, ◌≡◌, [], ◌∷◌, refl}
use Rattle.std.proofs.lemmas.List.Elements.{All-from_recursion}
use Rattle.frame_codec.specs.Frame.{SubFits}
use Rattle.frame_codec.proofs.FrameLaws.{same_fields, signature_read, empty_from_length}
use Rattle.frame_codec.proofs.packing.unpack.Goals as goal

pub returns-clause-spelled : goal.returns-clause-spelled
returns-clause-spelled c =
    let none : c.take_sub-4.new.bits ≡ [] = empty_from_length _ (search rules) in
    let whole = rw (c.new-bits.ensures.bits, c.take_codes.ensures.read, c.take_sub.ensures.read, c.take_sub-2.ensures.read, c.take_sub-3.ensures.read, c.take_sub-4.ensures.read, none) at c.take.ensures.read in
    let signature = signature_read _ _ c.take.result c.frame.invariant whole in
    rw (← c.frame.view_is) (rw signature at whole)

pub invariant_of-result : goal.invariant_of-result
invariant_of-result c = record {
  larc = c.take_codes.ensures.fit;
  count = refl;
  sub = All-from_recursion SubFits (c.take_sub.result ∷ c.take_sub-2.result ∷ c.take_sub-3.result ∷ c.take_sub-4.result ∷ [])
      (c.take_sub.ensures.fits, (c.take_sub-2.ensures.fits, (c.take_sub-3.ensures.fits, (c.take_sub-4.ensures.fits, tt))));
}

pub returns-clause-only : goal.returns-clause-only
returns-clause-only c = λ p fit spelled. same_fields p _ fit (invariant_of-result c) (sym spelled ∙ returns-clause-spelled c)

use Rattle.std.proofs.Common.{◌≡◌, ◌+◌, ◌<◌, ◌∷◌, ◌++◌, List, ℕ, [], drop, get_or, length, take, sym, ap, ◌∙◌, subst, arith}
use Rattle.std.proofs.lemmas.List.{length-take-le, take-append-drop, take_more}
use Rattle.g711_leg.specs.Legs.{Goes, GoesPart}
use Rattle.g711_leg.specs.OutLaws.{failed_last, goes_after, goes_none, part_after_goes, part_of_longer, was_fault, was_whole}
use Rattle.g711_leg.proofs.outlet.Out.take.Goals as goal

parted : (xs : List ℕ) (i : ℕ) → i < length xs → (take i xs ++ get_or xs i 0 ∷ []) ++ drop (i + 1) xs ≡ xs
parted xs i less = ap (λ (front : List ℕ). front ++ drop (i + 1) xs) (sym (take_more xs i 0 less)) ∙ take-append-drop (i + 1) xs

pub loop-octet-init : goal.loop-octet-init
loop-octet-init g c =
    let filled = c.self.inside.filled in
    let within = length-take-le filled c.self.inside.block (omega (arith, c.self.told, c.self.invariant.0)) in
    record {
      goes = rw (← c.self.view_is) (goes_none g.A.Sink g.P.Link _ (omega (arith, c.self.invariant.0, within)) c.self.invariant.1);
      au = omega arith;
      link = omega arith;
    }

pub returns-then-is_err-clause-goes : goal.returns-then-is_err-clause-goes
returns-then-is_err-clause-goes g c =
    let from : List ℕ = c.args.from.now in
    let i : ℕ = c.loop-octet.octet-index in
    let octet : List ℕ = get_or from i 0 ∷ [] in
    let part = was_fault g.A.Sink g.P.Link c.loop-octet.self c.take_octet.new.self c.take_octet.result octet (sym c.is_err.ensures.value ∙ c.if-is_err.true) c.take_octet.ensures.goes in
    let more = part_after_goes g.A.Sink g.P.Link c.args.self.now c.loop-octet.self c.take_octet.new.self (take i from) octet c.loop-octet.invariant.goes part in
    subst (GoesPart g.A.Sink g.P.Link c.args.self.now c.take_octet.new.self) (parted from i c.loop-octet-test.true)
    (part_of_longer g.A.Sink g.P.Link c.args.self.now c.take_octet.new.self (take i from ++ octet) (drop (i + 1) from) more)

pub loop-octet-preserved : goal.loop-octet-preserved
loop-octet-preserved g c =
    let from : List ℕ = c.args.from.now in
    let i : ℕ = c.loop-octet.octet-index in
    let octet : List ℕ = get_or from i 0 ∷ [] in
    let whole = was_whole g.A.Sink g.P.Link c.loop-octet.self c.take_octet.new.self c.take_octet.result octet (sym c.is_err.ensures.value ∙ c.if-is_err.false) c.take_octet.ensures.goes in
    let more = goes_after g.A.Sink g.P.Link c.args.self.now c.loop-octet.self c.take_octet.new.self (take i from) octet c.loop-octet.invariant.goes whole in
    record {
      goes = subst (Goes g.A.Sink g.P.Link c.args.self.now c.take_octet.new.self) (sym (take_more from i 0 c.loop-octet-test.true)) more;
      au = omega (arith, c.loop-octet.invariant.au, c.take_octet.ensures.cause.au);
      link = omega (arith, c.loop-octet.invariant.link, c.take_octet.ensures.cause.link);
    }

pub returns-then-is_err-clause-cause : goal.returns-then-is_err-clause-cause
returns-then-is_err-clause-cause g c = record {
  au = omega (arith, c.loop-octet.invariant.au, c.take_octet.ensures.cause.au);
  link = omega (arith, c.loop-octet.invariant.link, c.take_octet.ensures.cause.link);
  failed = failed_last g.A.Sink g.P.Link c.args.self.now c.loop-octet.self c.take_octet.new.self c.take_octet.result (sym c.is_err.ensures.value ∙ c.if-is_err.true)
      c.loop-octet.invariant.au c.loop-octet.invariant.link c.take_octet.ensures.cause;
}

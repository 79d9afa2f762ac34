use Rattle.std.proofs.Common.{rules}
use Rattle.std.proofs.lemmas.List.Sorted.{answers_always}
use Rattle.playout.proofs.Places.{found_at, gap_at}
use Rattle.playout.proofs.pairs.place_of.Goals as goal

pub returns-clause-found : goal.returns-clause-found
returns-clause-found c =
    let facts = c.binary_search_by_key.ensures in
    found_at c.args.pairs.now c.requires c.args.number _ facts.bound (facts.position (λ pair. pair.0) (answers_always _ _ _ (λ f a r g called. search rules)))

pub returns-clause-absent : goal.returns-clause-absent
returns-clause-absent c =
    let facts = c.binary_search_by_key.ensures in
    gap_at c.args.pairs.now c.requires c.args.number _ facts.bound (facts.position (λ pair. pair.0) (answers_always _ _ _ (λ f a r g called. search rules)))

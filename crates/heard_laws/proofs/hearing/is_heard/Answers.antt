use Rattle.std.proofs.Common.{◌≡◌, [], ◌++◌, Some, None, true, false, length, refl, sym, ◌∙◌}
use Rattle.std.specs.Prelude.{nat_eq}
use Rattle.std.proofs.lemmas.Bool.Decides.{Decides-int_eq}
use Rattle.std.proofs.lemmas.Slice.Eq.{strip_prefix_is}
use Rattle.heard_laws.proofs.Compared.{compared-first, compared-more, compared-apart, voices-more, decided}
use Rattle.heard_laws.proofs.hearing.is_heard.Goals as goal
use Rattle.heard_laws.proofs.hearing.is_heard.Goals.{in-Some, in-None}

pub play-init : goal.play-init
play-init c = ([], c.new-voice.ensures, compared-first c.args.samples.now)

pub play-preserved : goal.play-preserved
play-preserved c =
    let was = c.play.invariant in
    let out = c.play-in-play.new.out in
    let left = c.play.left.now in (
      was.0 ++ out,
      voices-more c.args.seed c.args.items.now c.play.item-index c.item-item.result (was.0 ++ out) c.play-in-play.new.self c.play-test.true c.item-item.is (c.play-in-play.ensures.goes_on c.args.seed _ was.0 was.1),
      elim c.match-strip_prefix.branch [
        | in-Some w ↦ rw (w.left-is, w.same-is) (compared-more c.args.samples.now was.0 left out w.in-Some.rest.now c.play.same was.2 (strip_prefix_is Decides-int_eq left out (Some w.in-Some.rest) w.in-Some.ensures.cases))
        | in-None w ↦ rw (w.left-is, w.same-is) (compared-apart c.args.samples.now was.0 left out c.play.same was.2 (strip_prefix_is Decides-int_eq left out None w.in-None.ensures.cases))
      ],
    )

pub returns-then-same : goal.returns-then-same
returns-then-same c =
    let was = c.play.invariant in
    let both = decided c.heard_is_one.ensures c.args.seed c.args.items.now c.play.item-index c.args.samples.now was.0 c.play.left.now c.play.same c.is_empty.result c.play-test.false was.1.heard was.2 c.is_empty.ensures in
    (both.0 c.if-same.true, λ h. (both.1 h).1)

pub returns-else-same : goal.returns-else-same
returns-else-same c =
    let was = c.play.invariant in
    let both = decided c.heard_is_one.ensures c.args.seed c.args.items.now c.play.item-index c.args.samples.now was.0 c.play.left.now c.play.same (nat_eq (length c.play.left.now) 0) c.play-test.false was.1.heard was.2 refl in
    (λ (t : c.play.same ≡ true). let e : false ≡ true = sym c.if-same.false ∙ t in cc, λ h. (both.1 h).0)

use Rattle.std.proofs.Common.{refl, ◌≡◌, ◌<◌, ◌+◌, length, false, true, sym, ◌∙◌, arith}
use Rattle.replay_check.specs.Journals.{AreOfOneLine}
use Rattle.replay_check.proofs.Numbered.{numbered-at, numbered-more}
use Rattle.replay_check.proofs.heads.are_of_one_line.Goals as goal

pub returns-then-not-is_of : goal.returns-then-not-is_of
returns-then-not-is_of c = (λ bad. absurd (let e : false ≡ true = bad in cc), λ one. absurd (refuted one))
  where
    refuted : AreOfOneLine c.args.filers.now.items c.args.player.now → ⊥
    refuted one =
        let below : c.journals.k < length c.deref-filer-items.result.now = c.journals-test.true in
        let seen : c.deref-filer-items.result.now ≡ c.args.filers.now.items = c.deref-filer-items.ensures.value in
        let at = numbered-at c.args.player.now.head 0 c.deref-filer-items.result.now c.journals.k c.filer-item.result below c.filer-item.is (rw seen one.numbered) in
        let is : false ≡ true = c.if-not-is_of.ensures.1 (at.0 ∙ sym c.head-head.ensures.value, at.1 ∙ (let e : 0 + c.journals.k ≡ c.journals.k = omega arith in e)) in
        cc

pub journals-preserved : goal.journals-preserved
journals-preserved c =
    let is = c.if-not-is_of.ensures.0 refl in
    numbered-more c.args.player.now.head 0 c.deref-filer-items.result.now c.journals.k c.filer-item.result c.journals-test.true c.filer-item.is c.journals.invariant (is.0 ∙ c.head-head.ensures.value) (is.1 ∙ (let e : c.journals.k ≡ 0 + c.journals.k = omega arith in e))

use Rattle.std.proofs.Common.{rules, arith, FitsSigned, w16, ◌≡◌, true, false}
use Rattle.std.proofs.lemmas.Int.{to_z-of_z}
use Rattle.std.specs.Prelude.{int_lt}
use Rattle.fixed_arith.specs.Word.{abs_of_word}
use Rattle.fixed_arith.specs.Signal.{at}
use Rattle.lar_filter.specs.SchurLaws.{Reflects-stop, Reflects-more, Reflects-whole}
use Rattle.lar_filter.proofs.reflection.reflect.Goals as goal

pub loop-n-preserved : goal.loop-n-preserved
loop-n-preserved c =
    let first : FitsSigned w16 (at c.loop-n.p 0) = search rules in
    let second : FitsSigned w16 (at c.loop-n.p 1) = search rules in
    let m : FitsSigned w16 c.abs_word.result = search rules in
    let q : FitsSigned w16 c.quotient-q.result = search rules in
    let magnitude = simp to_z-of_z at c.abs_word.ensures.value in
    let test = simp to_z-of_z at c.if-p-abs_word.false in
    let is = simp to_z-of_z at c.quotient-q.ensures in
    let high : int_lt (at c.loop-n.p 0) (abs_of_word (at c.loop-n.p 1)) ≡ false = rw magnitude at test in
    simp to_z-of_z (Reflects-more c.args.values.now c.loop-n.p c.loop-n.k c.loop-n.r c.turn.new.p c.turn.new.k c.loop-n.n c.quotient-q.result (omega arith) c.loop-n.invariant high
    (search rules) (search rules) is (simp to_z-of_z at c.turn.ensures.p) (simp to_z-of_z at c.turn.ensures.k))

pub returns-then-p-abs_word : goal.returns-then-p-abs_word
returns-then-p-abs_word c =
    let first : FitsSigned w16 (at c.loop-n.p 0) = search rules in
    let second : FitsSigned w16 (at c.loop-n.p 1) = search rules in
    let m : FitsSigned w16 c.abs_word.result = search rules in
    let magnitude = simp to_z-of_z at c.abs_word.ensures.value in
    let test = simp to_z-of_z at c.if-p-abs_word.true in
    let low : int_lt (at c.loop-n.p 0) (abs_of_word (at c.loop-n.p 1)) ≡ true = rw magnitude at test in
    Reflects-stop c.args.values.now _ _ c.loop-n.r c.loop-n.n (omega arith) c.loop-n.invariant low

pub returns : goal.returns
returns c = Reflects-whole c.args.values.now _ _ _ c.loop-n.n (omega arith) c.loop-n.invariant

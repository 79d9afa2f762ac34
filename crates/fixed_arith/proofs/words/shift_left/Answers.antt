use Rattle.std.proofs.Common.{rules, ap, ◌∙◌, FitsSigned, w16, w32}
use Rattle.std.proofs.lemmas.Int.{to_z-of_z}
use Rattle.fixed_arith.specs.Word.{clip_word, shift_word_left}
use Rattle.fixed_arith.specs.WordLaws.{long_from_word, shl_word}
use Rattle.fixed_arith.proofs.words.shift_left.Goals as goal

pub returns : goal.returns
unfolding shift_word_left
returns c =
    let a : FitsSigned w16 c.args.a = c.ranges.a in
    let a_long : FitsSigned w32 c.args.a = long_from_word _ a in
    let word : FitsSigned w16 c.clip16.result = search rules in
    simp to_z-of_z ((simp to_z-of_z at c.clip16.ensures) ∙ ap clip_word (shl_word c.args.a c.args.n a c.requires))

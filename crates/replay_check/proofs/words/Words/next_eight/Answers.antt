use Rattle.std.proofs.Common.{ℕ, List, length, ap, ◌∙◌, refl}
use Rattle.std.specs.Prelude.{replicate}
use Rattle.replay_check.proofs.Rounds.{eight_words, put_rest}
use Rattle.replay_check.proofs.words.Words.next_eight.Goals as goal

pub returns-clause-text : goal.returns-clause-text
returns-clause-text c =
    let first = c.copy_from_slice.ensures.after ∙ c.next_four.ensures.text in
    let second = c.copy_from_slice-2.ensures.after ∙ c.next_four-2.ensures.text in
    put_rest 16 16 c.copy_from_slice.new.self (replicate 16 0) c.copy_from_slice-2.new.self (ap (λ (l : List ℕ). length l) first) refl
    ∙ eight_words c.args.self.now.key c.next_four.new.self.key c.args.self.now.place c.next_four.new.self.place c.copy_from_slice.new.self c.copy_from_slice-2.new.self first second c.next_four.ensures.key c.next_four.ensures.place

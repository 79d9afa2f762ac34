use Rattle.std.proofs.Common.{ℕ, sym, subst}
use Rattle.line_run.specs.Callers.{AreLists}
use Rattle.line_run.proofs.Closing.{all_gathered, are_lists, put_last}
use Rattle.line_run.proofs.gathering.leave_and_close.Goals as goal

pub close-requires-clause-all : goal.close-requires-clause-all
close-requires-clause-all g c =
    let F : ℕ = c.args.ring.shape.filers in let cs = c.args.callers.items in let y = c.in-Some.pass in
    let mid = c.gather_filers.new.gather.lists in let last = c.gather.new.gather.lists in let gone = c.leave_player-departed in
    let put = put_last c.args.ring c.args.player y gone.result mid last c.requires.player c.in-Some.is gone.ensures.who gone.ensures.list c.gather.ensures.lists in
    let lists = are_lists F cs c.args.player y c.gathering-gather.result.lists mid last c.requires.many c.in-Some.is c.gathering-gather.ensures.lists c.gather_filers.ensures.lists put in
    all_gathered c.args.ring F cs c.args.player y last c.requires.many c.in-Some.is c.requires.callers lists

pub returns-clause-lists : goal.returns-clause-lists
returns-clause-lists g c =
    let F : ℕ = c.args.ring.shape.filers in let cs = c.args.callers.items in let y = c.in-Some.pass in
    let mid = c.gather_filers.new.gather.lists in let last = c.gather.new.gather.lists in let gone = c.leave_player-departed in
    let put = put_last c.args.ring c.args.player y gone.result mid last c.requires.player c.in-Some.is gone.ensures.who gone.ensures.list c.gather.ensures.lists in
    let lists = are_lists F cs c.args.player y c.gathering-gather.result.lists mid last c.requires.many c.in-Some.is c.gathering-gather.ensures.lists c.gather_filers.ensures.lists put in
    subst (AreLists F cs c.args.player) (sym c.close.ensures.lists) lists

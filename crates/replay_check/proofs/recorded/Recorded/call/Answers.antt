use Rattle.std.proofs.Common.{◌≡◌, ◌∙◌, ap, sym, arith, length, List, drop}
use Rattle.playout.specs.declared.call.Call.{Call}
use Rattle.replay_check.specs.Journals.{journal_lists}
use Rattle.replay_check.specs.Lists.{Recording, first_of}
use Rattle.replay_check.proofs.Recordings.{list-player}
use Rattle.replay_check.proofs.recorded.Recorded.call.Goals as goal

pub returns-else-who-self : goal.returns-else-who-self
returns-else-who-self c =
    let here : c.args.who ≡ length c.args.self.now.filers = omega (arith, c.if-who-self.false, c.requires, ap (λ (r : Recording). length r.filers) c.self.view_is) in
    c.played.ensures
    ∙ ap (λ (l : List Call). first_of (drop c.args.place l)) (sym (ap (journal_lists c.args.self.now.filers c.args.self.now.player) here ∙ list-player c.args.self.now.filers c.args.self.now.player))

use Rattle.std.proofs.Common.{◌≡◌, ◌∙◌, ap, take, drop, refl}
use Rattle.rpe_ltp.proofs.HistoryLaws.{front_of_moved}
use Rattle.rpe_ltp.proofs.history.LagHistory.push.Goals as goal

pub returns : goal.returns
returns c =
    let front : c.split_at_mut-oldest.result.0.now ≡ drop 40 c.self.inside.values =
    c.split_at_mut-oldest.ensures.front ∙ ap (take 80) c.copy_within.ensures.after ∙ front_of_moved c.self.inside.values c.self.told in
    rw (front, c.copy_from_slice.ensures.after, ← c.self.view_is) refl

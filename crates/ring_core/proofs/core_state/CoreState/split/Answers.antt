use Rattle.std.proofs.Common.{◌≡◌, ◌∙◌, ◌++◌, Option, List, sym, ap}
use Rattle.ring_core.specs.declared.views.View.{View}
use Rattle.ring_core.specs.Ring.{Ring}
use Rattle.ring_core.specs.Core.{split_role}
use Rattle.ring_core.specs.CoreInside.{ring_of}
use Rattle.ring_core.specs.CoreState.{list_of}
use Rattle.ring_core.proofs.Stepped.{put_more, nil_after}
use Rattle.ring_core.proofs.core_state.CoreState.split.Goals as goal

pub returns-in_ok-push-in-Some : goal.returns-in_ok-push-in-Some
returns-in_ok-push-in-Some c =
    let s : Ring = ring_of c.self.inside in
    let put : List View = c.put.new.list.items in
    let told = c.in_ok-next.ensures s c.args.seat c.take-view.ensures.view in
    let longer : c.push.new.self.items ≡ put ++ list_of c.in_ok-next.new = c.in_ok-push-in-Some.ensures.items ∙ ap (λ (o : Option View). put ++ list_of o) (sym c.in-Some.is) in
    rw (← c.self.view_is) (put_more s c.args.seat c.take-view.result c.in_ok-next.next c.take-view.new.views.items put c.push.new.self.items (list_of c.in_ok-next.new) (split_role c.args.shape s c.args.seat c.args.right) c.take-view.ensures.view c.take-view.ensures.rest c.put.ensures longer told)

pub returns-in-None : goal.returns-in-None
returns-in-None c =
    let s : Ring = ring_of c.self.inside in
    let put : List View = c.put.new.list.items in
    let told = c.in_ok-next.ensures s c.args.seat c.take-view.ensures.view in
    let same : put ≡ put ++ list_of c.in_ok-next.new = sym (nil_after put) ∙ ap (λ (o : Option View). put ++ list_of o) (sym c.in-None.is) in
    rw (← c.self.view_is) (put_more s c.args.seat c.take-view.result c.in_ok-next.next c.take-view.new.views.items put put (list_of c.in_ok-next.new) (split_role c.args.shape s c.args.seat c.args.right) c.take-view.ensures.view c.take-view.ensures.rest c.put.ensures same told)

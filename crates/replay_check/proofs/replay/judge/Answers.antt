use Rattle.std.proofs.Common.{◌≡◌, ℕ, ◌+◌, ◌-◌, ◌<◌, ◌≤◌, ◌^◌, [], length, slice_index, ap, ◌∙◌, sym, subst, arith, length-set, below_more}
use Rattle.playout.specs.Line.{Line}
use Rattle.replay_check.specs.Rule.{AreJournals, IsVerdict}
use Rattle.replay_check.specs.declared.verdict.Verdict.TheVariants.{Legal}
use Rattle.replay_check.specs.Journals.{plays_in}
use Rattle.replay_check.specs.Lists.{list_of, left_of}
use Rattle.replay_check.proofs.Greedy.{taken-known}
use Rattle.replay_check.proofs.Sofar.{pick-at, room_step, fewer_step, sofar-step, illegal-at, legal-at, drop-past, makeable, far_at, here-more}
use Rattle.replay_check.proofs.Denied.{value_at}
use Rattle.replay_check.proofs.Recordings.{list-player}
use Rattle.replay_check.proofs.replay.judge.Goals as goal

pub make-requires-clause-replies : goal.make-requires-clause-replies
make-requires-clause-replies c =
    let p = pick-at _ _ _ _ _ _ _ _ c.deref.ensures.value c.in-Some.ensures in
    p.1.1.replies

pub make-requires-clause-makeable : goal.make-requires-clause-makeable
make-requires-clause-makeable c =
    let same : c.len-player.result - 1 ≡ length c.args.lists.now.filers = omega (arith, c.len-player.ensures) in
    let journals = subst (λ (n : ℕ). AreJournals n (list_of c.args.lists.now)) (sym same) c.requires.journals in
    let p = pick-at _ _ _ _ _ _ _ _ c.deref.ensures.value c.in-Some.ensures in
    let known = taken-known _ _ _ _ _ p.0 in
    makeable _ (list_of c.args.lists.now) c.steps.at.items c.in-Some.taken.who c.steps.line.machine.position c.in-Some.taken.call p.1.0 journals known p.1.1.next (subst (λ (n : ℕ). c.steps.line.machine.position ≤ 4294967296 + slice_index c.steps.at.items n) (sym same) (far_at (plays_in c.args.lists.now.player.events) _ _ c.steps.invariant.here)) (c.steps.invariant.sofar.within _) (c.requires.short _)

pub overflow_add-index_mut : goal.overflow_add-index_mut
overflow_add-index_mut c =
    let p = pick-at _ _ _ _ _ _ _ _ c.deref.ensures.value c.in-Some.ensures in
    let known = taken-known _ _ _ _ _ p.0 in
    let long = c.steps.invariant.long in
    let below : c.in-Some.taken.who < length c.steps.at.items = omega arith in
    let room = room_step (list_of c.args.lists.now) c.steps.at.items c.in-Some.taken.who c.index_mut.result.now c.in-Some.taken.call p.1.0 (value_at _ _ _ below c.index_mut.ensures.value) p.1.1.next in
    let short = c.requires.short c.in-Some.taken.who in
    omega arith

pub steps-smaller : goal.steps-smaller
steps-smaller c =
    let p = pick-at _ _ _ _ _ _ _ _ c.deref.ensures.value c.in-Some.ensures in
    let known = taken-known _ _ _ _ _ p.0 in
    let long = c.steps.invariant.long in
    let below : c.in-Some.taken.who < length c.steps.at.items = omega arith in
    fewer_step c.args.lists.now.filers c.args.lists.now.player c.steps.at.items c.in-Some.taken.who c.index_mut.result.now c.in-Some.taken.call p.1.0 below (value_at _ _ _ below c.index_mut.ensures.value) p.1.1.next

pub steps-preserved : goal.steps-preserved
steps-preserved c =
    let same : c.len-player.result - 1 ≡ length c.args.lists.now.filers = omega (arith, c.len-player.ensures) in
    let journals = subst (λ (n : ℕ). AreJournals n (list_of c.args.lists.now)) (sym same) c.requires.journals in
    let p = pick-at _ _ _ _ _ _ _ _ c.deref.ensures.value c.in-Some.ensures in
    let known = taken-known _ _ _ _ _ p.0 in
    let long = c.steps.invariant.long in
    let below : c.in-Some.taken.who < length c.steps.at.items = omega arith in
    let value = value_at _ _ _ below c.index_mut.ensures.value in
    let made = ap (λ (l : Line). l.machine) c.make.ensures in
    record {
      filers = ap (λ (l : Line). l.filers) c.make.ensures ∙ c.steps.invariant.filers;
      slots = ap (λ (l : Line). l.g) c.make.ensures ∙ c.steps.invariant.slots;
      long = length-set _ _ _ ∙ long;
      here = here-more (length c.args.lists.now.filers) (list_of c.args.lists.now) (plays_in c.args.lists.now.player.events) c.steps.line.machine _ c.steps.at.items c.in-Some.taken.who c.index_mut.result.now c.in-Some.taken.call p.1.0
          (list-player c.args.lists.now.filers c.args.lists.now.player) c.requires.journals (omega (arith, known, same)) below p.1.1.next value made c.steps.invariant.here;
      sofar = sofar-step _ _ _ _ _ _ _ _ _ _ _ _ _ (ap (λ (n : ℕ). 2 ^ n) c.steps.invariant.slots) below c.steps.invariant.sofar p.0 p.1.1 value made c.in_ok-push.ensures.items;
    }

pub returns-then-place-count : goal.returns-then-place-count
returns-then-place-count c =
    let same : c.len-player.result - 1 ≡ length c.args.lists.now.filers = omega (arith, c.len-player.ensures) in
    let journals = subst (λ (n : ℕ). AreJournals n (list_of c.args.lists.now)) (sym same) c.requires.journals in
    let places = c.deref-place-items.ensures.value in
    let long = c.steps.invariant.long in
    let there : length c.deref-place-items.result.now ≡ length c.steps.at.items = ap length places in
    rw (← same) (illegal-at _ _ _ _ _ _ _ _ _ c.rest.who (ap (λ (n : ℕ). 2 ^ n) c.steps.invariant.slots) c.deref.ensures.value places c.steps.invariant.sofar journals c.in_default.ensures (omega (arith, c.rest-test.true)) c.rest.invariant (omega (arith, c.count.ensures, c.if-place-count.true)))

pub rest-preserved : goal.rest-preserved
rest-preserved c =
    below_more (λ k. left_of (list_of c.args.lists.now) c.deref-place-items.result.now k ≡ []) _ c.rest.invariant (drop-past (list_of c.args.lists.now c.rest.who) _ (omega (arith, c.count.ensures, c.if-place-count.false)))

pub returns : goal.returns
returns c =
    let same : c.len-player.result - 1 ≡ length c.args.lists.now.filers = omega (arith, c.len-player.ensures) in
    let places = c.deref-place-items.ensures.value in
    let long = c.steps.invariant.long in
    let there : length c.deref-place-items.result.now ≡ length c.steps.at.items = ap length places in
    rw c.of.ensures (subst (λ (n : ℕ). IsVerdict (2 ^ c.args.line.g) n (list_of c.args.lists.now) (Legal c.steps.order.items)) same (legal-at _ _ _ _ _ _ _ places c.steps.invariant.sofar (λ k below. c.rest.invariant k (omega (arith, c.rest-test.false)))))

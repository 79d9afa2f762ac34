use Rattle.std.proofs.Common.{◌≡◌, ℕ, Some, subst}
use Rattle.playout.specs.declared.call.Call.TheVariants.{BaseCall}
use Rattle.playout.specs.Machine.{held_or}
use Rattle.ring_core.specs.Core.{held_in}
use Rattle.step_table.specs.Kinds.{StepKind, told, IsHeldWord, word_read}
use Rattle.slot_ring.specs.Seen.{PassView, HeldSays}
use Rattle.slot_ring.proofs.Grows.{grown, knows}
use Rattle.slot_ring.proofs.Callers.{after_base}
use Rattle.slot_ring.proofs.ring.SlotRing.base_as.Goals as goal

pub invariant_of-pass : goal.invariant_of-pass
invariant_of-pass g c =
    let me = c.pass.inside.seat.me in let now = c.compare_exchange-answer.new.seat.me in let word = word_read c.compare_exchange-answer.result in
    let tells = subst (λ (m : StepKind). told m me word now) c.requires.kind c.compare_exchange-answer.ensures.told in
    let reads = subst (λ (n : ℕ). IsHeldWord n → c.value_or.result ≡ held_or (held_in n) c.args.ts) c.read.ensures c.value_or.ensures in
    (after_base me now c.pass.inside.who c.pass.inside.spare word c.args.ts c.value_or.result c.pass.invariant tells reads).0.filers

pub returns-clause-call : goal.returns-clause-call
returns-clause-call g c =
    let me = c.pass.inside.seat.me in let now = c.compare_exchange-answer.new.seat.me in let word = word_read c.compare_exchange-answer.result in
    let tells = subst (λ (m : StepKind). told m me word now) c.requires.kind c.compare_exchange-answer.ensures.told in
    let reads = subst (λ (n : ℕ). IsHeldWord n → c.value_or.result ≡ held_or (held_in n) c.args.ts) c.read.ensures c.value_or.ensures in
    let r = after_base me now c.pass.inside.who c.pass.inside.spare word c.args.ts c.value_or.result c.pass.invariant tells reads in
    grown c.pass.inside.seat.table_id _ me now c.args.pass.now (BaseCall c.args.ts c.value_or.result) r.0.went c.compare_exchange-answer.ensures.seat.0 c.pass.view_is

pub returns-clause-known : goal.returns-clause-known
returns-clause-known g c =
    let me = c.pass.inside.seat.me in let now = c.compare_exchange-answer.new.seat.me in let word = word_read c.compare_exchange-answer.result in
    let tells = subst (λ (m : StepKind). told m me word now) c.requires.kind c.compare_exchange-answer.ensures.told in
    let reads = subst (λ (n : ℕ). IsHeldWord n → c.value_or.result ≡ held_or (held_in n) c.args.ts) c.read.ensures c.value_or.ensures in
    let r = after_base me now c.pass.inside.who c.pass.inside.spare word c.args.ts c.value_or.result c.pass.invariant tells reads in
    knows c.pass.inside.seat.table_id me now c.args.pass.now (BaseCall c.args.ts c.value_or.result) r.0.went c.pass.view_is

pub returns-clause-fresh : goal.returns-clause-fresh
returns-clause-fresh g c =
    let me = c.pass.inside.seat.me in let now = c.compare_exchange-answer.new.seat.me in let word = word_read c.compare_exchange-answer.result in
    let tells = subst (λ (m : StepKind). told m me word now) c.requires.kind c.compare_exchange-answer.ensures.told in
    let reads = subst (λ (n : ℕ). IsHeldWord n → c.value_or.result ≡ held_or (held_in n) c.args.ts) c.read.ensures c.value_or.ensures in
    let r = after_base me now c.pass.inside.who c.pass.inside.spare word c.args.ts c.value_or.result c.pass.invariant tells reads in
    subst (λ (p : PassView). (x : ℕ) → p.known.base ≡ Some x → c.value_or.result ≡ x) c.pass.view_is r.1

pub returns-clause-word : goal.returns-clause-word
returns-clause-word g c =
    let me = c.pass.inside.seat.me in let now = c.compare_exchange-answer.new.seat.me in let word = word_read c.compare_exchange-answer.result in
    let tells = subst (λ (m : StepKind). told m me word now) c.requires.kind c.compare_exchange-answer.ensures.told in
    let reads = subst (λ (n : ℕ). IsHeldWord n → c.value_or.result ≡ held_or (held_in n) c.args.ts) c.read.ensures c.value_or.ensures in
    let r = after_base me now c.pass.inside.who c.pass.inside.spare word c.args.ts c.value_or.result c.pass.invariant tells reads in
    subst (λ (p : PassView). HeldSays p.known.base c.args.ts c.value_or.result) c.pass.view_is r.2

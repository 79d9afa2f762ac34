use Rattle.std.proofs.Common.{◌≡◌, Err, slice_index_or, subst, ap}
use Rattle.recorder.specs.Heads.{Heading}
use Rattle.replay_check.specs.Journals.{AreNumbered}
use Rattle.journal_runs.specs.declared.journals.Unread.{Unread}
use Rattle.journal_runs.specs.declared.journals.Unread.TheVariants as unread
use Rattle.journal_runs.proofs.ReadJournals.{cons-rose, filers-behind, now-is, of-one-line, parts-are, tell-journals}
use Rattle.journal_runs.proofs.journals.read_journals.Goals as goal

pub returns-in-Ok-read_filers-clause-read : goal.returns-in-Ok-read_filers-clause-read
returns-in-Ok-read_filers-clause-read g c =
    let left = g.I.Source.left in
    let first = c.split_at_mut-first in
    let x = slice_index_or first.result.0.now 0 c.index-first-0.result in
    let rest = first.result.1.now in
    let is = (parts-are c.args.inputs.now first.result.0.now rest c.index-first-0.result first.ensures.front first.ensures.back c.requires).0 in
    let told = c.in-Ok.ensures.told in
    let read = c.in-Ok-read_filers.ensures.read in
    let fs = c.in-Ok-read_filers.filers.items in
    let numbered = subst (λ (h : Heading). AreNumbered h 0 fs) c.head.ensures.value read.1 in (
      tell-journals left c.args.inputs.now rest x is c.in-Ok.player told.0 told.1 fs read.0,
      of-one-line left c.args.inputs.now rest x is c.in-Ok.player told.0 told.1 fs read.0 numbered,
    )

pub returns-in-Err-read_filers-clause-failed : goal.returns-in-Err-read_filers-clause-failed
returns-in-Err-read_filers-clause-failed g c = λ is.
    let faults = g.I.Source.faults in
    let first = c.split_at_mut-first in
    let x = slice_index_or first.result.0.now 0 c.index-first-0.result in
    let y = c.read_player.new.input in
    let rest = first.result.1.now in
    let parts = parts-are c.args.inputs.now first.result.0.now rest c.index-first-0.result first.ensures.front first.ensures.back c.requires in
    let same : c.in-Err-read_filers.unread ≡ unread.ReadFault = cc in
    cons-rose faults c.args.inputs.now rest c.read_filers.new.inputs _ x y parts.0 (now-is first.result.0.now c.read_filers.new.inputs x y parts.1) (c.in-Err-read_filers.ensures.failed (ap (λ (u : Unread). Err u) same))

pub returns-in-Err-read_filers-clause-behind : goal.returns-in-Err-read_filers-clause-behind
returns-in-Err-read_filers-clause-behind g c =
    let faults = g.I.Source.faults in
    let first = c.split_at_mut-first in
    let x = slice_index_or first.result.0.now 0 c.index-first-0.result in
    let y = c.read_player.new.input in
    let rest = first.result.1.now in
    let parts = parts-are c.args.inputs.now first.result.0.now rest c.index-first-0.result first.ensures.front first.ensures.back c.requires in
    filers-behind faults c.args.inputs.now rest c.read_filers.new.inputs _ x y parts.0 (now-is first.result.0.now c.read_filers.new.inputs x y parts.1) c.in-Err-read_filers.unread c.in-Err-read_filers.ensures.behind

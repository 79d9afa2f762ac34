use Rattle.std.proofs.Common.{◌≡◌, ◌+◌, Err, ◌∷◌, [], ◌++◌, List, slice_index_or, slice_set, map, sym, subst, ap, ◌∙◌, arith}
use Rattle.std.proofs.lemmas.Option.{slice_get-get_or}
use Rattle.recorder.specs.declared.refusal.JournalRefusal.{JournalRefusal}
use Rattle.recorder.specs.Heads.{Heading}
use Rattle.recorder.specs.Journals.{FilerRecord}
use Rattle.journal_runs.specs.VerifyRuns.{FilersUnread, LeavesFilersBehind, unread_at}
use Rattle.journal_runs.specs.declared.journals.Unread.{Unread}
use Rattle.journal_runs.specs.declared.journals.Unread.TheVariants as unread
use Rattle.journal_runs.proofs.ReadJournals.{Read, fell-more, left-behind, read-failed, read-more, rose-here, unread-here}
use Rattle.journal_runs.proofs.journals.read_filers.Goals as goal

pub returns-in-Err-push-clause-later : goal.returns-in-Err-push-clause-later
returns-in-Err-push-clause-later g c =
    let old = slice_index_or c.journals.inputs c.journals.k c.index-inputs-k.result in
    let here = slice_get-get_or c.journals.inputs c.journals.k c.index-inputs-k.result (omega (arith, ap (λ (h : Heading). h.filers) c.head.view_is)) in
    fell-more g.I.Source.left g.I.Source.faults c.args.head.now c.journals.k c.args.inputs.now c.journals.inputs c.journals.filers.items c.journals.invariant old c.read_filer.new.input here c.read_filer.ensures.later

pub returns-in-Err-clause-later : goal.returns-in-Err-clause-later
returns-in-Err-clause-later g c =
    let old = slice_index_or c.journals.inputs c.journals.k c.index-inputs-k.result in
    let here = slice_get-get_or c.journals.inputs c.journals.k c.index-inputs-k.result (omega (arith, ap (λ (h : Heading). h.filers) c.head.view_is)) in
    fell-more g.I.Source.left g.I.Source.faults c.args.head.now c.journals.k c.args.inputs.now c.journals.inputs c.journals.filers.items c.journals.invariant old c.read_filer.new.input here c.read_filer.ensures.later

pub returns-in-Err-clause-read : goal.returns-in-Err-clause-read
returns-in-Err-clause-read g c =
    let old = slice_index_or c.journals.inputs c.journals.k c.index-inputs-k.result in
    let here = slice_get-get_or c.journals.inputs c.journals.k c.index-inputs-k.result (omega (arith, ap (λ (h : Heading). h.filers) c.head.view_is)) in
    let why : JournalRefusal = c.in-Err.refusal in
    let unread = unread-here g.I.Source.left g.I.Source.faults c.args.head.now c.journals.k c.args.inputs.now c.journals.inputs c.journals.filers.items c.journals.invariant old c.read_filer.new.input here c.read_filer.ensures.later
    why (λ f is. c.in-Err.ensures.fault f (ap (λ (r : JournalRefusal). Err r) is)) in
    let same : unread_at (c.journals.k + 1) why ≡ c.unread_at.result = sym c.unread_at.ensures in
    subst (λ (u : Unread). FilersUnread c.args.head.now (map g.I.Source.left c.args.inputs.now) u) same unread

pub returns-in-Err-clause-failed : goal.returns-in-Err-clause-failed
returns-in-Err-clause-failed g c = λ is.
    let old = slice_index_or c.journals.inputs c.journals.k c.index-inputs-k.result in
    let here = slice_get-get_or c.journals.inputs c.journals.k c.index-inputs-k.result (omega (arith, ap (λ (h : Heading). h.filers) c.head.view_is)) in
    let why : JournalRefusal = c.in-Err.refusal in
    let same : c.unread_at.result ≡ unread.ReadFault = cc in
    let end = read-failed (c.journals.k + 1) why (sym c.unread_at.ensures ∙ same) in
    let rose = c.in-Err.ensures.failed (ap (λ (r : JournalRefusal). Err r) end) in
    rose-here g.I.Source.left g.I.Source.faults c.args.head.now c.journals.k c.args.inputs.now c.journals.inputs c.journals.filers.items c.journals.invariant old c.read_filer.new.input here c.read_filer.ensures.later rose

pub returns-in-Err-clause-behind : goal.returns-in-Err-clause-behind
returns-in-Err-clause-behind g c =
    let faults = g.I.Source.faults in
    let old = slice_index_or c.journals.inputs c.journals.k c.index-inputs-k.result in
    let here = slice_get-get_or c.journals.inputs c.journals.k c.index-inputs-k.result (omega (arith, ap (λ (h : Heading). h.filers) c.head.view_is)) in
    let why : JournalRefusal = c.in-Err.refusal in
    let left = left-behind g.I.Source.left faults c.args.head.now c.journals.k c.args.inputs.now c.journals.inputs c.journals.filers.items c.journals.invariant old c.read_filer.new.input here c.read_filer.ensures.later
    why (λ is. c.in-Err.ensures.failed (ap (λ (r : JournalRefusal). Err r) is)) in
    let same : unread_at (c.journals.k + 1) why ≡ c.unread_at.result = sym c.unread_at.ensures in
    subst (λ (u : Unread). LeavesFilersBehind faults u c.args.inputs.now (slice_set c.journals.inputs c.journals.k c.read_filer.new.input)) same left

pub journals-preserved : goal.journals-preserved
journals-preserved g c =
    let old = slice_index_or c.journals.inputs c.journals.k c.index-inputs-k.result in
    let here = slice_get-get_or c.journals.inputs c.journals.k c.index-inputs-k.result (omega (arith, ap (λ (h : Heading). h.filers) c.head.view_is)) in
    let told = c.in-Ok.ensures.told in
    let more = read-more g.I.Source.left g.I.Source.faults c.args.head.now c.journals.k c.args.inputs.now c.journals.inputs c.journals.filers.items c.journals.invariant old c.read_filer.new.input here c.read_filer.ensures.later
    c.in-Ok.journal told.0 told.1 told.2 in
    let pushed : c.push.new.self.items ≡ c.journals.filers.items ++ c.in-Ok.journal ∷ [] = c.in-Ok-push.ensures.items in
    subst (λ (fs : List FilerRecord). Read g.I.Source.left g.I.Source.faults c.args.head.now (c.journals.k + 1) c.args.inputs.now (slice_set c.journals.inputs c.journals.k c.read_filer.new.input) fs) (sym pushed) more

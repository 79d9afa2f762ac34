use Rattle.std.proofs.Common.{◌≡◌, ◌≤◌, ℕ, ◌++◌, List, Option, Err, ap, subst, sym, ◌∙◌, take, arith}
use Rattle.std.specs.List.{flat_map, AllByRecursion}
use Rattle.gate_base.specs.Faults.{Rose}
use Rattle.recorder.specs.declared.events.FilerEvent.{FilerEvent}
use Rattle.recorder.specs.declared.fault.RecordEnd.TheVariants.{Fault, ReadFailed}
use Rattle.recorder.specs.declared.fault.Ending.TheVariants as ending
use Rattle.recorder.specs.declared.refusal.JournalRefusal.TheVariants.{End}
use Rattle.recorder.specs.declared.filer_head.FilerHead.{FilerHead}
use Rattle.recorder.specs.Filing.{FilerFits, filer_event_text, filer_fault_at, filer_head_fault, filer_head_text}
use Rattle.recorder.specs.Journals.{FilerRecord}
use Rattle.recorder.specs.Reader.{FilerProgress}
use Rattle.recorder.proofs.JournalSofar.{Sofar, sofar-more, fits-more}
use Rattle.recorder.proofs.Refused.{fault_told, in_this_call, not_refused, filer_head_refused, filer_refused, filer_sound, within, within_behind, within_more}
use Rattle.recorder.proofs.filer_journal.FilerJournal.read_whole.Goals as goal

pub returns-in-Err-clause-complete : goal.returns-in-Err-clause-complete
returns-in-Err-clause-complete g c = λ octets j told journal fine.
    let start = c.new-reader.ensures in
    let left = g.I.Source.left c.args.source.now in
    absurd (not_refused c.in-Err.end (Rose (g.I.Source.faults c.args.source.now) (g.I.Source.faults c.head.new.source))
    (λ f is. filer_sound left octets j f told journal (filer_head_refused left f (fault_told FilerHead left c.in-Err.end (λ l. filer_head_fault (take 13 l)) f (c.in-Err.ensures.fault start) is)))
    (λ is. in_this_call _ _ (ending.Refused ReadFailed) (c.in-Err.ensures.failed (ap Err is)) (ap (λ (p : FilerProgress). p.reading.over) start))
    fine)

pub events-preserved : goal.events-preserved
events-preserved g c =
    let s = c.events.invariant in
    let e = c.in-Ok-Some.event in
    let all = rw c.in-Ok-Some.field-0-is at c.in-Ok-Some.ensures in
    let fits = all.fits s.over in
    let state = all.state s.over in
    let left = g.I.Source.left in
    let items = c.in-Ok-extend_from_slice.ensures.items in
    let head = filer_head_text c.in-Ok.head.head c.in-Ok.head.caller in
    record {
      sofar = subst (λ (l : List FilerEvent). Sofar filer_event_text head c.next.new.self.reading.at c.next.new.self.reading.count (left c.args.source.now) (left c.next.new.source) l) (sym items)
          (sofar-more filer_event_text head c.events.reader.reading.at c.events.reader.reading.count c.next.new.self.reading.at c.next.new.self.reading.count (left c.args.source.now) (left c.events.source) (left c.next.new.source) c.events.events.items e
          s.sofar fits.1 (all.text s.over) (ap (λ (p : FilerProgress). p.reading.at) state) (ap (λ (p : FilerProgress). p.reading.count) state));
      fits = subst (AllByRecursion FilerFits) (sym items) (fits-more FilerFits c.events.events.items e s.fits fits.0);
      head = ap (λ (p : FilerProgress). p.head) state ∙ s.head;
      over = ap (λ (p : FilerProgress). p.reading.over) state ∙ s.over;
      later = omega (arith, s.later, c.next.ensures.later);
    }

pub returns-in-Err-next-clause-fault : goal.returns-in-Err-next-clause-fault
returns-in-Err-next-clause-fault g c = λ f same.
    let s = c.events.invariant in
    let left = g.I.Source.left in
    let j : FilerRecord = record { head = c.in-Ok.head.head; caller = c.in-Ok.head.caller; events = c.events.events.items } in
    let is : c.in-Err-next.end ≡ Fault f = cc in
    let ranges = c.in-Ok.ensures.fits c.new-reader.ensures in
    filer_refused (left c.args.source.now) (left c.events.source) j c.events.reader.reading.at c.events.reader.reading.count f
    (record { head = ranges.head; caller = ranges.caller; events = s.fits; few = s.sofar.few }) s.sofar
    (fault_told (Option FilerEvent) (left c.events.source) c.in-Err-next.end (filer_fault_at c.events.reader.reading.count c.events.reader.reading.at) f (c.in-Err-next.ensures.fault s.over) is)

pub returns-in-Err-next-clause-complete : goal.returns-in-Err-next-clause-complete
returns-in-Err-next-clause-complete g c = λ octets j told journal fine.
    let s = c.events.invariant in
    let left = g.I.Source.left c.args.source.now in
    absurd (not_refused c.in-Err-next.end (Rose (g.I.Source.faults c.args.source.now) (g.I.Source.faults c.next.new.source))
    (λ f is. filer_sound left octets j f told journal (returns-in-Err-next-clause-fault g c f (λ i. Err (End (is i)))))
    (λ is. since _ _ _ s.later (in_this_call _ _ (ending.Refused ReadFailed) (c.in-Err-next.ensures.failed (ap Err is)) s.over))
    fine)
  where
    since : (a b d : ℕ) → a ≤ b → Rose b d → Rose a d
    since a b d le r = omega arith

pub returns-in-Err-clause-part : goal.returns-in-Err-clause-part
returns-in-Err-clause-part g c = within 14 (g.I.Source.left c.args.source.now) (g.I.Source.left c.head.new.source) c.in-Err.ensures.part

pub returns-in-Err-next-clause-part : goal.returns-in-Err-next-clause-part
returns-in-Err-next-clause-part g c =
    let left = g.I.Source.left in
    within_behind 51 (left c.args.source.now) (left c.events.source) (left c.next.new.source) (filer_head_text c.in-Ok.head.head c.in-Ok.head.caller ++ flat_map filer_event_text c.events.events.items) c.events.invariant.sofar.taken c.in-Err-next.ensures.part

pub returns-in-Err-extend_from_slice-clause-part : goal.returns-in-Err-extend_from_slice-clause-part
returns-in-Err-extend_from_slice-clause-part g c =
    let left = g.I.Source.left in
    let all = rw c.in-Ok-Some.field-0-is at c.in-Ok-Some.ensures in
    within_more (left c.args.source.now) (left c.events.source) (left c.next.new.source) (filer_head_text c.in-Ok.head.head c.in-Ok.head.caller ++ flat_map filer_event_text c.events.events.items) (filer_event_text c.in-Ok-Some.event) c.events.invariant.sofar.taken (all.text c.events.invariant.over)

pub returns-in-Err-extend_from_slice-clause-memory : goal.returns-in-Err-extend_from_slice-clause-memory
returns-in-Err-extend_from_slice-clause-memory g c = λ same. c.in-Ok.ensures.fault c.new-reader.ensures

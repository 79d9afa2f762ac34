use Rattle.std.proofs.Common.{◌≡◌, ◌≤◌, ℕ, ◌++◌, List, Bool, true, Option, Err, ap, subst, sym, ◌∙◌, take, arith}
use Rattle.std.specs.List.{flat_map}
use Rattle.gate_base.specs.Faults.{Rose}
use Rattle.recorder.specs.declared.events.PlayEvent.{PlayEvent}
use Rattle.recorder.specs.declared.fault.RecordEnd.TheVariants.{Fault, ReadFailed}
use Rattle.recorder.specs.declared.fault.Ending.TheVariants as ending
use Rattle.recorder.specs.declared.refusal.JournalRefusal.TheVariants.{End}
use Rattle.recorder.specs.Heads.{Heading, head_fault, head_text, play_magic}
use Rattle.recorder.specs.Play.{AllPlayFit, PlayFits, play_event_text, play_fault_at}
use Rattle.recorder.specs.Journals.{PlayerRecord, opening_behind}
use Rattle.recorder.specs.Reader.{PlayProgress}
use Rattle.recorder.proofs.JournalSofar.{Sofar, sofar-more, plays-more, opening-more}
use Rattle.recorder.proofs.Refused.{fault_told, in_this_call, not_refused, player_head_refused, player_refused, player_sound, within, within_behind, within_more}
use Rattle.recorder.proofs.player_journal.PlayerJournal.read_whole.Goals as goal

pub returns-in-Err-clause-complete : goal.returns-in-Err-clause-complete
returns-in-Err-clause-complete g c = λ octets j told journal fine.
    let start = c.new-reader.ensures in
    let left = g.I.Source.left c.args.source.now in
    absurd (not_refused c.in-Err.end (Rose (g.I.Source.faults c.args.source.now) (g.I.Source.faults c.head.new.source))
    (λ f is. player_sound left octets j f told journal (player_head_refused left f (fault_told Heading left c.in-Err.end (λ l. head_fault play_magic (take 12 l)) f (c.in-Err.ensures.fault start) is)))
    (λ is. in_this_call _ _ (ending.Refused ReadFailed) (c.in-Err.ensures.failed (ap Err is)) (ap (λ (p : PlayProgress). p.reading.over) start))
    fine)

pub events-preserved : goal.events-preserved
events-preserved g c =
    let s = c.events.invariant in
    let e = c.in-Ok-Some.event in
    let all = rw c.in-Ok-Some.field-0-is at c.in-Ok-Some.ensures in
    let fits = all.fits c.in-Ok.head s.head s.over in
    let state = all.state s.over in
    let left = g.I.Source.left in
    let items = c.in-Ok-push.ensures.items in
    let head = head_text play_magic c.in-Ok.head in
    record {
      sofar = subst (λ (l : List PlayEvent). Sofar play_event_text head c.next.new.self.reading.at c.next.new.self.reading.count (left c.args.source.now) (left c.next.new.source) l) (sym items)
          (sofar-more play_event_text head c.events.reader.reading.at c.events.reader.reading.count c.next.new.self.reading.at c.next.new.self.reading.count (left c.args.source.now) (left c.events.source) (left c.next.new.source) c.events.events.items e
          s.sofar fits.1 (all.text s.over) (ap (λ (p : PlayProgress). p.reading.at) state) (ap (λ (p : PlayProgress). p.reading.count) state));
      fits = subst (AllPlayFit c.in-Ok.head.g true) (sym items) (plays-more c.in-Ok.head.g true c.events.events.items e s.fits (subst (λ (b : Bool). PlayFits c.in-Ok.head.g b e) s.opening fits.0));
      opening = ap (λ (p : PlayProgress). p.opening) state ∙ sym (opening-more true c.events.events.items e) ∙ ap (opening_behind true) (sym items);
      head = ap (λ (p : PlayProgress). p.reading.head) state ∙ s.head;
      over = ap (λ (p : PlayProgress). p.reading.over) state ∙ s.over;
      later = omega (arith, s.later, c.next.ensures.later);
    }

pub returns-in-Err-next-clause-fault : goal.returns-in-Err-next-clause-fault
returns-in-Err-next-clause-fault g c = λ f same.
    let s = c.events.invariant in
    let left = g.I.Source.left in
    let j : PlayerRecord = record { head = c.in-Ok.head; events = c.events.events.items } in
    let is : c.in-Err-next.end ≡ Fault f = cc in
    player_refused (left c.args.source.now) (left c.events.source) j c.events.reader.opening c.events.reader.reading.at c.events.reader.reading.count f
    (record { head = c.in-Ok.ensures.fits c.new-reader.ensures; events = s.fits; few = s.sofar.few }) s.opening s.sofar
    (fault_told (Option PlayEvent) (left c.events.source) c.in-Err-next.end (play_fault_at c.in-Ok.head.g c.events.reader.opening c.events.reader.reading.count c.events.reader.reading.at) f (c.in-Err-next.ensures.fault c.in-Ok.head s.head s.over) is)

pub returns-in-Err-next-clause-complete : goal.returns-in-Err-next-clause-complete
returns-in-Err-next-clause-complete g c = λ octets j told journal fine.
    let s = c.events.invariant in
    let left = g.I.Source.left c.args.source.now in
    absurd (not_refused c.in-Err-next.end (Rose (g.I.Source.faults c.args.source.now) (g.I.Source.faults c.next.new.source))
    (λ f is. player_sound left octets j f told journal (returns-in-Err-next-clause-fault g c f (λ i. Err (End (is i)))))
    (λ is. since _ _ _ s.later (in_this_call _ _ (ending.Refused ReadFailed) (c.in-Err-next.ensures.failed (ap Err is)) s.over))
    fine)
  where
    since : (a b d : ℕ) → a ≤ b → Rose b d → Rose a d
    since a b d le r = omega arith

pub returns-in-Err-clause-part : goal.returns-in-Err-clause-part
returns-in-Err-clause-part g c = within 13 (g.I.Source.left c.args.source.now) (g.I.Source.left c.head.new.source) c.in-Err.ensures.part

pub returns-in-Err-next-clause-part : goal.returns-in-Err-next-clause-part
returns-in-Err-next-clause-part g c =
    let left = g.I.Source.left in
    within_behind 35 (left c.args.source.now) (left c.events.source) (left c.next.new.source) (head_text play_magic c.in-Ok.head ++ flat_map play_event_text c.events.events.items) c.events.invariant.sofar.taken c.in-Err-next.ensures.part

pub returns-in-Err-push-clause-part : goal.returns-in-Err-push-clause-part
returns-in-Err-push-clause-part g c =
    let left = g.I.Source.left in
    let all = rw c.in-Ok-Some.field-0-is at c.in-Ok-Some.ensures in
    within_more (left c.args.source.now) (left c.events.source) (left c.next.new.source) (head_text play_magic c.in-Ok.head ++ flat_map play_event_text c.events.events.items) (play_event_text c.in-Ok-Some.event) c.events.invariant.sofar.taken (all.text c.events.invariant.over)

pub returns-in-Err-push-clause-memory : goal.returns-in-Err-push-clause-memory
returns-in-Err-push-clause-memory g c = λ same. c.in-Ok.ensures.fault c.new-reader.ensures

pub events-smaller : goal.events-smaller
events-smaller g c =
    let s = c.events.invariant in
    let all = rw c.in-Ok-Some.field-0-is at c.in-Ok-Some.ensures in
    let fits = all.fits c.in-Ok.head s.head s.over in
    omega (arith, fits.1, ap (λ (p : PlayProgress). p.reading.count) (all.state s.over))

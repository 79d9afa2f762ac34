-- What the loop over events keeps.
use Rattle.std.proofs.Common.{◌≡◌, ℕ, ◌+◌, ◌≤◌, ◌<◌, ◌^◌, List, [], ◌∷◌, ◌++◌, length, take, Option, Some, None, Ok, Err, refl, sym, ap, subst, ◌∙◌, append_assoc, append-nil, length-append, arith}
use Rattle.std.specs.List.{flat_map, AllByRecursion}
use Rattle.std.specs.Io.KnownBytes.{Appends, Consumes}
use Rattle.std.specs.Prelude.{IfSome}
use Rattle.std.proofs.lemmas.List.{length-replicate}
use Rattle.std.proofs.lemmas.List.Concat.{flat_map-append}
use Rattle.std.proofs.KnownBytes.{Consumes-trans, Consumes-nil, Appends-trans, Appends-nil}
use Rattle.gate_io.specs.Flow.{AppendsPart, ConsumesFewer}
use Rattle.gate_io.specs.FlowLaws.{AppendsPart-after}
use Rattle.frame_codec.specs.declared.item.Item.{Item}
use Rattle.playout.specs.declared.call.Call.{Call}
use Rattle.playout.specs.Machine.{Machine, opening_machine, start}
use Rattle.playout.specs.Line.{Line}
use Rattle.playout.specs.History.{Entry, IsLegal, after_all, calls, calls_of}
use Rattle.playout.specs.HistoryLaws.{after_all-append, IsLegal-append, calls-append, calls_of-append}
use Rattle.recorder.specs.declared.fault.RecordFault.{RecordFault}
use Rattle.recorder.specs.declared.events.ScriptEvent.{ScriptEvent}
use Rattle.recorder.specs.declared.events.ScriptEvent.TheVariants.{Tick, File, Datagram, Beat}
use Rattle.recorder.specs.Heads.{Heading, IsHeading, head_text, script_magic}
use Rattle.recorder.specs.Reader.{Progress, stepped}
use Rattle.recorder.specs.Files.{event_limit}
use Rattle.recorder.specs.Script.{EventFits, event_text, fault_at, longest_event, script_text}
use Rattle.recorder.specs.Play.{call_text}
use Rattle.recorder.specs.Tallies.{call_items, call_replies, play_tally}
use Rattle.script_runs.specs.Applies.{Applies, callers_of}
use Rattle.script_runs.specs.Calls.{AreTurns, Callers, IsCallable, IsTurn, Turn, ends_of, history_of, new_filer, opening_callers}
use Rattle.script_runs.specs.Counts.{run_tally}
use Rattle.script_runs.specs.TurnLines.{run_lines, turn_lines}
use Rattle.script_runs.specs.Playing.{GoesOn}
use Rattle.script_runs.specs.Ran.{Breaks, Halts, IsStarted, Ran}
use Rattle.script_runs.specs.Simulate.{fault_after}
use Rattle.script_runs.specs.declared.playback.Playback.{Playback}
use Rattle.script_runs.specs.declared.run.Run.{Run}
use Rattle.gate_notes.specs.declared.stop.Stop.TheVariants.{Refused, WriteFault}
use Rattle.script_runs.proofs.Playbacks.{GoesOn-after, GoesOn-as, GoesOn-none}

-- what was taken stands at the front
pub Consumes-begins : (a b : Option (List ℕ)) (bs : List ℕ) → Consumes a b bs → IfSome a (λ octets. (rest : List ℕ) × (octets ≡ bs ++ rest) × Unit {0})
Consumes-begins None b bs p = tt
Consumes-begins (Some x) None bs p = absurd p
Consumes-begins (Some x) (Some y) bs p = (y, p, tt)

-- the events of a journal and the items that the player made in these turns
abbrev pub journal_of : Heading → List Turn → List ℕ
journal_of h turns = flat_map call_text (calls_of h.filers (history_of turns))

abbrev pub items_of : Heading → List Turn → List Item
items_of h turns = flat_map call_items (calls_of h.filers (history_of turns))

-- these events were read, and came to these turns
pub record Sofar (h : Heading) (playback playback_now : Playback) (reader : Progress) (run : Run) (input left before now notes notes_now : Option (List ℕ)) (events : List ScriptEvent) (turns : List Turn) : Type 0 where
  pub fit : AllByRecursion (EventFits h) events
  pub few : length events ≤ event_limit
  pub head : reader.head ≡ Some h
  pub over : reader.over ≡ None
  pub count : reader.count ≡ length events
  pub at : reader.at ≡ length (script_text h events)
  pub are_turns : AreTurns h.filers (opening_callers h) events turns (callers_of run)
  pub legal : IsLegal (2 ^ h.g) opening_machine (history_of turns)
  pub line : run.line ≡ record { filers = h.filers; g = h.g; machine = after_all opening_machine (history_of turns) }
  pub filers : length run.filers.items ≡ h.filers
  pub slow : run.line.machine.position ≤ start + length events
  pub taken : Consumes input left (flat_map event_text events)
  pub text : List ℕ
  pub goes_on : GoesOn (journal_of h turns) (items_of h turns) playback playback_now text
  pub given : Appends before now text
  pub noted : Appends notes notes_now (run_lines turns)
  pub played : run.played ≡ play_tally (calls_of h.filers (history_of turns))
  pub filed : run.filed ≡ run_tally (ends_of turns) (flat_map call_replies (calls (history_of turns)))

-- before the first event
pub sofar-none : (h : Heading) (playback : Playback) (reader : Progress) (run : Run) (input before notes : Option (List ℕ)) → IsStarted h reader run → Sofar h playback playback reader run input input before before notes notes [] []
sofar-none h playback reader run input before notes s = record {
  fit = tt;
  few = omega arith;
  head = ap (λ (r : Progress). r.head) s.read;
  over = ap (λ (r : Progress). r.over) s.read;
  count = ap (λ (r : Progress). r.count) s.read;
  at = ap (λ (r : Progress). r.at) s.read;
  are_turns = s.opened.callers;
  legal = tt;
  line = s.opened.line;
  filers = ap (λ (c : Callers). length c.filers) s.opened.callers ∙ length-replicate h.filers (new_filer h.delay);
  slow = omega (arith, ap (λ (l : Line). l.machine.position) s.opened.line);
  taken = Consumes-nil input;
  text = [];
  goes_on = GoesOn-none playback;
  given = Appends-nil before;
  noted = Appends-nil notes;
  played = s.opened.played;
  filed = s.opened.filed;
}

-- the calls that an event may make
pub callable : (h : Heading) (e : ScriptEvent) → EventFits h e → IsCallable h.filers e
callable h Tick fits = tt
callable h (File caller number frame) fits = (fits.in_caller, fits.in_number)
callable h (Datagram caller at octets) fits = fits.in_caller
callable h Beat fits = tt

-- what one more element adds to a list made element by element
flat-more : {A B : Type 0} (f : A → List B) (xs : List A) (x : A) → flat_map f (xs ++ x ∷ []) ≡ flat_map f xs ++ f x
flat-more {A} {B} f xs x = flat_map-append f xs (x ∷ []) ∙ ap (λ (l : List B). flat_map f xs ++ l) (append-nil (f x))

text-more : (h : Heading) (events : List ScriptEvent) (e : ScriptEvent) → script_text h (events ++ e ∷ []) ≡ script_text h events ++ event_text e
text-more h events e = ap (λ (l : List ℕ). head_text script_magic h ++ l) (flat-more event_text events e) ∙ sym (append_assoc (head_text script_magic h) (flat_map event_text events) (event_text e))

fit-more : (P : ScriptEvent → Type 0) (es : List ScriptEvent) (e : ScriptEvent) → AllByRecursion P es → P e → AllByRecursion P (es ++ e ∷ [])
fit-more P [] e all p = (p, tt)
fit-more P (x ∷ es) e all p = (all.0, fit-more P es e all.1 p)

turns-more : (filers : ℕ) (before : Callers) (es : List ScriptEvent) (ts : List Turn) (mid : Callers) (e : ScriptEvent) (t : Turn) (after : Callers)
    → AreTurns filers before es ts mid → IsTurn filers e mid t after → AreTurns filers before (es ++ e ∷ []) (ts ++ t ∷ []) after
turns-more filers before [] [] mid e t after are one = (after, subst (λ (c : Callers). IsTurn filers e c t after) are one, refl)
turns-more filers before [] (u ∷ ts) mid e t after are one = absurd are
turns-more filers before (x ∷ es) [] mid e t after are one = absurd are
turns-more filers before (x ∷ es) (u ∷ ts) mid e t after (next, first, rest) one = (next, first, turns-more filers next es ts mid e t after rest one)

-- what one more turn adds to the history, and to what is made of a caller's calls and of all calls
history-more : (turns : List Turn) (t : Turn) → history_of (turns ++ t ∷ []) ≡ history_of turns ++ t.calls
history-more turns t = flat-more (λ (u : Turn). u.calls) turns t

own-more : (who : ℕ) (turns : List Turn) (t : Turn) → calls_of who (history_of (turns ++ t ∷ [])) ≡ calls_of who (history_of turns) ++ calls_of who t.calls
own-more who turns t = ap (calls_of who) (history-more turns t) ∙ calls_of-append who (history_of turns) t.calls

of-more : {A : Type 0} (f : Call → List A) (who : ℕ) (turns : List Turn) (t : Turn) → flat_map f (calls_of who (history_of (turns ++ t ∷ []))) ≡ flat_map f (calls_of who (history_of turns)) ++ flat_map f (calls_of who t.calls)
of-more f who turns t = ap (flat_map f) (own-more who turns t) ∙ flat_map-append f (calls_of who (history_of turns)) (calls_of who t.calls)

all-more : {A : Type 0} (f : Call → List A) (turns : List Turn) (t : Turn) → flat_map f (calls (history_of (turns ++ t ∷ []))) ≡ flat_map f (calls (history_of turns)) ++ flat_map f (calls t.calls)
all-more f turns t =
    ap (λ (l : List Entry). flat_map f (calls l)) (history-more turns t) ∙ ap (flat_map f) (calls-append (history_of turns) t.calls) ∙ flat_map-append f (calls (history_of turns)) (calls t.calls)

module _ (h : Heading) (playback playback_now later : Playback) (reader reader' : Progress) (run run' : Run) (input left left' before given given' notes noted noted' : Option (List ℕ)) (events : List ScriptEvent) (turns : List Turn) (e : ScriptEvent) (turn : Turn)
    (more : List ℕ) (s : Sofar h playback playback_now reader run input left before given notes noted events turns) (fits : EventFits h e) (few : reader.count < event_limit) (taken : Consumes left left' (event_text e))
    (applies : Applies e run run' turn)
    (goes : GoesOn (flat_map call_text (calls_of run.line.filers turn.calls)) (flat_map call_items (calls_of run.line.filers turn.calls)) playback_now later more) where
  few-more : length (events ++ e ∷ []) ≤ event_limit
  few-more = omega (arith, length-append events (e ∷ []), s.count)

  taken-more : Consumes input left' (flat_map event_text (events ++ e ∷ []))
  taken-more = subst (Consumes input left') (sym (flat-more event_text events e)) (Consumes-trans input left left' (flat_map event_text events) (event_text e) s.taken taken)

  filers-are : run.line.filers ≡ h.filers
  filers-are = ap (λ (l : Line). l.filers) s.line

  are-more : AreTurns h.filers (opening_callers h) (events ++ e ∷ []) (turns ++ turn ∷ []) (callers_of run')
  are-more = turns-more h.filers (opening_callers h) events turns (callers_of run) e turn (callers_of run') s.are_turns (subst (λ (n : ℕ). IsTurn n e (callers_of run) turn (callers_of run')) filers-are applies.is_turn)

  legal-more : IsLegal (2 ^ h.g) opening_machine (history_of (turns ++ turn ∷ []))
  legal-more = subst (IsLegal (2 ^ h.g) opening_machine) (sym (history-more turns turn))
      (IsLegal-append (2 ^ h.g) opening_machine (history_of turns) turn.calls s.legal (subst (λ (l : Line). IsLegal (2 ^ l.g) l.machine turn.calls) s.line applies.legal))

  goes-more : GoesOn (journal_of h (turns ++ turn ∷ [])) (items_of h (turns ++ turn ∷ [])) playback later (s.text ++ more)
  goes-more =
      let made : GoesOn (flat_map call_text (calls_of h.filers turn.calls)) (flat_map call_items (calls_of h.filers turn.calls)) playback_now later more
      = subst (λ (n : ℕ). GoesOn (flat_map call_text (calls_of n turn.calls)) (flat_map call_items (calls_of n turn.calls)) playback_now later more) filers-are goes in
      GoesOn-as (journal_of h turns ++ flat_map call_text (calls_of h.filers turn.calls)) (journal_of h (turns ++ turn ∷ [])) (items_of h turns ++ flat_map call_items (calls_of h.filers turn.calls)) (items_of h (turns ++ turn ∷ []))
      playback later (s.text ++ more) (of-more call_text h.filers turns turn) (of-more call_items h.filers turns turn)
      (GoesOn-after (journal_of h turns) (flat_map call_text (calls_of h.filers turn.calls)) (items_of h turns) (flat_map call_items (calls_of h.filers turn.calls)) playback playback_now later s.text more s.goes_on made)

  played-more : run'.played ≡ play_tally (calls_of h.filers (history_of (turns ++ turn ∷ [])))
  played-more = applies.played (calls_of h.filers (history_of turns)) s.played
      ∙ ap (λ (n : ℕ). play_tally (calls_of h.filers (history_of turns) ++ calls_of n turn.calls)) filers-are
      ∙ ap play_tally (sym (own-more h.filers turns turn))

  filed-more : run'.filed ≡ run_tally (ends_of (turns ++ turn ∷ [])) (flat_map call_replies (calls (history_of (turns ++ turn ∷ []))))
  filed-more = applies.filed (ends_of turns) (flat_map call_replies (calls (history_of turns))) s.filed
      ∙ (λ i. run_tally (sym (flat-more (λ (u : Turn). u.ends) turns turn) i) (sym (all-more call_replies turns turn) i))

  pub sofar-more : (reader' ≡ stepped reader (Ok (Some e))) → Appends given given' more → Appends noted noted' (turn_lines turn)
      → Sofar h playback later reader' run' input left' before given' notes noted' (events ++ e ∷ []) (turns ++ turn ∷ [])
  sofar-more read gave wrote = record {
    fit = fit-more (EventFits h) events e s.fit fits;
    few = few-more;
    head = ap (λ (r : Progress). r.head) read ∙ s.head;
    over = ap (λ (r : Progress). r.over) read ∙ s.over;
    count = omega (arith, ap (λ (r : Progress). r.count) read, s.count, length-append events (e ∷ []));
    at = omega (arith, ap (λ (r : Progress). r.at) read, s.at, ap (λ (l : List ℕ). length l) (text-more h events e), length-append (script_text h events) (event_text e));
    are_turns = are-more;
    legal = legal-more;
    line = applies.line ∙ ap (λ (l : Line). record { filers = l.filers; g = l.g; machine = after_all l.machine turn.calls }) s.line
        ∙ ap (λ (m : Machine). record { filers = h.filers; g = h.g; machine = m }) (sym (after_all-append opening_machine (history_of turns) turn.calls))
        ∙ ap (λ (l : List Entry). record { filers = h.filers; g = h.g; machine = after_all opening_machine l }) (sym (history-more turns turn));
    filers = applies.filers ∙ s.filers;
    slow = omega (arith, applies.slow, s.slow, length-append events (e ∷ []));
    taken = taken-more;
    text = s.text ++ more;
    goes_on = goes-more;
    given = Appends-trans before given given' s.text more s.given gave;
    noted = subst (Appends notes noted') (sym (flat-more turn_lines turns turn)) (Appends-trans notes noted noted' _ _ s.noted wrote);
    played = played-more;
    filed = filed-more;
  }

  pub broken : AppendsPart given given' more → AppendsPart noted noted' (turn_lines turn)
      → Ran h playback later input before given' notes noted' (Err WriteFault) (events ++ e ∷ []) (turns ++ turn ∷ [])
  broken gave wrote = record {
    fit = fit-more (EventFits h) events e s.fit fits;
    few = few-more;
    last = callers_of run';
    are_turns = are-more;
    legal = legal-more;
    text = Consumes-begins input left' (flat_map event_text (events ++ e ∷ [])) taken-more;
    played = s.text ++ more;
    goes_on = goes-more;
    given = AppendsPart-after before given given' s.text more s.given gave;
    noted = subst (AppendsPart notes noted') (sym (flat-more turn_lines turns turn)) (AppendsPart-after notes noted noted' _ _ s.noted wrote);
    counted = tt;
  }

  pub breaks : IsHeading h → AppendsPart given given' more → AppendsPart noted noted' (turn_lines turn) → Breaks h playback later input left' before given' notes noted'
  breaks is gave wrote = record {
    events = events;
    turns = turns;
    last = e;
    turn = turn;
    run = record { head = is; fit = fit-more (EventFits h) events e s.fit fits; few = few-more; last = callers_of run'; turns_are = are-more; legal = legal-more };
    taken = taken-more;
    middle = playback_now;
    played = s.text;
    more = more;
    goes = s.goes_on;
    goes_on = goes-more;
    given = (gave.0, Appends-trans before given given' s.text (take gave.0 more) s.given gave.1);
    noted = (wrote.0, Appends-trans notes noted noted' (run_lines turns) (take wrote.0 (turn_lines turn)) s.noted wrote.1);
  }

-- the reading stopped
pub halts : (h : Heading) (playback playback_now : Playback) (reader : Progress) (run : Run) (input left left' before now notes noted : Option (List ℕ)) (events : List ScriptEvent) (turns : List Turn)
    → IsHeading h → Sofar h playback playback_now reader run input left before now notes noted events turns → ConsumesFewer (longest_event + 1) left left'
    → Halts h playback playback_now input left' before now notes noted
halts h playback playback_now reader run input left left' before now notes noted events turns is s lost = record {
  events = events;
  turns = turns;
  run = record { head = is; fit = s.fit; few = s.few; last = callers_of run; turns_are = s.are_turns; legal = s.legal };
  taken = (left, s.taken, lost);
  played = s.text;
  goes = s.goes_on;
  given = s.given;
  noted = s.noted;
}

-- what is left has a fault at its front
pub refused : (h : Heading) (playback playback_now : Playback) (reader : Progress) (run : Run) (input left before now notes noted : Option (List ℕ)) (events : List ScriptEvent) (turns : List Turn) (f : RecordFault)
    → Sofar h playback playback_now reader run input left before now notes noted events turns
    → IfSome left (λ octets. fault_at h reader.count reader.at octets ≡ Some f) → Ran h playback playback_now input before now notes noted (Err (Refused f)) events turns
refused h playback playback_now reader run input left before now notes noted events turns f s fault = record {
  fit = s.fit;
  few = s.few;
  last = callers_of run;
  are_turns = s.are_turns;
  legal = s.legal;
  text = text input left s.taken fault;
  played = s.text;
  goes_on = s.goes_on;
  given = s.given;
  noted = s.noted;
  counted = tt;
}
  where
    text : (input left : Option (List ℕ)) → Consumes input left (flat_map event_text events) → IfSome left (λ octets. fault_at h reader.count reader.at octets ≡ Some f)
        → IfSome input (λ octets. (rest : List ℕ) × (octets ≡ flat_map event_text events ++ rest) × (fault_after h events rest ≡ Some f))
    text None left p q = tt
    text (Some x) None p q = absurd p
    text (Some x) (Some y) p q = (y, p, subst (λ (n : ℕ). fault_at h n (length (script_text h events)) y ≡ Some f) s.count (subst (λ (n : ℕ). fault_at h reader.count n y ≡ Some f) s.at q))

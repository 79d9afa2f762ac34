-- From the loop over the events to the whole command.
use Rattle.std.proofs.Common.{◌≡◌, ℕ, ◌≤◌, List, [], ◌∷◌, ◌++◌, take, Option, Some, None, Ok, Err, Result, refl, sym, ap, subst, ◌∙◌, append-nil, append_assoc, inl, inr, arith}
use Rattle.std.specs.Prelude.{IfSome}
use Rattle.std.specs.List.{flat_map}
use Rattle.std.specs.Io.KnownBytes.{Appends, Consumes, Keeps}
use Rattle.std.proofs.KnownBytes.{Appends-trans, Appends-nil, Consumes-trans, Keeps-refl}
use Rattle.gate_io.specs.Flow.{AppendsPart}
use Rattle.gate_io.specs.FlowLaws.{AppendsPart-after, AppendsPart-longer}
use Rattle.playout.specs.History.{calls_of}
use Rattle.recorder.specs.declared.events.ScriptEvent.{ScriptEvent}
use Rattle.recorder.specs.declared.fault.RecordFault.{RecordFault}
use Rattle.recorder.specs.Heads.{head_fault, Heading, IsHeading, head_text, script_magic}
use Rattle.recorder.specs.Files.{end_mark}
use Rattle.recorder.specs.Script.{IsScript, ScriptsHaveNoFault, event_text}
use Rattle.script_runs.specs.Calls.{Turn, history_of, opening_callers}
use Rattle.script_runs.specs.declared.playback.Playback.{Playback}
use Rattle.script_runs.specs.declared.run.Run.{Run}
use Rattle.gate_notes.specs.declared.stop.Stop.{Stop}
use Rattle.gate_notes.specs.declared.stop.Stop.TheVariants as stop
use Rattle.gate_notes.specs.declared.status.Status.{Status}
use Rattle.gate_notes.specs.declared.status.Status.TheVariants.{Done, Illegal, Usage, Input, ReadFault, WriteFault, LinkFault, OutOfMemory}
use Rattle.gate_notes.specs.Exchange.{Exchange, GainedUnlessFault}
use Rattle.gate_notes.specs.Notes.{fault_line, play_lines, tally_line}
use Rattle.script_runs.specs.TurnLines.{run_lines, summary}
use Rattle.script_runs.specs.Playing.{Stands, end_text, ending, front_text}
use Rattle.script_runs.specs.Ran.{Breaks, Finishes, Halts, Ran}
use Rattle.script_runs.specs.Simulate.{IsPlayedOf, IsRun, Begins, Ends, Stops, StopsReading, fault_after}
use Rattle.script_runs.proofs.Playbacks.{GoesOn-none, is-ending, is-played}
use Rattle.script_runs.proofs.Sofar.{items_of, journal_of}
use Rattle.std.specs.Prelude.{codes}

-- the head before the events
begins : (h : Heading) (input mid : Option (List ℕ)) (events : List ScriptEvent) (Q : List ℕ → Type 0) → Consumes input mid (head_text script_magic h)
    → IfSome mid (λ octets. (rest : List ℕ) × (octets ≡ flat_map event_text events ++ rest) × Q rest) → IfSome input (Begins h events Q)
begins h None mid events Q p q = tt
begins h (Some x) None events Q p q = absurd p
begins h (Some x) (Some y) events Q p q = (q.0, p ∙ ap (λ (l : List ℕ). head_text script_magic h ++ l) q.1 ∙ sym (append_assoc (head_text script_magic h) (flat_map event_text events) q.0), q.2)

-- a last line behind others
noted-after : (a b c : Option (List ℕ)) (counts counts' now : ℕ) (bs line : List ℕ) → Appends a b bs → counts ≤ counts' → GainedUnlessFault b c counts' now line → GainedUnlessFault a c counts now (bs ++ line)
noted-after a b c counts counts' now bs line p le (inl q) = inl (Appends-trans a b c bs line p q)
noted-after a b c counts counts' now bs line p le (inr (q, r)) = inr (AppendsPart-after a b c bs line p q, omega arith)

-- a text was gained, which is the line or a front of it
pub gained : (a b : Option (List ℕ)) (counts now : ℕ) (line : List ℕ) → GainedUnlessFault a b counts now line → (text : List ℕ) × Appends a b text
gained a b counts now line (inl all) = (line, all)
gained a b counts now line (inr (part, rose)) = (take part.0 line, part.1)

-- the head has a fault, and nothing was given but the fault's line
pub head-refused : (voice : Option (List ℕ)) (x : Exchange) (f : RecordFault) → x.output_now ≡ x.output → IfSome x.input (λ octets. head_fault script_magic (take 12 octets) ≡ Some f)
    → GainedUnlessFault x.notes x.notes_now x.noted x.noted_now (fault_line 0 f) → Ends voice Input x
head-refused voice x f same fault noted = (f, inl (fault, subst (Keeps x.output) (sym same) (Keeps-refl x.output), noted))

module _ (voice : Option (List ℕ)) (x : Exchange) (h : Heading) (mid : Option (List ℕ)) (start : Playback) (is : IsHeading h) (stands : Stands voice [] [] [] start) (read : Consumes x.input mid (head_text script_magic h)) where
  -- what stands before all events was not given whole
  pub no-front : AppendsPart x.output x.output_now (front_text start h) → x.notes_now ≡ x.notes → Ends voice WriteFault x
  no-front part same = (
    h,
    [],
    [],
    front_text start h ++ [],
    record { head = is; fit = tt; few = omega arith; last = opening_callers h; turns_are = refl; legal = tt },
    is-played voice h [] [] start start stands (GoesOn-none start),
    inl (
      begins h x.input mid [] (λ rest. Unit {0}) read (nothing mid),
      AppendsPart-longer x.output x.output_now (front_text start h) [] part,
      (0, subst (λ (o : Option (List ℕ)). Appends x.notes o []) (sym same) (Appends-nil x.notes)),
    ),
  )
    where
      nothing : (mid : Option (List ℕ)) → IfSome mid (λ octets. (rest : List ℕ) × (octets ≡ [] ++ rest) × Unit {0})
      nothing None = tt
      nothing (Some x) = (x, refl, tt)

  pub front-breaks : AppendsPart x.output x.output_now (front_text start h) → x.notes_now ≡ x.notes → Stops voice WriteFault x mid
  front-breaks part same = inl (record {
    head = h;
    is_head = is;
    taken = subst (Consumes x.input mid) (sym (append-nil (head_text script_magic h))) read;
    text = front_text start h ++ [];
    played = is-played voice h [] [] start start stands (GoesOn-none start);
    gave = AppendsPart-longer x.output x.output_now (front_text start h) [] part;
    noted = subst (λ (o : Option (List ℕ)). Appends x.notes o []) (sym same) (Appends-nil x.notes);
  })

  module _ (given : Option (List ℕ)) (last : Playback) (left : Option (List ℕ)) (front : Appends x.output given (front_text start h)) where
    pub breaks-off : Breaks h start last mid left given x.output_now x.notes x.notes_now → Stops voice WriteFault x left
    breaks-off b = inr (inl (record {
      head = h;
      events = b.events;
      turns = b.turns;
      last = b.last;
      turn = b.turn;
      run = b.run;
      taken = Consumes-trans x.input mid left (head_text script_magic h) (flat_map event_text (b.events ++ b.last ∷ [])) read b.taken;
      text = front_text start h ++ b.played;
      more = b.more;
      played = is-played voice h (calls_of h.filers (history_of b.turns)) b.played start b.middle stands b.goes;
      plays = subst (IsPlayedOf voice h (b.turns ++ b.turn ∷ [])) (sym (append_assoc (front_text start h) b.played b.more))
          (is-played voice h (calls_of h.filers (history_of (b.turns ++ b.turn ∷ []))) (b.played ++ b.more) start last stands b.goes_on);
      gave = (b.given.0, subst (Appends x.output x.output_now) (sym (append_assoc (front_text start h) b.played (take b.given.0 b.more))) (Appends-trans x.output given x.output_now (front_text start h) (b.played ++ take b.given.0 b.more) front b.given.1));
      noted = b.noted;
    }))

    pub halted : (noted : Option (List ℕ)) (line : List ℕ) → Halts h start last mid left given x.output_now x.notes noted → Appends noted x.notes_now line → StopsReading voice x left
    halted noted line b behind = inr (record {
      head = h;
      events = b.events;
      turns = b.turns;
      run = b.run;
      taken = (b.taken.0, Consumes-trans x.input mid b.taken.0 (head_text script_magic h) (flat_map event_text b.events) read b.taken.1, b.taken.2);
      text = front_text start h ++ b.played;
      played = is-played voice h (calls_of h.filers (history_of b.turns)) b.played start last stands b.goes;
      gave = Appends-trans x.output given x.output_now (front_text start h) b.played front b.given;
      noted = (line, Appends-trans x.notes noted x.notes_now (run_lines b.turns) line b.noted behind);
    })

  module _ (given : Option (List ℕ)) (last : Playback) (events : List ScriptEvent) (turns : List Turn) (front : Appends x.output given (front_text start h)) where
    run-is : {input before now notes notes_now : Option (List ℕ)} {result : Result Run Stop} → Ran h start last input before now notes notes_now result events turns → IsRun h events turns
    run-is ran = record { head = is; fit = ran.fit; few = ran.few; last = ran.last; turns_are = ran.are_turns; legal = ran.legal }

    played-is : {input before now notes notes_now : Option (List ℕ)} {result : Result Run Stop} (ran : Ran h start last input before now notes notes_now result events turns) → IsPlayedOf voice h turns (front_text start h ++ ran.played)
    played-is ran = is-played voice h (calls_of h.filers (history_of turns)) ran.played start last stands ran.goes_on

    -- the loop met a fault of the script
    pub refused-after : (f : RecordFault) (noted : Option (List ℕ)) (counts : ℕ) → Ran h start last mid given x.output_now x.notes noted (Err (stop.Refused f)) events turns
        → x.noted ≤ counts → GainedUnlessFault noted x.notes_now counts x.noted_now (fault_line 0 f) → Ends voice Input x
    refused-after f noted counts ran le line = (
      f,
      inr (
        h,
        events,
        turns,
        front_text start h ++ ran.played,
        run-is ran,
        played-is ran,
        begins h x.input mid events (λ rest. fault_after h events rest ≡ Some f) read ran.text,
        Appends-trans x.output given x.output_now (front_text start h) ran.played front ran.given,
        noted-after x.notes noted x.notes_now x.noted counts x.noted_now (run_lines turns) (fault_line 0 f) ran.noted le line,
      ),
    )

    pub stopped : Ran h start last mid given x.output_now x.notes x.notes_now (Err stop.ReadFault) events turns → Ends voice ReadFault x
    stopped ran = inr (
      h,
      events,
      turns,
      front_text start h ++ ran.played,
      run-is ran,
      played-is ran,
      begins h x.input mid events (λ rest. Unit {0}) read ran.text,
      Appends-trans x.output given x.output_now (front_text start h) ran.played front ran.given,
      ran.noted,
    )

    pub broken-off : Ran h start last mid given x.output_now x.notes x.notes_now (Err stop.WriteFault) events turns → Ends voice WriteFault x
    broken-off ran = (
      h,
      events,
      turns,
      front_text start h ++ ran.played,
      run-is ran,
      played-is ran,
      inl (
        begins h x.input mid events (λ rest. Unit {0}) read ran.text,
        AppendsPart-after x.output given x.output_now (front_text start h) ran.played front ran.given,
        ran.noted,
      ),
    )

    -- the loop came to the end mark
    module _ (run : Run) (now noted : Option (List ℕ)) (ran : Ran h start last mid given now x.notes noted (Ok run) events turns) where
      summed : play_lines run.played ++ tally_line (codes "all") run.filed ≡ summary h.filers turns
      summed = λ i. play_lines (ran.counted.0 i) ++ tally_line (codes "all") (ran.counted.1 i)

      end-is : end_text last ≡ ending voice
      end-is = is-ending voice (journal_of h turns) (items_of h turns) ran.played last (ran.goes_on voice [] [] [] stands)

      pub finished : (status : Status) → Finishes status now x.output_now noted x.notes_now (end_text last) (play_lines run.played ++ tally_line (codes "all") run.filed) → Ends voice status x
      finished Done (mark, text) = (
        h,
        events,
        turns,
        front_text start h ++ ran.played,
        run-is ran,
        played-is ran,
        begins h x.input mid events (λ rest. (more : List ℕ) × (rest ≡ end_mark ∷ more)) read ran.text,
        Appends-trans x.output now x.output_now (front_text start h ++ ran.played) (ending voice) (Appends-trans x.output given now (front_text start h) ran.played front ran.given) (subst (Appends now x.output_now) end-is mark),
        Appends-trans x.notes noted x.notes_now (run_lines turns) (summary h.filers turns) ran.noted (subst (Appends noted x.notes_now) summed text),
      )
      finished WriteFault (inl (mark, same)) = (
        h,
        events,
        turns,
        front_text start h ++ ran.played,
        run-is ran,
        played-is ran,
        inr (
          begins h x.input mid events (λ rest. (more : List ℕ) × (rest ≡ end_mark ∷ more)) read ran.text,
          inl (
            AppendsPart-after x.output now x.output_now (front_text start h ++ ran.played) (ending voice) (Appends-trans x.output given now (front_text start h) ran.played front ran.given) (subst (AppendsPart now x.output_now) end-is mark),
            subst (λ (o : Option (List ℕ)). Appends x.notes o (run_lines turns)) (sym same) ran.noted,
          ),
        ),
      )
      finished WriteFault (inr (mark, text)) = (
        h,
        events,
        turns,
        front_text start h ++ ran.played,
        run-is ran,
        played-is ran,
        inr (
          begins h x.input mid events (λ rest. (more : List ℕ) × (rest ≡ end_mark ∷ more)) read ran.text,
          inr (
            Appends-trans x.output now x.output_now (front_text start h ++ ran.played) (ending voice) (Appends-trans x.output given now (front_text start h) ran.played front ran.given) (subst (Appends now x.output_now) end-is mark),
            AppendsPart-after x.notes noted x.notes_now (run_lines turns) (summary h.filers turns) ran.noted (subst (AppendsPart noted x.notes_now) summed text),
          ),
        ),
      )
      finished Illegal never = absurd never
      finished Usage never = absurd never
      finished Input never = absurd never
      finished ReadFault never = absurd never
      finished LinkFault never = absurd never
      finished OutOfMemory never = absurd never

      pub stops-behind : (status : Status) (left : Option (List ℕ)) → Finishes status now x.output_now noted x.notes_now (end_text last) (play_lines run.played ++ tally_line (codes "all") run.filed) → Stops voice status x left
      stops-behind Done left (mark, text) = tt
      stops-behind WriteFault left (inl (mark, same)) = inr (inr (record {
        head = h;
        events = events;
        turns = turns;
        run = run-is ran;
        whole = begins h x.input mid events (λ rest. (more : List ℕ) × (rest ≡ end_mark ∷ more)) read ran.text;
        text = front_text start h ++ ran.played;
        played = played-is ran;
        broken = inl (
          AppendsPart-after x.output now x.output_now (front_text start h ++ ran.played) (ending voice) (Appends-trans x.output given now (front_text start h) ran.played front ran.given) (subst (AppendsPart now x.output_now) end-is mark),
          subst (λ (o : Option (List ℕ)). Appends x.notes o (run_lines turns)) (sym same) ran.noted,
        );
      }))
      stops-behind WriteFault left (inr (mark, text)) = inr (inr (record {
        head = h;
        events = events;
        turns = turns;
        run = run-is ran;
        whole = begins h x.input mid events (λ rest. (more : List ℕ) × (rest ≡ end_mark ∷ more)) read ran.text;
        text = front_text start h ++ ran.played;
        played = played-is ran;
        broken = inr (
          Appends-trans x.output now x.output_now (front_text start h ++ ran.played) (ending voice) (Appends-trans x.output given now (front_text start h) ran.played front ran.given) (subst (Appends now x.output_now) end-is mark),
          AppendsPart-after x.notes noted x.notes_now (run_lines turns) (summary h.filers turns) ran.noted (subst (AppendsPart noted x.notes_now) summed text),
        );
      }))
      stops-behind Illegal left never = absurd never
      stops-behind Usage left never = absurd never
      stops-behind Input left never = absurd never
      stops-behind ReadFault left never = absurd never
      stops-behind LinkFault left never = absurd never
      stops-behind OutOfMemory left never = absurd never

-- a script is not refused
pub not_refused : ScriptsHaveNoFault → (voice : Option (List ℕ)) (x : Exchange) (octets : List ℕ) (h : Heading) (events : List ScriptEvent) → Ends voice Input x → x.input ≡ Some octets → IsScript octets h events → ⊥
not_refused not_both voice x octets h events (f, inl (fault, kept, noted)) told script =
    let P : Option (List ℕ) → Type 0 = λ o. IfSome o (λ octets. head_fault script_magic (take 12 octets) ≡ Some f) in
    not_both octets h events f script (inl (subst P told fault))
not_refused not_both voice x octets h events (f, inr (h', before, turns, played, run, is, text, given, noted)) told script =
    let P : Option (List ℕ) → Type 0 = λ o. IfSome o (Begins h' before (λ rest. fault_after h' before rest ≡ Some f)) in
    let begun = subst P told text in
    not_both octets h events f script (inr (h', before, record { heading = run.head; fits = run.fit; few = run.few; rest = begun.0; text = begun.1; fault = begun.2 }))

-- What one event comes to.
use Rattle.std.proofs.Common.{◌≡◌, ℕ, ◌+◌, ◌<◌, ◌≤◌, ◌^◌, Bool, true, List, [], ◌∷◌, ◌++◌, length, Some, slice_get, slice_set, refl, sym, ap, subst, ◌∙◌, append-nil, inl, inr, arith}
use Rattle.std.proofs.lemmas.Bool.{eq-eqb, ne_eqb}
use Rattle.std.proofs.lemmas.List.{length-set}
use Rattle.std.specs.List.{flat_map, AllByRecursion}
use Rattle.playout.specs.declared.reply.FileReply.{FileReply}
use Rattle.playout.specs.declared.call.Call.{Call}
use Rattle.playout.specs.declared.call.Call.TheVariants.{FileCall}
use Rattle.playout.specs.Line.{Line, FilerSteps, Steps}
use Rattle.playout.specs.History.{Chained, Entry, IsLegal, after_all, entry, calls, calls_of, moves}
use Rattle.recorder.specs.declared.events.ScriptEvent.TheVariants.{Tick, File, Datagram, Beat}
use Rattle.recorder.specs.Tallies.{call_replies, play_tally, reply_counted}
use Rattle.recorder.specs.declared.tally.PlayTally.{PlayTally}
use Rattle.recorder.specs.declared.tally.Tally.{Tally}
use Rattle.filer.specs.declared.outcome.Outcome.{Outcome}
use Rattle.filer.specs.Takes as takes
use Rattle.player.specs.Beats.{CanBeTold, all_counted, held_after, opened_after}
use Rattle.player.specs.Beats as beats
use Rattle.script_runs.specs.Applies.{Applies, Makes, Plays, callers_of}
use Rattle.script_runs.specs.Calls.{Callers, Ended, IsBeat, IsTick, IsTurn, Turn, bare, made_by}
use Rattle.script_runs.specs.Counts.{run_tally}
use Rattle.script_runs.specs.TurnLines.{line_of_call, turn_lines}
use Rattle.script_runs.specs.declared.run.Run.{Run}
use Rattle.script_runs.proofs.Counting.{calls-more, datagram-more, ended, reply-more}
use Rattle.script_runs.proofs.Steps.{filed-position, position-stays, replies-told}

-- the list of the caller of calls, and of another
pub calls_of-own : (who : ℕ) (cs : List Call) → calls_of who (made_by who cs) ≡ cs
calls_of-own who [] = refl
calls_of-own who (c ∷ cs) = rw (eq-eqb who who refl) (ap (λ (l : List Call). c ∷ l) (calls_of-own who cs))

pub calls_of-other : (who other : ℕ) (c : Call) → other < who → calls_of who (entry other c ∷ []) ≡ []
calls_of-other who other c lt = rw (ne_eqb other who (λ same. omega arith)) refl

pub calls_of-made : (who other : ℕ) (cs : List Call) → other < who → calls_of who (made_by other cs) ≡ []
calls_of-made who other [] lt = refl
calls_of-made who other (c ∷ cs) lt = rw (ne_eqb other who (λ same. omega arith)) (calls_of-made who other cs lt)

calls-made : (who : ℕ) (cs : List Call) → calls (made_by who cs) ≡ cs
calls-made who [] = refl
calls-made who (c ∷ cs) = ap (λ (l : List Call). c ∷ l) (calls-made who cs)

same-callers : (old new : Run) → new.filers.items ≡ old.filers.items → new.opened ≡ old.opened → callers_of new ≡ callers_of old
same-callers old new filers opened = λ i. record { filers = filers i; opened = opened i }

-- counts that stay
kept-calls : (who : ℕ) (old new : Run) (made : List Entry) → new.played ≡ old.played → calls_of who made ≡ [] → (before : List Call) → old.played ≡ play_tally before
    → new.played ≡ play_tally (before ++ calls_of who made)
kept-calls who old new made same none before is = same ∙ is ∙ ap play_tally (sym (append-nil before)) ∙ ap (λ (cs : List Call). play_tally (before ++ cs)) (sym none)

kept-replies : (old new : Run) → new.filed ≡ old.filed → (ends : List Ended) (replies : List FileReply) → old.filed ≡ run_tally ends replies → new.filed ≡ run_tally (ends ++ []) (replies ++ [])
kept-replies old new same ends replies is = same ∙ is ∙ (λ i. run_tally (sym (append-nil ends) i) (sym (append-nil replies) i))

-- ---- the player's turn

-- a call that the player's journal can tell has no line and no reply
silent : (player g : ℕ) (c : Call) → CanBeTold g c → (line_of_call player c ≡ []) × (call_replies c ≡ [])
silent player g (FileCall n f reply) told = absurd told
silent player g _ told = (refl, refl)

pub told-lines : (player g : ℕ) (cs : List Call) → AllByRecursion (CanBeTold g) cs → turn_lines (bare (made_by player cs)) ≡ []
told-lines player g [] told = refl
told-lines player g (c ∷ cs) told = ap (λ (l : List ℕ). l ++ turn_lines (bare (made_by player cs))) (silent player g c told.0).0 ∙ told-lines player g cs told.1

told-replies : (player g : ℕ) (cs : List Call) → AllByRecursion (CanBeTold g) cs → flat_map call_replies (calls (made_by player cs)) ≡ []
told-replies player g [] told = refl
told-replies player g (c ∷ cs) told = ap (λ (l : List FileReply). l ++ flat_map call_replies (calls (made_by player cs))) (silent player g c told.0).1 ∙ told-replies player g cs told.1

-- calls on a line, one after the other, are calls of its machine
line-legal : (who : ℕ) (before after : Line) (cs : List Call) → Chained Steps before cs after → IsLegal (2 ^ before.g) before.machine (made_by who cs)
line-legal who before after [] done = tt
line-legal who before after (c ∷ cs) (mid, step, rest) = (step.0, subst (λ (l : Line). IsLegal (2 ^ l.g) l.machine (made_by who cs)) step.1 (line-legal who mid after cs rest))

line-after : (who : ℕ) (before after : Line) (cs : List Call) → Chained Steps before cs after → after ≡ record before { machine = after_all before.machine (made_by who cs) }
line-after who before after [] done = sym done
line-after who before after (c ∷ cs) (mid, step, rest) = line-after who mid after cs rest ∙ ap (λ (l : Line). record l { machine = after_all l.machine (made_by who cs) }) step.1

-- a player that holds no number made the calls of a beat; its side was made of the line, and given back
pub plays : (opened : Bool) (old new : Run) (made now : Line) (cs : List Call) → made ≡ old.line → new.line ≡ now → beats.IsBeat 0 0 opened cs → AllByRecursion (CanBeTold made.g) cs
    → Chained Steps made cs now → now.machine.position ≡ made.machine.position + moves cs → moves cs + held_after 0 cs ≤ 0 + 1
    → new.filers.items ≡ old.filers.items → new.opened ≡ opened_after old.opened cs → new.played ≡ all_counted old.played cs → new.filed ≡ old.filed
    → Plays opened old new (bare (made_by old.line.filers cs))
plays opened old new made now cs begun back asks told chained position goes_on filers opens played filed =
    let player = old.line.filers in
    let calls_on : Chained Steps old.line cs new.line = subst (λ (l : Line). Chained Steps l cs new.line) begun (subst (λ (l : Line). Chained Steps made cs l) (sym back) chained) in
    let place : Line → ℕ = λ l. l.machine.position in
    record {
      is_turn = (cs, asks, refl, λ i. record { filers = filers i; opened = opens i });
      legal = line-legal player old.line new.line cs calls_on;
      line = line-after player old.line new.line cs calls_on;
      slow = omega (arith, ap place back, position, ap place begun, goes_on);
      filers = ap length filers;
      played = λ before is. played ∙ ap (λ (t : PlayTally). all_counted t cs) is ∙ calls-more before cs ∙ ap (λ (l : List Call). play_tally (before ++ l)) (sym (calls_of-own player cs));
      filed = λ ends replies is. kept-replies old new filed ends replies is ∙ ap (λ (l : List FileReply). run_tally (ends ++ []) (replies ++ l)) (sym (told-replies player made.g cs told));
    }

-- a turn that is of another kind too
of-kind : (Old New : Callers → Turn → Callers → Type 0) (old new : Run) (turn : Turn) → Makes Old old new turn → New (callers_of old) turn (callers_of new) → Makes New old new turn
of-kind Old New old new turn a is = record { is_turn = is; legal = a.legal; line = a.line; slow = a.slow; filers = a.filers; played = a.played; filed = a.filed }

-- a beat of a player that knows whether it has seen a base or made a tick
pub beat-applies : (old new : Run) (turn : Turn) → Plays old.opened old new turn → Applies Beat old new turn
beat-applies old new turn a = of-kind (IsBeat old.opened old.line.filers) (IsTurn old.line.filers Beat) old new turn a a.is_turn

-- where it has, a beat that holds nothing is a tick
is-tick : (player : ℕ) (before after : Callers) (turn : Turn) → IsBeat true player before turn after → IsTick player before turn after
is-tick player before after turn (calls, inl (none, (item, taken, is)), made, left) = (
  item,
  made ∙ ap (λ (cs : List Call). bare (made_by player cs)) is,
  left ∙ ap (λ (cs : List Call). record before { opened = opened_after before.opened cs }) is,
)
is-tick player before after turn (calls, inr (inl (few, holds)), made, left) = absurd (omega (arith, few))
is-tick player before after turn (calls, inr (inr (some, full, looks)), made, left) = absurd (omega (arith, some))

pub tick-applies : (old new : Run) (turn : Turn) → Plays true old new turn → Applies Tick old new turn
tick-applies old new turn a = of-kind (IsBeat true old.line.filers) (IsTurn old.line.filers Tick) old new turn a (is-tick old.line.filers (callers_of old) (callers_of new) turn a.is_turn)

-- ---- the turns of filers

-- a filer's bare call
pub file_applies : (old new : Run) (caller number : ℕ) (frame : List ℕ) (reply : FileReply) → caller < old.line.filers
    → Steps old.line (FileCall number frame reply) new.line → new.filers.items ≡ old.filers.items → new.opened ≡ old.opened → new.played ≡ old.played → new.filed ≡ reply_counted old.filed reply
    → Applies (File caller number frame) old new (bare (entry caller (FileCall number frame reply) ∷ []))
file_applies old new caller number frame reply lt step filers opened played filed =
    let made = entry caller (FileCall number frame reply) ∷ [] in
    record {
      is_turn = (reply, refl, same-callers old new filers opened);
      legal = (step.0, tt);
      line = step.1;
      slow = omega (arith, ap (λ (l : Line). l.machine.position) step.1, filed-position old.line.machine number frame reply);
      filers = ap length filers;
      played = kept-calls old.line.filers old new made played (calls_of-other old.line.filers caller (FileCall number frame reply) lt);
      filed = λ ends replies is. filed ∙ ap (λ t. reply_counted t reply) is ∙ sym (reply-more ends replies reply) ∙ ap (λ (l : List Ended). run_tally l (replies ++ reply ∷ [])) (sym (append-nil ends));
    }

-- a filer's calls over its side are calls on its line
side-line : (before after : Line × ℕ) (cs : List Call) → Chained FilerSteps before cs after → Chained Steps before.0 cs after.0
side-line before after [] done = ap (λ (p : Line × ℕ). p.0) done
side-line before after (c ∷ cs) (mid, step, rest) = (mid.0, step.0, side-line mid after cs rest)

-- a datagram
pub datagram_applies : (old new : Run) (caller at : ℕ) (octets : List ℕ) (o : Outcome) (k later : takes.Known) (side : Line × ℕ) → caller < old.line.filers
    → slice_get old.filers.items caller ≡ Some k → new.filers.items ≡ slice_set old.filers.items caller later → takes.IsTaken k octets at o later
    → Chained FilerSteps (old.line, caller) (takes.calls_of k octets at o) side → new.line ≡ side.0 → new.opened ≡ old.opened → new.played ≡ old.played → new.filed ≡ takes.tallied old.filed o.end
    → Applies (Datagram caller at octets) old new (record { calls = made_by caller (takes.calls_of k octets at o); ends = ended caller o.end ∷ [] })
datagram_applies old new caller at octets o k later side lt is_known filers taken chained line opened played filed =
    let cs = takes.calls_of k octets at o in
    let on_line = side-line (old.line, caller) side cs chained in
    let now : new.line ≡ record old.line { machine = after_all old.line.machine (made_by caller cs) } = line ∙ line-after caller old.line side.0 cs on_line in
    let told : flat_map call_replies (calls (made_by caller cs)) ≡ takes.files_told o.end = ap (flat_map call_replies) (calls-made caller cs) ∙ replies-told k octets at o later taken in
    record {
      is_turn = record { outcome = o; known = k; later = later; is_known = is_known; taken = taken; made = refl; left = λ i. record { filers = filers i; opened = opened i } };
      legal = line-legal caller old.line side.0 cs on_line;
      line = now;
      slow = omega (arith, ap (λ (l : Line). l.machine.position) now, position-stays k octets at o later taken caller old.line.machine);
      filers = ap length filers ∙ length-set old.filers.items caller later;
      played = kept-calls old.line.filers old new (made_by caller cs) played (calls_of-made old.line.filers caller cs lt);
      filed = λ ends replies is. filed ∙ ap (λ (t : Tally). takes.tallied t o.end) is ∙ datagram-more ends replies caller o.end
          ∙ ap (λ (l : List FileReply). run_tally (ends ++ ended caller o.end ∷ []) (replies ++ l)) (sym told);
    }

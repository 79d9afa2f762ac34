use Rattle.std.proofs.Common.{◌≡◌, List, ℕ, [], ◌∷◌, ◌∙◌, length, refl, sym, ap, subst, slice_get, slice_set, arith}
use Rattle.std.proofs.lemmas.List.{length-set, with_items_is}
use Rattle.std.specs.Io.KnownBytes.{Appends}
use Rattle.std.specs.Vec.{with_items}
use Rattle.gate_io.specs.Flow.{AppendsPart}
use Rattle.playout.specs.History.{Chained}
use Rattle.playout.specs.Line.{FilerSteps, Line}
use Rattle.filer.specs.Takes.{Known, calls_of}
use Rattle.script_runs.specs.Calls.{made_by}
use Rattle.script_runs.specs.declared.run.Run.{Run}
use Rattle.script_runs.proofs.Counting.{ended}
use Rattle.script_runs.proofs.Events.{calls_of-made, datagram_applies}
use Rattle.script_runs.proofs.Steps.{lines-told}
use Rattle.script_runs.proofs.run.Run.datagram.Goals as goal

pub returns-in-Ok-clause-applied : goal.returns-in-Ok-clause-applied
returns-in-Ok-clause-applied g c =
    let old = c.args.self in
    let caller = c.args.caller in
    let o = c.take_by-outcome.result in
    let given = g.E.Sink.given in
    let taken = c.take_by-outcome.ensures.taken in
    let cs = calls_of taken.0 c.args.octets.now c.args.at o in
    let new : Run = record { line = c.back.result; filers = with_items old.filers c.take_by-outcome.new.filers; opened = old.opened; played = old.played; filed = c.count_end.new.tally } in
    let known = ap (λ (l : List Known). slice_get l caller) (sym c.as_mut_slice.ensures.value) ∙ taken.2 in
    let filers = taken.3 ∙ ap (λ (l : List Known). slice_set l caller taken.1) c.as_mut_slice.ensures.value in
    let long : length c.take_by-outcome.new.filers ≡ old.filers.len = omega (arith, ap (λ (l : List Known). length l) filers, length-set old.filers.items caller taken.1, old.filers.ok.0) in
    let written = with_items_is old.filers c.take_by-outcome.new.filers long ∙ filers in
    let chained = subst (λ (s : Line × ℕ). Chained FilerSteps s cs c.take_by-outcome.new.side) c.of-side.ensures taken.5 in (
      new,
      record { calls = made_by caller cs; ends = ended caller o.end ∷ [] },
      datagram_applies old new caller c.args.at c.args.octets.now o taken.0 taken.1 c.take_by-outcome.new.side c.requires.caller known written taken.4 chained c.back.ensures refl refl c.count_end.ensures,
      refl,
      calls_of-made old.line.filers caller cs c.requires.caller,
      subst (λ (l : List ℕ). Appends (given c.args.notes.now) (given c.give_end.new.notes) l) (sym (lines-told taken.0 c.args.octets.now c.args.at o taken.1 taken.4 caller)) c.in-Ok.ensures.given,
    )

pub returns-in-Err-clause-applied : goal.returns-in-Err-clause-applied
returns-in-Err-clause-applied g c =
    let old = c.args.self in
    let caller = c.args.caller in
    let o = c.take_by-outcome.result in
    let given = g.E.Sink.given in
    let taken = c.take_by-outcome.ensures.taken in
    let cs = calls_of taken.0 c.args.octets.now c.args.at o in
    let new : Run = record { line = c.back.result; filers = with_items old.filers c.take_by-outcome.new.filers; opened = old.opened; played = old.played; filed = c.count_end.new.tally } in
    let known = ap (λ (l : List Known). slice_get l caller) (sym c.as_mut_slice.ensures.value) ∙ taken.2 in
    let filers = taken.3 ∙ ap (λ (l : List Known). slice_set l caller taken.1) c.as_mut_slice.ensures.value in
    let long : length c.take_by-outcome.new.filers ≡ old.filers.len = omega (arith, ap (λ (l : List Known). length l) filers, length-set old.filers.items caller taken.1, old.filers.ok.0) in
    let written = with_items_is old.filers c.take_by-outcome.new.filers long ∙ filers in
    let chained = subst (λ (s : Line × ℕ). Chained FilerSteps s cs c.take_by-outcome.new.side) c.of-side.ensures taken.5 in (
      new,
      record { calls = made_by caller cs; ends = ended caller o.end ∷ [] },
      datagram_applies old new caller c.args.at c.args.octets.now o taken.0 taken.1 c.take_by-outcome.new.side c.requires.caller known written taken.4 chained c.back.ensures refl refl c.count_end.ensures,
      tt,
      calls_of-made old.line.filers caller cs c.requires.caller,
      subst (λ (l : List ℕ). AppendsPart (given c.args.notes.now) (given c.give_end.new.notes) l) (sym (lines-told taken.0 c.args.octets.now c.args.at o taken.1 taken.4 caller)) c.in-Err.ensures.given,
    )

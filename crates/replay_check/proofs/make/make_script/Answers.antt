use Rattle.std.proofs.Common.{◌≡◌, ℕ, List, [], ◌∷◌, ◌++◌, sym, ap, subst, ◌∙◌, append-nil, arith}
use Rattle.std.proofs.KnownBytes.{Appends-trans}
use Rattle.gate_io.specs.Flow.{AppendsPart}
use Rattle.gate_io.specs.FlowLaws.{AppendsPart-after}
use Rattle.playout.specs.declared.call.Call.TheVariants.{FileCall, TickCall}
use Rattle.playout.specs.History.{entry}
use Rattle.recorder.specs.declared.events.ScriptEvent.TheVariants.{File}
use Rattle.recorder.specs.Files.{end_mark}
use Rattle.recorder.specs.Heads.{head_text, script_magic}
use Rattle.recorder.specs.Script.{script_text}
use Rattle.replay_check.specs.Generator.{made_events, made_file, made_heading, seed_key}
use Rattle.replay_check.proofs.MadeSofar.{Sofar, sofar-more, broken, part_of, tallies}
use Rattle.replay_check.proofs.make.make_script.Goals as goal

pub returns-in-Err-clause-makes : goal.returns-in-Err-clause-makes
returns-in-Err-clause-makes g c =
    let given = g.O.Sink.given in
    part_of c.args.seed c.args.filers 0 c.args.count (given c.args.sink.now) (given c.write_script_head.new.sink) (omega arith)
    (subst (AppendsPart (given c.args.sink.now) (given c.write_script_head.new.sink)) (sym (append-nil (head_text script_magic (made_heading c.args.filers)))) c.in-Err.ensures.given)

pub returns-in-Err-give_round-clause-makes : goal.returns-in-Err-give_round-clause-makes
returns-in-Err-give_round-clause-makes g c =
    let given = g.O.Sink.given in
    let s = c.rounds.invariant in
    let round = c.round_of-round.result in
    broken c.args.seed c.args.filers c.rounds.r c.args.count c.rounds.played (given c.args.sink.now) (given c.rounds.sink) (given c.give_round.new.sink) s.sofar.0 (File round.caller round.number round.frame)
    (omega (arith, c.rounds-test.true)) s.sofar.1 (c.round_of-round.ensures.event ∙ ap (λ (k : List ℕ). made_file k c.args.filers c.rounds.r) s.key) c.in-Err-give_round.ensures.given

pub returns-in-Err-give_round-clause-kin : goal.returns-in-Err-give_round-clause-kin
returns-in-Err-give_round-clause-kin g c = g.met.O.Sink.kin_after c.args.sink.now c.rounds.sink c.give_round.new.sink c.rounds.invariant.kin c.give_round.ensures.kin

pub rounds-preserved : goal.rounds-preserved
rounds-preserved g c =
    let given = g.O.Sink.given in
    let s = c.rounds.invariant in
    let round = c.round_of-round.result in
    let p = c.play.ensures in
    record {
      sofar = (
        s.sofar.0 ++ (entry round.caller (FileCall round.number round.frame p.reply) ∷ entry c.args.filers (TickCall p.item) ∷ []),
        sofar-more (seed_key c.args.seed) c.args.filers c.rounds.r c.rounds.played c.play.new.self (given c.args.sink.now) (given c.rounds.sink) (given c.give_round.new.sink) s.sofar.0 round.caller round.number round.frame s.sofar.1
            (c.round_of-round.ensures.event ∙ ap (λ (k : List ℕ). made_file k c.args.filers c.rounds.r) s.key) c.round_of-round.ensures.fits.in_caller c.in-Ok-give_round.ensures.given p,
      );
      key = c.round_of-round.ensures.key ∙ s.key;
      place = c.round_of-round.ensures.place;
      later = omega (arith, s.later, c.give_round.ensures.cause.later);
      kin = g.met.O.Sink.kin_after c.args.sink.now c.rounds.sink c.give_round.new.sink s.kin c.give_round.ensures.kin;
    }

pub returns-in-Ok-write_end-clause-makes : goal.returns-in-Ok-write_end-clause-makes
returns-in-Ok-write_end-clause-makes g c =
    let given = g.O.Sink.given in
    let s = c.rounds.invariant.sofar in
    let all : c.rounds.r ≡ c.args.count = omega (arith, c.rounds-test.false, c.rounds.auto.r-end) in
    let t : Sofar (seed_key c.args.seed) c.args.filers c.args.count c.rounds.played (given c.args.sink.now) (given c.rounds.sink) s.0 =
    subst (λ (n : ℕ). Sofar (seed_key c.args.seed) c.args.filers n c.rounds.played (given c.args.sink.now) (given c.rounds.sink) s.0) all s.1 in (
      Appends-trans (given c.args.sink.now) (given c.rounds.sink) (given c.write_end.new.sink) (script_text (made_heading c.args.filers) (made_events (seed_key c.args.seed) c.args.filers c.args.count)) (end_mark ∷ []) t.given c.in-Ok-write_end.ensures.given,
      tallies c.args.seed c.args.filers c.args.count c.rounds.played (given c.args.sink.now) (given c.rounds.sink) s.0 t,
    )

pub returns-clause-makes : goal.returns-clause-makes
returns-clause-makes g c =
    let given = g.O.Sink.given in
    let s = c.rounds.invariant.sofar in
    let all : c.rounds.r ≡ c.args.count = omega (arith, c.rounds-test.false, c.rounds.auto.r-end) in
    let t : Sofar (seed_key c.args.seed) c.args.filers c.args.count c.rounds.played (given c.args.sink.now) (given c.rounds.sink) s.0 =
    subst (λ (n : ℕ). Sofar (seed_key c.args.seed) c.args.filers n c.rounds.played (given c.args.sink.now) (given c.rounds.sink) s.0) all s.1 in
    AppendsPart-after (given c.args.sink.now) (given c.rounds.sink) (given c.write_end.new.sink) (script_text (made_heading c.args.filers) (made_events (seed_key c.args.seed) c.args.filers c.args.count)) (end_mark ∷ []) t.given c.in-Err-write_end.ensures.given

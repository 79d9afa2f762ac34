use Rattle.std.proofs.Common.{[], ◌∷◌, ◌++◌, refl, arith}
use Rattle.std.proofs.KnownBytes.{Appends-nil, Consumes-nil}
use Rattle.speech_files.proofs.Decoding.{decoding-more, decoding-broken}
use Rattle.speech_files.proofs.decode_command.decode_frames.Goals as goal

pub frames-init : goal.frames-init
frames-init g c =
    let left = g.I.Source.left in
    let given = g.O.Sink.given in
    record {
      sofar = (
        [],
        [],
        [],
        record {
          whole = tt;
          few = omega arith;
          counted = refl;
          spelled = tt;
          decodes = c.new-decoder.ensures;
          taken = Consumes-nil (left c.args.input.now);
          given = Appends-nil (given c.args.output.now);
        },
      );
      read = omega arith;
      written = omega arith;
      kin = g.met.O.Sink.kin_same c.args.output.now;
    }

pub frames-preserved : goal.frames-preserved
frames-preserved g c =
    let left = g.I.Source.left in
    let given = g.O.Sink.given in
    let frame = c.in-Ok-Some.frame in
    let all = rw c.in-Ok-Some.field-0-is at c.in-Ok-Some.ensures in
    let sofar = c.frames.invariant.sofar in
    let played = c.in-Ok.ensures.played in
    record {
      sofar = (
        sofar.0 ++ frame ∷ [],
        sofar.1 ++ played.0 ∷ [],
        sofar.2 ++ played.1,
        decoding-more c.frames.count c.frames.decoder c.play_frame.new.decoder (left c.args.input.now) (left c.frames.input) (left c.next_frame.new.input)
            (given c.args.output.now) (given c.frames.output) (given c.play_frame.new.output) sofar.0 sofar.1 sofar.2 frame played.0 played.1
            sofar.3 all.frame.1 all.frame.2 all.frame.0 played.2 played.3 (played.4 sofar.1 sofar.2 sofar.3.decodes) played.5,
      );
      read = omega (arith, c.frames.invariant.read, c.next_frame.ensures.later);
      written = omega (arith, c.frames.invariant.written, c.play_frame.ensures.cause.later);
      kin = g.met.O.Sink.kin_after c.args.output.now c.frames.output c.play_frame.new.output c.frames.invariant.kin c.play_frame.ensures.kin;
    }

pub returns-in-Err-clause-ran : goal.returns-in-Err-clause-ran
returns-in-Err-clause-ran g c =
    let left = g.I.Source.left in
    let given = g.O.Sink.given in
    let frame = c.in-Ok-Some.frame in
    let all = rw c.in-Ok-Some.field-0-is at c.in-Ok-Some.ensures in
    let sofar = c.frames.invariant.sofar in
    let played = c.in-Err.ensures.played in (
      sofar.0 ++ frame ∷ [],
      sofar.2 ++ played.1,
      decoding-broken c.frames.count c.frames.decoder c.play_frame.new.decoder (left c.args.input.now) (left c.frames.input) (left c.next_frame.new.input)
          (given c.args.output.now) (given c.frames.output) (given c.play_frame.new.output) sofar.0 sofar.1 sofar.2 frame played.0 played.1
          sofar.3 all.frame.1 all.frame.2 all.frame.0 played.2 played.3 (played.4 sofar.1 sofar.2 sofar.3.decodes) played.5,
    )

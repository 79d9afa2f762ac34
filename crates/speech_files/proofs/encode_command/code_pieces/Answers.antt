use Rattle.std.proofs.Common.{[], ◌∷◌, ◌++◌, refl, arith}
use Rattle.std.proofs.KnownBytes.{Appends-nil}
use Rattle.speech_files.proofs.Encoding.{CutFrom-start, ended, encoding-broken, encoding-more, refused, stopped}
use Rattle.speech_files.proofs.encode_command.code_pieces.Goals as goal

pub pieces-init : goal.pieces-init
pieces-init g c =
    let left = g.I.Source.left in
    let given = g.O.Sink.given in
    record {
      sofar = (
        [],
        [],
        [],
        [],
        record {
          whole = tt;
          few = omega arith;
          counted = refl;
          lengths = refl;
          spelled = tt;
          encodes = c.new-encoder.ensures;
          spoken = refl;
          cut = CutFrom-start (left c.args.input.now);
          given = Appends-nil (given c.args.output.now);
        },
      );
      read = omega arith;
      written = omega arith;
      kin = g.met.O.Sink.kin_same c.args.output.now;
    }

pub pieces-preserved : goal.pieces-preserved
pieces-preserved g c =
    let left = g.I.Source.left in
    let given = g.O.Sink.given in
    let all = rw c.in-Ok-Some.field-0-is at c.in-Ok-Some.ensures in
    let sofar = c.pieces.invariant.sofar in
    let coded = c.in-Ok.ensures.coded in
    record {
      sofar = (
        sofar.0 ++ all.piece.0 ∷ [],
        sofar.1 ++ coded.0 ∷ [],
        sofar.2 ++ coded.1 ∷ [],
        sofar.3 ++ c.in-Ok-Some.samples,
        encoding-more c.pieces.count c.pieces.encoder c.code_piece.new.encoder (left c.args.input.now) (left c.pieces.input) (left c.take_piece.new.source)
            (given c.args.output.now) (given c.pieces.output) (given c.code_piece.new.output) sofar.0 sofar.1 sofar.2 sofar.3 all.piece.0 coded.0 c.in-Ok-Some.samples coded.1
            sofar.4 (omega arith) all.piece.1 coded.2 coded.3 coded.4 (coded.5 sofar.3 sofar.2 sofar.4.encodes) coded.6,
      );
      read = omega (arith, c.pieces.invariant.read, c.take_piece.ensures.cause.later);
      written = omega (arith, c.pieces.invariant.written, c.code_piece.ensures.cause.later);
      kin = g.met.O.Sink.kin_after c.args.output.now c.pieces.output c.code_piece.new.output c.pieces.invariant.kin c.code_piece.ensures.kin;
    }

-- there are too many pieces
pub returns-then-count-ge-PIECE_LIMIT-clause-ran : goal.returns-then-count-ge-PIECE_LIMIT-clause-ran
returns-then-count-ge-PIECE_LIMIT-clause-ran g c =
    let left = g.I.Source.left in
    let given = g.O.Sink.given in
    let all = rw c.in-Ok-Some.field-0-is at c.in-Ok-Some.ensures in
    let sofar = c.pieces.invariant.sofar in (
      sofar.0,
      sofar.1,
      refused c.pieces.count c.pieces.encoder (left c.args.input.now) (left c.pieces.input) (given c.args.output.now) (given c.pieces.output) sofar.0 sofar.1 sofar.2 sofar.3
          sofar.4 (left c.take_piece.new.source) all.piece.0 c.in-Ok-Some.samples all.piece.1 (omega arith),
    )

pub returns-in-Err-code_piece-clause-ran : goal.returns-in-Err-code_piece-clause-ran
returns-in-Err-code_piece-clause-ran g c =
    let left = g.I.Source.left in
    let given = g.O.Sink.given in
    let all = rw c.in-Ok-Some.field-0-is at c.in-Ok-Some.ensures in
    let sofar = c.pieces.invariant.sofar in
    let coded = c.in-Err-code_piece.ensures.coded in (
      sofar.0 ++ all.piece.0 ∷ [],
      sofar.1 ++ coded.0 ∷ [],
      encoding-broken c.pieces.count c.pieces.encoder c.code_piece.new.encoder (left c.args.input.now) (left c.pieces.input) (left c.take_piece.new.source)
          (given c.args.output.now) (given c.pieces.output) (given c.code_piece.new.output) sofar.0 sofar.1 sofar.2 sofar.3 all.piece.0 coded.0 c.in-Ok-Some.samples coded.1
          sofar.4 (omega arith) all.piece.1 coded.2 coded.3 coded.4 (coded.5 sofar.3 sofar.2 sofar.4.encodes) coded.6,
    )

pub returns-in-Ok-None-clause-ran : goal.returns-in-Ok-None-clause-ran
returns-in-Ok-None-clause-ran g c =
    let left = g.I.Source.left in
    let given = g.O.Sink.given in
    let all = rw c.in-Ok-None.field-0-is at c.in-Ok-None.ensures in
    let sofar = c.pieces.invariant.sofar in (
      sofar.0,
      sofar.1,
      ended c.pieces.count c.pieces.encoder (left c.args.input.now) (left c.pieces.input) (given c.args.output.now) (given c.pieces.output) sofar.0 sofar.1 sofar.2 sofar.3
          sofar.4 (left c.take_piece.new.source) all.piece.0 all.piece.1,
    )

pub returns-in-Err-clause-ran : goal.returns-in-Err-clause-ran
returns-in-Err-clause-ran g c =
    let left = g.I.Source.left in
    let given = g.O.Sink.given in
    let sofar = c.pieces.invariant.sofar in (
      sofar.0,
      sofar.1,
      stopped c.pieces.count c.pieces.encoder (left c.args.input.now) (left c.pieces.input) (given c.args.output.now) (given c.pieces.output) sofar.0 sofar.1 sofar.2 sofar.3 sofar.4,
    )

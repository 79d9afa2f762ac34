use Rattle.std.proofs.Common.{◌≡◌, ◌+◌, [], ◌∷◌, ◌++◌, refl, ap, arith}
use Rattle.std.proofs.KnownBytes.{Appends-nil, Consumes-nil}
use Rattle.recorder.specs.Reader.{PlayProgress}
use Rattle.replay_check.specs.Journals.{plays_in}
use Rattle.replay_check.specs.Render.{items_of}
use Rattle.replay_check.proofs.Playing.{journal, playing-more, playing-broken, playing-done, playing-refused, playing-stopped, playing-breaks, playing-short}
use Rattle.replay_check.proofs.rendering.play_events.Goals as goal

pub events-init : goal.events-init
events-init g c = record {
  playing = (
    [],
    [],
    record {
      heading = c.requires.heading;
      fits = tt;
      few = omega arith;
      head = ap (λ (r : PlayProgress). r.reading.head) c.requires.read;
      over = ap (λ (r : PlayProgress). r.reading.over) c.requires.read;
      count = ap (λ (r : PlayProgress). r.reading.count) c.requires.read;
      at = ap (λ (r : PlayProgress). r.reading.at) c.requires.read;
      order = ap (λ (r : PlayProgress). r.opening) c.requires.read;
      taken = Consumes-nil (g.I.Source.left c.args.journal.now);
      voices = c.new-voice.ensures;
      counted = c.new-tally.ensures;
      given = Appends-nil (g.O.Sink.given c.args.pcm.now);
    },
  );
  read = omega arith;
  written = omega arith;
  kin = g.met.O.Sink.kin_same c.args.pcm.now;
}

pub events-smaller : goal.events-smaller
events-smaller g c =
    let s = c.events.invariant.playing.2 in
    let all = rw c.in-Ok-Some.field-0-is at c.in-Ok-Some.ensures in
    let fits = all.fits c.args.head.now s.head s.over in
    let count : c.next.new.self.reading.count ≡ c.events.reader.reading.count + 1 = ap (λ (r : PlayProgress). r.reading.count) (all.state s.over) in
    omega (arith, count, fits.1)

pub events-preserved : goal.events-preserved
events-preserved g c =
    let p = c.events.invariant.playing in
    let s = p.2 in
    let e = c.in-Ok-Some.event in
    let all = rw c.in-Ok-Some.field-0-is at c.in-Ok-Some.ensures in
    let fits = all.fits c.args.head.now s.head s.over in
    let left = g.I.Source.left in
    let given = g.O.Sink.given in
    let done = c.in-Ok.ensures.played in
    record {
      playing = (
        p.0 ++ e ∷ [],
        p.1 ++ done.0,
        playing-more c.args.seed c.args.head.now c.events.reader c.next.new.self c.events.voice c.play_event.new.voice c.events.tally c.play_event.new.tally (left c.args.journal.now) (left c.events.journal) (left c.next.new.source)
            (given c.args.pcm.now) (given c.events.pcm) (given c.play_event.new.pcm) p.0 p.1 done.0 e s fits.0 fits.1 (all.text s.over) (done.1 c.args.seed (items_of p.0) p.1 s.voices)
            (all.state s.over) (c.in-Ok.ensures.counted (plays_in p.0) s.counted) done.2,
      );
      read = omega (arith, c.events.invariant.read, c.next.ensures.later);
      written = omega (arith, c.events.invariant.written, c.play_event.ensures.cause.later);
      kin = g.met.O.Sink.kin_after c.args.pcm.now c.events.pcm c.play_event.new.pcm c.events.invariant.kin c.play_event.ensures.kin;
    }

pub returns-in-Err-clause-played : goal.returns-in-Err-clause-played
returns-in-Err-clause-played g c =
    let p = c.events.invariant.playing in
    let s = p.2 in
    let e = c.in-Ok-Some.event in
    let all = rw c.in-Ok-Some.field-0-is at c.in-Ok-Some.ensures in
    let fits = all.fits c.args.head.now s.head s.over in
    let left = g.I.Source.left in
    let given = g.O.Sink.given in
    let done = c.in-Err.ensures.played in (
      journal c.args.head.now (p.0 ++ e ∷ []),
      p.1 ++ done.0,
      refl,
      playing-broken c.args.seed c.args.head.now c.events.reader c.next.new.self c.events.voice c.play_event.new.voice c.events.tally c.play_event.new.tally (left c.args.journal.now) (left c.events.journal) (left c.next.new.source)
          (given c.args.pcm.now) (given c.events.pcm) (given c.play_event.new.pcm) p.0 p.1 done.0 e s fits.0 fits.1 (all.text s.over) (done.1 c.args.seed (items_of p.0) p.1 s.voices) done.2,
    )

pub returns-in-Err-clause-kin : goal.returns-in-Err-clause-kin
returns-in-Err-clause-kin g c = g.met.O.Sink.kin_after c.args.pcm.now c.events.pcm c.play_event.new.pcm c.events.invariant.kin c.play_event.ensures.kin

pub returns-in-Ok-None-clause-played : goal.returns-in-Ok-None-clause-played
returns-in-Ok-None-clause-played g c =
    let p = c.events.invariant.playing in
    let s = p.2 in
    let all = rw c.in-Ok-None.field-0-is at c.in-Ok-None.ensures in
    (journal c.args.head.now p.0, p.1, refl, playing-done c.args.seed c.args.head.now c.events.reader c.events.voice c.events.tally _ _ _ _ p.0 p.1 s (g.I.Source.left c.next.new.source) (all.text s.over))

pub returns-in-Err-Fault-clause-played : goal.returns-in-Err-Fault-clause-played
returns-in-Err-Fault-clause-played g c =
    let p = c.events.invariant.playing in
    let s = p.2 in
    let all = rw c.in-Err-Fault.field-0-is at c.in-Err-Fault.ensures in (
      journal c.args.head.now p.0,
      p.1,
      refl,
      rw c.in-Err-Fault.fault-is (playing-refused c.args.seed c.args.head.now c.events.reader c.events.voice c.events.tally (g.I.Source.left c.args.journal.now) (g.I.Source.left c.events.journal) (g.O.Sink.given c.args.pcm.now) (g.O.Sink.given c.events.pcm)
          p.0 p.1 s c.in-Err-Fault.fault (all.fault c.args.head.now s.head s.over)),
    )

pub returns-in-Err-ReadFailed-clause-played : goal.returns-in-Err-ReadFailed-clause-played
returns-in-Err-ReadFailed-clause-played g c =
    let p = c.events.invariant.playing in
    (journal c.args.head.now p.0, p.1, refl, playing-stopped c.args.seed c.args.head.now c.events.reader c.events.voice c.events.tally _ _ _ _ p.0 p.1 p.2)

pub returns-in-Err-clause-stops : goal.returns-in-Err-clause-stops
returns-in-Err-clause-stops g c =
    let p = c.events.invariant.playing in
    let s = p.2 in
    let e = c.in-Ok-Some.event in
    let all = rw c.in-Ok-Some.field-0-is at c.in-Ok-Some.ensures in
    let fits = all.fits c.args.head.now s.head s.over in
    let left = g.I.Source.left in
    let given = g.O.Sink.given in
    let done = c.in-Err.ensures.played in (
      journal c.args.head.now p.0,
      e,
      refl,
      playing-breaks c.args.seed c.args.head.now c.events.reader c.next.new.self c.events.voice c.play_event.new.voice c.events.tally c.play_event.new.tally (left c.args.journal.now) (left c.events.journal) (left c.next.new.source)
          (given c.args.pcm.now) (given c.events.pcm) (given c.play_event.new.pcm) p.0 p.1 done.0 e s fits.0 fits.1 (all.text s.over) (done.1 c.args.seed (items_of p.0) p.1 s.voices) done.2,
    )

pub returns-in-Err-Fault-clause-stops : goal.returns-in-Err-Fault-clause-stops
returns-in-Err-Fault-clause-stops g c =
    let p = c.events.invariant.playing in
    let all = rw c.in-Err-Fault.field-0-is at c.in-Err-Fault.ensures in
    (journal c.args.head.now p.0, refl, playing-short c.args.seed c.args.head.now c.events.reader c.events.voice c.events.tally _ _ _ _ p.0 p.1 p.2 (g.I.Source.left c.next.new.source) all.part)

pub returns-in-Err-ReadFailed-clause-stops : goal.returns-in-Err-ReadFailed-clause-stops
returns-in-Err-ReadFailed-clause-stops g c =
    let p = c.events.invariant.playing in
    let all = rw c.in-Err-ReadFailed.field-0-is at c.in-Err-ReadFailed.ensures in
    (journal c.args.head.now p.0, refl, playing-short c.args.seed c.args.head.now c.events.reader c.events.voice c.events.tally _ _ _ _ p.0 p.1 p.2 (g.I.Source.left c.next.new.source) all.part)

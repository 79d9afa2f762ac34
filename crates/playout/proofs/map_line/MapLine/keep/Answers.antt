use Rattle.std.proofs.Common.{◌≡◌, ◌^◌, cond, is_ok, ap, ◌∙◌, arith}
use Rattle.std.specs.List.{insert}
use Rattle.std.specs.FinMap as map
use Rattle.std.proofs.lemmas.List.Edits.{length-insert}
use Rattle.playout.specs.declared.reply.FileReply.TheVariants.{Accepted}
use Rattle.playout.specs.Machine.{Frames, FileReplies}
use Rattle.playout.specs.Line.{Line}
use Rattle.playout.specs.Inside.{line_of}
use Rattle.playout.specs.Pairs.{frames_in, IsGapFor, IsAt}
use Rattle.playout.proofs.Looked.{map_insert, in_place}
use Rattle.playout.proofs.Fits.{few, rises_insert, window_insert}
use Rattle.playout.proofs.OneReply.{both}
use Rattle.playout.proofs.map_line.MapLine.keep.Goals as goal

pub unwrap-requires : goal.unwrap-requires
unwrap-requires c =
    let a = c.self.inside in
    let n = c.args.number in
    let free : FileReplies (2 ^ a.g) (line_of a).machine n Accepted = rw (← c.self.view_is) at c.requires in
    let gap : IsGapFor a.pairs.items n c.in-Err.at = rw c.deref.ensures.value at c.in-Err.ensures.absent in
    let rises = rises_insert a.pairs.items n c.args.frame.now c.in-Err.at gap c.self.invariant.rises in
    let window = window_insert a.pairs.items n c.args.frame.now c.in-Err.at gap (2 ^ a.g) a.position c.self.invariant.window free.0 free.1 in
    let fits = few (2 ^ a.g) a.position (insert a.pairs.items c.in-Err.at (n, c.args.frame.now)) rises window in
    let longer = length-insert a.pairs.items c.in-Err.at (n, c.args.frame.now) gap.in_range in
    c.insert.ensures.succeeds (omega (arith, fits, longer, a.pairs.ok.0, c.self.invariant.room))

pub invariant_of-self : goal.invariant_of-self
invariant_of-self c =
    let a = c.self.inside in
    let n = c.args.number in
    let f = c.args.frame.now in
    let at = c.in-Err.at in
    let free : FileReplies (2 ^ a.g) (line_of a).machine n Accepted = rw (← c.self.view_is) at c.requires in
    let gap : IsGapFor a.pairs.items n at = rw c.deref.ensures.value at c.in-Err.ensures.absent in
    let items : c.insert.new.self.items ≡ insert a.pairs.items at (n, f) = c.insert.ensures.items ∙ ap (λ r. cond (is_ok r) (insert a.pairs.items at (n, f)) a.pairs.items) c.unwrap.ensures in
    record {
      g = c.self.invariant.g;
      started = c.self.invariant.started;
      position = c.self.invariant.position;
      rises = rw items (rises_insert a.pairs.items n f at gap c.self.invariant.rises);
      window = rw items (window_insert a.pairs.items n f at gap (2 ^ a.g) a.position c.self.invariant.window free.0 free.1);
      room = omega (arith, c.insert.ensures.capacity, c.self.invariant.room);
    }

pub returns-in-Err : goal.returns-in-Err
returns-in-Err c =
    let a = c.self.inside in
    let n = c.args.number in
    let f = c.args.frame.now in
    let at = c.in-Err.at in
    let gap : IsGapFor a.pairs.items n at = rw c.deref.ensures.value at c.in-Err.ensures.absent in
    let items : c.insert.new.self.items ≡ insert a.pairs.items at (n, f) = c.insert.ensures.items ∙ ap (λ r. cond (is_ok r) (insert a.pairs.items at (n, f)) a.pairs.items) c.unwrap.ensures in
    let is : frames_in c.insert.new.self.items ≡ map.insert (frames_in a.pairs.items) n f = ap frames_in items ∙ map_insert a.pairs.items n f at gap in
    let made : Frames → Line = λ h. record { filers = a.filers; g = a.g; machine = record { source = a.source; base = a.base; position = a.position; frames = h } } in
    rw (← c.self.view_is) (ap made is)

pub returns-in_default : goal.returns-in_default
returns-in_default c =
    let a = c.self.inside in
    let n = c.args.number in
    let free : FileReplies (2 ^ a.g) (line_of a).machine n Accepted = rw (← c.self.view_is) at c.requires in
    let is_at : IsAt a.pairs.items n c.in_default.field-0 = rw c.deref.ensures.value at c.in_default.ensures.found in
    absurd (both (map.get (frames_in a.pairs.items) n) free.2 (in_place a.pairs.items n c.in_default.field-0 is_at))

use Rattle.std.proofs.Common.{◌≡◌, ℕ, ◌+◌, ◌*◌, List, length, take, None, Some, ap, ◌∙◌, arith}
use Rattle.std.proofs.lemmas.List.{length-take-le, take_all}
use Rattle.recorder.specs.declared.fault.RecordFault.TheVariants.{Cut, Field}
use Rattle.recorder.specs.PieceLaws.{told}
use Rattle.speech_files.specs.Decode.{frame_fault}
use Rattle.speech_files.proofs.FrameFaults.{frame-clear, frame-cut, frame-unsigned}
use Rattle.speech_files.proofs.decode_command.next_frame.Goals as goal

pub returns-then-taken-lt33-clause-fault : goal.returns-then-taken-lt33-clause-fault
returns-then-taken-lt33-clause-fault g c =
    let piece = c.fill.new.into in
    let n = c.in-Ok.taken in
    let len : length piece ≡ 33 = c.fill.auto.into in
    let count = c.args.count in
    let there : length (take n piece) ≡ n = length-take-le n piece (omega (arith, len, c.in-Ok.ensures.within.0)) in
    let cut : frame_fault count (take n piece) ≡ Some (Cut (33 * count + n)) =
    frame-cut count (take n piece) (omega arith) (omega arith) (omega arith) ∙ ap (λ (m : ℕ). Some (Cut (33 * count + m))) there in
    told (g.I.Source.left c.args.input.now) (g.I.Source.left c.fill.new.source) n 33 piece
    (λ (l : List ℕ). frame_fault count l ≡ Some (Cut (33 * count + n)))
    (omega (arith, len, c.in-Ok.ensures.within.0)) len c.in-Ok.ensures.filled.0 (λ lt. c.in-Ok.ensures.filled.1 (omega (arith, len))) cut

pub returns-in-Ok-frame_of-clause-fault : goal.returns-in-Ok-frame_of-clause-fault
returns-in-Ok-frame_of-clause-fault g c =
    let piece = c.fill.new.into in
    let n = c.in-Ok.taken in
    let len : length piece ≡ 33 = c.fill.auto.into in
    let count = c.args.count in
    let all : take n piece ≡ piece = take_all n piece (omega (arith, len)) in
    let clear : frame_fault count piece ≡ None = frame-clear count piece (omega arith) len c.in-Ok-frame_of.ensures.signature.0 in
    told (g.I.Source.left c.args.input.now) (g.I.Source.left c.fill.new.source) n 33 piece
    (λ (l : List ℕ). frame_fault count l ≡ None)
    (omega (arith, len, c.in-Ok.ensures.within.0)) len c.in-Ok.ensures.filled.0 (λ lt. c.in-Ok.ensures.filled.1 (omega (arith, len))) (ap (frame_fault count) all ∙ clear)

pub returns-in-Err-frame_of-clause-fault : goal.returns-in-Err-frame_of-clause-fault
returns-in-Err-frame_of-clause-fault g c =
    let piece = c.fill.new.into in
    let n = c.in-Ok.taken in
    let len : length piece ≡ 33 = c.fill.auto.into in
    let count = c.args.count in
    let all : take n piece ≡ piece = take_all n piece (omega (arith, len)) in
    let unsigned : frame_fault count piece ≡ Some (Field (33 * count)) = frame-unsigned count piece (omega arith) len c.in-Err-frame_of.ensures.signature in
    told (g.I.Source.left c.args.input.now) (g.I.Source.left c.fill.new.source) n 33 piece
    (λ (l : List ℕ). frame_fault count l ≡ Some (Field (33 * count)))
    (omega (arith, len, c.in-Ok.ensures.within.0)) len c.in-Ok.ensures.filled.0 (λ lt. c.in-Ok.ensures.filled.1 (omega (arith, len))) (ap (frame_fault count) all ∙ unsigned)

use Rattle.std.proofs.Common.{◌≡◌, ℕ, List, slice_index, take, drop, ap, ◌∙◌, arith}
use Rattle.byteorder.specs.Endian.{big_number}
use Rattle.recorder.specs.declared.events.ScriptEvent.TheVariants.{File}
use Rattle.recorder.specs.Script.{event_text}
use Rattle.recorder.proofs.Spelled.{file_spelled}
use Rattle.recorder.proofs.fields.file_event.Goals as goal

pub returns-in-Ok-clause-event : goal.returns-in-Ok-clause-event
returns-in-Ok-clause-event c =
    let fields = c.args.fields.now in
    let spelled = file_spelled fields (omega arith) (λ i. omega (arith, c.type_inv.fields i)) in
    let number : c.read_u64-number.result ≡ big_number 8 (take 8 (drop 1 fields)) = c.read_u64-number.ensures in
    let frame : c.in-Ok.frame ≡ take 33 (drop 9 fields) = c.in-Ok.ensures.frame.0 in
    ap (λ (n : ℕ). event_text (File (slice_index fields 0) n c.in-Ok.frame)) number ∙ ap (λ (f : List ℕ). event_text (File (slice_index fields 0) (big_number 8 (take 8 (drop 1 fields))) f)) frame ∙ spelled

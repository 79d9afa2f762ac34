-- From the loop over the frames to the whole command.
use Rattle.std.proofs.Common.{◌≡◌, ℕ, ◌≤◌, List, length, take, Option, Some, Ok, inr, sym, subst, arith}
use Rattle.std.specs.Prelude.{ℤ, IfSome}
use Rattle.std.specs.List.{AllByRecursion}
use Rattle.frame_codec.specs.Octets.{IsFrame}
use Rattle.gate_io.specs.Flow.{AppendsPart}
use Rattle.gate_notes.specs.declared.status.Status.TheVariants.{Input, WriteFault}
use Rattle.speech_files.specs.Decode.{BeginsWith, Ends, coded, frame_fault, frame_limit}
use Rattle.speech_files.specs.DecodeRuns.{HasDecoded}
use Rattle.gate_notes.specs.Exchange.{Exchange}
use Rattle.gate_notes.specs.Notes.{frames_line}
use Rattle.speech_files.proofs.Decoding.{no-frame-fault}

-- the frames were not noted whole
pub cut : (x : Exchange) (frames : List (List ℕ)) (samples : List ℤ) (n : ℕ) → HasDecoded (Ok n) x.input x.output x.output_now frames samples → AppendsPart x.notes x.notes_now (frames_line n) → Ends WriteFault x
cut x frames samples n ran noted = (
  frames,
  samples,
  ran.decoded,
  inr (ran.text, ran.given, subst (λ (k : ℕ). AppendsPart x.notes x.notes_now (frames_line k)) ran.counted noted),
)

-- whole frames are not refused
pub not_refused : (x : Exchange) (frames : List (List ℕ)) → Ends Input x → x.input ≡ Some (coded frames) → AllByRecursion IsFrame frames → length frames ≤ frame_limit → ⊥
not_refused x frames (f, before, samples, decoded, text, given, noted) told whole few =
    let P : Option (List ℕ) → Type 0 = λ o. IfSome o (BeginsWith before (λ rest. frame_fault (length before) (take 33 rest) ≡ Some f)) in
    let begun = subst P told text in
    no-frame-fault 0 before frames begun.0 f decoded.whole whole (omega (arith, few)) (sym begun.1) (subst (λ (n : ℕ). frame_fault n (take 33 begun.0) ≡ Some f) (omega arith) begun.2)

-- From the loop over the pieces to the whole command.
use Rattle.std.proofs.Common.{◌≡◌, ◌≢◌, ℕ, ◌*◌, ◌≤◌, List, [], length, Option, Some, Ok, inr, subst, arith}
use Rattle.std.specs.Prelude.{IfSome}
use Rattle.gate_io.specs.Flow.{AppendsPart}
use Rattle.speech_files.specs.Decode.{frame_limit}
use Rattle.speech_files.specs.Encode.{Begins, Ends}
use Rattle.speech_files.specs.EncodeRuns.{HasEncoded}
use Rattle.gate_notes.specs.Exchange.{Exchange}
use Rattle.gate_notes.specs.Notes.{frames_line}
use Rattle.gate_notes.specs.declared.status.Status.TheVariants.{Input, WriteFault}
use Rattle.speech_files.proofs.Encoding.{long}

-- the frames were not noted whole
pub cut : (x : Exchange) (pieces frames : List (List ℕ)) (n : ℕ) → HasEncoded (Ok n) x.input x.output x.output_now pieces frames → AppendsPart x.notes x.notes_now (frames_line n) → Ends WriteFault x
cut x pieces frames n ran noted = (
  pieces,
  frames,
  ran.encoded,
  inr (ran.text, ran.given, subst (λ (k : ℕ). AppendsPart x.notes x.notes_now (frames_line k)) ran.counted noted),
)

-- an input that is not too long is not refused
pub not_refused : (x : Exchange) (octets : List ℕ) → Ends Input x → x.input ≡ Some octets → length octets ≤ 320 * frame_limit → ⊥
not_refused x octets (pieces, frames, encoded, limit, text, given, noted) told short =
    let begun = subst (λ (o : Option (List ℕ)). IfSome o (Begins pieces (λ rest. rest ≢ []))) told text in
    absurd (omega (arith, long octets pieces begun.0 begun.1 begun.2, limit))

-- The fault that stands at a frame's place.
use Rattle.std.proofs.Common.{◌≡◌, ℕ, ◌+◌, ◌*◌, ◌/◌, ◌<◌, List, [], ◌∷◌, length, slice_index, Some, None, refl, arith}
use Rattle.std.proofs.lemmas.Bool.Decides.{nat_tests}
use Rattle.recorder.specs.declared.fault.RecordFault.TheVariants.{Cut, Field}
use Rattle.speech_files.specs.Decode.{frame_fault, frame_limit}

pub frame-clear : (count : ℕ) (octets : List ℕ) → count < frame_limit → length octets ≡ 33 → slice_index octets 0 / 16 ≡ 13 → frame_fault count octets ≡ None
frame-clear count [] few size signature = refl
frame-clear count (x ∷ xs) few size signature = grind (arith, nat_tests)

pub frame-cut : (count : ℕ) (octets : List ℕ) → count < frame_limit → 0 < length octets → length octets < 33 → frame_fault count octets ≡ Some (Cut (33 * count + length octets))
frame-cut count [] few some short = absurd (omega arith)
frame-cut count (x ∷ xs) few some short = grind (arith, nat_tests)

pub frame-unsigned : (count : ℕ) (octets : List ℕ) → count < frame_limit → length octets ≡ 33 → (slice_index octets 0 / 16 ≡ 13 → ⊥) → frame_fault count octets ≡ Some (Field (33 * count))
frame-unsigned count [] few size other = absurd (omega arith)
frame-unsigned count (x ∷ xs) few size other = grind (arith, nat_tests)

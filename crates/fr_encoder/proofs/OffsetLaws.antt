-- The parts of a long word.
use Rattle.std.proofs.Common.{◌≡◌, ◌^◌, ◌≤◌, ℤ, pos, negsuc, ◌-ℤ◌, ◌*ℤ◌, ◌≤ℤ◌, arith, refl, FitsSigned, w16, w32}
use Rattle.std.specs.Prelude.{unsigned_abs}
use Rattle.std.specs.Int.{int_shr}
use Rattle.std.proofs.lemmas.Int.{ints}
use Rattle.fr_encoder.specs.Preprocessing.{Offset, offset_word, kept_long, middle_long, next_offset}

abbrev pub offset : ℤ → ℤ → ℤ → Offset
offset so z mp = record { so = so; z = z; mp = mp }

pub high_small : (z : ℤ) → FitsSigned w32 z → unsigned_abs (int_shr z 15) ≤ 2 ^ 16
high_small (pos a) fits = omega arith
high_small (negsuc a) fits = omega arith

low_from : (z : ℤ) → pos 0 ≤ℤ (z -ℤ int_shr z 15 *ℤ pos 32768)
low_from (pos a) = omega (arith, ints)
low_from (negsuc a) = omega (arith, ints)

low_to : (z : ℤ) → (z -ℤ int_shr z 15 *ℤ pos 32768) ≤ℤ pos 32767
low_to (pos a) = omega (arith, ints)
low_to (negsuc a) = omega (arith, ints)

pub low_fits : (z : ℤ) → FitsSigned w16 (z -ℤ int_shr z 15 *ℤ pos 32768)
low_fits z = omega (arith, ints, low_from z, low_to z)

pub whole_fits : (z : ℤ) → FitsSigned w32 z → FitsSigned w32 (int_shr z 15 *ℤ pos 32768)
whole_fits (pos a) fits = omega (arith, ints)
whole_fits (negsuc a) fits = omega (arith, ints)

pub next_is : (o : Offset) (x so z mp : ℤ) → so ≡ offset_word x → z ≡ kept_long o.z (so -ℤ o.so) → mp ≡ middle_long z → offset so z mp ≡ next_offset o x
unfolding next_offset
next_is o x so z mp so_is z_is mp_is = rw (mp_is, z_is, so_is) refl

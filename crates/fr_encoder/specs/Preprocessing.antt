-- Downscaling, offset compensation and preemphasis of samples: GSM 06.10 sections 5.2.1 to 5.2.3.
use Rattle.std.specs.Prelude.{ℕ, zero, suc, ◌+◌, ℤ, pos, negsuc, ◌+ℤ◌, ◌-ℤ◌, ◌*ℤ◌, List}
use Rattle.std.specs.Int.{int_shr}
use Rattle.fixed_arith.specs.Word.{clip_word, add_longs, mult_r_words}
use Rattle.fixed_arith.specs.Signal.{at}

-- a sample without its three lowest bits, halved (so)
unfoldable pub offset_word : ℤ → ℤ
offset_word x = int_shr x 3 *ℤ pos 4

-- the long word that is kept, from the one before and the difference of two such samples: the high part of the one before and what is left of it
-- are each scaled by 32735 / 32768 (z2)
unfoldable pub kept_long : ℤ → ℤ → ℤ
kept_long z s = add_longs (int_shr z 15 *ℤ pos 32735) (s *ℤ pos 32768 +ℤ mult_r_words (z -ℤ int_shr z 15 *ℤ pos 32768) (pos 32735))

-- the long word over 2 ^ 15, rounded to the nearest (mp)
unfoldable pub middle_long : ℤ → ℤ
middle_long z = int_shr (add_longs z (pos 16384)) 15

-- a value less 28180 / 32768 of the one before, rounded and limited (s)
unfoldable pub emphasised : ℤ → ℤ → ℤ
emphasised mp before = clip_word (mp +ℤ int_shr (before *ℤ negsuc 28179 +ℤ pos 16384) 15)

-- the values at the last sample
pub record Offset : Type 0 where
  pub so : ℤ
  pub z : ℤ
  pub mp : ℤ

-- the values before any sample
abbrev pub at_rest : Offset
at_rest = record { so = pos 0; z = pos 0; mp = pos 0 }

-- what a sample makes of them
unfoldable pub next_offset : Offset → ℤ → Offset
next_offset o x = record { so = offset_word x; z = kept_long o.z (offset_word x -ℤ o.so); mp = middle_long (kept_long o.z (offset_word x -ℤ o.so)) }

-- the values after the first n of the samples
unfoldable pub offset_after : Offset → List ℤ → ℕ → Offset
offset_after before xs zero = before
offset_after before xs (suc n) = next_offset (offset_after before xs n) (at xs n)

-- the k-th sample, preprocessed
unfoldable pub preprocessed : Offset → List ℤ → ℕ → ℤ
preprocessed before xs k = emphasised (offset_after before xs (k + 1)).mp (offset_after before xs k).mp

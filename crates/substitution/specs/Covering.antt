-- What is decoded where a frame is lost: substitution and muting in a profile of GSM 06.11 (ETS 300 962).
use Rattle.std.specs.Prelude.{ℕ, ◌+◌, ◌-◌, ◌*◌, ◌/◌, ◌%◌, ◌^◌, ◌==◌, nat_lt, Bool, true, false, not, List, [], ◌∷◌, replicate, Option, Some, None, if◌then◌else◌}
use Rattle.frame_codec.specs.declared.params.SubParams.{SubParams}
use Rattle.frame_codec.specs.Frame.{Fields}
use Rattle.rand_chacha.specs.ChaCha.{ChaCha, word_at, key_of}

-- the fields of the silence frame of this profile
abbrev pub silence_frame : Fields
silence_frame = record {
  larc = 42 ∷ 39 ∷ 21 ∷ 10 ∷ 9 ∷ 4 ∷ 3 ∷ 2 ∷ [];
  sub = replicate 4 (record { nc = 40; bc = 0; mc = 0; xmaxc = 0; xmc = 4 ∷ 3 ∷ 4 ∷ 3 ∷ 4 ∷ 3 ∷ 4 ∷ 3 ∷ 4 ∷ 3 ∷ 4 ∷ 3 ∷ 4 ∷ [] });
}

-- the level of a sub-frame at the k-th erasure of a run: 4 lower at each from the second on, and never below 0
abbrev pub level : ℕ → SubParams → ℕ
level k part = part.xmaxc - 4 * (k - 1)

-- each level has come down to 0
abbrev pub are_silent : ℕ → List SubParams → Bool
are_silent k [] = true
are_silent k (part ∷ parts) = if level k part == 0 then are_silent k parts else false

-- the sub-frames from the j-th on with these levels, and with grid positions of two bits each from the random word, the lowest bits first
abbrev pub muted_parts : ℕ → ℕ → ℕ → List SubParams → List SubParams
muted_parts k word j [] = []
muted_parts k word j (part ∷ parts) = record part { mc = word / 2 ^ (2 * j) % 4; xmaxc = level k part } ∷ muted_parts k word (j + 1) parts

-- the last frame, muted for the k-th erasure of a run
abbrev pub muted : ℕ → ℕ → Fields → Fields
muted k word g = record g { sub = muted_parts k word 0 g.sub }

-- the k-th erasure since the last frame is muted: it is not the first, and a level is left
abbrev pub is_muted : Option Fields → ℕ → Bool
is_muted None k = false
is_muted (Some g) k = if nat_lt 1 k then not (are_silent k g.sub) else false

-- what is decoded at the k-th erasure since the last frame, where this is the next random word
abbrev pub covered : Option Fields → ℕ → ℕ → Fields
covered None k word = silence_frame
covered (Some g) k word = if nat_lt 1 k then (if are_silent k g.sub then silence_frame else muted k word g) else g

-- the random word at a place: of ChaCha8 with the seed as key, stream 0, which repeats after 2 ^ 68 words
abbrev pub random_word : List ℕ → ℕ → ℕ
random_word seed place = word_at 4 (key_of seed) 0 (place % 2 ^ 68)

-- the generator of the seed where this many words were used
abbrev pub generator_at : List ℕ → ℕ → ChaCha
generator_at seed place = record { key = key_of seed; stream = 0; word_pos = place % 2 ^ 68 }

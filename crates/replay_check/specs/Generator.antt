-- The generator: a script of frames and ticks from random words.
use Rattle.std.specs.Prelude.{ℕ, zero, suc, ◌+◌, ◌-◌, ◌*◌, ◌/◌, ◌%◌, ◌^◌, ◌==◌, List, [], ◌∷◌, ◌++◌, replicate, if◌then◌else◌}
use Rattle.byteorder.specs.Endian.{little_bytes}
use Rattle.rand_chacha.specs.ChaCha.{word_at, key_of}
use Rattle.playout.specs.Machine.{start}
use Rattle.recorder.specs.declared.events.ScriptEvent.{ScriptEvent}
use Rattle.recorder.specs.declared.events.ScriptEvent.TheVariants.{Tick, File}
use Rattle.recorder.specs.Files.{end_mark}
use Rattle.recorder.specs.Heads.{Heading}
use Rattle.recorder.specs.Script.{script_text}

-- the key: the seed in eight octets, the lowest first, and 24 zeros
abbrev pub seed_key : ℕ → List ℕ
seed_key seed = key_of (little_bytes 8 seed ++ replicate 24 0)

-- the random word at a place, of ChaCha8 with this key
abbrev pub random_word : List ℕ → ℕ → ℕ
random_word key place = word_at 4 key 0 place

-- this many words from a place on, each in four octets, the lowest first
abbrev pub words_text : List ℕ → ℕ → ℕ → List ℕ
words_text key place zero = []
words_text key place (suc n) = little_bytes 4 (random_word key place) ++ words_text key (place + 1) n

-- The number of a round's frame, by the round's first word: one in 16 is too early for the window of 64 numbers, one
-- in 16 is too late, and the others are up to seven ahead.
abbrev pub made_number : ℕ → ℕ → ℕ
made_number r w =
    if w / 2 ^ 16 % 16 == 0 then start + r + 69
    else if w / 2 ^ 16 % 16 == 1 then start + r - 1
    else start + r + w / 2 ^ 8 % 8

-- The File of a round, which takes nine words: the first gives the caller, the number and the frame's first octet,
-- the others the frame's other octets.
abbrev pub made_file : List ℕ → ℕ → ℕ → ScriptEvent
made_file key filers r =
    let w = random_word key (9 * r) in
    File (w % filers) (made_number r w) ((208 + w / 2 ^ 28) ∷ words_text key (9 * r + 1) 8)

-- this many rounds, each a File and a Tick
abbrev pub made_events : List ℕ → ℕ → ℕ → List ScriptEvent
made_events key filers zero = []
made_events key filers (suc n) = made_events key filers n ++ (made_file key filers n ∷ Tick ∷ [])

-- a line of 64 slots and delay 3
abbrev pub made_heading : ℕ → Heading
made_heading filers = record { filers = filers; g = 6; delay = 3 }

-- the generator's script
abbrev pub made_script : ℕ → ℕ → ℕ → List ℕ
made_script seed count filers = script_text (made_heading filers) (made_events (seed_key seed) filers count) ++ end_mark ∷ []

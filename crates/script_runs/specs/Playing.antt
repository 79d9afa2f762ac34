-- What the output has of the player's calls: its journal, or with a seed the speech that is heard of them.
use Rattle.std.specs.Prelude.{ℕ, ◌≡◌, ℤ, List, [], ◌∷◌, ◌++◌, Option, Some, None}
use Rattle.std.specs.List.{flat_map}
use Rattle.frame_codec.specs.declared.item.Item.{Item}
use Rattle.playout.specs.declared.call.Call.{Call}
use Rattle.substitution.specs.Heard.{IsHeardPcm, Voices, sample_octets}
use Rattle.recorder.specs.Files.{end_mark}
use Rattle.recorder.specs.Heads.{Heading, head_text, play_magic}
use Rattle.recorder.specs.Play.{play_front}
use Rattle.recorder.specs.Tallies.{call_items}
use Rattle.script_runs.specs.declared.playback.Playback.{Playback}
use Rattle.script_runs.specs.declared.playback.Playback.TheVariants.{Journal, Pcm}

-- The text is what the output has of the player's calls, but for its end: the head and the events of its journal,
-- or heard PCM of what its beats play, where a seed is given.
abbrev pub IsPlayed : Option (List ℕ) → Heading → List Call → List ℕ → Type 0
IsPlayed None h calls text = text ≡ play_front h calls
IsPlayed (Some seed) h calls text = IsHeardPcm seed (flat_map call_items calls) text

-- what ends the output
abbrev pub ending : Option (List ℕ) → List ℕ
ending None = end_mark ∷ []
ending (Some seed) = []

-- ---- a playback, which makes that text piece by piece

-- what a playback gives before the first call, and after the last
abbrev pub front_text : Playback → Heading → List ℕ
front_text Journal h = head_text play_magic h
front_text (Pcm voice) h = []

abbrev pub end_text : Playback → List ℕ
end_text Journal = end_mark ∷ []
end_text (Pcm voice) = []

-- a playback stands after the events of a journal and the items of the same calls, of which the output has this text
abbrev pub Stands : Option (List ℕ) → List ℕ → List Item → List ℕ → Playback → Type 0
Stands None journal items text Journal = text ≡ journal
Stands None journal items text (Pcm voice) = ⊥
Stands (Some seed) journal items text Journal = ⊥
Stands (Some seed) journal items text (Pcm voice) = (samples : List ℤ) × Voices seed items samples voice × (text ≡ sample_octets samples)

-- a playback has gone on by these events and items, which gave this text
abbrev pub GoesOn : List ℕ → List Item → Playback → Playback → List ℕ → Type 0
GoesOn journal items before after text =
    (voice : Option (List ℕ)) (j : List ℕ) (is : List Item) (t : List ℕ) → Stands voice j is t before → Stands voice (j ++ journal) (is ++ items) (t ++ text) after

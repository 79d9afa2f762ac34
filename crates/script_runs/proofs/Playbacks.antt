-- Playbacks that go on.
use Rattle.std.proofs.Common.{◌≡◌, ℕ, List, [], ◌∷◌, ◌++◌, Option, Some, None, Ok, Err, refl, sym, ap, subst, ◌∙◌, append_assoc, append-nil}
use Rattle.std.specs.Prelude.{ℤ, Result}
use Rattle.std.specs.Int.{w16, cast_unsigned}
use Rattle.std.proofs.KnownBytes.{Appends-nil}
use Rattle.std.proofs.lemmas.List.Concat.{flat_map-append}
use Rattle.byteorder.specs.Endian.{little_bytes}
use Rattle.frame_codec.specs.declared.item.Item.{Item}
use Rattle.playout.specs.declared.call.Call.{Call}
use Rattle.playout.specs.History.{Entry, calls_of}
use Rattle.gate_io.specs.Flow.{Gives}
use Rattle.substitution.specs.Heard.{Sounding, Voices, sample_octets}
use Rattle.recorder.specs.Heads.{Heading, head_text, play_magic}
use Rattle.recorder.specs.Play.{call_text}
use Rattle.recorder.specs.Tallies.{call_items}
use Rattle.std.specs.List.{flat_map}
use Rattle.script_runs.specs.Calls.{made_by}
use Rattle.script_runs.specs.declared.playback.Playback.{Playback}
use Rattle.script_runs.specs.declared.playback.Playback.TheVariants.{Journal, Pcm}
use Rattle.script_runs.proofs.Events.{calls_of-own}
use Rattle.script_runs.specs.Playing.{GoesOn, IsPlayed, Stands, end_text, ending, front_text}

-- the same of equal parts
pub moved : (voice : Option (List ℕ)) (j j' : List ℕ) (is is' : List Item) (t t' : List ℕ) (p : Playback) → j ≡ j' → is ≡ is' → t ≡ t' → Stands voice j is t p → Stands voice j' is' t' p
moved voice j j' is is' t t' p a b c s = subst (λ (l : List ℕ). Stands voice l is' t' p) a (subst (λ (l : List Item). Stands voice j l t' p) b (subst (λ (l : List ℕ). Stands voice j is l p) c s))

-- nothing was done
pub GoesOn-none : (p : Playback) → GoesOn [] [] p p []
GoesOn-none p = λ voice j is t s. moved voice j (j ++ []) is (is ++ []) t (t ++ []) p (sym (append-nil j)) (sym (append-nil is)) (sym (append-nil t)) s

-- one step behind another
pub GoesOn-after : (j1 j2 : List ℕ) (i1 i2 : List Item) (a b c : Playback) (t1 t2 : List ℕ) → GoesOn j1 i1 a b t1 → GoesOn j2 i2 b c t2 → GoesOn (j1 ++ j2) (i1 ++ i2) a c (t1 ++ t2)
GoesOn-after j1 j2 i1 i2 a b c t1 t2 p q = λ voice j is t s.
    moved voice ((j ++ j1) ++ j2) (j ++ (j1 ++ j2)) ((is ++ i1) ++ i2) (is ++ (i1 ++ i2)) ((t ++ t1) ++ t2) (t ++ (t1 ++ t2)) c (append_assoc j j1 j2) (append_assoc is i1 i2) (append_assoc t t1 t2)
    (q voice (j ++ j1) (is ++ i1) (t ++ t1) (p voice j is t s))

-- an event is written to a journal
pub journal-goes-on : (text : List ℕ) (items : List Item) → GoesOn text items Journal Journal text
journal-goes-on text items None j is t s = ap (λ (l : List ℕ). l ++ text) s
journal-goes-on text items (Some seed) j is t s = absurd s

-- an item is spoken
pub speech-goes-on : (journal : List ℕ) (item : Item) (before after : Sounding) (played : List ℤ)
    → ((seed : List ℕ) (items : List Item) (samples : List ℤ) → Voices seed items samples before → Voices seed (items ++ item ∷ []) (samples ++ played) after)
    → GoesOn journal (item ∷ []) (Pcm before) (Pcm after) (sample_octets played)
speech-goes-on journal item before after played on None j is t s = absurd s
speech-goes-on journal item before after played on (Some seed) j is t (samples, voices, told) =
    (samples ++ played, on seed is samples voices, ap (λ (l : List ℕ). l ++ sample_octets played) told ∙ sym (flat_map-append (λ (x : ℤ). little_bytes 2 (cast_unsigned w16 x)) samples played))

-- all of it is what is played of the calls
pub is-played : (voice : Option (List ℕ)) (h : Heading) (calls : List Call) (text : List ℕ) (before after : Playback) → Stands voice [] [] [] before
    → GoesOn (flat_map call_text calls) (flat_map call_items calls) before after text → IsPlayed voice h calls (front_text before h ++ text)
is-played None h calls text Journal after s on = go after (on None [] [] [] s)
  where
    go : (after : Playback) → Stands None (flat_map call_text calls) (flat_map call_items calls) text after → head_text play_magic h ++ text ≡ head_text play_magic h ++ flat_map call_text calls
    go Journal is = ap (λ (l : List ℕ). head_text play_magic h ++ l) is
    go (Pcm v) is = absurd is
is-played None h calls text (Pcm v) after s on = absurd s
is-played (Some seed) h calls text Journal after s on = absurd s
is-played (Some seed) h calls text (Pcm v) after s on = go after (on (Some seed) [] [] [] s)
  where
    go : (after : Playback) → Stands (Some seed) (flat_map call_text calls) (flat_map call_items calls) text after → IsPlayed (Some seed) h calls text
    go Journal is = absurd is
    go (Pcm w) (samples, voices, told) = record { samples = samples; heard = voices.heard; written = told }

-- what it gives at the end is the output's end
pub is-ending : (voice : Option (List ℕ)) (journal : List ℕ) (items : List Item) (text : List ℕ) (p : Playback) → Stands voice journal items text p → end_text p ≡ ending voice
is-ending None journal items text Journal s = refl
is-ending None journal items text (Pcm v) s = absurd s
is-ending (Some seed) journal items text Journal s = absurd s
is-ending (Some seed) journal items text (Pcm v) s = refl

-- the same of equal parts
pub GoesOn-as : (j j' : List ℕ) (is is' : List Item) (a b : Playback) (t : List ℕ) → j' ≡ j → is' ≡ is → GoesOn j is a b t → GoesOn j' is' a b t
GoesOn-as j j' is is' a b t p q on = subst (λ (l : List ℕ). GoesOn l is' a b t) (sym p) (subst (λ (l : List Item). GoesOn j l a b t) (sym q) on)

-- by the player's calls
pub beat-goes-on : (player : ℕ) (cs : List Call) (a b : Playback) (t : List ℕ) → GoesOn (flat_map call_text cs) (flat_map call_items cs) a b t
    → GoesOn (flat_map call_text (calls_of player (made_by player cs))) (flat_map call_items (calls_of player (made_by player cs))) a b t
beat-goes-on player cs a b t on =
    GoesOn-as (flat_map call_text cs) (flat_map call_text (calls_of player (made_by player cs))) (flat_map call_items cs) (flat_map call_items (calls_of player (made_by player cs))) a b t
    (ap (flat_map call_text) (calls_of-own player cs)) (ap (flat_map call_items) (calls_of-own player cs)) on

-- by calls of which none is the player's
pub silent-goes-on : (player : ℕ) (made : List Entry) (p : Playback) → calls_of player made ≡ []
    → GoesOn (flat_map call_text (calls_of player made)) (flat_map call_items (calls_of player made)) p p []
silent-goes-on player made p none =
    GoesOn-as [] (flat_map call_text (calls_of player made)) [] (flat_map call_items (calls_of player made)) p p [] (ap (flat_map call_text) none) (ap (flat_map call_items) none) (GoesOn-none p)

-- nothing was given
pub Gives-none : {T E : Type 0} (a : Option (List ℕ)) (result : Result T E) → Gives a a result []
Gives-none a (Ok x) = Appends-nil a
Gives-none a (Err e) = (0, Appends-nil a)

-- From the loop over the events to the whole journal.
use Rattle.std.proofs.Common.{◌≡◌, ℕ, List, ◌++◌, Option, Some, None, sym, ap, subst, ◌∙◌, append_assoc, inl, inr}
use Rattle.std.specs.Prelude.{ℤ, IfSome, take}
use Rattle.std.specs.List.{flat_map}
use Rattle.std.specs.Io.KnownBytes.{Consumes}
use Rattle.std.proofs.KnownBytes.{Consumes-trans}
use Rattle.recorder.specs.declared.fault.RecordFault.{RecordFault}
use Rattle.recorder.specs.Heads.{Heading, head_fault, head_text, play_magic}
use Rattle.recorder.specs.Journals.{HasPlayerFault, PlayerRecord, PlayersHaveNoFault, player_front}
use Rattle.recorder.specs.Play.{play_event_text}
use Rattle.replay_check.specs.Render.{Completes, Follows, Played, Renders, Stops, StopsBehind, StopsReading, StopsShort}
use Rattle.replay_check.specs.declared.rendering.RenderEnd.{RenderEnd}
use Rattle.replay_check.specs.declared.rendering.RenderEnd.TheVariants.{Done, Refused, ReadFault, WriteFault}

-- the head stands before the events
pub with-head : (seed : List ℕ) (h : Heading) (end : RenderEnd) (input mid before now : Option (List ℕ)) (j : PlayerRecord) (samples : List ℤ) → j.head ≡ h → Consumes input mid (head_text play_magic h)
    → Played seed (flat_map play_event_text j.events) end mid before now j samples → Played seed (player_front j) end input before now j samples
with-head seed h end input mid before now j samples is read played =
    record { fits = played.fits; text = text input mid (subst (λ (k : Heading). Consumes input mid (head_text play_magic k)) (sym is) read) played.text; heard = played.heard; given = played.given; tallied = played.tallied }
  where
    text : (input mid : Option (List ℕ)) → Consumes input mid (head_text play_magic j.head) → IfSome mid (λ octets. (rest : List ℕ) × (octets ≡ flat_map play_event_text j.events ++ rest) × Follows end j rest)
        → IfSome input (λ octets. (rest : List ℕ) × (octets ≡ player_front j ++ rest) × Follows end j rest)
    text None mid p q = tt
    text (Some x) None p q = absurd p
    text (Some x) (Some y) p q = (q.0, p ∙ ap (λ (l : List ℕ). head_text play_magic j.head ++ l) q.1 ∙ sym (append_assoc (head_text play_magic j.head) (flat_map play_event_text j.events) q.0), q.2)

-- a refused journal has a first fault
pub has_fault : (seed : List ℕ) (f : RecordFault) (octets : List ℕ) (input before now : Option (List ℕ)) → Renders seed (Refused f) input before now → input ≡ Some octets → HasPlayerFault octets f
has_fault seed f octets input before now (inl (fault, kept)) told = inl (subst (λ (o : Option (List ℕ)). IfSome o (λ x. head_fault play_magic (take 12 x) ≡ Some f)) told fault)
has_fault seed f octets input before now (inr (j, samples, played)) told =
    let text = subst (λ (o : Option (List ℕ)). IfSome o (λ x. (rest : List ℕ) × (x ≡ player_front j ++ rest) × Follows (Refused f) j rest)) told played.text in
    inr (j, record { fits = played.fits; rest = text.0; text = text.1; fault = text.2 })

pub completes : (seed : List ℕ) (end : RenderEnd) (input before now : Option (List ℕ)) → PlayersHaveNoFault → Renders seed end input before now → Completes end input
completes seed end input before now law renders octets j told whole f is =
    law octets j f whole (has_fault seed f octets input before now (subst (λ (e : RenderEnd). Renders seed e input before now) is renders) told)

-- ---- where it stopped

-- the head stands before the events
short-behind : (seed : List ℕ) (h : Heading) (input mid left before now : Option (List ℕ)) → Consumes input mid (head_text play_magic h)
    → ((j : PlayerRecord) × (j.head ≡ h) × StopsShort seed (flat_map play_event_text j.events) mid left before now j) → StopsReading seed input left before now
short-behind seed h input mid left before now read (j, is, s) =
    let head : Consumes input mid (head_text play_magic j.head) = subst (λ (k : Heading). Consumes input mid (head_text play_magic k)) (sym is) read in
    inr (j, record { fits = s.fits; taken = (s.taken.0, Consumes-trans input mid s.taken.0 (head_text play_magic j.head) (flat_map play_event_text j.events) head s.taken.1, s.taken.2); samples = s.samples; heard = s.heard; given = s.given })

pub stops-behind : (seed : List ℕ) (h : Heading) (end : RenderEnd) (input mid left before now : Option (List ℕ)) → Consumes input mid (head_text play_magic h) → StopsBehind seed end h mid left before now → Stops seed end input left before now
stops-behind seed h (Done tally) input mid left before now read s = tt
stops-behind seed h (Refused f) input mid left before now read s = short-behind seed h input mid left before now read s
stops-behind seed h ReadFault input mid left before now read s = short-behind seed h input mid left before now read s
stops-behind seed h WriteFault input mid left before now read (j, last, is, s) =
    let head : Consumes input mid (head_text play_magic j.head) = subst (λ (k : Heading). Consumes input mid (head_text play_magic k)) (sym is) read in
    let whole : head_text play_magic j.head ++ (flat_map play_event_text j.events ++ play_event_text last) ≡ player_front j ++ play_event_text last = sym (append_assoc (head_text play_magic j.head) (flat_map play_event_text j.events) (play_event_text last)) in (
      j,
      last,
      record {
        fits = s.fits;
        taken = subst (Consumes input left) whole (Consumes-trans input mid left (head_text play_magic j.head) (flat_map play_event_text j.events ++ play_event_text last) head s.taken);
        samples = s.samples;
        speech = s.speech;
        heard = s.heard;
        plays = s.plays;
        given = s.given;
      },
    )

-- What the loop over a journal's events keeps.
use Rattle.std.proofs.Common.{◌≡◌, ℕ, take, ◌≤◌, ◌<◌, List, [], ◌∷◌, ◌++◌, length, Bool, true, Option, Some, None, Ok, refl, sym, ap, subst, ◌∙◌, append_assoc, append-nil, length-append, arith}
use Rattle.std.specs.Prelude.{ℤ, IfSome}
use Rattle.std.specs.List.{flat_map}
use Rattle.std.specs.Int.{w16, cast_unsigned}
use Rattle.std.specs.Io.KnownBytes.{Appends, Consumes}
use Rattle.std.proofs.lemmas.List.Concat.{flat_map-append}
use Rattle.std.proofs.KnownBytes.{Consumes-trans, Appends-trans}
use Rattle.byteorder.specs.Endian.{little_bytes}
use Rattle.gate_io.specs.Flow.{AppendsPart}
use Rattle.gate_io.specs.FlowLaws.{AppendsPart-after}
use Rattle.frame_codec.specs.declared.item.Item.{Item}
use Rattle.playout.specs.declared.call.Call.{Call}
use Rattle.recorder.specs.declared.events.PlayEvent.{PlayEvent}
use Rattle.recorder.specs.declared.fault.RecordFault.{RecordFault}
use Rattle.recorder.specs.declared.tally.PlayTally.{PlayTally}
use Rattle.recorder.specs.Files.{end_mark, event_limit}
use Rattle.recorder.specs.Heads.{Heading, IsHeading, head_text, play_magic}
use Rattle.recorder.specs.Journals.{PlayerRecord, opening_behind, player_front}
use Rattle.recorder.specs.Play.{AllPlayFit, PlayFits, may_open, play_event_text, play_fault_at}
use Rattle.recorder.specs.Reader.{PlayProgress, stepped_play}
use Rattle.recorder.specs.Tallies.{play_tally}
use Rattle.substitution.specs.Heard.{Sounding, Voices, sample_octets}
use Rattle.replay_check.specs.Journals.{play_of, plays_in}
use Rattle.replay_check.specs.Render.{BreaksOff, Follows, Played, StopsShort, TookEvent, event_items, items_of}
use Rattle.replay_check.specs.declared.rendering.RenderEnd.TheVariants.{Done, Refused, ReadFault, WriteFault}

abbrev pub journal : Heading → List PlayEvent → PlayerRecord
journal h events = record { head = h; events = events }

-- these events were read and played
pub record Playing (seed : List ℕ) (h : Heading) (reader : PlayProgress) (voice : Sounding) (tally : PlayTally) (input left before now : Option (List ℕ)) (events : List PlayEvent) (samples : List ℤ) : Type 0 where
  pub heading : IsHeading h
  pub fits : AllPlayFit h.g true events
  pub few : length events ≤ event_limit
  pub head : reader.reading.head ≡ Some h
  pub over : reader.reading.over ≡ None
  pub count : reader.reading.count ≡ length events
  pub at : reader.reading.at ≡ length (player_front (journal h events))
  pub order : reader.opening ≡ opening_behind true events
  pub taken : Consumes input left (flat_map play_event_text events)
  pub voices : Voices seed (items_of events) samples voice
  pub counted : tally ≡ play_tally (plays_in events)
  pub given : Appends before now (sample_octets samples)

fits-more : (g : ℕ) (opening : Bool) (es : List PlayEvent) (e : PlayEvent) → AllPlayFit g opening es → PlayFits g (opening_behind opening es) e → AllPlayFit g opening (es ++ e ∷ [])
fits-more g opening [] e all fits = (fits, tt)
fits-more g opening (x ∷ es) e all fits = (all.0, fits-more g (may_open x) es e all.1 fits)

order-more : (opening : Bool) (es : List PlayEvent) (e : PlayEvent) → opening_behind opening (es ++ e ∷ []) ≡ may_open e
order-more opening [] e = refl
order-more opening (x ∷ es) e = order-more (may_open x) es e

-- what one more event adds to what is made event by event
flat-more : {A B : Type 0} (f : A → List B) (xs : List A) (x : A) → flat_map f (xs ++ x ∷ []) ≡ flat_map f xs ++ f x
flat-more f xs x = flat_map-append f xs (x ∷ []) ∙ ap (λ l. flat_map f xs ++ l) (append-nil (f x))

plays-more : (es : List PlayEvent) (e : PlayEvent) → plays_in (es ++ e ∷ []) ≡ plays_in es ++ play_of e ∷ []
plays-more [] e = refl
plays-more (x ∷ es) e = ap (λ (l : List Call). play_of x ∷ l) (plays-more es e)

front-more : (h : Heading) (es : List PlayEvent) (e : PlayEvent) → player_front (journal h (es ++ e ∷ [])) ≡ player_front (journal h es) ++ play_event_text e
front-more h es e = ap (λ (l : List ℕ). head_text play_magic h ++ l) (flat-more play_event_text es e) ∙ sym (append_assoc (head_text play_magic h) (flat_map play_event_text es) (play_event_text e))

octets-more : (xs ys : List ℤ) → sample_octets (xs ++ ys) ≡ sample_octets xs ++ sample_octets ys
octets-more xs ys = flat_map-append (λ (sample : ℤ). little_bytes 2 (cast_unsigned w16 sample)) xs ys

-- what is left stands behind what was taken
pub behind : (input left : Option (List ℕ)) (front : List ℕ) (P : List ℕ → Type 0) → Consumes input left front → IfSome left P → IfSome input (λ octets. (rest : List ℕ) × (octets ≡ front ++ rest) × P rest)
behind None left front P p q = tt
behind (Some x) None front P p q = absurd p
behind (Some x) (Some y) front P p q = (y, p, q)

nothing-said : (left : Option (List ℕ)) → IfSome left (λ rest. Unit {0})
nothing-said None = tt
nothing-said (Some x) = tt

module _ (seed : List ℕ) (h : Heading) (reader reader' : PlayProgress) (voice voice' : Sounding) (tally tally' : PlayTally) (input left left' before given given' : Option (List ℕ)) (events : List PlayEvent) (samples speech : List ℤ) (e : PlayEvent)
    (s : Playing seed h reader voice tally input left before given events samples) (fits : PlayFits h.g reader.opening e) (few : reader.reading.count < event_limit) (taken : Consumes left left' (play_event_text e))
    (voices : Voices seed (items_of events ++ event_items e) (samples ++ speech) voice') where
  more-fits : AllPlayFit h.g true (events ++ e ∷ [])
  more-fits = fits-more h.g true events e s.fits (subst (λ (b : Bool). PlayFits h.g b e) s.order fits)

  more-few : length (events ++ e ∷ []) ≤ event_limit
  more-few = omega (arith, length-append events (e ∷ []), s.count)

  more-taken : Consumes input left' (flat_map play_event_text (events ++ e ∷ []))
  more-taken = subst (Consumes input left') (sym (flat-more play_event_text events e)) (Consumes-trans input left left' (flat_map play_event_text events) (play_event_text e) s.taken taken)

  more-voices : Voices seed (items_of (events ++ e ∷ [])) (samples ++ speech) voice'
  more-voices = subst (λ (l : List Item). Voices seed l (samples ++ speech) voice') (sym (flat-more event_items events e)) voices

  pub playing-more : reader' ≡ stepped_play reader (Ok (Some e)) → tally' ≡ play_tally (plays_in events ++ play_of e ∷ []) → Appends given given' (sample_octets speech)
      → Playing seed h reader' voice' tally' input left' before given' (events ++ e ∷ []) (samples ++ speech)
  playing-more read counted gave = record {
    heading = s.heading;
    fits = more-fits;
    few = more-few;
    head = ap (λ (r : PlayProgress). r.reading.head) read ∙ s.head;
    over = ap (λ (r : PlayProgress). r.reading.over) read ∙ s.over;
    count = omega (arith, ap (λ (r : PlayProgress). r.reading.count) read, s.count, length-append events (e ∷ []));
    at = omega (arith, ap (λ (r : PlayProgress). r.reading.at) read, s.at, ap (λ (l : List ℕ). length l) (front-more h events e), length-append (player_front (journal h events)) (play_event_text e));
    order = ap (λ (r : PlayProgress). r.opening) read ∙ sym (order-more true events e);
    taken = more-taken;
    voices = more-voices;
    counted = counted ∙ ap play_tally (sym (plays-more events e));
    given = subst (Appends before given') (sym (octets-more samples speech)) (Appends-trans before given given' (sample_octets samples) (sample_octets speech) s.given gave);
  }

  pub playing-broken : AppendsPart given given' (sample_octets speech)
      → Played seed (flat_map play_event_text (events ++ e ∷ [])) WriteFault input before given' (journal h (events ++ e ∷ [])) (samples ++ speech)
  playing-broken gave = record {
    fits = record { head = s.heading; events = more-fits; few = more-few };
    text = behind input left' (flat_map play_event_text (events ++ e ∷ [])) (λ rest. Unit {0}) more-taken (nothing-said left');
    heard = more-voices.heard;
    given = subst (AppendsPart before given') (sym (octets-more samples speech)) (AppendsPart-after before given given' (sample_octets samples) (sample_octets speech) s.given gave);
    tallied = tt;
  }

  pub playing-breaks : AppendsPart given given' (sample_octets speech) → BreaksOff seed (flat_map play_event_text events) input left' before given' (journal h events) e
  playing-breaks gave = record {
    fits = record { head = s.heading; events = more-fits; few = more-few };
    taken = Consumes-trans input left left' (flat_map play_event_text events) (play_event_text e) s.taken taken;
    samples = samples;
    speech = speech;
    heard = s.voices.heard;
    plays = more-voices.heard;
    given = (gave.0, Appends-trans before given given' (sample_octets samples) (take gave.0 (sample_octets speech)) s.given gave.1);
  }

module _ (seed : List ℕ) (h : Heading) (reader : PlayProgress) (voice : Sounding) (tally : PlayTally) (input left before now : Option (List ℕ)) (events : List PlayEvent) (samples : List ℤ)
    (s : Playing seed h reader voice tally input left before now events samples) where
  -- the end mark was read
  pub playing-done : (left' : Option (List ℕ)) → Consumes left left' (end_mark ∷ []) → Played seed (flat_map play_event_text events) (Done tally) input before now (journal h events) samples
  playing-done left' mark = record {
    fits = record { head = s.heading; events = s.fits; few = s.few };
    text = behind input left (flat_map play_event_text events) (λ rest. (more : List ℕ) × (rest ≡ end_mark ∷ more)) s.taken (marked left left' mark);
    heard = s.voices.heard;
    given = s.given;
    tallied = s.counted;
  }
    where
      marked : (left left' : Option (List ℕ)) → Consumes left left' (end_mark ∷ []) → IfSome left (λ rest. (more : List ℕ) × (rest ≡ end_mark ∷ more))
      marked None left' p = tt
      marked (Some x) None p = absurd p
      marked (Some x) (Some y) p = (y, p)

  -- what is left has a fault at its front
  pub playing-refused : (f : RecordFault) → IfSome left (λ octets. play_fault_at h.g reader.opening reader.reading.count reader.reading.at octets ≡ Some f)
      → Played seed (flat_map play_event_text events) (Refused f) input before now (journal h events) samples
  playing-refused f fault = record {
    fits = record { head = s.heading; events = s.fits; few = s.few };
    text = behind input left (flat_map play_event_text events) (Follows (Refused f) (journal h events)) s.taken (after left fault);
    heard = s.voices.heard;
    given = s.given;
    tallied = tt;
  }
    where
      after : (left : Option (List ℕ)) → IfSome left (λ octets. play_fault_at h.g reader.opening reader.reading.count reader.reading.at octets ≡ Some f) → IfSome left (Follows (Refused f) (journal h events))
      after None p = tt
      after (Some x) p = subst (λ (b : Bool). play_fault_at h.g b (length events) (length (player_front (journal h events))) x ≡ Some f) s.order
          (subst (λ (n : ℕ). play_fault_at h.g reader.opening n (length (player_front (journal h events))) x ≡ Some f) s.count (subst (λ (n : ℕ). play_fault_at h.g reader.opening reader.reading.count n x ≡ Some f) s.at p))

  -- a read failed
  pub playing-stopped : Played seed (flat_map play_event_text events) ReadFault input before now (journal h events) samples
  playing-stopped = record {
    fits = record { head = s.heading; events = s.fits; few = s.few };
    text = behind input left (flat_map play_event_text events) (λ rest. Unit {0}) s.taken (nothing-said left);
    heard = s.voices.heard;
    given = s.given;
    tallied = tt;
  }

  pub playing-short : (left' : Option (List ℕ)) → TookEvent left left' → StopsShort seed (flat_map play_event_text events) input left' before now (journal h events)
  playing-short left' lost = record {
    fits = record { head = s.heading; events = s.fits; few = s.few };
    taken = (left, s.taken, lost);
    samples = samples;
    heard = s.voices.heard;
    given = s.given;
  }

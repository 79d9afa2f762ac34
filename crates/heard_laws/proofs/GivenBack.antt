-- A player's journal gives back what is heard of its calls.
use Rattle.std.proofs.Common.{◌≡◌, ℕ, ◌≤◌, List, [], ◌∷◌, ◌++◌, length, take, drop, slice_index, Option, Some, None, refl, sym, ap, subst, ◌∙◌, append-nil, append_assoc, inl, inr, arith, true}
use Rattle.std.specs.Prelude.{ℤ, ◌⊎◌}
use Rattle.std.specs.List.{flat_map, AllByRecursion}
use Rattle.std.specs.Io.KnownBytes.{Appends, Consumes, Keeps}
use Rattle.std.proofs.lemmas.List.{map-append}
use Rattle.std.proofs.lemmas.List.Concat.{flat_map-append}
use Rattle.frame_codec.specs.declared.item.Item.{Item}
use Rattle.playout.specs.declared.call.Call.{Call}
use Rattle.recorder.specs.declared.events.PlayEvent.{PlayEvent}
use Rattle.recorder.specs.declared.fault.RecordFault.{RecordFault}
use Rattle.recorder.specs.declared.tally.PlayTally.{PlayTally}
use Rattle.recorder.specs.Files.{end_mark, event_limit}
use Rattle.recorder.specs.Heads.{Heading, IsHeading, head_text, play_magic}
use Rattle.recorder.specs.Journals.{IsPlayerJournal, PlayerRecord, PlayersHaveNoFault, player_front, player_text}
use Rattle.recorder.specs.Play.{AllPlayFit, call_text, play_event_text, play_front, play_text}
use Rattle.recorder.specs.Tallies.{play_tally}
use Rattle.substitution.specs.Heard.{IsHeard, sample_octets}
use Rattle.replay_check.specs.declared.rendering.RenderEnd.{RenderEnd}
use Rattle.replay_check.specs.declared.rendering.RenderEnd.TheVariants.{Done, Refused, ReadFault, WriteFault}
use Rattle.replay_check.specs.Journals.{play_of, plays_in}
use Rattle.replay_check.specs.Render.{BreaksOff, Played, Renders, Stops, StopsShort, TookEvent, TookHead, items_of}
use Rattle.player.specs.Beats.{CanBeTold}
use Rattle.player.specs.Whole.{AreAllBeats, items_in}
use Rattle.heard_laws.specs.Rendered.{GivesAllButLast, GivesAllRead, GivesBack, JournalRenders, RendersTo}
use Rattle.heard_laws.specs.Sameness.{HeardIsOne}
use Rattle.heard_laws.proofs.OneJournal.{front_events, one_events}
use Rattle.heard_laws.proofs.Telling.{events-back, events_in, few-all, fit-all, items-all, items-back, plays-back, text-all}

module _ (heard_is_one : HeardIsOne) (not_both : PlayersHaveNoFault) (seed : List ℕ) (h : Heading) (elastic made : ℕ) (calls : List Call) (samples : List ℤ) (head : IsHeading h) (beats : AreAllBeats elastic made calls)
    (told : AllByRecursion (CanBeTold h.g) calls)
    (few : length calls ≤ event_limit) (heard : IsHeard seed (items_in calls) samples) where
  abbrev says : PlayerRecord
  says = record { head = h; events = events_in calls }

  fits : AllPlayFit h.g true (events_in calls)
  fits = fit-all h.g elastic made calls beats told

  text : play_text h calls ≡ player_text says
  text = ap (λ (l : List ℕ). (head_text play_magic h ++ l) ++ end_mark ∷ []) (sym (text-all calls))

  journal : IsPlayerJournal (play_text h calls) says
  journal = record {
    fits = record { head = head; events = fits; few = omega (arith, few-all calls) };
    text = ([], text ∙ sym (append-nil (player_text says)));
  }

  -- whoever reads the head reads the number of slots of this line
  slots : (head' : Heading) (y : List ℕ) (es : List PlayEvent) → play_text h calls ≡ head_text play_magic head' ++ y → AllPlayFit head'.g true es → AllPlayFit h.g true es
  slots head' y es read fit =
      let same : head'.g ≡ h.g = ap (λ (l : List ℕ). slice_index l 9) (sym read) in
      subst (λ (g : ℕ). AllPlayFit g true es) same fit

  -- whoever reads the journal to its end mark reads the events of the calls
  read-whole : (j : PlayerRecord) (rest more : List ℕ) → AllPlayFit j.head.g true j.events → play_text h calls ≡ player_front j ++ rest → rest ≡ end_mark ∷ more → j.events ≡ events_in calls
  read-whole j rest more fit is ends =
      let one : drop 12 (play_text h calls) ≡ flat_map play_event_text (events_in calls) ++ end_mark ∷ [] = ap (drop 12) text in
      let two : drop 12 (play_text h calls) ≡ flat_map play_event_text j.events ++ rest = ap (drop 12) is in
      let three : flat_map play_event_text j.events ++ rest ≡ flat_map play_event_text j.events ++ end_mark ∷ more = ap (λ (l : List ℕ). flat_map play_event_text j.events ++ l) ends in
      one_events h.g head.g true j.events (events_in calls) more [] (slots j.head (flat_map play_event_text j.events ++ rest) j.events is fit) fits (sym three ∙ sym two ∙ one)

  when-done : (tally : PlayTally) (before now : Option (List ℕ)) (j : PlayerRecord) (got : List ℤ) → Played seed (player_front j) (Done tally) (Some (play_text h calls)) before now j got
      → RendersTo calls samples (Done tally) before now
  when-done tally before now j got played =
      let events : j.events ≡ events_in calls = read-whole j played.text.0 played.text.2.0 played.fits.events played.text.1 played.text.2.1 in
      let items : items_of j.events ≡ items_in calls = ap items_of events ∙ items-all h.g calls told in
      let same : got ≡ samples = heard_is_one seed (items_in calls) got samples (subst (λ (l : List Item). IsHeard seed l got) items played.heard) heard in
      (subst (λ (l : List ℤ). Appends before now (sample_octets l)) same played.given, played.tallied ∙ ap play_tally (ap plays_in events ∙ plays-back h.g calls told))

  when-refused : (f : RecordFault) (before now : Option (List ℕ)) → Renders seed (Refused f) (Some (play_text h calls)) before now → ⊥
  when-refused f before now (inl (fault, kept)) = not_both (play_text h calls) says f journal (inl fault)
  when-refused f before now (inr (j, got, played)) =
      not_both (play_text h calls) says f journal (inr (j, record { fits = played.fits; rest = played.text.0; text = played.text.1; fault = played.text.2 }))

  rendered : (end : RenderEnd) (before now : Option (List ℕ)) → Renders seed end (Some (play_text h calls)) before now → RendersTo calls samples end before now
  rendered (Done tally) before now (inl none) = absurd none
  rendered (Done tally) before now (inr (j, got, played)) = when-done tally before now j got played
  rendered (Refused f) before now r = when-refused f before now r
  rendered ReadFault before now r = tt
  rendered WriteFault before now r = tt

  -- ---- where it stopped

  -- one event more
  flat-more : (es : List PlayEvent) (e : PlayEvent) → flat_map play_event_text (es ++ e ∷ []) ≡ flat_map play_event_text es ++ play_event_text e
  flat-more es e = flat_map-append play_event_text es (e ∷ []) ∙ ap (λ (l : List ℕ). flat_map play_event_text es ++ l) (append-nil (play_event_text e))

  -- events whose octets were read are the first of the calls'
  are-first : (head' : Heading) (es : List PlayEvent) (y : List ℕ) → AllPlayFit head'.g true es → play_text h calls ≡ (head_text play_magic head' ++ flat_map play_event_text es) ++ y → (more : List PlayEvent) × (events_in calls ≡ es ++ more)
  are-first head' es y fit read =
      let one : drop 12 (play_text h calls) ≡ flat_map play_event_text (events_in calls) ++ end_mark ∷ [] = ap (drop 12) text in
      let two : drop 12 (play_text h calls) ≡ flat_map play_event_text es ++ y = ap (drop 12) read in
      front_events h.g head.g true es (events_in calls) y [] (slots head' (flat_map play_event_text es ++ y) es read fit) fits (sym two ∙ one)

  -- and so are their octets
  octets-are : (head' : Heading) (es : List PlayEvent) (first : List Call) (y : List ℕ) → events_in first ≡ es → play_text h calls ≡ (head_text play_magic head' ++ flat_map play_event_text es) ++ y → play_text h calls ≡ play_front h first ++ y
  octets-are head' es first y same read =
      let heads : head_text play_magic head' ≡ head_text play_magic h = sym (ap (take 12) read) in
      let events : flat_map play_event_text es ≡ flat_map call_text first = ap (flat_map play_event_text) (sym same) ∙ text-all first in
      read ∙ (λ i. (heads i ++ events i) ++ y)

  -- and so are the calls that they tell
  calls-are : (es more : List PlayEvent) → events_in calls ≡ es ++ more → calls ≡ plays_in es ++ plays_in more
  calls-are es more same = sym (plays-back h.g calls told) ∙ ap plays_in same ∙ map-append play_of es more

  when-broken : (left before now : Option (List ℕ)) (j : PlayerRecord) (last : PlayEvent) → BreaksOff seed (player_front j) (Some (play_text h calls)) left before now j last → GivesAllButLast seed h calls left before now
  when-broken None before now j last b = absurd b.taken
  when-broken (Some y) before now j last b =
      let es = j.events ++ last ∷ [] in
      let whole : player_front j ++ play_event_text last ≡ head_text play_magic j.head ++ flat_map play_event_text es =
      append_assoc (head_text play_magic j.head) (flat_map play_event_text j.events) (play_event_text last) ∙ ap (λ (l : List ℕ). head_text play_magic j.head ++ l) (sym (flat-more j.events last)) in
      let read : play_text h calls ≡ (head_text play_magic j.head ++ flat_map play_event_text es) ++ y = b.taken ∙ ap (λ (l : List ℕ). l ++ y) whole in
      let front = are-first j.head es y b.fits.events read in
      let parts : plays_in es ≡ plays_in j.events ++ play_of last ∷ [] = map-append play_of j.events (last ∷ []) in
      record {
        first = plays_in j.events;
        last = play_of last;
        more = plays_in front.0;
        all = calls-are es front.0 front.1 ∙ ap (λ (l : List Call). l ++ plays_in front.0) parts ∙ append_assoc (plays_in j.events) (play_of last ∷ []) (plays_in front.0);
        read = octets-are j.head es (plays_in j.events ++ play_of last ∷ []) y (ap events_in (sym parts) ∙ events-back es) read;
        samples = b.samples;
        speech = b.speech;
        heard = subst (λ (l : List Item). IsHeard seed l b.samples) (items-back j.events) b.heard;
        plays = subst (λ (l : List Item). IsHeard seed l (b.samples ++ b.speech)) (items-back es ∙ ap items_in parts) b.plays;
        given = b.given;
      }

  when-short : (left before now mid : Option (List ℕ)) (j : PlayerRecord) (s : StopsShort seed (player_front j) (Some (play_text h calls)) left before now j) → s.taken.0 ≡ mid → GivesAllRead seed h calls left before now
  when-short left before now None j s is = absurd (subst (λ (o : Option (List ℕ)). Consumes (Some (play_text h calls)) o (player_front j)) is s.taken.1)
  when-short left before now (Some y) j s is =
      let read : play_text h calls ≡ player_front j ++ y = subst (λ (o : Option (List ℕ)). Consumes (Some (play_text h calls)) o (player_front j)) is s.taken.1 in
      let lost : TookEvent (Some y) left = subst (λ (o : Option (List ℕ)). TookEvent o left) is s.taken.2 in
      let front = are-first j.head j.events y s.fits.events read in
      record {
        first = plays_in j.events;
        more = plays_in front.0;
        all = calls-are j.events front.0 front.1;
        read = (Some y, octets-are j.head j.events (plays_in j.events) y (events-back j.events) read, lost);
        samples = s.samples;
        heard = subst (λ (l : List Item). IsHeard seed l s.samples) (items-back j.events) s.heard;
        given = s.given;
      }

  stopped : (left before now : Option (List ℕ)) → Stops seed ReadFault (Some (play_text h calls)) left before now
      → (Keeps before now × TookHead (Some (play_text h calls)) left) ⊎ GivesAllRead seed h calls left before now
  stopped left before now (inl none) = inl none
  stopped left before now (inr (j, s)) = inr (when-short left before now s.taken.0 j s refl)

  pub gives-back : GivesBack seed h calls samples
  gives-back = record {
    says = says;
    journal = journal;
    plays = items-all h.g calls told;
    rendered = rendered;
    broken = λ left before now s. when-broken left before now s.0 s.1 s.2;
    stopped = stopped;
  }

pub journal_gives_back : HeardIsOne → PlayersHaveNoFault → JournalRenders
journal_gives_back heard_is_one not_both seed h elastic made calls samples head beats told few heard = gives-back heard_is_one not_both seed h elastic made calls samples head beats told few heard

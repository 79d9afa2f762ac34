-- The events by which a journal tells the calls of a player.
use Rattle.std.proofs.Common.{◌≡◌, ℕ, zero, suc, ◌+◌, ◌*◌, ◌≤◌, Bool, true, false, List, [], ◌∷◌, ◌++◌, length, replicate, Option, Some, None, refl, sym, ap, subst, ◌∙◌, append-nil, length-append, inl, inr, arith}
use Rattle.std.specs.Prelude.{option_to_list}
use Rattle.std.specs.List.{flat_map, AllByRecursion}
use Rattle.std.proofs.lemmas.List.{map-append, length-replicate}
use Rattle.std.proofs.lemmas.List.Concat.{flat_map-append}
use Rattle.frame_codec.specs.declared.item.Item.TheVariants as items
use Rattle.playout.specs.declared.call.Call.{Call}
use Rattle.playout.specs.declared.call.Call.TheVariants.{FileCall, SourceCall, BaseCall, PeekCall, TickCall, LookCall, HoldCall, RetireCall}
use Rattle.recorder.specs.declared.events.PlayEvent.{PlayEvent}
use Rattle.recorder.specs.declared.events.PlayEvent.TheVariants.{Idle, Base, Erasure, Frame, Held, Found, LookFree, LookFilled, RetiredErasure, RetiredFrame}
use Rattle.recorder.specs.Play.{AllPlayFit, call_text, event_of_call, play_event_text, text_of}
use Rattle.recorder.specs.Tallies.{call_items}
use Rattle.replay_check.specs.Journals.{play_of, plays_in}
use Rattle.replay_check.specs.Render.{event_items, items_of}
use Rattle.player.specs.BeatLaws.{beats_open}
use Rattle.player.specs.Beats.{AreBeats, CanBeTold, IsTurn, held_after, opened_after, opened_by}
use Rattle.player.specs.Whole.{AreAllBeats, items_in}
use Rattle.heard_laws.specs.Rendered.{BeatsAreFew}

-- the event of a call of the player
abbrev events_of : Call → List PlayEvent
events_of c = option_to_list (event_of_call c)

abbrev pub events_in : List Call → List PlayEvent
events_in calls = flat_map events_of calls

-- ---- what they spell

text-one : (told : Option PlayEvent) → flat_map play_event_text (option_to_list told) ≡ text_of told
text-one None = refl
text-one (Some e) = append-nil (play_event_text e)

pub text-all : (calls : List Call) → flat_map play_event_text (events_in calls) ≡ flat_map call_text calls
text-all [] = refl
text-all (c ∷ calls) =
    let first : flat_map play_event_text (events_of c) ≡ call_text c = text-one (event_of_call c) in
    let rest : flat_map play_event_text (events_in calls) ≡ flat_map call_text calls = text-all calls in
    let both : flat_map play_event_text (events_of c) ++ flat_map play_event_text (events_in calls) ≡ call_text c ++ flat_map call_text calls = λ i. first i ++ rest i in
    flat_map-append play_event_text (events_of c) (events_in calls) ∙ both

-- ---- the calls that they tell

back-one : (g : ℕ) (c : Call) → CanBeTold g c → plays_in (events_of c) ≡ c ∷ []
back-one g (FileCall n f reply) told = absurd told
back-one g (SourceCall x held) told = absurd told
back-one g (BaseCall x held) told = absurd told
back-one g (PeekCall None) told = refl
back-one g (PeekCall (Some base)) told = refl
back-one g (TickCall items.Idle) told = absurd told
back-one g (TickCall (items.Frame f)) told = refl
back-one g (TickCall items.Erasure) told = refl
back-one g (LookCall ahead false) told = refl
back-one g (LookCall ahead true) told = refl
back-one g (HoldCall false) told = refl
back-one g (HoldCall true) told = refl
back-one g (RetireCall items.Idle) told = absurd told
back-one g (RetireCall (items.Frame f)) told = refl
back-one g (RetireCall items.Erasure) told = refl

pub plays-back : (g : ℕ) (calls : List Call) → AllByRecursion (CanBeTold g) calls → plays_in (events_in calls) ≡ calls
plays-back g [] told = refl
plays-back g (c ∷ calls) told =
    let first : plays_in (events_of c) ≡ c ∷ [] = back-one g c told.0 in
    let rest : plays_in (events_in calls) ≡ calls = plays-back g calls told.1 in
    let both : plays_in (events_of c) ++ plays_in (events_in calls) ≡ c ∷ calls = λ i. first i ++ rest i in
    map-append play_of (events_of c) (events_in calls) ∙ both

events-one : (e : PlayEvent) → events_of (play_of e) ≡ e ∷ []
events-one Idle = refl
events-one (Base base) = refl
events-one Erasure = refl
events-one (Frame f) = refl
events-one Held = refl
events-one Found = refl
events-one (LookFree ahead) = refl
events-one (LookFilled ahead) = refl
events-one RetiredErasure = refl
events-one (RetiredFrame f) = refl

pub events-back : (es : List PlayEvent) → events_in (plays_in es) ≡ es
events-back [] = refl
events-back (e ∷ es) =
    let first : events_of (play_of e) ≡ e ∷ [] = events-one e in
    let rest : events_in (plays_in es) ≡ es = events-back es in
    λ i. first i ++ rest i

-- ---- what they play

items-one : (e : PlayEvent) → event_items e ≡ call_items (play_of e)
items-one Idle = refl
items-one (Base base) = refl
items-one Erasure = refl
items-one (Frame f) = refl
items-one Held = refl
items-one Found = refl
items-one (LookFree ahead) = refl
items-one (LookFilled ahead) = refl
items-one RetiredErasure = refl
items-one (RetiredFrame f) = refl

pub items-back : (es : List PlayEvent) → items_of es ≡ items_in (plays_in es)
items-back [] = refl
items-back (e ∷ es) =
    let first : event_items e ≡ call_items (play_of e) = items-one e in
    let rest : items_of es ≡ items_in (plays_in es) = items-back es in
    λ i. first i ++ rest i

pub items-all : (g : ℕ) (calls : List Call) → AllByRecursion (CanBeTold g) calls → items_of (events_in calls) ≡ items_in calls
items-all g calls told = items-back (events_in calls) ∙ ap items_in (plays-back g calls told)

-- ---- how many they are

few-one : (told : Option PlayEvent) → length (option_to_list told) ≤ 1
few-one None = omega arith
few-one (Some e) = omega arith

pub few-all : (calls : List Call) → length (events_in calls) ≤ length calls
few-all [] = omega arith
few-all (c ∷ calls) = omega (arith, length-append (events_of c) (events_in calls), few-one (event_of_call c), few-all calls)

-- ---- beats behind a base

-- a call that looks for no base
abbrev IsLater : Call → Type 0
IsLater (PeekCall held) = ⊥
IsLater _ = Unit {0}

-- the calls look for no base, and are so many at most, and so many where no number may be held
record Turned (elastic most only : ℕ) (calls : List Call) : Type 0 where
  later : AllByRecursion IsLater calls
  few : length calls ≤ most
  one : elastic ≡ 0 → length calls ≤ only

turned : (elastic held : ℕ) (calls : List Call) → IsTurn elastic held calls → Turned elastic 4 1 calls
turned elastic held calls (inl (none, (item, taken, is))) = subst (Turned elastic 4 1) (sym is) (record { later = (tt, tt); few = omega arith; one = λ z. omega arith })
turned elastic held calls (inr (inl (low, inl is))) = subst (Turned elastic 4 1) (sym is) (record { later = (tt, tt); few = omega arith; one = λ z. omega arith })
turned elastic held calls (inr (inl (low, inr (item, taken, is)))) = subst (Turned elastic 4 1) (sym is) (record { later = (tt, (tt, tt)); few = omega arith; one = λ z. omega (arith, low, z) })
turned elastic held calls (inr (inr (some, full, inl (item, taken, is)))) = subst (Turned elastic 4 1) (sym is) (record { later = (tt, (tt, tt)); few = omega arith; one = λ z. omega (arith, some, z) })
turned elastic held calls (inr (inr (some, full, inr (inl (item, taken, is))))) =
    subst (Turned elastic 4 1) (sym is) (record { later = (tt, (tt, (tt, tt))); few = omega arith; one = λ z. omega (arith, some, z) })
turned elastic held calls (inr (inr (some, full, inr (inr (gone, item, left, taken, is))))) =
    subst (Turned elastic 4 1) (sym is) (record { later = (tt, (tt, (tt, (tt, tt)))); few = omega arith; one = λ z. omega (arith, some, z) })

later-both : (xs ys : List Call) → AllByRecursion IsLater xs → AllByRecursion IsLater ys → AllByRecursion IsLater (xs ++ ys)
later-both [] ys all more = more
later-both (x ∷ xs) ys all more = (all.0, later-both xs ys all.1 more)

opened-stays : (calls : List Call) → opened_after true calls ≡ true
opened-stays [] = refl
opened-stays (c ∷ calls) = subst (λ (b : Bool). opened_after b calls ≡ true) (sym (one c)) (opened-stays calls)
  where
    one : (c : Call) → opened_by true c ≡ true
    one (FileCall n f reply) = refl
    one (SourceCall x held) = refl
    one (BaseCall x held) = refl
    one (PeekCall None) = refl
    one (PeekCall (Some base)) = refl
    one (TickCall item) = refl
    one (LookCall ahead filled) = refl
    one (HoldCall held) = refl
    one (RetireCall item) = refl

all-turned : (elastic held n : ℕ) (calls : List Call) → AreBeats elastic held true n calls → Turned elastic (4 * n) n calls
all-turned elastic held zero calls none = subst (Turned elastic (4 * zero) zero) (sym none) (record { later = tt; few = omega arith; one = λ z. omega arith })
all-turned elastic held (suc n) calls (first, rest, asks, is, more) =
    let now = turned elastic held first asks in
    let then = all-turned elastic (held_after held first) n rest (subst (λ (b : Bool). AreBeats elastic (held_after held first) b n rest) (opened-stays first) more) in
    subst (Turned elastic (4 * suc n) (suc n)) (sym is) (record {
      later = later-both first rest now.later then.later;
      few = omega (arith, length-append first rest, now.few, then.few);
      one = λ z. omega (arith, length-append first rest, now.one z, then.one z);
    })

peeks-long : (idle base : ℕ) (turns : List Call) → length (replicate idle (PeekCall None) ++ PeekCall (Some base) ∷ turns) ≡ idle + (1 + length turns)
peeks-long idle base turns = length-append (replicate idle (PeekCall None)) (PeekCall (Some base) ∷ turns) ∙ omega (arith, length-replicate idle (PeekCall None))

pub beats_are_few : BeatsAreFew
beats_are_few elastic made calls beats = elim (beats_open elastic made calls beats) [
  | inl none ↦ let l : length calls ≡ made = ap (λ (c : List Call). length c) none ∙ length-replicate made (PeekCall None) in (omega (arith, l), λ z. omega (arith, l))
  | inr (idle, base, more, turns, count, is, turns-are) ↦
      let l : length calls ≡ idle + (1 + length turns) = ap (λ (c : List Call). length c) is ∙ peeks-long idle base turns in
      let t = all-turned elastic 0 (suc more) turns turns-are in
      (omega (arith, l, count, t.few), λ z. omega (arith, l, count, t.one z))
]

-- ---- that they come in order, each in its ranges

fit-later : (g : ℕ) (calls : List Call) → AllByRecursion IsLater calls → AllByRecursion (CanBeTold g) calls → AllPlayFit g false (events_in calls)
fit-later g [] later told = tt
fit-later g (FileCall n f reply ∷ calls) later told = absurd told.0
fit-later g (SourceCall x held ∷ calls) later told = absurd told.0
fit-later g (BaseCall x held ∷ calls) later told = absurd told.0
fit-later g (PeekCall held ∷ calls) later told = absurd later.0
fit-later g (TickCall items.Idle ∷ calls) later told = absurd told.0
fit-later g (TickCall (items.Frame f) ∷ calls) later told = (told.0, fit-later g calls later.1 told.1)
fit-later g (TickCall items.Erasure ∷ calls) later told = (tt, fit-later g calls later.1 told.1)
fit-later g (LookCall ahead false ∷ calls) later told = (told.0, fit-later g calls later.1 told.1)
fit-later g (LookCall ahead true ∷ calls) later told = (told.0, fit-later g calls later.1 told.1)
fit-later g (HoldCall false ∷ calls) later told = (tt, fit-later g calls later.1 told.1)
fit-later g (HoldCall true ∷ calls) later told = (tt, fit-later g calls later.1 told.1)
fit-later g (RetireCall items.Idle ∷ calls) later told = absurd told.0
fit-later g (RetireCall (items.Frame f) ∷ calls) later told = (told.0, fit-later g calls later.1 told.1)
fit-later g (RetireCall items.Erasure ∷ calls) later told = (tt, fit-later g calls later.1 told.1)

fit-idle : (g n : ℕ) (rest : List Call) → AllPlayFit g true (events_in rest) → AllPlayFit g true (events_in (replicate n (PeekCall None) ++ rest))
fit-idle g zero rest fits = fits
fit-idle g (suc n) rest fits = (refl, fit-idle g n rest fits)

behind-idle : (g n : ℕ) (rest : List Call) → AllByRecursion (CanBeTold g) (replicate n (PeekCall None) ++ rest) → AllByRecursion (CanBeTold g) rest
behind-idle g zero rest told = told
behind-idle g (suc n) rest told = behind-idle g n rest told.1

fit-opened : (g idle base : ℕ) (turns : List Call) → AllByRecursion IsLater turns → AllByRecursion (CanBeTold g) (replicate idle (PeekCall None) ++ PeekCall (Some base) ∷ turns)
    → AllPlayFit g true (events_in (replicate idle (PeekCall None) ++ PeekCall (Some base) ∷ turns))
fit-opened g idle base turns later told =
    let tail : AllByRecursion (CanBeTold g) (PeekCall (Some base) ∷ turns) = behind-idle g idle (PeekCall (Some base) ∷ turns) told in
    fit-idle g idle (PeekCall (Some base) ∷ turns) ((refl, tail.0), fit-later g turns later tail.1)

pub fit-all : (g elastic made : ℕ) (calls : List Call) → AreAllBeats elastic made calls → AllByRecursion (CanBeTold g) calls → AllPlayFit g true (events_in calls)
fit-all g elastic made calls beats told = elim (beats_open elastic made calls beats) [
  | inl none ↦
      let whole : replicate made (PeekCall None) ++ [] ≡ calls = append-nil (replicate made (PeekCall None)) ∙ sym none in
      subst (λ (l : List Call). AllPlayFit g true (events_in l)) whole (fit-idle g made [] tt)
  | inr (idle, base, more, turns, count, is, turns-are) ↦
      let later = (all-turned elastic 0 (suc more) turns turns-are).later in
      subst (λ (l : List Call). AllPlayFit g true (events_in l)) (sym is) (fit-opened g idle base turns later (subst (λ (l : List Call). AllByRecursion (CanBeTold g) l) is told))
]

-- What the loop over the events of a journal keeps.
use Rattle.std.proofs.Common.{◌≡◌, ℕ, ◌+◌, ◌≤◌, ◌<◌, List, [], ◌∷◌, ◌++◌, length, Bool, Option, Some, None, refl, sym, ap, subst, ◌∙◌, append_assoc, append-nil, length-append, arith}
use Rattle.std.specs.List.{flat_map, AllByRecursion}
use Rattle.std.specs.Io.KnownBytes.{Consumes}
use Rattle.std.specs.Prelude.{IfSome}
use Rattle.std.proofs.lemmas.List.Concat.{flat_map-append}
use Rattle.std.proofs.KnownBytes.{Consumes-trans}
use Rattle.recorder.specs.declared.events.PlayEvent.{PlayEvent}
use Rattle.recorder.specs.Files.{event_limit}
use Rattle.recorder.specs.Journals.{opening_behind}
use Rattle.recorder.specs.Play.{AllPlayFit, PlayFits, may_open}

-- these events were read behind a head of these octets
pub record Sofar {E : Type 0} (text : E → List ℕ) (head : List ℕ) (at count : ℕ) (input left : Option (List ℕ)) (events : List E) : Type 0 where
  pub counted : count ≡ length events
  pub few : length events ≤ event_limit
  pub place : at ≡ length (head ++ flat_map text events)
  pub taken : Consumes input left (head ++ flat_map text events)

text-more : {E : Type 0} (text : E → List ℕ) (head : List ℕ) (events : List E) (e : E) → head ++ flat_map text (events ++ e ∷ []) ≡ (head ++ flat_map text events) ++ text e
text-more text head events e =
    ap (λ (l : List ℕ). head ++ l) (flat_map-append text events (e ∷ []) ∙ ap (λ (l : List ℕ). flat_map text events ++ l) (append-nil (text e)))
    ∙ sym (append_assoc head (flat_map text events) (text e))

-- before the first event
pub sofar-head : {E : Type 0} (text : E → List ℕ) (head : List ℕ) (at count : ℕ) (input left : Option (List ℕ)) → at ≡ length head → count ≡ 0 → Consumes input left head → Sofar text head at count input left []
sofar-head text head at count input left place none taken =
    record { counted = none; few = omega arith; place = place ∙ ap (λ (l : List ℕ). length l) (sym (append-nil head)); taken = subst (Consumes input left) (sym (append-nil head)) taken }

-- one event more
pub sofar-more : {E : Type 0} (text : E → List ℕ) (head : List ℕ) (at count at' count' : ℕ) (input left left' : Option (List ℕ)) (events : List E) (e : E) → Sofar text head at count input left events
    → count < event_limit → Consumes left left' (text e) → at' ≡ at + length (text e) → count' ≡ count + 1 → Sofar text head at' count' input left' (events ++ e ∷ [])
sofar-more text head at count at' count' input left left' events e s few took place counted =
    record {
      counted = omega (arith, counted, s.counted, length-append events (e ∷ []));
      few = omega (arith, few, s.counted, length-append events (e ∷ []));
      place = omega (arith, place, s.place, ap (λ (l : List ℕ). length l) (text-more text head events e), length-append (head ++ flat_map text events) (text e));
      taken = subst (Consumes input left') (sym (text-more text head events e)) (Consumes-trans input left left' (head ++ flat_map text events) (text e) s.taken took);
    }

pub fits-more : {E : Type 0} (P : E → Type 0) (es : List E) (e : E) → AllByRecursion P es → P e → AllByRecursion P (es ++ e ∷ [])
fits-more P [] e all p = (p, tt)
fits-more P (x ∷ es) e all p = (all.0, fits-more P es e all.1 p)

pub plays-more : (g : ℕ) (opening : Bool) (es : List PlayEvent) (e : PlayEvent) → AllPlayFit g opening es → PlayFits g (opening_behind opening es) e → AllPlayFit g opening (es ++ e ∷ [])
plays-more g opening [] e all p = (p, tt)
plays-more g opening (x ∷ es) e all p = (all.0, plays-more g (may_open x) es e all.1 p)

pub opening-more : (opening : Bool) (es : List PlayEvent) (e : PlayEvent) → opening_behind opening (es ++ e ∷ []) ≡ may_open e
opening-more opening [] e = refl
opening-more opening (x ∷ es) e = opening-more (may_open x) es e

-- what holds of the octets that are left tells something of all
pub of_input : (input left : Option (List ℕ)) (front : List ℕ) (P Q : List ℕ → Type 0) → Consumes input left front → IfSome left P → ((octets rest : List ℕ) → octets ≡ front ++ rest → P rest → Q octets) → IfSome input Q
of_input None left front P Q took p f = tt
of_input (Some x) None front P Q took p f = absurd took
of_input (Some x) (Some y) front P Q took p f = f x y took p

pub of_some : (input : Option (List ℕ)) (octets : List ℕ) (Q : List ℕ → Type 0) → IfSome input Q → input ≡ Some octets → Q octets
of_some input octets Q all is = subst (λ (o : Option (List ℕ)). IfSome o Q) is all

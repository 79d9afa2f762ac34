-- What the refusal of a journal tells.
use Rattle.std.proofs.Common.{◌≡◌, ℕ, List, ◌++◌, length, take, Bool, true, Option, Some, None, Result, Ok, Err, refl, sym, ap, subst, ◌∙◌, inl, inr}
use Rattle.std.specs.Prelude.{IfOk, IfSome, ◌⊎◌}
use Rattle.std.specs.List.{flat_map}
use Rattle.std.specs.Io.KnownBytes.{Consumes}
use Rattle.std.proofs.KnownBytes.{Consumes-trans}
use Rattle.gate_io.specs.Flow.{ConsumesFewer}
use Rattle.recorder.specs.declared.fault.RecordFault.{RecordFault}
use Rattle.recorder.specs.declared.fault.RecordEnd.{RecordEnd}
use Rattle.recorder.specs.declared.fault.RecordEnd.TheVariants.{Fault, ReadFailed}
use Rattle.recorder.specs.declared.fault.Ending.{Ending}
use Rattle.recorder.specs.declared.refusal.JournalRefusal.{JournalRefusal}
use Rattle.recorder.specs.declared.refusal.JournalRefusal.TheVariants.{End, OutOfMemory}
use Rattle.recorder.specs.Filing.{filer_event_text, filer_fault_at, filer_head_fault, filer_head_text}
use Rattle.recorder.specs.Heads.{head_fault, head_text, play_magic}
use Rattle.recorder.specs.Journals.{FilerRecord, FilerRecordFits, HasFilerFault, IsFilerJournal, PlayerRecord, PlayerRecordFits, HasPlayerFault, IsPlayerJournal, RefusesByFirst, RefusesByHead, filer_text, opening_behind, player_text}
use Rattle.recorder.specs.Play.{play_event_text, play_fault_at}
use Rattle.recorder.specs.Reader.{IsWithin, Tells}
use Rattle.recorder.proofs.JournalSofar.{Sofar, of_input, of_some}
use Rattle.recorder.proofs.OneText.{none_some}
use Rattle.recorder.proofs.FilerUnique as filer
use Rattle.recorder.proofs.PlayerUnique as player

-- a refusal that is a fault tells it
pub fault_told : (T : Type 0) (input : Option (List ℕ)) (end : RecordEnd) (judge : List ℕ → Option RecordFault) (f : RecordFault)
    → IfSome input (λ octets. Tells {T = T} (Err end) (judge octets)) → end ≡ Fault f → IfSome input (λ octets. judge octets ≡ Some f)
fault_told T input end judge f all is = subst (λ (e : RecordEnd). IfSome input (λ octets. Tells {T = T} (Err e) (judge octets))) is all

-- a reader that did not fail before failed in this call
pub in_this_call : (rose : Type 0) (over : Option Ending) (x : Ending) → rose ⊎ (over ≡ Some x) → over ≡ None → rose
in_this_call rose over x (inl r) none = r
in_this_call rose over x (inr s) none = let no' : None ≡ Some x = sym none ∙ s in absurd cc

-- where nothing failed and no fault is there, nothing is refused
pub not_refused : (end : RecordEnd) (rose : Type 0) → ((f : RecordFault) → end ≡ Fault f → ⊥) → (end ≡ ReadFailed → rose) → ¬ rose → ⊥
not_refused (Fault f) rose bad failed fine = bad f refl
not_refused ReadFailed rose bad failed fine = fine (failed refl)

-- ---- of a filer

pub filer_head_refused : (input : Option (List ℕ)) (f : RecordFault) → IfSome input (λ octets. filer_head_fault (take 13 octets) ≡ Some f) → IfSome input (λ octets. HasFilerFault octets f)
filer_head_refused None f told = tt
filer_head_refused (Some x) f told = inl told

pub filer_refused : (input left : Option (List ℕ)) (j : FilerRecord) (at count : ℕ) (f : RecordFault) → FilerRecordFits j
    → Sofar filer_event_text (filer_head_text j.head j.caller) at count input left j.events → IfSome left (λ octets. filer_fault_at count at octets ≡ Some f) → IfSome input (λ octets. HasFilerFault octets f)
filer_refused input left j at count f fits s fault =
    of_input input left (filer_head_text j.head j.caller ++ flat_map filer_event_text j.events) (λ octets. filer_fault_at count at octets ≡ Some f) (λ octets. HasFilerFault octets f) s.taken fault
    (λ octets rest text here. inr (
      j,
      record {
        fits = fits;
        rest = rest;
        text = text;
        fault = subst (λ (n : ℕ). filer_fault_at n (length (filer_head_text j.head j.caller ++ flat_map filer_event_text j.events)) rest ≡ Some f) s.counted (subst (λ (n : ℕ). filer_fault_at count n rest ≡ Some f) s.place here);
      },
    ))

pub filer_sound : (input : Option (List ℕ)) (octets : List ℕ) (j : FilerRecord) (f : RecordFault) → input ≡ Some octets → IsFilerJournal octets j → IfSome input (λ octets. HasFilerFault octets f) → ⊥
filer_sound input octets j f told journal bad = filer.not_both octets j f journal (of_some input octets (λ o. HasFilerFault o f) bad told)

-- ---- of the player

pub player_head_refused : (input : Option (List ℕ)) (f : RecordFault) → IfSome input (λ octets. head_fault play_magic (take 12 octets) ≡ Some f) → IfSome input (λ octets. HasPlayerFault octets f)
player_head_refused None f told = tt
player_head_refused (Some x) f told = inl told

pub player_refused : (input left : Option (List ℕ)) (j : PlayerRecord) (opening : Bool) (at count : ℕ) (f : RecordFault) → PlayerRecordFits j → opening ≡ opening_behind true j.events
    → Sofar play_event_text (head_text play_magic j.head) at count input left j.events → IfSome left (λ octets. play_fault_at j.head.g opening count at octets ≡ Some f) → IfSome input (λ octets. HasPlayerFault octets f)
player_refused input left j opening at count f fits open' s fault =
    of_input input left (head_text play_magic j.head ++ flat_map play_event_text j.events) (λ octets. play_fault_at j.head.g opening count at octets ≡ Some f) (λ octets. HasPlayerFault octets f) s.taken fault
    (λ octets rest text here. inr (
      j,
      record {
        fits = fits;
        rest = rest;
        text = text;
        fault = subst (λ (b : Bool). play_fault_at j.head.g b (length j.events) (length (head_text play_magic j.head ++ flat_map play_event_text j.events)) rest ≡ Some f) open'
            (subst (λ (n : ℕ). play_fault_at j.head.g opening n (length (head_text play_magic j.head ++ flat_map play_event_text j.events)) rest ≡ Some f) s.counted (subst (λ (n : ℕ). play_fault_at j.head.g opening count n rest ≡ Some f) s.place here));
      },
    ))

pub player_sound : (input : Option (List ℕ)) (octets : List ℕ) (j : PlayerRecord) (f : RecordFault) → input ≡ Some octets → IsPlayerJournal octets j → IfSome input (λ octets. HasPlayerFault octets f) → ⊥
player_sound input octets j f told journal bad = player.not_both octets j f journal (of_some input octets (λ o. HasPlayerFault o f) bad told)

-- ---- what the answer tells of octets with a first fault

-- where it is a refusal that tells a first fault
by_first : (T : Type 0) (Has : List ℕ → RecordFault → Type 0) (input : Option (List ℕ)) (result : Result T JournalRefusal) (e : JournalRefusal) → result ≡ Err e → ((octets : List ℕ) (f g : RecordFault) → Has octets f → Has octets g → f ≡ g)
    → ((f : RecordFault) → result ≡ Err (End (Fault f)) → IfSome input (λ octets. Has octets f)) → RefusesByFirst Has input result
by_first T Has input result (End (Fault g)) refused one fault octets f is has =
    let same : g ≡ f = one octets g f (of_some input octets (λ o. Has o g) (fault g refused) is) has in
    inl (inl (refused ∙ ap (λ (h : RecordFault). Err (End (Fault h))) same))
by_first T Has input result (End ReadFailed) refused one fault octets f is has = inl (inr refused)
by_first T Has input result OutOfMemory refused one fault octets f is has = inr refused

-- and where no memory was taken before the head was read
pub by_head : (T : Type 0) (head : List ℕ → Option RecordFault) (Has : List ℕ → RecordFault → Type 0) → ((octets : List ℕ) (f : RecordFault) → head octets ≡ Some f → Has octets f)
    → (input : Option (List ℕ)) (result : Result T JournalRefusal) → RefusesByFirst Has input result → (result ≡ Err OutOfMemory → IfSome input (λ octets. head octets ≡ None)) → RefusesByHead head input result
by_head T head Has front input result first memory octets f is fault =
    elim (first octets f is (front octets f fault)) [
      | inl told ↦ told
      | inr none ↦ absurd (none_some f (head octets) (of_some input octets (λ o. head o ≡ None) (memory none) is) fault)
    ]

-- what was taken from octets stands at their front
rest_of : (left : Option (List ℕ)) (octets front : List ℕ) → Consumes (Some octets) left front → (rest : List ℕ) × (octets ≡ front ++ rest)
rest_of None octets front took = absurd took
rest_of (Some rest) octets front took = (rest, took)

pub filer_first : (input left : Option (List ℕ)) (result : Result FilerRecord JournalRefusal) → IfOk result (λ j. Consumes input left (filer_text j)) → IfOk result (λ j. FilerRecordFits j)
    → ((f : RecordFault) → result ≡ Err (End (Fault f)) → IfSome input (λ octets. HasFilerFault octets f)) → RefusesByFirst HasFilerFault input result
filer_first input left (Ok j) text fits fault octets f is has =
    absurd (filer.not_both octets j f (record { fits = fits; text = rest_of left octets (filer_text j) (subst (λ (o : Option (List ℕ)). Consumes o left (filer_text j)) is text) }) has)
filer_first input left (Err e) text fits fault octets f is has = by_first FilerRecord HasFilerFault input (Err e) e refl filer.first_is_one fault octets f is has

pub player_first : (input left : Option (List ℕ)) (result : Result PlayerRecord JournalRefusal) → IfOk result (λ j. Consumes input left (player_text j)) → IfOk result (λ j. PlayerRecordFits j)
    → ((f : RecordFault) → result ≡ Err (End (Fault f)) → IfSome input (λ octets. HasPlayerFault octets f)) → RefusesByFirst HasPlayerFault input result
player_first input left (Ok j) text fits fault octets f is has =
    absurd (player.not_both octets j f (record { fits = fits; text = rest_of left octets (player_text j) (subst (λ (o : Option (List ℕ)). Consumes o left (player_text j)) is text) }) has)
player_first input left (Err e) text fits fault octets f is has = by_first PlayerRecord HasPlayerFault input (Err e) e refl player.first_is_one fault octets f is has

-- ---- where a refusal leaves the source

pub within : (n : ℕ) (input left : Option (List ℕ)) → ConsumesFewer n input left → IsWithin input left
within n input left p = (p.0, p.2)

pub within_behind : (n : ℕ) (input mid left : Option (List ℕ)) (front : List ℕ) → Consumes input mid front → ConsumesFewer n mid left → IsWithin input left
within_behind n input mid left front took p = (front ++ p.0, Consumes-trans input mid left front p.0 took p.2)

pub within_more : (input mid left : Option (List ℕ)) (front more : List ℕ) → Consumes input mid front → Consumes mid left more → IsWithin input left
within_more input mid left front more took more' = (front ++ more, Consumes-trans input mid left front more took more')

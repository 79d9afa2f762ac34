-- A player's journal has no fault, and octets that are none have one.
use Rattle.std.proofs.Common.{◌≡◌, ◌≢◌, ℕ, ◌+◌, ◌^◌, ◌<◌, ◌≤◌, Bool, true, ltb, leb, ◌&&◌, List, [], ◌∷◌, ◌++◌, length, take, drop, slice_index, Option, Some, None, refl, sym, ap, subst, ◌∙◌, append_assoc, inl, inr, arith}
use Rattle.std.specs.Prelude.{◌==◌, if◌then◌else◌}
use Rattle.std.specs.List.{flat_map}
use Rattle.std.proofs.Math.Nat.{pow-le-pow_right}
use Rattle.std.proofs.lemmas.Bool.Decides.{nat_tests}
use Rattle.std.proofs.lemmas.List.{take_at, drop_at}
use Rattle.byteorder.specs.Endian.{big_bytes, big_number}
use Rattle.byteorder.specs.Numbers.{big_number-reads_back}
use Rattle.frame_codec.specs.Octets.{IsFrame}
use Rattle.recorder.specs.declared.fault.RecordFault.{RecordFault}
use Rattle.recorder.specs.declared.events.PlayEvent.{PlayEvent}
use Rattle.recorder.specs.declared.events.PlayEvent.TheVariants.{Idle, Base, Erasure, Frame, Held, Found, LookFree, LookFilled, RetiredErasure, RetiredFrame}
use Rattle.recorder.specs.Fields.{judged, judged_behind}
use Rattle.recorder.specs.Files.{end_mark, event_limit, is_signed, fault_by}
use Rattle.recorder.specs.Heads.{Heading, IsHeading, head_fault, head_text, play_magic}
use Rattle.recorder.specs.Journals.{PlayersHaveNoFault, PlayersHaveOneFault, opening_behind}
use Rattle.recorder.specs.Play.{AllPlayFit, PlayFits, is_ahead, may_open, play_event_text, play_fault_at, play_field_fault, play_width}
use Rattle.recorder.proofs.OneText.{AllFit, behind, no_fault, none_some, one_fault, some_same}
use Rattle.recorder.proofs.FilerUnique.{passes_on}

abbrev front_of : List ℕ → Option (PlayEvent × List ℕ)
front_of [] = None
front_of (kind ∷ l) =
    if kind == 16 then Some (Idle, l)
    else if kind == 17 then Some (Base (big_number 4 (take 4 l)), drop 4 l)
    else if kind == 18 then Some (Erasure, l)
    else if kind == 19 then Some (Frame (take 33 l), drop 33 l)
    else if kind == 20 then Some (Held, l)
    else if kind == 21 then Some (Found, l)
    else if kind == 22 then Some (LookFree (big_number 2 (take 2 l)), drop 2 l)
    else if kind == 23 then Some (LookFilled (big_number 2 (take 2 l)), drop 2 l)
    else if kind == 24 then Some (RetiredErasure, l)
    else if kind == 25 then Some (RetiredFrame (take 33 l), drop 33 l)
    else None

-- a head's line has no more numbers ahead than two octets tell
small_ahead : (g ahead : ℕ) → g ≤ 10 → ahead < 2 ^ g → ahead < 2 ^ 16
small_ahead g ahead small lt = omega (arith, lt, pow-le-pow_right {n = 2} (omega arith) small)

look_back : (g ahead : ℕ) → g ≤ 10 → ahead < 2 ^ g → big_number 2 (big_bytes 2 ahead) ≡ ahead
look_back g ahead small lt = big_number-reads_back 2 ahead [] (omega (arith, small_ahead g ahead small lt))

front_is : (g : ℕ) → g ≤ 10 → (opening : Bool) (e : PlayEvent) (x : List ℕ) → PlayFits g opening e → front_of (play_event_text e ++ x) ≡ Some (e, x)
front_is g small opening Idle x fits = refl
front_is g small opening (Base base) x fits =
    let back : big_number 4 (big_bytes 4 base) ≡ base = big_number-reads_back 4 base [] (omega (arith, fits.1)) in
    λ i. Some (Base (back i), x)
front_is g small opening Erasure x fits = refl
front_is g small opening (Frame frame) x fits =
    let first : take 33 (frame ++ x) ≡ frame = take_at frame x 33 fits.size in
    let rest : drop 33 (frame ++ x) ≡ x = drop_at frame x 33 fits.size in
    λ i. Some (Frame (first i), rest i)
front_is g small opening Held x fits = refl
front_is g small opening Found x fits = refl
front_is g small opening (LookFree ahead) x fits = λ i. Some (LookFree (look_back g ahead small fits i), x)
front_is g small opening (LookFilled ahead) x fits = λ i. Some (LookFilled (look_back g ahead small fits i), x)
front_is g small opening RetiredErasure x fits = refl
front_is g small opening (RetiredFrame frame) x fits =
    let first : take 33 (frame ++ x) ≡ frame = take_at frame x 33 fits.size in
    let rest : drop 33 (frame ++ x) ≡ x = drop_at frame x 33 fits.size in
    λ i. Some (RetiredFrame (first i), rest i)

next_is : (g : ℕ) (opening : Bool) (kind count at : ℕ) (fields rest : List ℕ) (m : ℕ) → kind ≢ end_mark → count < event_limit → play_width opening kind ≡ Some m → length fields ≡ m
    → play_fault_at g opening count at (kind ∷ (fields ++ rest)) ≡ play_field_fault g kind (at + 1) fields
next_is g opening kind count at fields rest m other few width len =
    let is : play_fault_at g opening count at (kind ∷ (fields ++ rest)) ≡ judged_behind (play_width opening kind) (play_field_fault g kind) at (fields ++ rest) =
    by_kind (λ k. judged_behind (play_width opening k) (play_field_fault g k)) in
    is ∙ ap (λ (o : Option ℕ). judged_behind o (play_field_fault g kind) at (fields ++ rest)) width ∙ ap (play_field_fault g kind (at + 1)) (take_at fields rest m len)
  where
    by_kind : (behind : ℕ → ℕ → List ℕ → Option RecordFault) → fault_by behind count at (kind ∷ (fields ++ rest)) ≡ behind kind at (fields ++ rest)
    by_kind behind = grind (arith, nat_tests, other)

frame_clear : (from : ℕ) (frame : List ℕ) → IsFrame frame → judged frame from 0 33 is_signed None ≡ None
frame_clear from frame fits =
    let whole : take 33 frame ≡ frame = subst (λ (n : ℕ). take n frame ≡ frame) fits.size (take_length frame) in
    passes_on frame from 0 33 is_signed None (omega (arith, fits.size)) (ap is_signed whole ∙ grind (arith, nat_tests, fits.signature))
  where
    take_length : (l : List ℕ) → take (length l) l ≡ l
    take_length [] = refl
    take_length (x ∷ l) = ap (λ (k : List ℕ). x ∷ k) (take_length l)

look_clear : (g from ahead : ℕ) → g ≤ 10 → ahead < 2 ^ g → judged (big_bytes 2 ahead) from 0 2 (is_ahead g) None ≡ None
look_clear g from ahead small lt =
    let below : is_ahead g (big_bytes 2 ahead) ≡ true = rw (look_back g ahead small lt) (grind (arith, nat_tests, lt)) in
    passes_on (big_bytes 2 ahead) from 0 2 (is_ahead g) None (omega arith) below

clear : (g : ℕ) → g ≤ 10 → (opening : Bool) (k at : ℕ) (e : PlayEvent) (rest : List ℕ) → PlayFits g opening e → k < event_limit → play_fault_at g opening k at (play_event_text e ++ rest) ≡ None
clear g small opening k at Idle rest fits few = next_is g opening 16 k at [] rest 0 (λ is. omega arith) few (ap (λ (b : Bool). play_width b 16) fits) refl
clear g small opening k at (Base base) rest fits few =
    next_is g opening 17 k at (big_bytes 4 base) rest 4 (λ is. omega arith) few (ap (λ (b : Bool). play_width b 17) fits.0) refl
    ∙ passes_on (big_bytes 4 base) (at + 1) 0 4 (λ (o : List ℕ). true) None (omega arith) refl
clear g small opening k at Erasure rest fits few = next_is g opening 18 k at [] rest 0 (λ is. omega arith) few refl refl
clear g small opening k at (Frame frame) rest fits few = next_is g opening 19 k at frame rest 33 (λ is. omega arith) few refl fits.size ∙ frame_clear (at + 1) frame fits
clear g small opening k at Held rest fits few = next_is g opening 20 k at [] rest 0 (λ is. omega arith) few refl refl
clear g small opening k at Found rest fits few = next_is g opening 21 k at [] rest 0 (λ is. omega arith) few refl refl
clear g small opening k at (LookFree ahead) rest fits few = next_is g opening 22 k at (big_bytes 2 ahead) rest 2 (λ is. omega arith) few refl refl ∙ look_clear g (at + 1) ahead small fits
clear g small opening k at (LookFilled ahead) rest fits few = next_is g opening 23 k at (big_bytes 2 ahead) rest 2 (λ is. omega arith) few refl refl ∙ look_clear g (at + 1) ahead small fits
clear g small opening k at RetiredErasure rest fits few = next_is g opening 24 k at [] rest 0 (λ is. omega arith) few refl refl
clear g small opening k at (RetiredFrame frame) rest fits few = next_is g opening 25 k at frame rest 33 (λ is. omega arith) few refl fits.size ∙ frame_clear (at + 1) frame fits

head_clear : (h : Heading) (x : List ℕ) → IsHeading h → head_fault play_magic (take 12 (head_text play_magic h ++ x)) ≡ None
head_clear h x is =
    let top : 2 ^ h.g ≤ 2 ^ 10 = pow-le-pow_right {n = 2} (omega arith) is.g in
    let delay : ltb (big_number 2 (take 2 (drop 10 (head_text play_magic h)))) (2 ^ h.g) ≡ true =
    rw (big_number-reads_back 2 h.delay [] (omega (arith, is.delay, top))) (grind (arith, nat_tests, is.delay)) in
    let g : leb h.g 10 ≡ true = grind (arith, nat_tests, is.g) in
    let filers : (leb 1 h.filers && leb h.filers 64) ≡ true = grind (arith, nat_tests, is.some, is.few) in
    rw (filers, g, delay) refl

abbrev goes_on : Bool → PlayEvent → Bool
goes_on opening e = may_open e

all_fit : (g : ℕ) (opening : Bool) (es : List PlayEvent) → AllPlayFit g opening es → AllFit (PlayFits g) goes_on opening es
all_fit g opening [] all = tt
all_fit g opening (e ∷ es) all = (all.0, all_fit g (may_open e) es all.1)

same_behind : (opening : Bool) (es : List PlayEvent) → opening_behind opening es ≡ behind goes_on opening es
same_behind opening [] = refl
same_behind opening (e ∷ es) = same_behind (may_open e) es

-- the fault behind these events, counted from none
counted : (g : ℕ) (events : List PlayEvent) (at : ℕ) (rest : List ℕ) (f : RecordFault) → play_fault_at g (opening_behind true events) (length events) at rest ≡ Some f → play_fault_at g (behind goes_on true events) (0 + length events) at rest ≡ Some f
counted g events at rest f fault =
    subst (λ (n : ℕ). play_fault_at g (behind goes_on true events) n at rest ≡ Some f) (omega arith)
    (subst (λ (b : Bool). play_fault_at g b (length events) at rest ≡ Some f) (same_behind true events) fault)

-- texts that are one have lines of the same number of slots
same_slots : (h k : Heading) (x y : List ℕ) → head_text play_magic h ++ x ≡ head_text play_magic k ++ y → h.g ≡ k.g
same_slots h k x y same = ap (λ (l : List ℕ). slice_index l 9) same

pub not_both : PlayersHaveNoFault
not_both octets j f journal (inl fault) =
    let is : octets ≡ head_text play_magic j.head ++ ((flat_map play_event_text j.events ++ end_mark ∷ []) ++ journal.text.0) = journal.text.1 in
    none_some f (head_fault play_magic (take 12 octets)) (ap (λ (l : List ℕ). head_fault play_magic (take 12 l)) is ∙ head_clear j.head ((flat_map play_event_text j.events ++ end_mark ∷ []) ++ journal.text.0) journal.fits.head) fault
not_both octets j f journal (inr (k, after)) =
    let one : drop 12 octets ≡ flat_map play_event_text j.events ++ end_mark ∷ journal.text.0 = ap (drop 12) journal.text.1 ∙ append_assoc (flat_map play_event_text j.events) (end_mark ∷ []) journal.text.0 in
    let two : drop 12 octets ≡ flat_map play_event_text k.events ++ after.rest = ap (drop 12) after.text in
    let place = length (head_text play_magic k.head ++ flat_map play_event_text k.events) in
    let slots : j.head.g ≡ k.head.g = same_slots j.head k.head ((flat_map play_event_text j.events ++ end_mark ∷ []) ++ journal.text.0) (flat_map play_event_text k.events ++ after.rest) (sym journal.text.1 ∙ after.text) in
    let fits : AllPlayFit k.head.g true j.events = subst (λ (n : ℕ). AllPlayFit n true j.events) slots journal.fits.events in
    no_fault PlayEvent Bool play_event_text (PlayFits k.head.g) goes_on (play_fault_at k.head.g) front_of (clear k.head.g after.fits.head.g) (λ s n at more. refl) (front_is k.head.g after.fits.head.g) (λ more. refl)
    true 0 place k.events j.events after.rest journal.text.0 f (all_fit k.head.g true k.events after.fits.events) (all_fit k.head.g true j.events fits)
    (omega (arith, journal.fits.few)) (sym two ∙ one) (counted k.head.g k.events place after.rest f after.fault)

-- octets with a head have no fault there
head_first : (octets rest : List ℕ) (h : Heading) (f : RecordFault) → IsHeading h → octets ≡ head_text play_magic h ++ rest → head_fault play_magic (take 12 octets) ≡ Some f → ⊥
head_first octets rest h f is text fault =
    none_some f (head_fault play_magic (take 12 octets)) (ap (λ (l : List ℕ). head_fault play_magic (take 12 l)) text ∙ head_clear h rest is) fault

place_is : (h : Heading) (events : List ℕ) → length (head_text play_magic h ++ events) ≡ 12 + length events
place_is h events = omega arith

pub first_is_one : PlayersHaveOneFault
first_is_one octets f g (inl a) (inl b) = some_same f g (head_fault play_magic (take 12 octets)) a b
first_is_one octets f g (inl a) (inr (j, after)) = absurd (head_first octets (flat_map play_event_text j.events ++ after.rest) j.head f after.fits.head after.text a)
first_is_one octets f g (inr (j, after)) (inl b) = absurd (head_first octets (flat_map play_event_text j.events ++ after.rest) j.head g after.fits.head after.text b)
first_is_one octets f g (inr (j, after)) (inr (k, other)) =
    let one : drop 12 octets ≡ flat_map play_event_text j.events ++ after.rest = ap (drop 12) after.text in
    let two : drop 12 octets ≡ flat_map play_event_text k.events ++ other.rest = ap (drop 12) other.text in
    let at = length (head_text play_magic j.head ++ flat_map play_event_text j.events) in
    let at' = length (head_text play_magic k.head ++ flat_map play_event_text k.events) in
    let slots : k.head.g ≡ j.head.g = same_slots k.head j.head (flat_map play_event_text k.events ++ other.rest) (flat_map play_event_text j.events ++ after.rest) (sym other.text ∙ after.text) in
    let fits : AllPlayFit j.head.g true k.events = subst (λ (n : ℕ). AllPlayFit n true k.events) slots other.fits.events in
    let fault : play_fault_at j.head.g (opening_behind true k.events) (length k.events) at' other.rest ≡ Some g =
    subst (λ (n : ℕ). play_fault_at n (opening_behind true k.events) (length k.events) at' other.rest ≡ Some g) slots other.fault in
    one_fault PlayEvent Bool play_event_text (PlayFits j.head.g) goes_on (play_fault_at j.head.g) front_of (clear j.head.g after.fits.head.g) (λ s n at more. refl) (front_is j.head.g after.fits.head.g) (λ more. refl)
    true 0 12 at at' j.events k.events after.rest other.rest f g (all_fit j.head.g true j.events after.fits.events) (all_fit j.head.g true k.events fits) (omega (arith, after.fits.few)) (omega (arith, other.fits.few))
    (place_is j.head (flat_map play_event_text j.events)) (place_is k.head (flat_map play_event_text k.events)) (sym one ∙ two)
    (counted j.head.g j.events at after.rest f after.fault) (counted j.head.g k.events at' other.rest g fault)

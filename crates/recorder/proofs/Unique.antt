-- What is spelled has no fault, and is spelled so alone.
use Rattle.std.proofs.Common.{◌≡◌, ℕ, ◌+◌, ◌^◌, ◌<◌, ◌≤◌, Bool, true, false, ltb, leb, ◌&&◌, List, [], ◌∷◌, ◌++◌, length, take, drop, slice_index, Option, Some, None, refl, sym, ap, subst, ◌∙◌, append_assoc, length-append, inl, inr, arith}
use Rattle.std.specs.Prelude.{◌==◌, if◌then◌else◌}
use Rattle.std.specs.List.{flat_map, AllByRecursion}
use Rattle.std.proofs.Math.Nat.{pow-le-pow_right}
use Rattle.std.proofs.lemmas.Bool.{le-ltb}
use Rattle.std.proofs.lemmas.Bool.Decides.{nat_tests}
use Rattle.std.proofs.lemmas.List.{take_at, drop_at}
use Rattle.byteorder.specs.Endian.{big_bytes, big_number}
use Rattle.byteorder.specs.Numbers.{big_number-reads_back}
use Rattle.recorder.specs.declared.fault.RecordFault.{RecordFault}
use Rattle.recorder.specs.declared.events.ScriptEvent.{ScriptEvent}
use Rattle.recorder.specs.declared.events.ScriptEvent.TheVariants.{Tick, File, Datagram, Beat}
use Rattle.recorder.specs.Fields.{judged}
use Rattle.recorder.specs.Heads.{Heading, IsHeading, head_fault, head_text, script_magic}
use Rattle.recorder.specs.Files.{end_mark, event_limit, is_signed}
use Rattle.recorder.specs.Script.{event_text, EventFits, FileFits, DatagramFits, announced, datagram_fault, whole_datagram_fault, file_fault, fault_at, script_text, FaultAfter, ScriptsHaveNoFault, ScriptsHaveOneFault}
use Rattle.recorder.proofs.OneText.{AllFit, one_fault, some_same}
use Rattle.recorder.proofs.Taken.{file_next, datagram_next}
use Rattle.recorder.proofs.Spelled.{take-all}

judged-pass : (octets : List ℕ) (from start width : ℕ) (passes : List ℕ → Bool) (rest : Option RecordFault) → start + width ≤ length octets → passes (take width (drop start octets)) ≡ true → judged octets from start width passes rest ≡ rest
judged-pass octets from start width passes rest long ok = rw (le-ltb (length octets) (start + width) long, ok) refl

-- ---- one event

-- the fields of a File
abbrev file_fields : ℕ → ℕ → List ℕ → List ℕ
file_fields caller number frame = caller ∷ (big_bytes 8 number ++ frame)

file_clear : (h : Heading) (from caller number : ℕ) (frame : List ℕ) → FileFits h caller number frame → file_fault h from (file_fields caller number frame) ≡ None
file_clear h from caller number frame fits =
    let fields = file_fields caller number frame in
    let long : length fields ≡ 42 = omega (arith, fits.in_frame.size) in
    let back : big_number 8 (take 8 (drop 1 fields)) ≡ number = big_number-reads_back 8 number [] (omega (arith, fits.in_number)) in
    let last : take 33 (drop 9 fields) ≡ frame = take-all 33 frame fits.in_frame.size in
    let a : ltb (slice_index (take 1 (drop 0 fields)) 0) h.filers ≡ true = grind (arith, nat_tests, fits.in_caller) in
    let b : ltb (big_number 8 (take 8 (drop 1 fields))) (2 ^ 47) ≡ true = rw back (grind (arith, nat_tests, fits.in_number)) in
    let c : is_signed (take 33 (drop 9 fields)) ≡ true = rw last (grind (arith, nat_tests, fits.in_frame.signature)) in
    judged-pass fields from 0 1 (λ (o : List ℕ). ltb (slice_index o 0) h.filers) _ (omega (arith, long)) a ∙ judged-pass fields from 1 8 (λ (o : List ℕ). ltb (big_number 8 o) (2 ^ 47)) _ (omega (arith, long)) b ∙ judged-pass fields from 9 33 is_signed None (omega (arith, long)) c

-- the seven octets before the octets of a Datagram
abbrev datagram_fields : ℕ → ℕ → ℕ → List ℕ
datagram_fields caller at count = caller ∷ (big_bytes 4 at ++ big_bytes 2 count)

datagram_clear : (h : Heading) (from caller at : ℕ) (octets : List ℕ) → DatagramFits h caller at octets → datagram_fault h from (datagram_fields caller at (length octets)) ≡ None
datagram_clear h from caller at octets fits =
    let fields = datagram_fields caller at (length octets) in
    let back : big_number 2 (take 2 (drop 5 fields)) ≡ length octets = big_number-reads_back 2 (length octets) [] (omega (arith, fits.short)) in
    let a : ltb (slice_index (take 1 (drop 0 fields)) 0) h.filers ≡ true = grind (arith, nat_tests, fits.in_caller) in
    let c : leb (big_number 2 (take 2 (drop 5 fields))) 2048 ≡ true = rw back (grind (arith, nat_tests, fits.short)) in
    judged-pass fields from 0 1 (λ (o : List ℕ). ltb (slice_index o 0) h.filers) _ (omega arith) a ∙ judged-pass fields from 1 4 (λ (o : List ℕ). true) _ (omega arith) refl ∙ judged-pass fields from 5 2 (λ (o : List ℕ). leb (big_number 2 o) 2048) None (omega arith) c

whole_clear : (h : Heading) (from caller at : ℕ) (octets rest : List ℕ) → DatagramFits h caller at octets → whole_datagram_fault h from (datagram_fields caller at (length octets) ++ (octets ++ rest)) ≡ None
whole_clear h from caller at octets rest fits =
    let back : announced (datagram_fields caller at (length octets) ++ (octets ++ rest)) ≡ length octets = big_number-reads_back 2 (length octets) [] (omega (arith, fits.short)) in
    let there : ltb (length (octets ++ rest)) (length octets) ≡ false = le-ltb _ _ (omega (arith, length-append octets rest)) in
    rw (datagram_clear h from caller at octets fits, back, there) refl

-- at an event in its ranges stands no fault
event_clear : (h : Heading) (count at : ℕ) (e : ScriptEvent) (rest : List ℕ) → EventFits h e → count < event_limit → fault_at h count at (event_text e ++ rest) ≡ None
event_clear h count at Tick rest fits few = grind (arith, nat_tests)
event_clear h count at Beat rest fits few = grind (arith, nat_tests)
event_clear h count at (Datagram caller moment octets) rest fits few =
    datagram_next h count at (datagram_fields caller moment (length octets) ++ (octets ++ rest)) few ∙ whole_clear h (at + 1) caller moment octets rest fits
event_clear h count at (File caller number frame) rest fits few =
    let fields = file_fields caller number frame in
    let long : length fields ≡ 42 = omega (arith, fits.in_frame.size) in
    file_next h count at (fields ++ rest) few ∙ ap (file_fault h (at + 1)) (take_at fields rest 42 long) ∙ file_clear h (at + 1) caller number frame fits

-- the event that the octets begin with, and those behind it
abbrev front_of : List ℕ → Option (ScriptEvent × List ℕ)
front_of [] = None
front_of (kind ∷ l) =
    if kind == 1 then Some (Tick, l)
    else if kind == 2 then Some (File (slice_index l 0) (big_number 8 (take 8 (drop 1 l))) (take 33 (drop 9 l)), drop 42 l)
    else if kind == 3 then Some (Datagram (slice_index l 0) (big_number 4 (take 4 (drop 1 l))) (take (announced l) (drop 7 l)), drop (announced l) (drop 7 l))
    else if kind == 4 then Some (Beat, l)
    else None

front_is : (h : Heading) (e : ScriptEvent) (x : List ℕ) → EventFits h e → front_of (event_text e ++ x) ≡ Some (e, x)
front_is h Tick x fits = refl
front_is h Beat x fits = refl
front_is h (Datagram caller at octets) x fits =
    let len : announced (datagram_fields caller at (length octets) ++ (octets ++ x)) ≡ length octets = big_number-reads_back 2 (length octets) [] (omega (arith, fits.short)) in
    rw (big_number-reads_back 4 at [] (omega (arith, fits.in_at)), len, take_at octets x (length octets) refl, drop_at octets x (length octets) refl) refl
front_is h (File caller number frame) x fits =
    let back : big_number 8 (take 8 (big_bytes 8 number ++ (frame ++ x))) ≡ number = big_number-reads_back 8 number [] (omega (arith, fits.in_number)) in
    rw (back, take_at frame x 33 fits.in_frame.size, drop_at frame x 33 fits.in_frame.size) refl

-- no event begins another
events_same : (h : Heading) (e e' : ScriptEvent) (x y : List ℕ) → EventFits h e → EventFits h e' → event_text e ++ x ≡ event_text e' ++ y → (e ≡ e') × (x ≡ y)
events_same h e e' x y fits fits' same = parts (e, x) (e', y) (sym (front_is h e x fits) ∙ ap front_of same ∙ front_is h e' y fits')
  where
    parts : (p q : ScriptEvent × List ℕ) → Some p ≡ Some q → (p.0 ≡ q.0) × (p.1 ≡ q.1)
    parts p q same = let is : p ≡ q = cc in (ap (λ (r : ScriptEvent × List ℕ). r.0) is, ap (λ (r : ScriptEvent × List ℕ). r.1) is)

none_some : {T : Type 0} (x : T) (o : Option T) → o ≡ None → o ≡ Some x → ⊥
none_some x o p q = let h : None ≡ Some x = sym p ∙ q in absurd cc

-- an event is no end mark
no_mark : (h : Heading) (e : ScriptEvent) (x more : List ℕ) → EventFits h e → event_text e ++ x ≡ end_mark ∷ more → ⊥
no_mark h e x more fits same = none_some (e, x) (front_of (end_mark ∷ more)) refl (ap front_of (sym same) ∙ front_is h e x fits)

-- ---- several events

-- among events that go on to the end mark stands no fault
no_fault : (h : Heading) (k at : ℕ) (before events : List ScriptEvent) (rest more : List ℕ) (f : RecordFault) → AllByRecursion (EventFits h) before → AllByRecursion (EventFits h) events
    → k + length events ≤ event_limit → flat_map event_text before ++ rest ≡ flat_map event_text events ++ end_mark ∷ more → fault_at h (k + length before) at rest ≡ Some f → ⊥
no_fault h k at [] [] rest more f fits fits' few same fault = none_some f (fault_at h (k + 0) at rest) (ap (fault_at h (k + 0) at) same) fault
no_fault h k at [] (e ∷ es) rest more f fits fits' few same fault =
    let is : rest ≡ event_text e ++ (flat_map event_text es ++ end_mark ∷ more) = same ∙ append_assoc (event_text e) (flat_map event_text es) (end_mark ∷ more) in
    none_some f (fault_at h (k + 0) at rest) (ap (fault_at h (k + 0) at) is ∙ event_clear h (k + 0) at e (flat_map event_text es ++ end_mark ∷ more) fits'.0 (omega arith)) fault
no_fault h k at (e ∷ es) [] rest more f fits fits' few same fault = no_mark h e (flat_map event_text es ++ rest) more fits.0 (sym (append_assoc (event_text e) (flat_map event_text es) rest) ∙ same)
no_fault h k at (e ∷ es) (d ∷ ds) rest more f fits fits' few same fault =
    let regrouped : event_text e ++ (flat_map event_text es ++ rest) ≡ event_text d ++ (flat_map event_text ds ++ end_mark ∷ more) =
    sym (append_assoc (event_text e) (flat_map event_text es) rest) ∙ same ∙ append_assoc (event_text d) (flat_map event_text ds) (end_mark ∷ more) in
    let both = events_same h e d (flat_map event_text es ++ rest) (flat_map event_text ds ++ end_mark ∷ more) fits.0 fits'.0 regrouped in
    no_fault h (k + 1) at es ds rest more f fits.1 fits'.1 (omega arith) both.1 (subst (λ (n : ℕ). fault_at h n at rest ≡ Some f) (omega arith) fault)

-- ---- heads

delays_same : (m n : ℕ) → m < 2 ^ 16 → n < 2 ^ 16 → big_bytes 2 m ≡ big_bytes 2 n → m ≡ n
delays_same m n p q same = sym (big_number-reads_back 2 m [] (omega arith)) ∙ ap (big_number 2) same ∙ big_number-reads_back 2 n [] (omega arith)

small : (h : Heading) → IsHeading h → h.delay < 2 ^ 16
small h is = let top : 2 ^ h.g ≤ 2 ^ 10 = pow-le-pow_right {n = 2} (omega arith) is.g in omega (arith, is.delay, top)

heads_same : (h h' : Heading) (x y : List ℕ) → IsHeading h → IsHeading h' → head_text script_magic h ++ x ≡ head_text script_magic h' ++ y → (h ≡ h') × (x ≡ y)
heads_same h h' x y is is' same =
    let filers : h.filers ≡ h'.filers = ap (λ (l : List ℕ). slice_index l 8) same in
    let g : h.g ≡ h'.g = ap (λ (l : List ℕ). slice_index l 9) same in
    let delay : h.delay ≡ h'.delay = delays_same h.delay h'.delay (small h is) (small h' is') (ap (λ (l : List ℕ). take 2 (drop 10 l)) same) in
    (joined h h' filers g delay, ap (drop 12) same)
  where
    joined : (h h' : Heading) → h.filers ≡ h'.filers → h.g ≡ h'.g → h.delay ≡ h'.delay → h ≡ h'
    joined h h' p q r = λ i. record { filers = p i; g = q i; delay = r i }

head_clear : (h : Heading) (x : List ℕ) → IsHeading h → head_fault script_magic (take 12 (head_text script_magic h ++ x)) ≡ None
head_clear h x is =
    let delay : ltb (big_number 2 (take 2 (drop 10 (head_text script_magic h)))) (2 ^ h.g) ≡ true =
    rw (big_number-reads_back 2 h.delay [] (omega (arith, small h is))) (grind (arith, nat_tests, is.delay)) in
    let g : leb h.g 10 ≡ true = grind (arith, nat_tests, is.g) in
    let filers : (leb 1 h.filers && leb h.filers 64) ≡ true = grind (arith, nat_tests, is.some, is.few) in
    rw (filers, g, delay) refl

-- a script has no fault
pub not_both : ScriptsHaveNoFault
not_both octets h events f script (inl fault) =
    let is : octets ≡ head_text script_magic h ++ (flat_map event_text events ++ end_mark ∷ script.text.0) = script.text.1 ∙ append_assoc (head_text script_magic h) (flat_map event_text events) (end_mark ∷ script.text.0) in
    none_some f (head_fault script_magic (take 12 octets)) (ap (λ (l : List ℕ). head_fault script_magic (take 12 l)) is ∙ head_clear h (flat_map event_text events ++ end_mark ∷ script.text.0) script.head) fault
not_both octets h events f script (inr (h', before, after)) =
    let is : octets ≡ head_text script_magic h ++ (flat_map event_text events ++ end_mark ∷ script.text.0) = script.text.1 ∙ append_assoc (head_text script_magic h) (flat_map event_text events) (end_mark ∷ script.text.0) in
    let is' : octets ≡ head_text script_magic h' ++ (flat_map event_text before ++ after.rest) = after.text ∙ append_assoc (head_text script_magic h') (flat_map event_text before) after.rest in
    let both = heads_same h' h (flat_map event_text before ++ after.rest) (flat_map event_text events ++ end_mark ∷ script.text.0) after.heading script.head (sym is' ∙ is) in
    let fits : AllByRecursion (EventFits h') events = subst (λ (k : Heading). AllByRecursion (EventFits k) events) (sym both.0) script.fits in
    no_fault h' 0 (length (script_text h' before)) before events after.rest script.text.0 f after.fits fits (omega (arith, script.few)) both.1 (subst (λ (n : ℕ). fault_at h' n (length (script_text h' before)) after.rest ≡ Some f) (omega arith) after.fault)

-- ---- the first fault is one

abbrev stays : Unit {0} → ScriptEvent → Unit {0}
stays s e = s

abbrev FitsAt : Heading → Unit {0} → ScriptEvent → Type 0
FitsAt h s e = EventFits h e

all_fit : (h : Heading) (es : List ScriptEvent) → AllByRecursion (EventFits h) es → AllFit (FitsAt h) stays tt es
all_fit h [] all = tt
all_fit h (e ∷ es) all = (all.0, all_fit h es all.1)

-- octets with a head have no fault there
head_first : (octets : List ℕ) (h : Heading) (events : List ScriptEvent) (f g : RecordFault) → FaultAfter octets h events g → head_fault script_magic (take 12 octets) ≡ Some f → ⊥
head_first octets h events f g after fault =
    let is : octets ≡ head_text script_magic h ++ (flat_map event_text events ++ after.rest) = after.text ∙ append_assoc (head_text script_magic h) (flat_map event_text events) after.rest in
    none_some f (head_fault script_magic (take 12 octets)) (ap (λ (l : List ℕ). head_fault script_magic (take 12 l)) is ∙ head_clear h (flat_map event_text events ++ after.rest) after.heading) fault

place_is : (h : Heading) (events : List ℕ) → length (head_text script_magic h ++ events) ≡ 12 + length events
place_is h events = omega arith

pub first_is_one : ScriptsHaveOneFault
first_is_one octets f g (inl a) (inl b) = some_same f g (head_fault script_magic (take 12 octets)) a b
first_is_one octets f g (inl a) (inr (h, events, after)) = absurd (head_first octets h events f g after a)
first_is_one octets f g (inr (h, events, after)) (inl b) = absurd (head_first octets h events g f after b)
first_is_one octets f g (inr (h, before, after)) (inr (h', events, other)) =
    let is : octets ≡ head_text script_magic h ++ (flat_map event_text before ++ after.rest) = after.text ∙ append_assoc (head_text script_magic h) (flat_map event_text before) after.rest in
    let is' : octets ≡ head_text script_magic h' ++ (flat_map event_text events ++ other.rest) = other.text ∙ append_assoc (head_text script_magic h') (flat_map event_text events) other.rest in
    let both = heads_same h h' (flat_map event_text before ++ after.rest) (flat_map event_text events ++ other.rest) after.heading other.heading (sym is ∙ is') in
    let fits : AllByRecursion (EventFits h) events = subst (λ (k : Heading). AllByRecursion (EventFits k) events) (sym both.0) other.fits in
    let fault : fault_at h (length events) (length (script_text h events)) other.rest ≡ Some g =
    subst (λ (k : Heading). fault_at k (length events) (length (script_text k events)) other.rest ≡ Some g) (sym both.0) other.fault in
    one_fault ScriptEvent (Unit {0}) event_text (FitsAt h) stays (λ s. fault_at h) front_of (λ s. event_clear h) (λ s n at more. refl) (λ s. front_is h) (λ more. refl)
    tt 0 12 (length (script_text h before)) (length (script_text h events)) before events after.rest other.rest f g (all_fit h before after.fits) (all_fit h events fits) (omega (arith, after.few)) (omega (arith, other.few))
    (place_is h (flat_map event_text before)) (place_is h (flat_map event_text events)) both.1
    (subst (λ (n : ℕ). fault_at h n (length (script_text h before)) after.rest ≡ Some f) (omega arith) after.fault)
    (subst (λ (n : ℕ). fault_at h n (length (script_text h events)) other.rest ≡ Some g) (omega arith) fault)

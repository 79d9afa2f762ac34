-- A filer's journal has no fault, and octets that are none have one.
use Rattle.std.proofs.Common.{◌≡◌, ◌≢◌, ℕ, ◌+◌, ◌^◌, ◌<◌, ◌≤◌, Bool, true, false, ltb, leb, ◌&&◌, ◌||◌, List, [], ◌∷◌, ◌++◌, length, take, drop, slice_index, Option, Some, None, refl, sym, ap, subst, ◌∙◌, append_assoc, length-append, inl, inr, arith}
use Rattle.std.specs.Prelude.{◌==◌, if◌then◌else◌}
use Rattle.std.specs.List.{flat_map, AllByRecursion}
use Rattle.std.proofs.Math.Nat.{pow-le-pow_right}
use Rattle.std.proofs.lemmas.Bool.{le-ltb}
use Rattle.std.proofs.lemmas.Bool.Decides.{nat_tests}
use Rattle.std.proofs.lemmas.List.{take_at, drop_at}
use Rattle.byteorder.specs.Endian.{big_bytes, big_number}
use Rattle.byteorder.specs.Numbers.{big_number-reads_back}
use Rattle.playout.specs.declared.reply.FileReply.{FileReply}
use Rattle.playout.specs.declared.reply.FileReply.TheVariants.{Accepted, Duplicate, Late, Beyond}
use Rattle.recorder.specs.declared.fault.RecordFault.{RecordFault}
use Rattle.recorder.specs.declared.events.FilerEvent.{FilerEvent}
use Rattle.recorder.specs.declared.events.FilerEvent.TheVariants.{Source, Base, File, Refused, Rtcp, Stranger, Empty}
use Rattle.recorder.specs.Fields.{judged, judged_behind}
use Rattle.recorder.specs.Files.{end_mark, event_limit, is_signed, fault_by}
use Rattle.recorder.specs.Filing.{reply_kind, reply_text, filer_event_text, filer_head_text, filer_head_fault, is_code, has_detail, ReplyTells, FiledFits, RefusedFits, FilerFits, filer_width, filed_fault, ahead_passes, ahead_fault, refused_fault, reply_fault, filer_field_fault, filer_fault_at}
use Rattle.recorder.specs.Heads.{Heading, IsHeading, head_text, filer_magic}
use Rattle.recorder.specs.Journals.{FilerRecord, FilersHaveNoFault, FilersHaveOneFault}
use Rattle.recorder.proofs.OneText.{AllFit, behind, no_fault, none_some, one_fault, some_same}

-- ---- the event that octets begin with

abbrev reply_in : ℕ → List ℕ → FileReply × List ℕ
reply_in kind l =
    if kind == 34 then (Accepted, l)
    else if kind == 35 then (Duplicate, l)
    else if kind == 36 then (Late (big_number 8 (take 8 l)), drop 8 l)
    else (Beyond (big_number 8 (take 8 l)), drop 8 l)

abbrev file_in : ℕ → List ℕ → Option (FilerEvent × List ℕ)
file_in kind l =
    let reply = reply_in kind (drop 33 (drop 8 l)) in
    Some (File (big_number 8 (take 8 l)) (take 33 (drop 8 l)) reply.0, reply.1)

abbrev front_of : List ℕ → Option (FilerEvent × List ℕ)
front_of [] = None
front_of (kind ∷ l) =
    if kind == 32 then Some (Source (record { said = big_number 4 (take 4 l); held = big_number 4 (take 4 (drop 4 l)) }), drop 8 l)
    else if kind == 33 then Some (Base (record { said = big_number 4 (take 4 l); held = big_number 4 (take 4 (drop 4 l)) }), drop 8 l)
    else if kind == 40 then Some (Stranger (big_number 4 (take 4 l)) (big_number 4 (take 4 (drop 4 l))), drop 8 l)
    else if kind == 38 then Some (Refused (slice_index l 0) (big_number 2 (take 2 (drop 1 l))), drop 3 l)
    else if kind == 39 then Some (Rtcp, l)
    else if kind == 41 then Some (Empty, l)
    else if kind == 255 then None
    else file_in kind l

reply_is : (number : ℕ) (reply : FileReply) (x : List ℕ) → ReplyTells number reply → reply_in (reply_kind reply) (reply_text reply ++ x) ≡ (reply, x)
reply_is number Accepted x tells = refl
reply_is number Duplicate x tells = refl
reply_is number (Late ahead) x tells = let back : big_number 8 (big_bytes 8 ahead) ≡ ahead = big_number-reads_back 8 ahead [] (omega (arith, tells.1)) in λ i. (Late (back i), x)
reply_is number (Beyond ahead) x tells = let back : big_number 8 (big_bytes 8 ahead) ≡ ahead = big_number-reads_back 8 ahead [] (omega (arith, tells.1)) in λ i. (Beyond (back i), x)

file_is : (number : ℕ) (frame : List ℕ) (reply : FileReply) (x : List ℕ) → FiledFits number frame reply
    → file_in (reply_kind reply) (big_bytes 8 number ++ ((frame ++ reply_text reply) ++ x)) ≡ Some (File number frame reply, x)
file_is number frame reply x fits =
    let tail = reply_text reply ++ x in
    let back : big_number 8 (big_bytes 8 number) ≡ number = big_number-reads_back 8 number [] (omega (arith, fits.in_number)) in
    let whole : (frame ++ reply_text reply) ++ x ≡ frame ++ tail = append_assoc frame (reply_text reply) x in
    let first : take 33 ((frame ++ reply_text reply) ++ x) ≡ frame = ap (take 33) whole ∙ take_at frame tail 33 fits.in_frame.size in
    let rest : drop 33 ((frame ++ reply_text reply) ++ x) ≡ tail = ap (drop 33) whole ∙ drop_at frame tail 33 fits.in_frame.size in
    let last : reply_in (reply_kind reply) (drop 33 ((frame ++ reply_text reply) ++ x)) ≡ (reply, x) = ap (reply_in (reply_kind reply)) rest ∙ reply_is number reply x fits.in_reply in
    λ i. Some (File (back i) (first i) (last i).0, (last i).1)

front_is : (s : Unit {0}) (e : FilerEvent) (x : List ℕ) → FilerFits e → front_of (filer_event_text e ++ x) ≡ Some (e, x)
front_is s (Source asked) x fits =
    let said : big_number 4 (big_bytes 4 asked.said) ≡ asked.said = big_number-reads_back 4 asked.said [] (omega (arith, fits.0)) in
    let held : big_number 4 (big_bytes 4 asked.held) ≡ asked.held = big_number-reads_back 4 asked.held [] (omega (arith, fits.1)) in
    λ i. Some (Source (record { said = said i; held = held i }), x)
front_is s (Base asked) x fits =
    let said : big_number 4 (big_bytes 4 asked.said) ≡ asked.said = big_number-reads_back 4 asked.said [] (omega (arith, fits.0)) in
    let held : big_number 4 (big_bytes 4 asked.held) ≡ asked.held = big_number-reads_back 4 asked.held [] (omega (arith, fits.1)) in
    λ i. Some (Base (record { said = said i; held = held i }), x)
front_is s (File number frame Accepted) x fits = file_is number frame Accepted x fits
front_is s (File number frame Duplicate) x fits = file_is number frame Duplicate x fits
front_is s (File number frame (Late ahead)) x fits = file_is number frame (Late ahead) x fits
front_is s (File number frame (Beyond ahead)) x fits = file_is number frame (Beyond ahead) x fits
front_is s (Refused code detail) x fits =
    let back : big_number 2 (big_bytes 2 detail) ≡ detail = big_number-reads_back 2 detail [] (omega (arith, fits.in_detail)) in
    λ i. Some (Refused code (back i), x)
front_is s Rtcp x fits = refl
front_is s (Stranger ssrc held) x fits =
    let one : big_number 4 (big_bytes 4 ssrc) ≡ ssrc = big_number-reads_back 4 ssrc [] (omega (arith, fits.0)) in
    let two : big_number 4 (big_bytes 4 held) ≡ held = big_number-reads_back 4 held [] (omega (arith, fits.1)) in
    λ i. Some (Stranger (one i) (two i), x)
front_is s Empty x fits = refl

-- ---- at an event in its ranges stands no fault

pub passes_on : (octets : List ℕ) (from start width : ℕ) (passes : List ℕ → Bool) (rest : Option RecordFault) → start + width ≤ length octets → passes (take width (drop start octets)) ≡ true → judged octets from start width passes rest ≡ rest
passes_on octets from start width passes rest long ok = rw (le-ltb (length octets) (start + width) long, ok) refl

next_is : (kind count at : ℕ) (fields rest : List ℕ) (m : ℕ) → kind ≢ end_mark → count < event_limit → filer_width kind ≡ Some m → length fields ≡ m → filer_fault_at count at (kind ∷ (fields ++ rest)) ≡ filer_field_fault kind (at + 1) fields
next_is kind count at fields rest m other few width len =
    let is : filer_fault_at count at (kind ∷ (fields ++ rest)) ≡ judged_behind (filer_width kind) (filer_field_fault kind) at (fields ++ rest) =
    by_kind (λ k. judged_behind (filer_width k) (filer_field_fault k)) in
    is ∙ ap (λ (o : Option ℕ). judged_behind o (filer_field_fault kind) at (fields ++ rest)) width ∙ ap (filer_field_fault kind (at + 1)) (take_at fields rest m len)
  where
    by_kind : (behind : ℕ → ℕ → List ℕ → Option RecordFault) → fault_by behind count at (kind ∷ (fields ++ rest)) ≡ behind kind at (fields ++ rest)
    by_kind behind = grind (arith, nat_tests, other)

or_zero : (b : Bool) (n : ℕ) → (b ≡ false → n ≡ 0) → (b || n == 0) ≡ true
or_zero true n p = refl
or_zero false n p = rw (p refl) refl

refused_clear : (from code detail : ℕ) → RefusedFits code detail → refused_fault from (code ∷ big_bytes 2 detail) ≡ None
refused_clear from code detail fits =
    let fields = code ∷ big_bytes 2 detail in
    let back : big_number 2 (big_bytes 2 detail) ≡ detail = big_number-reads_back 2 detail [] (omega (arith, fits.in_detail)) in
    passes_on fields from 0 1 (λ (o : List ℕ). is_code (slice_index o 0)) _ (omega arith) fits.in_code
    ∙ passes_on fields from 1 2 (λ (o : List ℕ). has_detail (slice_index fields 0) || big_number 2 o == 0) None (omega arith) (or_zero (has_detail code) (big_number 2 (big_bytes 2 detail)) (λ no'. back ∙ fits.without no'))

filed_clear : (from number : ℕ) (frame tail : List ℕ) (reply : FileReply) (rest : Option RecordFault) → FiledFits number frame reply → filed_fault from (big_bytes 8 number ++ (frame ++ tail)) rest ≡ rest
filed_clear from number frame tail reply rest fits =
    let fields = big_bytes 8 number ++ (frame ++ tail) in
    let long : 41 ≤ length fields = omega (arith, fits.in_frame.size, length-append frame tail) in
    let back : big_number 8 (big_bytes 8 number) ≡ number = big_number-reads_back 8 number [] (omega (arith, fits.in_number)) in
    let a : ltb (big_number 8 (big_bytes 8 number)) (2 ^ 47) ≡ true = rw back (grind (arith, nat_tests, fits.in_number)) in
    let there : take 33 (frame ++ tail) ≡ frame = take_at frame tail 33 fits.in_frame.size in
    let b : is_signed (take 33 (frame ++ tail)) ≡ true = rw there (grind (arith, nat_tests, fits.in_frame.signature)) in
    passes_on fields from 0 8 (λ (o : List ℕ). ltb (big_number 8 o) (2 ^ 47)) _ (omega (arith, long)) a ∙ passes_on fields from 8 33 is_signed rest (omega (arith, long)) b

ahead_clear : (late : Bool) (from number ahead : ℕ) (frame : List ℕ) → length frame ≡ 33 → number < 2 ^ 47 → ahead < 2 ^ 48 → ahead_passes late number ahead ≡ true → ahead_fault late from (big_bytes 8 number ++ (frame ++ big_bytes 8 ahead)) ≡ None
ahead_clear late from number ahead frame size small less passes =
    let fields = big_bytes 8 number ++ (frame ++ big_bytes 8 ahead) in
    let first : big_number 8 fields ≡ number = big_number-reads_back 8 number (frame ++ big_bytes 8 ahead) (omega arith) in
    let last : take 8 (drop 33 (frame ++ big_bytes 8 ahead)) ≡ big_bytes 8 ahead = ap (take 8) (drop_at frame (big_bytes 8 ahead) 33 size) in
    let back : big_number 8 (take 8 (drop 33 (frame ++ big_bytes 8 ahead))) ≡ ahead = ap (big_number 8) last ∙ big_number-reads_back 8 ahead [] (omega arith) in
    passes_on fields from 41 8 (λ (o : List ℕ). ahead_passes late (big_number 8 fields) (big_number 8 o)) None (omega (arith, size, length-append frame (big_bytes 8 ahead)))
    ((λ i. ahead_passes late (first i) (back i)) ∙ passes)

reply_clear : (from number : ℕ) (frame : List ℕ) (reply : FileReply) → FiledFits number frame reply → reply_fault (reply_kind reply) from (big_bytes 8 number ++ (frame ++ reply_text reply)) ≡ None
reply_clear from number frame Accepted fits = refl
reply_clear from number frame Duplicate fits = refl
reply_clear from number frame (Late ahead) fits = ahead_clear true from number ahead frame fits.in_frame.size fits.in_number fits.in_reply.1 (grind (arith, nat_tests, fits.in_reply.0, fits.in_reply.1))
reply_clear from number frame (Beyond ahead) fits = ahead_clear false from number ahead frame fits.in_frame.size fits.in_number fits.in_reply.1 (grind (arith, nat_tests, fits.in_reply.0))

file_clear : (from number : ℕ) (frame : List ℕ) (reply : FileReply) → FiledFits number frame reply
    → filed_fault from (big_bytes 8 number ++ (frame ++ reply_text reply)) (reply_fault (reply_kind reply) from (big_bytes 8 number ++ (frame ++ reply_text reply))) ≡ None
file_clear from number frame reply fits = filed_clear from number frame (reply_text reply) reply _ fits ∙ reply_clear from number frame reply fits

clear : (s : Unit {0}) (k at : ℕ) (e : FilerEvent) (rest : List ℕ) → FilerFits e → k < event_limit → filer_fault_at k at (filer_event_text e ++ rest) ≡ None
clear s k at (Source asked) rest fits few =
    next_is 32 k at (big_bytes 4 asked.said ++ big_bytes 4 asked.held) rest 8 (λ is. omega arith) few refl refl ∙ passes_on (big_bytes 4 asked.said ++ big_bytes 4 asked.held) (at + 1) 0 8 (λ (o : List ℕ). true) None (omega arith) refl
clear s k at (Base asked) rest fits few =
    next_is 33 k at (big_bytes 4 asked.said ++ big_bytes 4 asked.held) rest 8 (λ is. omega arith) few refl refl ∙ passes_on (big_bytes 4 asked.said ++ big_bytes 4 asked.held) (at + 1) 0 8 (λ (o : List ℕ). true) None (omega arith) refl
clear s k at (File number frame Accepted) rest fits few =
    next_is 34 k at (big_bytes 8 number ++ (frame ++ [])) rest 41 (λ is. omega arith) few refl (omega (arith, fits.in_frame.size, length-append frame [])) ∙ file_clear (at + 1) number frame Accepted fits
clear s k at (File number frame Duplicate) rest fits few =
    next_is 35 k at (big_bytes 8 number ++ (frame ++ [])) rest 41 (λ is. omega arith) few refl (omega (arith, fits.in_frame.size, length-append frame [])) ∙ file_clear (at + 1) number frame Duplicate fits
clear s k at (File number frame (Late ahead)) rest fits few =
    next_is 36 k at (big_bytes 8 number ++ (frame ++ big_bytes 8 ahead)) rest 49 (λ is. omega arith) few refl (omega (arith, fits.in_frame.size, length-append frame (big_bytes 8 ahead))) ∙ file_clear (at + 1) number frame (Late ahead) fits
clear s k at (File number frame (Beyond ahead)) rest fits few =
    next_is 37 k at (big_bytes 8 number ++ (frame ++ big_bytes 8 ahead)) rest 49 (λ is. omega arith) few refl (omega (arith, fits.in_frame.size, length-append frame (big_bytes 8 ahead))) ∙ file_clear (at + 1) number frame (Beyond ahead) fits
clear s k at (Refused code detail) rest fits few =
    next_is 38 k at (code ∷ big_bytes 2 detail) rest 3 (λ is. omega arith) few refl refl ∙ refused_clear (at + 1) code detail fits
clear s k at Rtcp rest fits few = next_is 39 k at [] rest 0 (λ is. omega arith) few refl refl
clear s k at (Stranger ssrc held) rest fits few =
    next_is 40 k at (big_bytes 4 ssrc ++ big_bytes 4 held) rest 8 (λ is. omega arith) few refl refl ∙ passes_on (big_bytes 4 ssrc ++ big_bytes 4 held) (at + 1) 0 8 (λ (o : List ℕ). true) None (omega arith) refl
clear s k at Empty rest fits few = next_is 41 k at [] rest 0 (λ is. omega arith) few refl refl

-- ---- the head, and the whole

head_clear : (h : Heading) (caller : ℕ) (x : List ℕ) → IsHeading h → caller < h.filers → filer_head_fault (take 13 (filer_head_text h caller ++ x)) ≡ None
head_clear h caller x is known =
    let top : 2 ^ h.g ≤ 2 ^ 10 = pow-le-pow_right {n = 2} (omega arith) is.g in
    let delay : ltb (big_number 2 (take 2 (drop 10 (head_text filer_magic h)))) (2 ^ h.g) ≡ true =
    rw (big_number-reads_back 2 h.delay [] (omega (arith, is.delay, top))) (grind (arith, nat_tests, is.delay)) in
    let g : leb h.g 10 ≡ true = grind (arith, nat_tests, is.g) in
    let filers : (leb 1 h.filers && leb h.filers 64) ≡ true = grind (arith, nat_tests, is.some, is.few) in
    let less : ltb caller h.filers ≡ true = grind (arith, nat_tests, known) in
    rw (filers, g, delay, less) refl

abbrev stays : Unit {0} → FilerEvent → Unit {0}
stays s e = s

abbrev FitsAt : Unit {0} → FilerEvent → Type 0
FitsAt s e = FilerFits e

all_fit : (es : List FilerEvent) → AllByRecursion FilerFits es → AllFit FitsAt stays tt es
all_fit [] all = tt
all_fit (e ∷ es) all = (all.0, all_fit es all.1)

pub not_both : FilersHaveNoFault
not_both octets j f journal (inl fault) =
    let is : octets ≡ filer_head_text j.head j.caller ++ ((flat_map filer_event_text j.events ++ end_mark ∷ []) ++ journal.text.0) = journal.text.1 in
    none_some f (filer_head_fault (take 13 octets)) (ap (λ (l : List ℕ). filer_head_fault (take 13 l)) is ∙ head_clear j.head j.caller ((flat_map filer_event_text j.events ++ end_mark ∷ []) ++ journal.text.0) journal.fits.head journal.fits.caller) fault
not_both octets j f journal (inr (k, after)) =
    let one : drop 13 octets ≡ flat_map filer_event_text j.events ++ end_mark ∷ journal.text.0 = ap (drop 13) journal.text.1 ∙ append_assoc (flat_map filer_event_text j.events) (end_mark ∷ []) journal.text.0 in
    let two : drop 13 octets ≡ flat_map filer_event_text k.events ++ after.rest = ap (drop 13) after.text in
    no_fault FilerEvent (Unit {0}) filer_event_text FitsAt stays (λ s. filer_fault_at) front_of clear (λ s n at more. refl) front_is (λ more. refl)
    tt 0 (length (filer_head_text k.head k.caller ++ flat_map filer_event_text k.events)) k.events j.events after.rest journal.text.0 f (all_fit k.events after.fits.events) (all_fit j.events journal.fits.events)
    (omega (arith, journal.fits.few)) (sym two ∙ one) (subst (λ (n : ℕ). filer_fault_at n (length (filer_head_text k.head k.caller ++ flat_map filer_event_text k.events)) after.rest ≡ Some f) (omega arith) after.fault)

-- octets with a head have no fault there
head_first : (octets rest : List ℕ) (j : FilerRecord) (f : RecordFault) → IsHeading j.head → j.caller < j.head.filers → octets ≡ filer_head_text j.head j.caller ++ rest → filer_head_fault (take 13 octets) ≡ Some f → ⊥
head_first octets rest j f is known text fault =
    none_some f (filer_head_fault (take 13 octets)) (ap (λ (l : List ℕ). filer_head_fault (take 13 l)) text ∙ head_clear j.head j.caller rest is known) fault

place_is : (h : Heading) (caller : ℕ) (events : List ℕ) → length (filer_head_text h caller ++ events) ≡ 13 + length events
place_is h caller events = omega arith

pub first_is_one : FilersHaveOneFault
first_is_one octets f g (inl a) (inl b) = some_same f g (filer_head_fault (take 13 octets)) a b
first_is_one octets f g (inl a) (inr (j, after)) = absurd (head_first octets (flat_map filer_event_text j.events ++ after.rest) j f after.fits.head after.fits.caller after.text a)
first_is_one octets f g (inr (j, after)) (inl b) = absurd (head_first octets (flat_map filer_event_text j.events ++ after.rest) j g after.fits.head after.fits.caller after.text b)
first_is_one octets f g (inr (j, after)) (inr (k, other)) =
    let one : drop 13 octets ≡ flat_map filer_event_text j.events ++ after.rest = ap (drop 13) after.text in
    let two : drop 13 octets ≡ flat_map filer_event_text k.events ++ other.rest = ap (drop 13) other.text in
    let at = length (filer_head_text j.head j.caller ++ flat_map filer_event_text j.events) in
    let at' = length (filer_head_text k.head k.caller ++ flat_map filer_event_text k.events) in
    one_fault FilerEvent (Unit {0}) filer_event_text FitsAt stays (λ s. filer_fault_at) front_of clear (λ s n at more. refl) front_is (λ more. refl)
    tt 0 13 at at' j.events k.events after.rest other.rest f g (all_fit j.events after.fits.events) (all_fit k.events other.fits.events) (omega (arith, after.fits.few)) (omega (arith, other.fits.few))
    (place_is j.head j.caller (flat_map filer_event_text j.events)) (place_is k.head k.caller (flat_map filer_event_text k.events)) (sym one ∙ two)
    (subst (λ (n : ℕ). filer_fault_at n at after.rest ≡ Some f) (omega arith) after.fault) (subst (λ (n : ℕ). filer_fault_at n at' other.rest ≡ Some g) (omega arith) other.fault)

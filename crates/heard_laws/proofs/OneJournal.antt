-- The octets of a player's journal are those of one list of events.
use Rattle.std.proofs.Common.{◌≡◌, ℕ, ◌<◌, ◌≤◌, ◌^◌, Bool, List, [], ◌∷◌, ◌++◌, take, drop, Option, Some, None, refl, sym, ap, subst, ◌∙◌, append_assoc, arith}
use Rattle.std.specs.Prelude.{◌==◌, if◌then◌else◌}
use Rattle.std.specs.List.{flat_map}
use Rattle.std.proofs.Math.Nat.{pow-le-pow_right}
use Rattle.std.proofs.lemmas.List.{take_at, drop_at}
use Rattle.byteorder.specs.Endian.{big_bytes, big_number}
use Rattle.byteorder.specs.Numbers.{big_number-reads_back}
use Rattle.recorder.specs.declared.events.PlayEvent.{PlayEvent}
use Rattle.recorder.specs.declared.events.PlayEvent.TheVariants.{Idle, Base, Erasure, Frame, Held, Found, LookFree, LookFilled, RetiredErasure, RetiredFrame}
use Rattle.recorder.specs.Files.{end_mark}
use Rattle.recorder.specs.Play.{AllPlayFit, PlayFits, may_open, play_event_text}

-- the event that stands in front, and what follows it
abbrev front_of : List ℕ → Option (PlayEvent × List ℕ)
front_of [] = None
front_of (kind ∷ l) =
    if kind == 16 then Some (Idle, l)
    else if kind == 17 then Some (Base (big_number 4 (take 4 l)), drop 4 l)
    else if kind == 18 then Some (Erasure, l)
    else if kind == 19 then Some (Frame (take 33 l), drop 33 l)
    else if kind == 20 then Some (Held, l)
    else if kind == 21 then Some (Found, l)
    else if kind == 22 then Some (LookFree (big_number 2 (take 2 l)), drop 2 l)
    else if kind == 23 then Some (LookFilled (big_number 2 (take 2 l)), drop 2 l)
    else if kind == 24 then Some (RetiredErasure, l)
    else if kind == 25 then Some (RetiredFrame (take 33 l), drop 33 l)
    else None

-- a head's line has no more numbers ahead than two octets tell
small_ahead : (g ahead : ℕ) → g ≤ 10 → ahead < 2 ^ g → ahead < 2 ^ 16
small_ahead g ahead small lt = omega (arith, lt, pow-le-pow_right {n = 2} (omega arith) small)

look_back : (g ahead : ℕ) → g ≤ 10 → ahead < 2 ^ g → big_number 2 (big_bytes 2 ahead) ≡ ahead
look_back g ahead small lt = big_number-reads_back 2 ahead [] (omega (arith, small_ahead g ahead small lt))

front_is : (g : ℕ) → g ≤ 10 → (opening : Bool) (e : PlayEvent) (x : List ℕ) → PlayFits g opening e → front_of (play_event_text e ++ x) ≡ Some (e, x)
front_is g small opening Idle x fits = refl
front_is g small opening (Base base) x fits =
    let back : big_number 4 (big_bytes 4 base) ≡ base = big_number-reads_back 4 base [] (omega (arith, fits.1)) in
    λ i. Some (Base (back i), x)
front_is g small opening Erasure x fits = refl
front_is g small opening (Frame frame) x fits =
    let first : take 33 (frame ++ x) ≡ frame = take_at frame x 33 fits.size in
    let rest : drop 33 (frame ++ x) ≡ x = drop_at frame x 33 fits.size in
    λ i. Some (Frame (first i), rest i)
front_is g small opening Held x fits = refl
front_is g small opening Found x fits = refl
front_is g small opening (LookFree ahead) x fits = λ i. Some (LookFree (look_back g ahead small fits i), x)
front_is g small opening (LookFilled ahead) x fits = λ i. Some (LookFilled (look_back g ahead small fits i), x)
front_is g small opening RetiredErasure x fits = refl
front_is g small opening (RetiredFrame frame) x fits =
    let first : take 33 (frame ++ x) ≡ frame = take_at frame x 33 fits.size in
    let rest : drop 33 (frame ++ x) ≡ x = drop_at frame x 33 fits.size in
    λ i. Some (RetiredFrame (first i), rest i)

parts : (p q : PlayEvent × List ℕ) → Some p ≡ Some q → (p.0 ≡ q.0) × (p.1 ≡ q.1)
parts p q same = let is : p ≡ q = cc in (ap (λ (r : PlayEvent × List ℕ). r.0) is, ap (λ (r : PlayEvent × List ℕ). r.1) is)

-- no event begins another
one_event : (g : ℕ) → g ≤ 10 → (opening : Bool) (e d : PlayEvent) (x y : List ℕ) → PlayFits g opening e → PlayFits g opening d → play_event_text e ++ x ≡ play_event_text d ++ y → (e ≡ d) × (x ≡ y)
one_event g small opening e d x y fits fits' same = parts (e, x) (d, y) (sym (front_is g small opening e x fits) ∙ ap front_of same ∙ front_is g small opening d y fits')

none_some : {T : Type 0} (x : T) (o : Option T) → o ≡ None → o ≡ Some x → ⊥
none_some x o p q = let h : None ≡ Some x = sym p ∙ q in absurd cc

-- an event is no end mark
no_mark : (g : ℕ) → g ≤ 10 → (opening : Bool) (e : PlayEvent) (x more : List ℕ) → PlayFits g opening e → play_event_text e ++ x ≡ end_mark ∷ more → ⊥
no_mark g small opening e x more fits same = none_some (e, x) (front_of (end_mark ∷ more)) refl (ap front_of (sym same) ∙ front_is g small opening e x fits)

pub one_events : (g : ℕ) → g ≤ 10 → (opening : Bool) (es ds : List PlayEvent) (x y : List ℕ) → AllPlayFit g opening es → AllPlayFit g opening ds
    → flat_map play_event_text es ++ end_mark ∷ x ≡ flat_map play_event_text ds ++ end_mark ∷ y → es ≡ ds
one_events g small opening [] [] x y fits fits' same = refl
one_events g small opening [] (d ∷ ds) x y fits fits' same =
    absurd (no_mark g small opening d (flat_map play_event_text ds ++ end_mark ∷ y) x fits'.0 (sym (append_assoc (play_event_text d) (flat_map play_event_text ds) (end_mark ∷ y)) ∙ sym same))
one_events g small opening (e ∷ es) [] x y fits fits' same =
    absurd (no_mark g small opening e (flat_map play_event_text es ++ end_mark ∷ x) y fits.0 (sym (append_assoc (play_event_text e) (flat_map play_event_text es) (end_mark ∷ x)) ∙ same))
one_events g small opening (e ∷ es) (d ∷ ds) x y fits fits' same =
    let regrouped : play_event_text e ++ (flat_map play_event_text es ++ end_mark ∷ x) ≡ play_event_text d ++ (flat_map play_event_text ds ++ end_mark ∷ y) =
    sym (append_assoc (play_event_text e) (flat_map play_event_text es) (end_mark ∷ x)) ∙ same ∙ append_assoc (play_event_text d) (flat_map play_event_text ds) (end_mark ∷ y) in
    let both = one_event g small opening e d (flat_map play_event_text es ++ end_mark ∷ x) (flat_map play_event_text ds ++ end_mark ∷ y) fits.0 fits'.0 regrouped in
    let first : e ≡ d = both.0 in
    let others : AllPlayFit g (may_open e) ds = subst (λ (k : PlayEvent). AllPlayFit g (may_open k) ds) (sym first) fits'.1 in
    let rest : es ≡ ds = one_events g small (may_open e) es ds x y fits.1 others both.1 in
    λ i. first i ∷ rest i

-- events that stand in front of a journal's octets are the first of its events
pub front_events : (g : ℕ) → g ≤ 10 → (opening : Bool) (es ds : List PlayEvent) (x y : List ℕ) → AllPlayFit g opening es → AllPlayFit g opening ds
    → flat_map play_event_text es ++ x ≡ flat_map play_event_text ds ++ end_mark ∷ y → (more : List PlayEvent) × (ds ≡ es ++ more)
front_events g small opening [] ds x y fits fits' same = (ds, refl)
front_events g small opening (e ∷ es) [] x y fits fits' same =
    absurd (no_mark g small opening e (flat_map play_event_text es ++ x) y fits.0 (sym (append_assoc (play_event_text e) (flat_map play_event_text es) x) ∙ same))
front_events g small opening (e ∷ es) (d ∷ ds) x y fits fits' same =
    let regrouped : play_event_text e ++ (flat_map play_event_text es ++ x) ≡ play_event_text d ++ (flat_map play_event_text ds ++ end_mark ∷ y) =
    sym (append_assoc (play_event_text e) (flat_map play_event_text es) x) ∙ same ∙ append_assoc (play_event_text d) (flat_map play_event_text ds) (end_mark ∷ y) in
    let both = one_event g small opening e d (flat_map play_event_text es ++ x) (flat_map play_event_text ds ++ end_mark ∷ y) fits.0 fits'.0 regrouped in
    let first : d ≡ e = sym both.0 in
    let others : AllPlayFit g (may_open e) ds = subst (λ (k : PlayEvent). AllPlayFit g (may_open k) ds) first fits'.1 in
    let rest = front_events g small (may_open e) es ds x y fits.1 others both.1 in
    (rest.0, λ i. first i ∷ rest.1 i)

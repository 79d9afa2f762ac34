-- Events of a journal, one after the other.
use Rattle.std.proofs.Common.{◌≡◌, ℕ, List, [], ◌∷◌, ◌++◌, true, false, Option, Result, Ok, Err, is_err, refl, sym, ap, subst, ◌∙◌, append_assoc}
use Rattle.std.specs.Io.KnownBytes.{Appends}
use Rattle.gate_io.specs.Flow.{AppendsPart, Gives}
use Rattle.gate_io.specs.FlowLaws.{AppendsPart-after, AppendsPart-longer, Gives-after}
use Rattle.recorder.specs.declared.events.FilerEvent.{FilerEvent}
use Rattle.recorder.specs.Filing.{filer_event_text}
use Rattle.filer.specs.Journals.{text_of}

pub text-append : (xs ys : List FilerEvent) → text_of (xs ++ ys) ≡ text_of xs ++ text_of ys
text-append [] ys = refl
text-append (x ∷ xs) ys = ap (λ (l : List ℕ). filer_event_text x ++ l) (text-append xs ys) ∙ sym (append_assoc (filer_event_text x) (text_of xs) (text_of ys))

-- three runs of events
pub text-three : (xs ys zs : List FilerEvent) → text_of (xs ++ (ys ++ zs)) ≡ text_of xs ++ (text_of ys ++ text_of zs)
text-three xs ys zs = text-append xs (ys ++ zs) ∙ ap (λ (l : List ℕ). text_of xs ++ l) (text-append ys zs)

-- what is known of a give by its answer
pub gave : {T E : Type 0} (a b : Option (List ℕ)) (r : Result T E) (bs : List ℕ) → is_err r ≡ false → Gives a b r bs → Appends a b bs
gave a b (Ok x) bs e h = h
gave a b (Err x) bs e h = absurd (cc)

pub gave_part : {T E : Type 0} (a b : Option (List ℕ)) (r : Result T E) (bs : List ℕ) → is_err r ≡ true → Gives a b r bs → AppendsPart a b bs
gave_part a b (Ok x) bs e h = absurd (cc)
gave_part a b (Err x) bs e h = h

-- three gives, one after the other: the first two went well
pub third : {T E : Type 0} (a b c d : Option (List ℕ)) (r : Result T E) (xs ys zs : List FilerEvent) → Appends a b (text_of xs) → Appends b c (text_of ys) → Gives c d r (text_of zs)
    → Gives a d r (text_of (xs ++ (ys ++ zs)))
third a b c d r xs ys zs p q h =
    subst (Gives a d r) (sym (text-three xs ys zs)) (Gives-after a b d r (text_of xs) (text_of ys ++ text_of zs) p (Gives-after b c d r (text_of ys) (text_of zs) q h))

-- the second failed
pub second_part : (a b c : Option (List ℕ)) (xs ys zs : List FilerEvent) → Appends a b (text_of xs) → AppendsPart b c (text_of ys) → AppendsPart a c (text_of (xs ++ (ys ++ zs)))
second_part a b c xs ys zs p q =
    subst (AppendsPart a c) (sym (text-three xs ys zs)) (AppendsPart-after a b c (text_of xs) (text_of ys ++ text_of zs) p (AppendsPart-longer b c (text_of ys) (text_of zs) q))

-- the first failed
pub first_part : (a b : Option (List ℕ)) (xs ys zs : List FilerEvent) → AppendsPart a b (text_of xs) → AppendsPart a b (text_of (xs ++ (ys ++ zs)))
first_part a b xs ys zs p = subst (AppendsPart a b) (sym (text-three xs ys zs)) (AppendsPart-longer a b (text_of xs) (text_of ys ++ text_of zs) p)

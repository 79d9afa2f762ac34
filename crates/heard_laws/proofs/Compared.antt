-- Samples compared with what is heard, item by item.
use Rattle.std.proofs.Common.{◌≡◌, ℕ, ◌+◌, ◌<◌, ◌≤◌, Decides, List, [], ◌∷◌, ◌++◌, Bool, true, false, get_or, length, take, refl, sym, ◌∙◌, ap, subst, append_assoc, add-one}
use Rattle.std.specs.Prelude.{ℤ, nat_eq}
use Rattle.std.proofs.Math.Seq.{take-suc}
use Rattle.std.proofs.lemmas.List.{append-nil, append_cancel_left, nil_from_length, take_all}
use Rattle.std.proofs.lemmas.Bool.Decides.{Decides-eqb}
use Rattle.frame_codec.specs.declared.item.Item.{Item}
use Rattle.substitution.specs.Heard.{IsHeard, Sounding, Voices}
use Rattle.heard_laws.specs.Sameness.{HeardIsOne}

-- All was heard so far. Where the samples are the same, they are that and then those that are left; else they do not begin so.
pub record Compared (samples all left : List ℤ) (same : Bool) : Type 0 where
  pub met : same ≡ true → samples ≡ all ++ left
  pub differs : same ≡ false → (rest : List ℤ) → samples ≡ all ++ rest → ⊥

pub compared-first : (samples : List ℤ) → Compared samples [] samples true
compared-first samples = record { met = λ e. refl; differs = λ (e : true ≡ false) rest is. cc }

-- the next speech stands in front of those that are left
pub compared-more : (samples all left speech rest : List ℤ) (same : Bool) → Compared samples all left same → left ≡ speech ++ rest → Compared samples (all ++ speech) rest same
compared-more samples all left speech rest same so is = record {
  met = λ e. so.met e ∙ ap (λ (l : List ℤ). all ++ l) is ∙ sym (append_assoc all speech rest);
  differs = λ e r whole. so.differs e (speech ++ r) (whole ∙ append_assoc all speech r);
}

-- it does not
pub compared-apart : (samples all left speech : List ℤ) (same : Bool) → Compared samples all left same → ((rest : List ℤ) → left ≡ speech ++ rest → ⊥) → Compared samples (all ++ speech) left false
compared-apart samples all left speech same so apart =
    record { met = λ (e : false ≡ true). cc; differs = λ e rest whole. differs same so rest (whole ∙ append_assoc all speech rest) }
  where
    differs : (same : Bool) → Compared samples all left same → (rest : List ℤ) → samples ≡ all ++ (speech ++ rest) → ⊥
    differs true so rest whole = apart rest (append_cancel_left all left (speech ++ rest) (sym (so.met refl) ∙ whole))
    differs false so rest whole = so.differs refl (speech ++ rest) whole

-- one item more was played
pub voices-more : (seed : List ℕ) (items : List Item) (k : ℕ) (item : Item) (samples : List ℤ) (voice : Sounding) → k < length items → item ≡ get_or items k item
    → Voices seed (take k items ++ item ∷ []) samples voice → Voices seed (take (k + 1) items) samples voice
voices-more seed items k item samples voice inside is voices =
    let taken : take (k + 1) items ≡ take k items ++ item ∷ [] = rw add-one (take-suc items k item inside ∙ ap (λ (i : Item). take k items ++ i ∷ []) (sym is)) in
    subst (λ (l : List Item). Voices seed l samples voice) (sym taken) voices

-- what is heard is the same, and no more
same-heard : HeardIsOne → (seed : List ℕ) (items : List Item) (samples all left : List ℤ) (same : Bool) → IsHeard seed items all → Compared samples all left same → IsHeard seed items samples → (same ≡ true) × (left ≡ [])
same-heard heard_is_one seed items samples all left same heard so is = decided same so
  where
    whole : samples ≡ all ++ []
    whole = heard_is_one seed items samples all is heard ∙ sym (append-nil all)

    decided : (same : Bool) → Compared samples all left same → (same ≡ true) × (left ≡ [])
    decided true so = (refl, append_cancel_left all left [] (sym (so.met refl) ∙ whole))
    decided false so = absurd (so.differs refl [] whole)

-- behind all items: the samples are what is heard exactly where they are the same and none is left
pub decided : HeardIsOne → (seed : List ℕ) (items : List Item) (k : ℕ) (samples all left : List ℤ) (same none : Bool) → length items ≤ k → IsHeard seed (take k items) all → Compared samples all left same
    → none ≡ nat_eq (length left) 0 → (same ≡ true → none ≡ true → IsHeard seed items samples) × (IsHeard seed items samples → (same ≡ true) × (none ≡ true))
decided heard_is_one seed items k samples all left same none done heard so test =
    (λ is t. back is (nil_from_length left (tested.0 (sym test ∙ t))), λ h. let both = same-heard heard_is_one seed items samples all left same whole so h in (both.0, test ∙ tested.1 (ap length both.1)))
  where
    whole : IsHeard seed items all
    whole = subst (λ (l : List Item). IsHeard seed l all) (take_all k items done) heard

    tested : Decides (nat_eq (length left) 0) (length left ≡ 0)
    tested = Decides-eqb (length left) 0

    back : same ≡ true → left ≡ [] → IsHeard seed items samples
    back is e = subst (λ (l : List ℤ). IsHeard seed items l) (sym (so.met is ∙ ap (λ (l : List ℤ). all ++ l) e ∙ append-nil all)) whole

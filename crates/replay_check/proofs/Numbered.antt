-- Journals numbered from 0 on, one by one.
use Rattle.std.proofs.Common.{◌≡◌, ℕ, zero, suc, ◌+◌, ◌<◌, ◌≤◌, List, [], ◌∷◌, length, take, get_or, refl, sym, ap, ◌∙◌, subst, arith}
use Rattle.recorder.specs.Heads.{Heading}
use Rattle.recorder.specs.Journals.{FilerRecord}
use Rattle.replay_check.specs.Journals.{AreNumbered}

-- the journal at a place
pub numbered-at : (h : Heading) (k : ℕ) (fs : List FilerRecord) (i : ℕ) (x : FilerRecord) → i < length fs → x ≡ get_or fs i x → AreNumbered h k fs → (x.head ≡ h) × (x.caller ≡ k + i)
numbered-at h k [] i x below is all = absurd (omega arith)
numbered-at h k (f ∷ fs) zero x below is all = (ap (λ (j : FilerRecord). j.head) is ∙ all.0, ap (λ (j : FilerRecord). j.caller) is ∙ all.1 ∙ (let e : k ≡ k + 0 = omega arith in e))
numbered-at h k (f ∷ fs) (suc i) x below is all =
    let rest = numbered-at h (k + 1) fs i x (omega arith) is all.2 in
    (rest.0, rest.1 ∙ (let e : k + 1 + i ≡ k + suc i = omega arith in e))

-- one journal more
pub numbered-more : (h : Heading) (k : ℕ) (fs : List FilerRecord) (i : ℕ) (x : FilerRecord) → i < length fs → x ≡ get_or fs i x → AreNumbered h k (take i fs) → x.head ≡ h → x.caller ≡ k + i → AreNumbered h k (take (i + 1) fs)
numbered-more h k [] i x below is all head caller = absurd (omega arith)
numbered-more h k (f ∷ fs) zero x below is all head caller =
    (ap (λ (j : FilerRecord). j.head) (sym is) ∙ head, ap (λ (j : FilerRecord). j.caller) (sym is) ∙ caller ∙ (let e : k + 0 ≡ k = omega arith in e), tt)
numbered-more h k (f ∷ fs) (suc i) x below is all head caller =
    subst (λ (j : ℕ). AreNumbered h k (take j (f ∷ fs))) (let e : suc (i + 1) ≡ suc i + 1 = omega arith in e)
    (all.0, all.1, numbered-more h (k + 1) fs i x (omega arith) is all.2 head (caller ∙ (let e : k + suc i ≡ k + 1 + i = omega arith in e)))

pub numbered-all : (h : Heading) (fs : List FilerRecord) (i : ℕ) → length fs ≤ i → AreNumbered h 0 (take i fs) → AreNumbered h 0 fs
numbered-all h fs i past all = subst (AreNumbered h 0) (taken-all fs i past) all
  where
    taken-all : (fs : List FilerRecord) (i : ℕ) → length fs ≤ i → take i fs ≡ fs
    taken-all [] zero past = refl
    taken-all [] (suc i) past = refl
    taken-all (f ∷ fs) zero past = absurd (omega arith)
    taken-all (f ∷ fs) (suc i) past = ap (λ (l : List FilerRecord). f ∷ l) (taken-all fs i (omega arith))

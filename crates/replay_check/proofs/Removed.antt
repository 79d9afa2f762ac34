-- A history from which the first call of one caller was taken out.
use Rattle.std.proofs.Common.{◌≡◌, ◌≢◌, ℕ, eqb, eq-eqb, ne_eqb, List, [], ◌∷◌, refl, sym, ap, ◌∙◌, subst}
use native.Mathlib.Decide.{ℕ_discrete}
use mathlib.Core.Bool.{cond}
use Rattle.playout.specs.declared.call.Call.{Call}
use Rattle.playout.specs.History.{Entry, calls_of}
use Rattle.replay_check.specs.Verdict.{AllAtMost}

abbrev pub removed : ℕ → List Entry → List Entry
removed who [] = []
removed who (e ∷ es) = cond (eqb e.who who) es (e ∷ removed who es)

pub removed-head : (who : ℕ) (e : Entry) (es : List Entry) → e.who ≡ who → removed who (e ∷ es) ≡ es
removed-head who e es same = ap (λ b. cond b es (e ∷ removed who es)) (eq-eqb e.who who same)

pub removed-skip : (who : ℕ) (e : Entry) (es : List Entry) → e.who ≢ who → removed who (e ∷ es) ≡ e ∷ removed who es
removed-skip who e es other = ap (λ b. cond b es (e ∷ removed who es)) (ne_eqb e.who who other)

pub calls_of-head : (who : ℕ) (e : Entry) (es : List Entry) → e.who ≡ who → calls_of who (e ∷ es) ≡ e.call ∷ calls_of who es
calls_of-head who e es same = ap (λ b. cond b (e.call ∷ calls_of who es) (calls_of who es)) (eq-eqb e.who who same)

pub calls_of-skip : (who : ℕ) (e : Entry) (es : List Entry) → e.who ≢ who → calls_of who (e ∷ es) ≡ calls_of who es
calls_of-skip who e es other = ap (λ b. cond b (e.call ∷ calls_of who es) (calls_of who es)) (ne_eqb e.who who other)

pub same_head : {a b : Call} {xs ys : List Call} → Path (List Call) (a ∷ xs) (b ∷ ys) → a ≡ b
same_head e = cc

pub same_tail : {a b : Call} {xs ys : List Call} → Path (List Call) (a ∷ xs) (b ∷ ys) → xs ≡ ys
same_tail e = cc

pub not_empty : {c : Call} {cs : List Call} → Path (List Call) [] (c ∷ cs) → ⊥
not_empty e = cc

-- that caller has its other calls left
pub removed-own : (who : ℕ) (h : List Entry) (c : Call) (rest : List Call) → calls_of who h ≡ c ∷ rest → calls_of who (removed who h) ≡ rest
removed-own who [] c rest is = absurd (not_empty is)
removed-own who (e ∷ es) c rest is = go (ℕ_discrete e.who who) (removed-own who es c rest)
  where
    go : Dec (e.who ≡ who) → (calls_of who es ≡ c ∷ rest → calls_of who (removed who es) ≡ rest) → calls_of who (removed who (e ∷ es)) ≡ rest
    go (yes same) ih = ap (calls_of who) (removed-head who e es same) ∙ same_tail (sym (calls_of-head who e es same) ∙ is)
    go (no other) ih = ap (calls_of who) (removed-skip who e es other) ∙ calls_of-skip who e (removed who es) other ∙ ih (sym (calls_of-skip who e es other) ∙ is)

-- all other callers have the calls that they had
pub removed-others : (who k : ℕ) (h : List Entry) → k ≢ who → calls_of k (removed who h) ≡ calls_of k h
removed-others who k [] apart = refl
removed-others who k (e ∷ es) apart = go (ℕ_discrete e.who who) (removed-others who k es apart)
  where
    go : Dec (e.who ≡ who) → calls_of k (removed who es) ≡ calls_of k es → calls_of k (removed who (e ∷ es)) ≡ calls_of k (e ∷ es)
    go (yes same) ih = ap (calls_of k) (removed-head who e es same) ∙ sym (calls_of-skip k e es (λ t. apart (sym t ∙ same)))
    go (no other) ih = ap (calls_of k) (removed-skip who e es other) ∙ ap (λ l. cond (eqb e.who k) (e.call ∷ l) l) ih

pub removed-callers : (who filers : ℕ) (h : List Entry) → AllAtMost filers h → AllAtMost filers (removed who h)
removed-callers who filers [] all = tt
removed-callers who filers (e ∷ es) all = go (ℕ_discrete e.who who) (removed-callers who filers es all.1)
  where
    go : Dec (e.who ≡ who) → AllAtMost filers (removed who es) → AllAtMost filers (removed who (e ∷ es))
    go (yes same) ih = subst (AllAtMost filers) (sym (removed-head who e es same)) all.1
    go (no other) ih = subst (AllAtMost filers) (sym (removed-skip who e es other)) (all.0, ih)

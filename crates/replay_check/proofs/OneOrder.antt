-- Two orders of the rule that have come to their ends are equal.
use Rattle.std.proofs.Common.{◌≡◌, inl, inr, ℕ, ◌≤◌, List, [], ◌∷◌, refl, sym, ap, ◌∙◌, subst}
use Rattle.playout.specs.declared.call.Call.{Call}
use Rattle.playout.specs.Machine.{Machine, opening_machine, after}
use Rattle.replay_check.specs.Verdict.{Lists}
use Rattle.replay_check.specs.Rule.{IsNext, Can, IsTaken, without, Follows, NothingLeft, IsStuck, OrderIsOne}
use Rattle.replay_check.proofs.Removed.{same_head, same_tail, not_empty}
use Rattle.replay_check.proofs.Greedy.{taken-known, decides}

taken-can : (r filers : ℕ) (m : Machine) (lists : Lists) (who : ℕ) → IsTaken r filers m lists who → Can r filers m lists who
taken-can r filers m lists who (inl a) = subst (Can r filers m lists) (sym a.0) (a.1.0, a.1.1, a.1.2)
taken-can r filers m lists who (inr (inl a)) = a.2
taken-can r filers m lists who (inr (inr a)) = subst (Can r filers m lists) (sym a.0) a.2

one-order : (r filers : ℕ) (end end' : Machine → Lists → Type 0) → ((m : Machine) (lists : Lists) → end m lists → (k : ℕ) → k ≤ filers → Can r filers m lists k → ⊥) → ((m : Machine) (lists : Lists) → end' m lists → (k : ℕ) → k ≤ filers → Can r filers m lists k → ⊥)
    → (m : Machine) (lists : Lists) (order order' : List ℕ) → Follows r filers m lists order end → Follows r filers m lists order' end' → order ≡ order'
one-order r filers end end' stop stop' m lists [] [] f f' = refl
one-order r filers end end' stop stop' m lists [] (k ∷ order') f f' = absurd (stop m lists f k (taken-known r filers m lists k f'.0) (taken-can r filers m lists k f'.0))
one-order r filers end end' stop stop' m lists (k ∷ order) [] f f' = absurd (stop' m lists f' k (taken-known r filers m lists k f.0) (taken-can r filers m lists k f.0))
one-order r filers end end' stop stop' m lists (k ∷ order) (j ∷ order') f f' =
    let same : k ≡ j = decides r filers m lists k j f.0 f'.0 in
    let step = f.1 in
    let other = subst (λ (i : ℕ). (c : Call) × (rest : List Call) × IsNext r filers m lists i c rest × Follows r filers (after m c) (without lists i rest) order' end') (sym same) f'.1 in
    let call : other.0 ≡ step.0 = same_head (sym other.2.next ∙ step.2.next) in
    let tail : other.1 ≡ step.1 = same_tail (sym other.2.next ∙ step.2.next) in
    let moved : Follows r filers (after m step.0) (without lists k step.1) order' end' =
    subst (λ (c : Call). Follows r filers (after m c) (without lists k step.1) order' end') call (subst (λ (l : List Call). Follows r filers (after m other.0) (without lists k l) order' end') tail other.3) in
    ap (λ (i : ℕ). i ∷ order) same ∙ ap (λ (l : List ℕ). j ∷ l) (one-order r filers end end' stop stop' (after m step.0) (without lists k step.1) order order' step.3 moved)

done-stops : (r filers : ℕ) (m : Machine) (lists : Lists) → NothingLeft filers m lists → (k : ℕ) → k ≤ filers → Can r filers m lists k → ⊥
done-stops r filers m lists nothing k within can = not_empty (sym (nothing k within) ∙ can.2.next)

pub one_order : OrderIsOne
one_order r filers lists order order' caller place caller' place' = record {
  legal = λ f f'. one-order r filers (NothingLeft filers) (NothingLeft filers) (done-stops r filers) (done-stops r filers) opening_machine lists order order' f f';
  illegal = λ f f'. one-order r filers (IsStuck r filers lists caller place) (IsStuck r filers lists caller' place') (λ m l s. s.none) (λ m l s. s.none) opening_machine lists order order' f f';
}

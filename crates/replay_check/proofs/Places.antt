-- What stands next in each list, and what a test of it says.
use Rattle.std.proofs.Common.{◌≡◌, ℕ, zero, suc, ◌+◌, ◌<◌, ◌≤◌, ◌^◌, List, [], ◌∷◌, length, drop, get_or, Some, None, refl, sym, ap, ◌∙◌, subst, arith}
use native.Mathlib.Decide.{ℕ_discrete}
use Rattle.playout.specs.declared.call.Call.{Call}
use Rattle.playout.specs.Line.{Line}
use Rattle.playout.specs.Machine.{Machine}
use Rattle.replay_check.specs.Verdict.{Lists}
use Rattle.replay_check.specs.Picks.{IsPossible}
use Rattle.replay_check.specs.Rule.{IsNext, Can, IsQuiet, CanQuietly}
use Rattle.replay_check.specs.Lists.{first_of}
use Rattle.replay_check.proofs.Removed.{same_head, not_empty}

pub first-within : (l : List Call) (i : ℕ) (x : Call) → i < length l → x ≡ get_or l i x → Some x ≡ first_of (drop i l)
first-within [] i x below is = absurd (omega arith)
first-within (y ∷ l) zero x below is = ap (λ (z : Call). Some z) is
first-within (y ∷ l) (suc i) x below is = first-within l i x (omega arith) is

pub first-past : (l : List Call) (i : ℕ) → length l ≤ i → None ≡ first_of (drop i l)
first-past [] zero past = refl
first-past [] (suc i) past = refl
first-past (y ∷ l) zero past = absurd (omega arith)
first-past (y ∷ l) (suc i) past = first-past l i (omega arith)

-- a list by its first call
pub first-some : (l : List Call) (c : Call) → Some c ≡ first_of l → (rest : List Call) × (l ≡ c ∷ rest)
first-some [] c is = absurd (let no : Some c ≡ None = is in cc)
first-some (x ∷ l) c is = (l, (let same : Some c ≡ Some x = is in cc))

pub first-none : (l : List Call) → None ≡ first_of l → l ≡ []
first-none [] is = refl
first-none (x ∷ l) is = absurd (let no : None ≡ Some x = is in cc)

pub next-some : (line : Line) (lists : Lists) (player who : ℕ) (c : Call) → Some c ≡ first_of (lists who) → IsPossible line lists player c → (rest : List Call) × IsNext (2 ^ line.g) player line.machine lists who c rest
next-some line lists player who c is possible = let rest = first-some (lists who) c is in (rest.0, record { next = rest.1; replies = possible.0; ready = possible.1 })

pub cannot-none : (r filers : ℕ) (m : Machine) (lists : Lists) (who : ℕ) → None ≡ first_of (lists who) → Can r filers m lists who → ⊥
cannot-none r filers m lists who is can = not_empty (sym (first-none (lists who) is) ∙ can.2.next)

pub cannot-possible : (line : Line) (lists : Lists) (player who : ℕ) (c : Call) → Some c ≡ first_of (lists who) → (IsPossible line lists player c → ⊥) → Can (2 ^ line.g) player line.machine lists who → ⊥
cannot-possible line lists player who c is never can =
    let rest = first-some (lists who) c is in
    never (subst (IsPossible line lists player) (same_head (sym can.2.next ∙ rest.1)) (can.2.replies, can.2.ready))

pub cannot-quietly : (r filers : ℕ) (m : Machine) (lists : Lists) (c : Call) (rest : List Call) → IsNext r filers m lists filers c rest → (IsQuiet c → ⊥) → CanQuietly r filers m lists → ⊥
cannot-quietly r filers m lists c rest next never can = never (subst IsQuiet (same_head (sym can.2.next ∙ next.next)) can.3)

pub none-more : {P : ℕ → Type 0} (n : ℕ) → ((k : ℕ) → k < n → P k → ⊥) → (P n → ⊥) → (k : ℕ) → k < n + 1 → P k → ⊥
none-more {P} n below here k less = go (ℕ_discrete k n)
  where
    go : Dec (k ≡ n) → P k → ⊥
    go (yes same) can = here (subst P same can)
    go (no other) can = below k (omega arith) can

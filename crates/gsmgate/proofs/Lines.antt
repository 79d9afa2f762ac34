-- What a line over files says of the inputs that are handed in.
use Rattle.std.proofs.Common.{◌≡◌, ◌≢◌, ℕ, zero, suc, ◌≤◌, List, [], ◌∷◌, length, map, slice_index_or, slice_set, arith, Option, refl, sym, subst}
use Rattle.std.specs.Prelude.{◌⊎◌}
use Rattle.std.proofs.Common.{inl, inr}
use Rattle.gate_base.specs.Faults.{Rose}
use Rattle.command_line.specs.Ranges.{IsCommand}
use Rattle.command_line.specs.declared.line.Command.{Command}
use Rattle.command_line.specs.declared.line.Command.TheVariants.{Simulate, Decode, Encode, Render, Verify, Make}
use Rattle.gate_notes.specs.declared.status.Status.{Status}
use Rattle.gsmgate.specs.Commands.{CompletesAs}
use Rattle.gate_notes.specs.Exchange.{NoneFell, SomeRose}

-- a command that is neither of these has one input
pub one-input : (c : Command) (n : ℕ) → IsCommand c n → c ≢ Verify → ((seed count filers : ℕ) → c ≢ Make seed count filers) → n ≡ 1
one-input (Simulate voice) n is not_verify not_make = is
one-input Decode n is not_verify not_make = is
one-input Encode n is not_verify not_make = is
one-input (Render seed) n is not_verify not_make = is
one-input Verify n is not_verify not_make = absurd (not_verify refl)
one-input (Make seed count filers) n is not_verify not_make = absurd (not_make seed count filers refl)

-- ---- a list of one input

pub one-item : {A : Type 0} (xs : List A) (d : A) → length xs ≡ 1 → xs ≡ slice_index_or xs 0 d ∷ []
one-item [] d one = absurd (omega (arith, one))
one-item (x ∷ []) d one = refl
one-item (x ∷ y ∷ xs) d one = absurd (omega (arith, one))

pub one-set : {A : Type 0} (xs : List A) (y : A) → length xs ≡ 1 → slice_set xs 0 y ≡ y ∷ []
one-set [] y one = absurd (omega (arith, one))
one-set (x ∷ []) y one = refl
one-set (x ∷ z ∷ xs) y one = absurd (omega (arith, one))

module _ {D : Type 0} (faults : D → ℕ) (before now : List D) (x y : D) (is : before ≡ x ∷ []) (is' : now ≡ y ∷ []) where
  pub one-fell : faults x ≤ faults y → NoneFell (map faults before) (map faults now)
  one-fell le = subst (λ (l : List D). NoneFell (map faults l) (map faults now)) (sym is) (subst (λ (l : List D). NoneFell (faults x ∷ []) (map faults l)) (sym is') both)
    where
      both : NoneFell (faults x ∷ []) (faults y ∷ [])
      both zero = le
      both (suc k) = omega arith

  pub one-rose : Rose (faults x) (faults y) → SomeRose (map faults before) (map faults now)
  one-rose rose = subst (λ (l : List D). SomeRose (map faults l) (map faults now)) (sym is) (subst (λ (l : List D). SomeRose (faults x ∷ []) (map faults l)) (sym is') (0, omega arith, rose))

  pub rose-among : {P Q : Type 0} → Rose (faults x) (faults y) ⊎ P ⊎ Q → SomeRose (map faults before) (map faults now) ⊎ P ⊎ Q
  rose-among (inl rose) = inl (one-rose rose)
  rose-among (inr other) = inr other

-- ---- what is said where nothing failed

-- more may have failed
pub completes-weaker : (c : Command) (s : Status) (inputs : List (Option (List ℕ))) (F G : Type 0) → (F → G) → CompletesAs c s inputs F → CompletesAs c s inputs G
completes-weaker (Simulate voice) s [] F G more done = absurd done
completes-weaker (Simulate voice) s (i ∷ []) F G more done = λ octets h events told script fine. done octets h events told script (λ failed. fine (more failed))
completes-weaker (Simulate voice) s (i ∷ j ∷ inputs) F G more done = absurd done
completes-weaker Decode s [] F G more done = absurd done
completes-weaker Decode s (i ∷ []) F G more done = λ frames told whole few fine. done frames told whole few (λ failed. fine (more failed))
completes-weaker Decode s (i ∷ j ∷ inputs) F G more done = absurd done
completes-weaker Encode s [] F G more done = absurd done
completes-weaker Encode s (i ∷ []) F G more done = λ octets told few fine. done octets told few (λ failed. fine (more failed))
completes-weaker Encode s (i ∷ j ∷ inputs) F G more done = absurd done
completes-weaker (Render seed) s [] F G more done = absurd done
completes-weaker (Render seed) s (i ∷ []) F G more done = λ octets j told journal fine. done octets j told journal (λ failed. fine (more failed))
completes-weaker (Render seed) s (i ∷ j ∷ inputs) F G more done = absurd done
completes-weaker Verify s inputs F G more done = λ p fs told tells one fine. done p fs told tells one (λ failed. fine (more failed))
completes-weaker (Make seed count filers) s [] F G more done = λ fine. done (λ failed. fine (more failed))
completes-weaker (Make seed count filers) s (i ∷ inputs) F G more done = absurd done

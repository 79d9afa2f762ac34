-- Beats, one after the other, and how a run ends behind them.
use Rattle.std.proofs.Common.{◌≡◌, ℕ, zero, suc, ◌+◌, ◌≤◌, List, [], ◌∷◌, take, Option, Result, Ok, Err, inl, inr, refl, sym, subst, ◌∙◌, arith}
use Rattle.std.specs.Io.KnownBytes.{Appends}
use Rattle.gate_base.specs.Faults.{HasCause, Rose}
use Rattle.gate_io.specs.Flow.{Gives}
use Rattle.playout.specs.declared.call.Call.{Call}
use Rattle.recorder.specs.Files.{end_mark}
use Rattle.player.specs.declared.beat.Beat.TheVariants as beat
use Rattle.player.specs.declared.run.PlayerEnd.{PlayerEnd}
use Rattle.player.specs.Beats.{Beats, Standing}
use Rattle.player.specs.PlayerRuns.{Marked, Offered, PlaysOn, Stopped, with_written}

-- no beat
pub plays-none : {S : Type 0} (did : S → Call → S → Type 0) (n : ℕ) (a : Standing S) → n ≡ 0 → PlaysOn did n a a
plays-none did n a is = subst (λ (k : ℕ). PlaysOn did k a a) (sym is) refl

-- one beat more
pub plays-more : {S : Type 0} (did : S → Call → S → Type 0) (n k : ℕ) (a m b : Standing S) → k ≡ n + 1 → PlaysOn did n a m → Beats did m b beat.Played → PlaysOn did k a b
plays-more did n k a m b is on last = subst (λ (j : ℕ). PlaysOn did j a b) (one-more ∙ sym is) (m, on, last)
  where
    one-more : suc n ≡ n + 1
    one-more = omega arith

pub rose-later : (before mid now : ℕ) → before ≤ mid → Rose mid now → Rose before now
rose-later before mid now le h = grind arith

take-none : (k : ℕ) (xs : List ℕ) → xs ≡ [] → take k xs ≡ xs
take-none zero xs e = sym e
take-none (suc k) xs e = subst (λ (l : List ℕ). take (suc k) l ≡ l) (sym e) refl

-- the end mark as far as it was given
marked-part : (old new : Option (List ℕ)) (before now : ℕ) (k : ℕ) → Appends old new (take k (end_mark ∷ [])) → Rose before now → Marked old new before now
marked-part old new before now zero h rose = inr (h, rose)
marked-part old new before now (suc k) h rose = inl (subst (λ (l : List ℕ). Appends old new (end_mark ∷ l)) (take-none k [] refl) h)

pub marked : {T E : Type 0} (old new : Option (List ℕ)) (before count now : ℕ) (r : Result T E) → Gives old new r (end_mark ∷ []) → before ≤ count → HasCause count now r → Marked old new before now
marked old new before count now (Ok x) h le cause = inl h
marked old new before count now (Err e) h le cause = marked-part old new before now h.0 h.1 (rose-later before count now le cause.failed)

-- the end mark was offered behind a fault
pub offered : {S T E : Type 0} (did : S → Call → S → Type 0) (before count now : ℕ) (a m : Standing S) (written : Option (List ℕ)) (r : Result T E) (end : PlayerEnd) → Stopped did a m end
    → Gives m.written written r (end_mark ∷ []) → before ≤ count → HasCause count now r → Offered did before now a (with_written m written) end
offered did before count now a m written r end stopped h le cause = (m, stopped, refl, marked m.written written before count now r h le cause)

-- How a run ends behind its turns.
use Rattle.std.proofs.Common.{◌≡◌, ℕ, zero, suc, ◌+◌, ◌≤◌, List, [], ◌∷◌, ◌++◌, take, Option, Result, Ok, Err, inl, inr, refl, sym, subst, append-nil, arith}
use Rattle.std.specs.Io.KnownBytes.{Appends}
use Rattle.std.proofs.KnownBytes.{Appends-trans}
use Rattle.gate_base.specs.Faults.{HasCause, Rose}
use Rattle.gate_io.specs.Flow.{AppendsPart, Gives}
use Rattle.playout.specs.declared.call.Call.{Call}
use Rattle.recorder.specs.Files.{end_mark}
use Rattle.filer.specs.declared.outcome.Outcome.{Outcome}
use Rattle.filer.specs.declared.run.FilerEnd.TheVariants as ended
use Rattle.filer.specs.declared.turn.Turn.TheVariants as turn
use Rattle.filer.specs.Turns.{LinkFailed, Marked, RanOut, Standing, Stopped, Turned, Unmarked, WentOn}
use Rattle.filer.proofs.Turning.{cut-after, unsent-after, unsent-of, went-after}

pub rose-later : (before mid now : ℕ) → before ≤ mid → Rose mid now → Rose before now
rose-later before mid now le h = grind arith

pub rose-still : (before mid now : ℕ) → Rose before mid → mid ≤ now → Rose before now
rose-still before mid now h le = grind arith

-- a run that goes on
abbrev pub Goes : {S : Type 0} → (S → Call → S → Type 0) → Standing S → Standing S → Type 0
Goes did a b = (ds : List (List ℕ × ℕ)) × (os : List Outcome) × (n : ℕ) × WentOn did a b ds os n

pub goes-went : {S : Type 0} (did : S → Call → S → Type 0) (a b c : Standing S) → Goes did a b → Turned did b c turn.Went → Goes did a c
goes-went did a b c p q = (p.0 ++ q.0 ∷ [], p.1 ++ q.1 ∷ [], p.2 + 0, went-after did a b c p.0 (q.0 ∷ []) p.1 (q.1 ∷ []) p.2 0 p.3 q.2)

pub goes-idle : {S : Type 0} (did : S → Call → S → Type 0) (a b c : Standing S) → Goes did a b → Turned did b c turn.Idle → Goes did a c
goes-idle did a b c p q = (p.0 ++ [], p.1 ++ [], p.2 + 1, went-after did a b c p.0 [] p.1 [] p.2 1 p.3 q)

pub stops-ended : {S : Type 0} (did : S → Call → S → Type 0) (a b c : Standing S) → Goes did a b → Turned did b c turn.Ended → Stopped did a c ended.Ended
stops-ended did a b c p q = (p.0 ++ [], p.1 ++ [], p.2 + 0, went-after did a b c p.0 [] p.1 [] p.2 0 p.3 q)

pub stops-link : {S : Type 0} (did : S → Call → S → Type 0) (a b c : Standing S) → Goes did a b → Turned did b c turn.LinkFault → Stopped did a c ended.LinkFault
stops-link did a b c p (inl q) =
    (p.0 ++ [], p.1 ++ [], p.2 + 0, unsent-of did a c (p.0 ++ []) (p.1 ++ []) (p.2 + 0) (went-after did a b c p.0 [] p.1 [] p.2 0 p.3 q))
stops-link did a b c p (inr q) = (p.0 ++ q.0 ∷ [], p.1 ++ q.1 ∷ [], p.2 + 0, unsent-after did a b c p.0 (q.0 ∷ []) p.1 (q.1 ∷ []) p.2 0 p.3 q.2)

pub stops-journal : {S : Type 0} (did : S → Call → S → Type 0) (a b c : Standing S) → Goes did a b → Turned did b c turn.JournalFault → Stopped did a c ended.JournalFault
stops-journal did a b c p q = (p.0, p.1, p.2 + 0, cut-after did a b c p.0 p.1 p.2 p.3 q)

-- ---- the end mark

pub ran_out : {S : Type 0} (did : S → Call → S → Type 0) (a m : Standing S) (given : Option (List ℕ)) → Stopped did a m ended.Ended → Appends m.given given (end_mark ∷ [])
    → RanOut did a (record m { given = given })
ran_out did a m given p h = record {
  datagrams = p.0;
  outcomes = p.1;
  idles = p.2;
  worked = record { calls = p.3.worked.calls; taken = p.3.worked.taken; chained = p.3.worked.chained; link = p.3.worked.link };
  journal = Appends-trans a.given m.given given _ _ p.3.journal h;
}

pub unmarked : {S : Type 0} (did : S → Call → S → Type 0) (a m : Standing S) (given : Option (List ℕ)) → Stopped did a m ended.Ended → AppendsPart m.given given (end_mark ∷ [])
    → Unmarked did a (record m { given = given })
unmarked did a m given p h = record {
  datagrams = p.0;
  outcomes = p.1;
  idles = p.2;
  worked = record { calls = p.3.worked.calls; taken = p.3.worked.taken; chained = p.3.worked.chained; link = p.3.worked.link };
  part = h.0;
  journal = Appends-trans a.given m.given given _ _ p.3.journal h.1;
}

take-none : (k : ℕ) (xs : List ℕ) → xs ≡ [] → take k xs ≡ xs
take-none zero xs e = sym e
take-none (suc k) xs e = subst (λ (l : List ℕ). take (suc k) l ≡ l) (sym e) refl

-- the end mark as far as it was given
marked-part : (old mid new : Option (List ℕ)) (before now : ℕ) (text : List ℕ) (k : ℕ) → Appends old mid text → Appends mid new (take k (end_mark ∷ [])) → Rose before now → Marked old new before now text
marked-part old mid new before now text zero p h rose = inr (subst (Appends old new) (append-nil text) (Appends-trans old mid new text [] p h), rose)
marked-part old mid new before now text (suc k) p h rose =
    inl (Appends-trans old mid new text (end_mark ∷ []) p (subst (λ (l : List ℕ). Appends mid new (end_mark ∷ l)) (take-none k [] refl) h))

marked : {T E : Type 0} (old mid new : Option (List ℕ)) (before count now : ℕ) (text : List ℕ) (r : Result T E) → Appends old mid text → Gives mid new r (end_mark ∷ [])
    → before ≤ count → HasCause count now r → Marked old new before now text
marked old mid new before count now text (Ok x) p h le cause = inl (Appends-trans old mid new text (end_mark ∷ []) p h)
marked old mid new before count now text (Err e) p h le cause = marked-part old mid new before now text h.0 p h.1 (rose-later before count now le cause.failed)

pub link_failed : {S T E : Type 0} (did : S → Call → S → Type 0) (before count now : ℕ) (a m : Standing S) (given : Option (List ℕ)) (r : Result T E) → Stopped did a m ended.LinkFault
    → Gives m.given given r (end_mark ∷ []) → before ≤ count → HasCause count now r → LinkFailed did before now a (record m { given = given })
link_failed did before count now a m given r p h le cause = record {
  datagrams = p.0;
  outcomes = p.1;
  idles = p.2;
  sent = p.3.sent;
  last = p.3.last;
  worked = record { calls = p.3.worked.calls; taken = p.3.worked.taken; chained = p.3.worked.chained; link = p.3.worked.link };
  journal = marked a.given m.given given before count now _ r p.3.journal h le cause;
}

-- From the journals to the whole command.
use Rattle.std.proofs.Common.{◌≡◌, ℕ, List, length, Option, refl, sym, subst, inl, inr}
use Rattle.std.specs.Prelude.{◌⊎◌, ◌^◌}
use Rattle.std.specs.Io.KnownBytes.{Keeps}
use Rattle.recorder.specs.Journals.{FilerRecord, FilersHaveNoFault, PlayerRecord, PlayersHaveNoFault}
use Rattle.replay_check.specs.declared.verdict.Verdict.{Verdict}
use Rattle.replay_check.specs.Journals.{AreOfOneLine, journal_lists}
use Rattle.replay_check.specs.Rule.{IsVerdict}
use Rattle.gate_notes.specs.Exchange.{GainedUnlessFault, Giving}
use Rattle.journal_runs.specs.Verify.{Completes, Ends, HasVerdict, StopsAtInput, TellJournals}
use Rattle.journal_runs.specs.VerifyRuns.{AreUnread, IsRefused, LeavesBehind}
use Rattle.journal_runs.specs.declared.journals.Unread.{Unread}
use Rattle.journal_runs.specs.declared.journals.Unread.TheVariants as unread
use Rattle.gate_notes.specs.declared.status.Status.{Status}
use Rattle.gate_notes.specs.declared.status.Status.TheVariants.{Done, Illegal, ReadFault, WriteFault}
use Rattle.journal_runs.proofs.Refuted.{not_first}

module _ (inputs : List (Option (List ℕ))) where
  -- the journals were not read
  pub refused-ends : (u : Unread) (x : Giving) (s : Status) → AreUnread inputs u → IsRefused u s x.notes x.notes_now x.noted x.noted_now → Keeps x.output x.output_now → Ends s inputs x
  refused-ends (unread.Fault place fault) x s first (is, noted) kept = subst (λ (t : Status). Ends t inputs x) (sym is) (place, fault, first, (kept, noted))
  refused-ends unread.ReadFault x s first (is, noted) kept = subst (λ (t : Status). Ends t inputs x) (sym is) (kept, noted)
  refused-ends unread.OutOfMemory x s first (is, noted) kept = subst (λ (t : Status). Ends t inputs x) (sym is) (kept, noted)

  pub refused-read : (u : Unread) (s : Status) (notes notes_now : Option (List ℕ)) (noted noted_now : ℕ) → IsRefused u s notes notes_now noted noted_now → s ≡ ReadFault → u ≡ unread.ReadFault
  refused-read (unread.Fault place fault) s notes notes_now noted noted_now (is, gained) read = absurd cc
  refused-read unread.ReadFault s notes notes_now noted noted_now (is, gained) read = refl
  refused-read unread.OutOfMemory s notes notes_now noted noted_now (is, gained) read = absurd cc

  pub refused-write : (u : Unread) (s : Status) (notes notes_now : Option (List ℕ)) (noted noted_now : ℕ) → IsRefused u s notes notes_now noted noted_now → s ≡ WriteFault → ⊥
  refused-write (unread.Fault place fault) s notes notes_now noted noted_now (is, gained) write = cc
  refused-write unread.ReadFault s notes notes_now noted noted_now (is, gained) write = cc
  refused-write unread.OutOfMemory s notes notes_now noted noted_now (is, gained) write = cc

  pub refused-completes : PlayersHaveNoFault → FilersHaveNoFault → (u : Unread) (s : Status) (notes notes_now : Option (List ℕ)) (noted noted_now : ℕ) (failed : Type 0)
      → AreUnread inputs u → IsRefused u s notes notes_now noted noted_now → (u ≡ unread.ReadFault → failed) → Completes s inputs failed
  refused-completes no_player no_filer (unread.Fault place fault) s notes notes_now noted noted_now failed first (is, gained) cause p fs told tells one fine =
      absurd (not_first no_player no_filer inputs p fs place fault told tells one first)
  refused-completes no_player no_filer unread.ReadFault s notes notes_now noted noted_now failed first (is, gained) cause p fs told tells one fine = absurd (fine (cause refl))
  refused-completes no_player no_filer unread.OutOfMemory s notes notes_now noted noted_now failed first (is, gained) cause p fs told tells one fine = inr (inr is)

  -- the inputs behind the one that was not read are as they were
  pub refused-behind : {D : Type 0} (faults : D → ℕ) (old new : List D) (u : Unread) (s : Status) (notes notes_now : Option (List ℕ)) (noted noted_now : ℕ)
      → AreUnread inputs u → LeavesBehind faults u old new → IsRefused u s notes notes_now noted noted_now → StopsAtInput s inputs faults old new (GainedUnlessFault notes notes_now noted noted_now)
  refused-behind faults old new (unread.Fault place fault) s notes notes_now noted noted_now first left (is, gained) =
      subst (λ (t : Status). StopsAtInput t inputs faults old new (GainedUnlessFault notes notes_now noted noted_now)) (sym is) (place, fault, first, gained, left)
  refused-behind faults old new unread.ReadFault s notes notes_now noted noted_now first left (is, kept) =
      subst (λ (t : Status). StopsAtInput t inputs faults old new (GainedUnlessFault notes notes_now noted noted_now)) (sym is) left
  refused-behind faults old new unread.OutOfMemory s notes notes_now noted noted_now first left (is, kept) =
      subst (λ (t : Status). StopsAtInput t inputs faults old new (GainedUnlessFault notes notes_now noted noted_now)) (sym is) tt

  -- all inputs were read
  pub verdict-behind : {D : Type 0} (faults : D → ℕ) (old new : List D) (s : Status) (noted : List ℕ → Type 0) → (s ≡ Done) ⊎ (s ≡ Illegal) ⊎ (s ≡ WriteFault) → StopsAtInput s inputs faults old new noted
  verdict-behind faults old new s noted (inl is) = subst (λ (t : Status). StopsAtInput t inputs faults old new noted) (sym is) tt
  verdict-behind faults old new s noted (inr (inl is)) = subst (λ (t : Status). StopsAtInput t inputs faults old new noted) (sym is) tt
  verdict-behind faults old new s noted (inr (inr is)) = subst (λ (t : Status). StopsAtInput t inputs faults old new noted) (sym is) tt

  -- the verdict is that on the inputs
  pub verdict-on : (p : PlayerRecord) (fs : List FilerRecord) (v : Verdict) → TellJournals inputs p fs → AreOfOneLine fs p → IsVerdict (2 ^ p.head.g) (length fs) (journal_lists fs p) v → HasVerdict inputs p.head.filers v
  verdict-on p fs v told one judged = record {
    player = p;
    journals = fs;
    told = told;
    one = one;
    many = refl;
    judged = subst (λ (n : ℕ). IsVerdict (2 ^ p.head.g) n (journal_lists fs p) v) one.many judged;
  }

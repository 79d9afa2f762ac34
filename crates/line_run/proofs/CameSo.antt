-- What a filer of a line comes to.
use Rattle.std.proofs.Common.{◌≡◌, inl, inr, ℕ, ◌≤◌, List, [], true, false, Option, Result, Ok, Err, refl, subst, arith}
use Rattle.std.specs.Prelude.{is_err}
use Rattle.std.specs.Io.KnownBytes.{Appends}
use Rattle.gate_base.specs.Faults.{HasCause, Rose}
use Rattle.gate_io.specs.Flow.{AppendsPart, Gives}
use Rattle.playout.specs.declared.call.Call.{Call}
use Rattle.recorder.specs.declared.tally.Tally.{Tally}
use Rattle.recorder.specs.Filing.{filer_head_text}
use Rattle.recorder.specs.Heads.{Heading}
use Rattle.recorder.specs.Tallies.{no_tally}
use Rattle.filer.specs.Takes.{Known, new_filer}
use Rattle.filer.specs.Turns.{FilerRan, standing}
use Rattle.filer.specs.declared.run.FilerEnd.{FilerEnd}
use Rattle.filer.specs.declared.run.FilerEnd.TheVariants.{Ended, LinkFault, JournalFault}
use Rattle.line_run.specs.declared.options.LineOptions.{LineOptions}
use Rattle.line_run.specs.Filing.{FilerCame, Grows}
use Rattle.line_run.specs.Opening.{heading}
use Rattle.line_run.specs.Seen.{LinkSeen, SinkSeen}

-- a count that rose from a later number rose from an earlier one
pub rose_from : (before mid now : ℕ) → before ≤ mid → Rose mid now → Rose before now
rose_from before mid now le h = grind arith

-- a call that did not fail gave all
pub gave : {T E : Type 0} (old new : Option (List ℕ)) (r : Result T E) (bs : List ℕ) → Gives old new r bs → is_err r ≡ false → Appends old new bs
gave old new (Ok x) bs h e = h
gave old new (Err x) bs h e = absurd (apart e)
  where
    apart : true ≡ false → ⊥
    apart e = cc

-- behind its head
pub went_on : {T E : Type 0} (filers : ℕ) (o : LineOptions) (who : ℕ) (p p' : LinkSeen) (j opened j' : SinkSeen) (r : Result T E) (head : Heading) (k k' : Known) (calls : List Call) (end : FilerEnd) (tally : Tally)
    → Gives j.given opened.given r (filer_head_text head who) → HasCause j.faults opened.faults r → is_err r ≡ false → head ≡ heading filers o → k ≡ new_filer o.delay o.own o.report
    → FilerRan Grows opened.faults j'.faults (standing k [] p.log opened.given) (standing k' calls p'.log j'.given) end → tally ≡ k'.tally
    → (end ≡ Ended → p'.ended ≡ true) → p.faults ≤ p'.faults → (end ≡ LinkFault → Rose p.faults p'.faults) → opened.faults ≤ j'.faults → (end ≡ JournalFault → Rose opened.faults j'.faults)
    → FilerCame filers o who p j p' j' calls end tally
went_on filers o who p p' j opened j' r head k k' calls end tally gives cause fine is new ran counted ended link_later link_fault journal_later journal_fault =
    let later : j.faults ≤ opened.faults = cause.later in
    record {
      came = inl (record {
        opened = opened;
        known = k';
        head = subst (λ (h : Heading). Appends j.given opened.given (filer_head_text h who)) is (gave j.given opened.given r (filer_head_text head who) gives fine);
        later = later;
        ran = subst (λ (z : Known). FilerRan Grows opened.faults j'.faults (standing z [] p.log opened.given) (standing k' calls p'.log j'.given) end) new ran;
        counted = counted;
        ended = ended;
      });
      link_later = link_later;
      journal_later = omega arith;
      link_fault = link_fault;
      journal_fault = λ e. rose_from j.faults opened.faults j'.faults later (journal_fault e);
    }

-- where its head failed
pub unread : (filers : ℕ) (o : LineOptions) (who : ℕ) (p : LinkSeen) (j j' : SinkSeen) (calls : List Call) → AppendsPart j.given j'.given (filer_head_text (heading filers o) who) → j.faults ≤ j'.faults → Rose j.faults j'.faults → calls ≡ []
    → FilerCame filers o who p j p j' calls JournalFault no_tally
unread filers o who p j j' calls head later rose none =
    record {
      came = inr (record { fault = refl; head = head; link = refl; none = none; counted = refl });
      link_later = omega arith;
      journal_later = later;
      link_fault = λ e. absurd (apart e);
      journal_fault = λ e. rose;
    }
  where
    apart : JournalFault ≡ LinkFault → ⊥
    apart e = cc

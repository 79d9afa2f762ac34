-- What one filer of a line results in.
use Rattle.std.specs.Prelude.{◌≡◌, ◌⊎◌, ℕ, ◌≤◌, List, [], ◌∷◌, ◌++◌, true}
use Rattle.std.specs.Io.KnownBytes.{Appends}
use Rattle.gate_base.specs.Faults.{Rose}
use Rattle.gate_io.specs.Flow.{AppendsPart}
use Rattle.playout.specs.declared.call.Call.{Call}
use Rattle.recorder.specs.declared.tally.Tally.{Tally}
use Rattle.recorder.specs.Filing.{filer_head_text}
use Rattle.recorder.specs.Tallies.{no_tally}
use Rattle.filer.specs.Takes.{Known, new_filer}
use Rattle.filer.specs.Turns.{FilerRan, standing}
use Rattle.filer.specs.declared.run.FilerEnd.{FilerEnd}
use Rattle.filer.specs.declared.run.FilerEnd.TheVariants.{Ended, LinkFault, JournalFault}
use Rattle.line_run.specs.declared.options.LineOptions.{LineOptions}
use Rattle.line_run.specs.Opening.{heading}
use Rattle.line_run.specs.Seen.{LinkSeen, SinkSeen}

-- a list of calls grows by one call
abbrev pub Grows : List Call → Call → List Call → Type 0
Grows calls call now = now ≡ calls ++ call ∷ []

-- Its journal was given the head, and then a filer that knew nothing ran over its link: what it took, called, journaled and sent is that of a filer's run,
-- with these calls.
pub record FilerWent (filers : ℕ) (o : LineOptions) (who : ℕ) (p : LinkSeen) (j : SinkSeen) (p' : LinkSeen) (j' : SinkSeen) (calls : List Call) (end : FilerEnd) (tally : Tally) : Type 0 where
  pub opened : SinkSeen
  pub known : Known
  pub head : Appends j.given opened.given (filer_head_text (heading filers o) who)
  pub later : j.faults ≤ opened.faults
  pub ran : FilerRan Grows opened.faults j'.faults (standing (new_filer o.delay o.own o.report) [] p.log opened.given) (standing known calls p'.log j'.given) end
  pub counted : tally ≡ known.tally
  pub ended : end ≡ Ended → p'.ended ≡ true

-- its journal failed at the head: nothing was read for it, and it made no call
pub record FilerUnread (filers : ℕ) (o : LineOptions) (who : ℕ) (p : LinkSeen) (j : SinkSeen) (p' : LinkSeen) (j' : SinkSeen) (calls : List Call) (end : FilerEnd) (tally : Tally) : Type 0 where
  pub fault : end ≡ JournalFault
  pub head : AppendsPart j.given j'.given (filer_head_text (heading filers o) who)
  pub link : p' ≡ p
  pub none : calls ≡ []
  pub counted : tally ≡ no_tally

-- what filer `who` results in, and why it ended so
pub record FilerCame (filers : ℕ) (o : LineOptions) (who : ℕ) (p : LinkSeen) (j : SinkSeen) (p' : LinkSeen) (j' : SinkSeen) (calls : List Call) (end : FilerEnd) (tally : Tally) : Type 0 where
  pub came : FilerWent filers o who p j p' j' calls end tally ⊎ FilerUnread filers o who p j p' j' calls end tally
  pub link_later : p.faults ≤ p'.faults
  pub journal_later : j.faults ≤ j'.faults
  pub link_fault : end ≡ LinkFault → Rose p.faults p'.faults
  pub journal_fault : end ≡ JournalFault → Rose j.faults j'.faults

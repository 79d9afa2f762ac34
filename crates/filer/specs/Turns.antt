-- What a filer does with its side, its link and its journal: with one receive, and until the link ends or a fault comes.
use Rattle.std.specs.Prelude.{◌≡◌, ◌⊎◌, ℕ, ◌+◌, Bool, true, false, List, [], ◌∷◌, ◌++◌, take, Option, Some, None, Result, Ok, Err}
use Rattle.std.specs.Io.KnownBytes.{Appends}
use Rattle.gate_base.specs.Faults.{Rose}
use Rattle.gate_io.specs.Flow.{AppendsPart}
use Rattle.gate_io.specs.Links.{LinkLog, GoesTo}
use Rattle.gate_io.specs.declared.link.Link as link
use Rattle.gate_io.specs.declared.sink.Sink as sink
use Rattle.playout.specs.declared.call.Call.{Call}
use Rattle.playout.specs.declared.side.FilerSide as filer_side
use Rattle.playout.specs.History.{Chained}
use Rattle.recorder.specs.Files.{end_mark}
use Rattle.rtcp_stats.specs.declared.block.ReportBlock.{ReportBlock}
use Rattle.rtcp_stats.specs.Writing.{report_octets}
use Rattle.filer.specs.declared.outcome.Outcome.{Outcome}
use Rattle.filer.specs.declared.turn.Turn.{Turn}
use Rattle.filer.specs.declared.turn.Turn.TheVariants as turn
use Rattle.filer.specs.declared.run.FilerEnd.{FilerEnd}
use Rattle.filer.specs.declared.run.FilerEnd.TheVariants as ended
use Rattle.filer.specs.Takes.{IsTaken, Known, calls_of, replies_of, step, with_counted}
use Rattle.filer.specs.Runs.{AreTaken}
use Rattle.filer.specs.Journals.{datagram_text, run_text}

-- ---- reports

-- the datagram of a report
abbrev pub report_datagrams : ℕ → Option ReportBlock → List (List ℕ)
report_datagrams own None = []
report_datagrams own (Some block) = report_octets own block ∷ []

-- the report that the last datagram made due
abbrev pub due_by : Known → List (List ℕ)
due_by k = report_datagrams k.own k.reports.due

-- what is known after a datagram with its outcome
abbrev pub after_datagram : Known → List ℕ × ℕ → Outcome → Known
after_datagram k d o = with_counted (step k d.0 d.1 (replies_of o)).after o.end

-- the reports that datagrams make due, in their order; each is of the moment of its datagram
abbrev pub reports_due : Known → List (List ℕ × ℕ) → List Outcome → List (List ℕ)
reports_due k [] os = []
reports_due k (d ∷ ds) [] = []
reports_due k (d ∷ ds) (o ∷ os) = due_by (after_datagram k d o) ++ reports_due (after_datagram k d o) ds os

-- all of them, the last one sent or not
abbrev pub AreSent : List (List ℕ) → List (List ℕ) → Type 0
AreSent sent due = (sent ≡ due) ⊎ ((last : List ℕ) × (due ≡ sent ++ last ∷ []))

-- ---- what was done

-- a filer at one moment: what it knows, its side, what its link tells, and what its journal was given
pub record Standing (S : Type 0) : Type 0 where
  pub known : Known
  pub side : S
  pub log : Option LinkLog
  pub given : Option (List ℕ)

abbrev pub standing : {S : Type 0} → Known → S → Option LinkLog → Option (List ℕ) → Standing S
standing {S} known side log given = record { known = known; side = side; log = log; given = given }

-- the link gave these datagrams, was idle so often, and sent these
pub record Passed (ds : List (List ℕ × ℕ)) (n : ℕ) (s : List (List ℕ)) (a b : LinkLog) : Type 0 where
  pub taken : b.taken ≡ a.taken ++ ds
  pub idles : b.idles ≡ a.idles + n
  pub sent : b.sent ≡ a.sent ++ s

-- these datagrams of the link were taken with these outcomes, by their calls on the side, and this was sent
pub record Worked {S : Type 0} (did : S → Call → S → Type 0) (a b : Standing S) (ds : List (List ℕ × ℕ)) (os : List Outcome) (idles : ℕ) (sent : List (List ℕ)) : Type 0 where
  pub calls : List Call
  pub taken : AreTaken a.known ds os calls b.known
  pub chained : Chained did a.side calls b.side
  pub link : GoesTo a.log b.log (Passed ds idles sent)

-- and all of them were journaled, and all reports due by them sent
pub record WentOn {S : Type 0} (did : S → Call → S → Type 0) (a b : Standing S) (ds : List (List ℕ × ℕ)) (os : List Outcome) (idles : ℕ) : Type 0 where
  pub worked : Worked did a b ds os idles (reports_due a.known ds os)
  pub journal : Appends a.given b.given (run_text ds os)

-- all were journaled, and the last report was sent or not
pub record Unsent {S : Type 0} (did : S → Call → S → Type 0) (a b : Standing S) (ds : List (List ℕ × ℕ)) (os : List Outcome) (idles : ℕ) : Type 0 where
  pub sent : List (List ℕ)
  pub last : AreSent sent (reports_due a.known ds os)
  pub worked : Worked did a b ds os idles sent
  pub journal : Appends a.given b.given (run_text ds os)

-- the events of the last datagram were journaled in part, and its report not sent
pub record CutOff {S : Type 0} (did : S → Call → S → Type 0) (a b : Standing S) (ds : List (List ℕ × ℕ)) (os : List Outcome) (idles : ℕ) : Type 0 where
  pub datagram : List ℕ × ℕ
  pub outcome : Outcome
  pub worked : Worked did a b (ds ++ datagram ∷ []) (os ++ outcome ∷ []) idles (reports_due a.known ds os)
  pub part : ℕ
  pub journal : Appends a.given b.given (run_text ds os ++ take part (datagram_text datagram.0 outcome))

-- one receive: a datagram with all that belongs to it, an idle link, a link that has ended, or a fault
abbrev pub Turned : {S : Type 0} → (S → Call → S → Type 0) → Standing S → Standing S → Turn → Type 0
Turned did a b turn.Went = (d : List ℕ × ℕ) × (o : Outcome) × WentOn did a b (d ∷ []) (o ∷ []) 0
Turned did a b turn.Idle = WentOn did a b [] [] 1
Turned did a b turn.Ended = WentOn did a b [] [] 0
Turned did a b turn.LinkFault = WentOn did a b [] [] 0 ⊎ ((d : List ℕ × ℕ) × (o : Outcome) × Unsent did a b (d ∷ []) (o ∷ []) 0)
Turned did a b turn.JournalFault = CutOff did a b [] [] 0

-- nothing was taken
abbrev pub is_quiet : Turn → Bool
is_quiet turn.Went = false
is_quiet turn.Idle = true
is_quiet turn.Ended = true
is_quiet turn.LinkFault = false
is_quiet turn.JournalFault = false

-- the datagrams that are due are sent, and the call that fails sent its own or not
abbrev pub SendsDue : {T E : Type 0} → Option LinkLog → Option LinkLog → Result T E → List (List ℕ) → Type 0
SendsDue old new (Ok x) due = GoesTo old new (Passed [] 0 due)
SendsDue old new (Err e) due = (sent : List (List ℕ)) × AreSent sent due × GoesTo old new (Passed [] 0 sent)

-- a datagram, after it came, as far as a turn went with it
abbrev pub TookIn : {S : Type 0} → (S → Call → S → Type 0) → Standing S → Standing S → List ℕ → ℕ → Turn → Type 0
TookIn did a b d at turn.Went = (o : Outcome) × IsTaken a.known d at o b.known × Chained did a.side (calls_of a.known d at o) b.side
    × GoesTo a.log b.log (Passed [] 0 (due_by b.known)) × Appends a.given b.given (datagram_text d o)
TookIn did a b d at turn.Idle = ⊥
TookIn did a b d at turn.Ended = ⊥
TookIn did a b d at turn.LinkFault = (o : Outcome) × IsTaken a.known d at o b.known × Chained did a.side (calls_of a.known d at o) b.side
    × ((sent : List (List ℕ)) × AreSent sent (due_by b.known) × GoesTo a.log b.log (Passed [] 0 sent)) × Appends a.given b.given (datagram_text d o)
TookIn did a b d at turn.JournalFault = (o : Outcome) × IsTaken a.known d at o b.known × Chained did a.side (calls_of a.known d at o) b.side
    × (b.log ≡ a.log) × AppendsPart a.given b.given (datagram_text d o)

-- many receives, up to the one that ends them so
abbrev pub Stopped : {S : Type 0} → (S → Call → S → Type 0) → Standing S → Standing S → FilerEnd → Type 0
Stopped did a b ended.Ended = (ds : List (List ℕ × ℕ)) × (os : List Outcome) × (n : ℕ) × WentOn did a b ds os n
Stopped did a b ended.LinkFault = (ds : List (List ℕ × ℕ)) × (os : List Outcome) × (n : ℕ) × Unsent did a b ds os n
Stopped did a b ended.JournalFault = (ds : List (List ℕ × ℕ)) × (os : List Outcome) × (n : ℕ) × CutOff did a b ds os n

-- ---- how a run ends

-- the end mark is given, or a prefix of it where the journal's count rose
abbrev pub Marked : Option (List ℕ) → Option (List ℕ) → ℕ → ℕ → List ℕ → Type 0
Marked old new before now text = Appends old new (text ++ end_mark ∷ []) ⊎ (Appends old new text × Rose before now)

-- the link has ended, the journal has all events and the end mark, and all reports due were sent
pub record RanOut {S : Type 0} (did : S → Call → S → Type 0) (a b : Standing S) : Type 0 where
  pub datagrams : List (List ℕ × ℕ)
  pub outcomes : List Outcome
  pub idles : ℕ
  pub worked : Worked did a b datagrams outcomes idles (reports_due a.known datagrams outcomes)
  pub journal : Appends a.given b.given (run_text datagrams outcomes ++ end_mark ∷ [])

-- the link failed: the journal has all events, and then the end mark as far as it could be given; the last report due was sent or not
pub record LinkFailed {S : Type 0} (did : S → Call → S → Type 0) (before now : ℕ) (a b : Standing S) : Type 0 where
  pub datagrams : List (List ℕ × ℕ)
  pub outcomes : List Outcome
  pub idles : ℕ
  pub sent : List (List ℕ)
  pub last : AreSent sent (reports_due a.known datagrams outcomes)
  pub worked : Worked did a b datagrams outcomes idles sent
  pub journal : Marked a.given b.given before now (run_text datagrams outcomes)

-- the journal failed at the end mark, after all reports due were sent
pub record Unmarked {S : Type 0} (did : S → Call → S → Type 0) (a b : Standing S) : Type 0 where
  pub datagrams : List (List ℕ × ℕ)
  pub outcomes : List Outcome
  pub idles : ℕ
  pub worked : Worked did a b datagrams outcomes idles (reports_due a.known datagrams outcomes)
  pub part : ℕ
  pub journal : Appends a.given b.given (run_text datagrams outcomes ++ take part (end_mark ∷ []))

-- what stands after a run, by its end; the journal's count of faults was `before` and is `now`
abbrev pub FilerRan : {S : Type 0} → (S → Call → S → Type 0) → ℕ → ℕ → Standing S → Standing S → FilerEnd → Type 0
FilerRan did before now a b ended.Ended = RanOut did a b
FilerRan did before now a b ended.LinkFault = LinkFailed did before now a b
FilerRan did before now a b ended.JournalFault =
    ((ds : List (List ℕ × ℕ)) × (os : List Outcome) × (n : ℕ) × CutOff did a b ds os n) ⊎ Unmarked did a b

-- a run of a filer over its side, its link and its journal, by what these tell before and now
abbrev pub RunEnds : {S P J : Type 0} → filer_side.Ghosts S → link.Ghosts P → sink.Ghosts J → Known → S → P → J → Known → S → P → J → FilerEnd → Type 0
RunEnds s p j known side link journal known_now side_now link_now journal_now end =
    FilerRan s.did (j.faults journal) (j.faults journal_now) (standing known side (p.log link) (j.given journal)) (standing known_now side_now (p.log link_now) (j.given journal_now)) end

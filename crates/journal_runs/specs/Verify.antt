-- What `verify` does: whether the journals of a line have a legal history.
use Rattle.std.specs.Prelude.{ℕ, zero, suc, ◌≡◌, ◌⊎◌, ◌<◌, ◌^◌, ◌==◌, List, [], ◌∷◌, length, map, take, drop, slice_get, slice_index, Bool, Option, Some, None, IsSome, IfSome, if◌then◌else◌}
use Rattle.std.specs.List.{AllByRecursion}
use Rattle.std.specs.Io.KnownBytes.{Appends, Keeps}
use Rattle.gate_base.specs.Faults.{Rose}
use Rattle.recorder.specs.declared.fault.RecordFault.{RecordFault}
use Rattle.recorder.specs.declared.fault.RecordFault.TheVariants.{Field}
use Rattle.recorder.specs.Heads.{Heading}
use Rattle.recorder.specs.Journals.{FilerRecord, FilerRecordFits, HasFilerFault, HasPlayerFault, IsFilerJournal, IsPlayerJournal, PlayerRecord, PlayerRecordFits}
use Rattle.replay_check.specs.declared.verdict.Verdict.{Verdict}
use Rattle.replay_check.specs.declared.verdict.Verdict.TheVariants as verdict
use Rattle.replay_check.specs.Journals.{AreNumbered, AreOfOneLine, journal_lists}
use Rattle.replay_check.specs.Rule.{IsVerdict}
use Rattle.gate_notes.specs.Exchange.{GaveBoth, GaveFront, GaveNothing, Giving, NotedAlone}
use Rattle.gate_notes.specs.Notes.{fault_line, illegal_line, legal_line, order_lines}
use Rattle.gate_notes.specs.declared.status.Status.{Status}
use Rattle.gate_notes.specs.declared.status.Status.TheVariants.{Done, Illegal, Usage, Input, ReadFault, WriteFault, LinkFault, OutOfMemory}

-- ---- journals in inputs, of which each tells its octets or not

-- the input is this player's journal
pub record TellsPlayer (input : Option (List ℕ)) (p : PlayerRecord) : Type 0 where
  pub fits : PlayerRecordFits p
  pub text : IfSome input (λ octets. IsPlayerJournal octets p)

-- the input is this filer's journal
pub record TellsFiler (input : Option (List ℕ)) (f : FilerRecord) : Type 0 where
  pub fits : FilerRecordFits f
  pub text : IfSome input (λ octets. IsFilerJournal octets f)

-- the inputs are these filers' journals, in their order
abbrev pub TellFilers : List (Option (List ℕ)) → List FilerRecord → Type 0
TellFilers [] [] = Unit {0}
TellFilers (input ∷ inputs) (f ∷ fs) = TellsFiler input f × TellFilers inputs fs
TellFilers [] (f ∷ fs) = ⊥
TellFilers (input ∷ inputs) [] = ⊥

-- the first input is the player's journal, and the others are the filers'
abbrev pub TellJournals : List (Option (List ℕ)) → PlayerRecord → List FilerRecord → Type 0
TellJournals [] p fs = ⊥
TellJournals (player ∷ filers) p fs = TellsPlayer player p × TellFilers filers fs

-- ---- the first fault, in the order of the inputs

-- the field at this place fits, and then the rest decides
abbrev pub fitting : Bool → ℕ → Option RecordFault → Option RecordFault
fitting fits at rest = if fits then rest else Some (Field at)

-- the field of the player's head that does not fit this many filers' journals
abbrev pub player_misfit : ℕ → Heading → Option RecordFault
player_misfit filers h = fitting (h.filers == filers) 8 None

-- The first field of a filer's head that does not fit: it has the filers, g and delay of the line's head, and is that of filer k.
abbrev pub filer_misfit : Heading → ℕ → FilerRecord → Option RecordFault
filer_misfit h k f =
    fitting (f.head.filers == h.filers) 8
    (fitting (f.head.g == h.g) 9
    (fitting (f.head.delay == h.delay) 10
    (fitting (f.caller == k) 12 None)))

-- the player's input has this fault: of its octets, or of its head after which this many inputs come
abbrev pub PlayerHasFault : ℕ → Option (List ℕ) → RecordFault → Type 0
PlayerHasFault filers input fault =
    IfSome input (λ octets. HasPlayerFault octets fault)
    ⊎ ((p : PlayerRecord) × TellsPlayer input p × (player_misfit filers p.head ≡ Some fault))

-- the input of filer k has this fault: of its octets, or of its head under the line's head
abbrev pub FilerHasFault : Heading → ℕ → Option (List ℕ) → RecordFault → Type 0
FilerHasFault h k input fault =
    IfSome input (λ octets. HasFilerFault octets fault)
    ⊎ ((f : FilerRecord) × TellsFiler input f × (filer_misfit h k f ≡ Some fault))

-- The input of filer k is the first of the filers' with a fault: those before it are whole, and their heads fit.
pub record FilerIsFirst (h : Heading) (filers : List (Option (List ℕ))) (k : ℕ) (fault : RecordFault) : Type 0 where
  pub before : List FilerRecord
  pub earlier : TellFilers (take k filers) before
  pub numbered : AreNumbered h 0 before
  pub input : Option (List ℕ)
  pub here : slice_get filers k ≡ Some input
  pub has : FilerHasFault h k input fault

-- the input at this place is the first with a fault, and this is its fault
abbrev pub HasFirstFault : List (Option (List ℕ)) → ℕ → RecordFault → Type 0
HasFirstFault [] place fault = ⊥
HasFirstFault (player ∷ filers) zero fault = PlayerHasFault (length filers) player fault
HasFirstFault (player ∷ filers) (suc k) fault =
    (p : PlayerRecord) × TellsPlayer player p × (p.head.filers ≡ length filers) × FilerIsFirst p.head filers k fault

-- ---- the verdict

-- the inputs are the journals of one line of this many filers, and this is the verdict on them
pub record HasVerdict (inputs : List (Option (List ℕ))) (filers : ℕ) (v : Verdict) : Type 0 where
  pub player : PlayerRecord
  pub journals : List FilerRecord
  pub told : TellJournals inputs player journals
  pub one : AreOfOneLine journals player
  pub many : player.head.filers ≡ filers
  pub judged : IsVerdict (2 ^ player.head.g) filers (journal_lists journals player) v

-- what a verdict gives to the output: the order of a legal history
abbrev pub verdict_text : ℕ → Verdict → List ℕ
verdict_text filers (verdict.Legal order) = order_lines filers order
verdict_text filers (verdict.Illegal caller place) = []

-- what it gives to the notes
abbrev pub verdict_line : Verdict → List ℕ
verdict_line (verdict.Legal order) = legal_line (length order)
verdict_line (verdict.Illegal caller place) = illegal_line caller place

-- what each status says
abbrev pub Ends : Status → List (Option (List ℕ)) → Giving → Type 0
Ends Done inputs x = (filers : ℕ) × (order : List ℕ) × HasVerdict inputs filers (verdict.Legal order)
    × GaveBoth x (order_lines filers order) (legal_line (length order))
Ends Illegal inputs x = (filers caller place : ℕ) × HasVerdict inputs filers (verdict.Illegal caller place)
    × Keeps x.output x.output_now × Appends x.notes x.notes_now (illegal_line caller place)
Ends Input inputs x = (place : ℕ) × (fault : RecordFault) × HasFirstFault inputs place fault × NotedAlone x (fault_line place fault)
Ends ReadFault inputs x = GaveNothing x
Ends WriteFault inputs x = (filers : ℕ) × (v : Verdict) × HasVerdict inputs filers v × GaveFront x (verdict_text filers v) (verdict_line v)
Ends OutOfMemory inputs x = GaveNothing x
Ends Usage inputs x = ⊥
Ends LinkFault inputs x = ⊥

-- where the inputs are the journals of one line, and none of the objects failed, the command reaches a verdict, or runs out of memory
abbrev pub Completes : Status → List (Option (List ℕ)) → Type 0 → Type 0
Completes status inputs failed = (p : PlayerRecord) (fs : List FilerRecord) → AllByRecursion IsSome inputs → TellJournals inputs p fs → AreOfOneLine fs p → ¬ failed
    → (status ≡ Done) ⊎ (status ≡ Illegal) ⊎ (status ≡ OutOfMemory)

-- ---- where the reading of the inputs stopped, by the counts of their faults

-- the inputs after this place are as they were
abbrev pub KeepsBehind : {D : Type 0} → ℕ → List D → List D → Type 0
KeepsBehind place old new = drop (suc place) new ≡ drop (suc place) old

-- the count of the input at some place rose, and the inputs after that place are as they were
abbrev pub FailsAtInput : {D : Type 0} → (D → ℕ) → List D → List D → Type 0
FailsAtInput faults old new = (place : ℕ) × (place < length old) × Rose (slice_index (map faults old) place) (slice_index (map faults new) place) × KeepsBehind place old new

-- the inputs after the one where the reading stopped are as they were: after the first with a fault, of which the notes have the line, or after one whose count rose
abbrev pub StopsAtInput : {D : Type 0} → Status → List (Option (List ℕ)) → (D → ℕ) → List D → List D → (List ℕ → Type 0) → Type 0
StopsAtInput Input lefts faults old new noted = (place : ℕ) × (fault : RecordFault) × HasFirstFault lefts place fault × noted (fault_line place fault) × KeepsBehind place old new
StopsAtInput ReadFault lefts faults old new noted = FailsAtInput faults old new
StopsAtInput Done lefts faults old new noted = Unit {0}
StopsAtInput Illegal lefts faults old new noted = Unit {0}
StopsAtInput WriteFault lefts faults old new noted = Unit {0}
StopsAtInput OutOfMemory lefts faults old new noted = Unit {0}
StopsAtInput Usage lefts faults old new noted = Unit {0}
StopsAtInput LinkFault lefts faults old new noted = Unit {0}

-- What contracts see of the link in memory, and how it answers by its script.
use Rattle.std.specs.Prelude.{ℕ, ◌+◌, ◌-◌, ◌^◌, min, Bool, true, false, List, [], ◌∷◌, ◌++◌, length, take, Result, Ok, Err}
use Rattle.gate_io.specs.declared.failed.Failed.{Failed}
use Rattle.gate_io.specs.declared.received.Received.{Received}
use Rattle.gate_io.specs.declared.received.Received.TheVariants as received
use Rattle.gate_io.specs.declared.link_entry.LinkEntry.{LinkEntry}
use Rattle.gate_io.specs.declared.link_entry.LinkEntry.TheVariants as entry
use Rattle.gate_io.specs.Links.{LinkLog}

-- the entries that were answered, those that are still to come, and whether it has answered after the last one; the
-- datagrams that were sent, how many there is room for, which sends fail, and how many there were; the faults
pub record LinkState : Type 0 where
  pub passed : List LinkEntry
  pub left : List LinkEntry
  pub ended : Bool
  pub sent : List (List ℕ)
  pub room : ℕ
  pub fails : List ℕ
  pub sends : ℕ
  pub faults : ℕ

-- a datagram is cut to 2048 octets
abbrev pub cut_length : List ℕ → ℕ
cut_length octets = min (length octets) 2048

abbrev pub cut : List ℕ → List ℕ
cut octets = take (cut_length octets) octets

-- the datagrams of these entries, as they were given
abbrev pub taken_of : List LinkEntry → List (List ℕ × ℕ)
taken_of [] = []
taken_of (entry.Datagram octets at ∷ es) = (cut octets, at) ∷ taken_of es
taken_of (entry.Idle ∷ es) = taken_of es
taken_of (entry.Fail ∷ es) = taken_of es

abbrev pub idles_of : List LinkEntry → ℕ
idles_of [] = 0
idles_of (entry.Datagram octets at ∷ es) = idles_of es
idles_of (entry.Idle ∷ es) = idles_of es + 1
idles_of (entry.Fail ∷ es) = idles_of es

abbrev pub log_of : LinkState → LinkLog
log_of s = record { taken = taken_of s.passed; idles = idles_of s.passed; sent = s.sent }

abbrev pub opened : List LinkEntry → List ℕ → ℕ → LinkState
opened script fails room = record { passed = []; left = script; ended = false; sent = []; room = room; fails = fails; sends = 0; faults = 0 }

abbrev pub counted : ℕ → ℕ
counted n = min (n + 1) (2 ^ 64 - 1)

-- how an entry is answered, and what stands then at the beginning of the piece
abbrev pub answer_to : LinkEntry → Result Received Failed
answer_to (entry.Datagram octets at) = Ok (received.Datagram (cut_length octets) at)
answer_to entry.Idle = Ok received.Idle
answer_to entry.Fail = Err (record {})

abbrev pub size_of : LinkEntry → ℕ
size_of (entry.Datagram octets at) = cut_length octets
size_of entry.Idle = 0
size_of entry.Fail = 0

abbrev pub octets_of : LinkEntry → List ℕ
octets_of (entry.Datagram octets at) = cut octets
octets_of entry.Idle = []
octets_of entry.Fail = []

abbrev pub faults_after : ℕ → LinkEntry → ℕ
faults_after n (entry.Datagram octets at) = n
faults_after n entry.Idle = n
faults_after n entry.Fail = counted n

-- the same where these entries are left: the first is answered, and after the last the link has ended
abbrev pub first_answer : List LinkEntry → Result Received Failed
first_answer [] = Ok received.Ended
first_answer (e ∷ es) = answer_to e

abbrev pub first_size : List LinkEntry → ℕ
first_size [] = 0
first_size (e ∷ es) = size_of e

abbrev pub first_octets : List LinkEntry → List ℕ
first_octets [] = []
first_octets (e ∷ es) = octets_of e

abbrev pub after_first : LinkState → List LinkEntry → LinkState
after_first s [] = record s { ended = true }
after_first s (e ∷ es) = record s { passed = s.passed ++ e ∷ []; left = es; faults = faults_after s.faults e }

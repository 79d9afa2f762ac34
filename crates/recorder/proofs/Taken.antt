-- What the octets behind a kind decide, and what a refusal has taken.
use Rattle.std.proofs.Common.{◌≡◌, ◌≢◌, ℕ, ◌+◌, ◌≤◌, ◌<◌, List, [], ◌∷◌, ◌++◌, length, take, Option, Some, None, Result, Ok, Err, sym, subst, length-append, arith}
use Rattle.std.specs.Prelude.{IfSome, OnErr}
use Rattle.std.specs.Io.KnownBytes.{Consumes, IsAtEnd}
use Rattle.std.proofs.KnownBytes.{Consumes-nil, Consumes-trans}
use Rattle.std.proofs.lemmas.List.{length-take-le}
use Rattle.std.proofs.lemmas.Bool.Decides.{nat_tests}
use Rattle.gate_io.specs.Flow.{ConsumesFewer}
use Rattle.recorder.specs.declared.fault.RecordFault.{RecordFault}
use Rattle.recorder.specs.Fields.{judged_behind}
use Rattle.recorder.specs.Heads.{Heading}
use Rattle.recorder.specs.Files.{end_mark, event_limit, fault_by}
use Rattle.recorder.specs.Script.{fault_at, file_fault, whole_datagram_fault}
use Rattle.recorder.specs.PieceLaws.{told}

-- behind a kind that is no end mark, within the limit, what follows it decides
pub behind_kind : (old mid : Option (List ℕ)) (kind count at : ℕ) (behind : ℕ → ℕ → List ℕ → Option RecordFault) (Q : Option RecordFault → Type 0) → kind ≢ end_mark → count < event_limit
    → Consumes old mid (kind ∷ []) → IfSome mid (λ rest. Q (behind kind at rest)) → IfSome old (λ octets. Q (fault_by behind count at octets))
behind_kind None mid kind count at behind Q other few took q = tt
behind_kind (Some xs) None kind count at behind Q other few took q = absurd took
behind_kind (Some xs) (Some ys) kind count at behind Q other few took q =
    let is : fault_by behind count at (kind ∷ ys) ≡ behind kind at ys = grind (arith, nat_tests, other) in
    subst (λ (l : List ℕ). Q (fault_by behind count at l)) (sym took) (subst Q (sym is) q)

-- behind the kind of a File, within the limit, the fields decide
pub file_next : (h : Heading) (count at : ℕ) (rest : List ℕ) → count < event_limit → fault_at h count at (2 ∷ rest) ≡ file_fault h (at + 1) (take 42 rest)
file_next h count at rest few = grind (arith, nat_tests)

-- and where those octets are as many as stand behind the kind, what holds of the fault of those that came holds of the file's
pub told_behind : (old mid new : Option (List ℕ)) (kind count at n m : ℕ) (piece : List ℕ) (widths : ℕ → Option ℕ) (judge : ℕ → ℕ → List ℕ → Option RecordFault) (P : Option RecordFault → Type 0)
    → kind ≢ end_mark → count < event_limit → Consumes old mid (kind ∷ []) → widths kind ≡ Some m → n ≤ m → length piece ≡ m → Consumes mid new (take n piece) → (n < m → IsAtEnd new)
    → P (judge kind (at + 1) (take n piece)) → IfSome old (λ octets. P (fault_by (λ k. judged_behind (widths k) (judge k)) count at octets))
told_behind old mid new kind count at n m piece widths judge P other few took width le len read end p =
    behind_kind old mid kind count at (λ k. judged_behind (widths k) (judge k)) P other few took
    (subst (λ (o : Option ℕ). IfSome mid (λ rest. P (judged_behind o (judge kind) at rest))) (sym width)
    (told mid new n m piece (λ (l : List ℕ). P (judge kind (at + 1) l)) le len read end p))

-- the same behind the kind of a Datagram
pub datagram_next : (h : Heading) (count at : ℕ) (rest : List ℕ) → count < event_limit → fault_at h count at (3 ∷ rest) ≡ whole_datagram_fault h (at + 1) rest
datagram_next h count at rest few = grind (arith, nat_tests)

-- ---- what a refusal has taken

pub fewer_of : (m n : ℕ) (old new : Option (List ℕ)) → m ≤ n → ConsumesFewer m old new → ConsumesFewer n old new
fewer_of m n old new le p = (p.0, omega (arith, le, p.1), p.2)

pub fewer_none : (n : ℕ) (input : Option (List ℕ)) → 0 < n → ConsumesFewer n input input
fewer_none n input some = ([], some, Consumes-nil input)

-- the octets that came into a piece
pub fewer_taken : (k m n : ℕ) (old new : Option (List ℕ)) (piece : List ℕ) → k ≤ m → length piece ≡ m → m < n → Consumes old new (take k piece) → ConsumesFewer n old new
fewer_taken k m n old new piece le len less took = (take k piece, omega (arith, length-take-le k piece (omega arith), le, less), took)

-- some octets, and then what was taken behind them
pub fewer_behind : (m n : ℕ) (old mid new : Option (List ℕ)) (bs : List ℕ) → length bs + m ≤ n → Consumes old mid bs → ConsumesFewer m mid new → ConsumesFewer n old new
fewer_behind m n old mid new bs le took p = (bs ++ p.0, omega (arith, le, p.1, length-append bs p.0), Consumes-trans old mid new bs p.0 took p.2)

-- one octet
pub fewer_one : (kind n : ℕ) (old new : Option (List ℕ)) → 1 < n → Consumes old new (kind ∷ []) → ConsumesFewer n old new
fewer_one kind n old new less took = (kind ∷ [], less, took)

-- an answer for which nothing was taken
pub none_again : {T E : Type 0} (result : Result T E) (n : ℕ) (input : Option (List ℕ)) → 0 < n → OnErr result (ConsumesFewer n input input)
none_again (Ok x) n input some = tt
none_again (Err e) n input some = fewer_none n input some

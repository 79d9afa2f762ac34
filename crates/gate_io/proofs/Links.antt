-- What a link in memory tells after one entry more.
use Rattle.std.proofs.Common.{◌≡◌, ℕ, ◌+◌, List, [], ◌∷◌, ◌++◌, take, Some, refl, sym, ap, ◌∙◌, arith, append-nil}
use Rattle.gate_io.specs.declared.link_entry.LinkEntry.{LinkEntry}
use Rattle.gate_io.specs.declared.link_entry.LinkEntry.TheVariants as entry
use Rattle.gate_io.specs.Links.{LinkLog, Receives, with_taken, with_idle}
use Rattle.gate_io.specs.LinkScript.{LinkState, after_first, cut, first_answer, first_octets, first_size, idles_of, log_of, taken_of}

taken-more : (es : List LinkEntry) (e : LinkEntry) → taken_of (es ++ e ∷ []) ≡ taken_of es ++ taken_of (e ∷ [])
taken-more [] e = refl
taken-more (entry.Datagram octets at ∷ es) e = ap (λ (l : List (List ℕ × ℕ)). (cut octets, at) ∷ l) (taken-more es e)
taken-more (entry.Idle ∷ es) e = taken-more es e
taken-more (entry.Fail ∷ es) e = taken-more es e

idles-more : (es : List LinkEntry) (e : LinkEntry) → idles_of (es ++ e ∷ []) ≡ idles_of es + idles_of (e ∷ [])
idles-more [] e = omega arith
idles-more (entry.Datagram octets at ∷ es) e = idles-more es e
idles-more (entry.Idle ∷ es) e = let h : idles_of (es ++ e ∷ []) ≡ idles_of es + idles_of (e ∷ []) = idles-more es e in omega arith
idles-more (entry.Fail ∷ es) e = idles-more es e

-- what is answered is what the log then tells
pub received_is : (s : LinkState) (l : List LinkEntry) (piece : List ℕ) → take (first_size l) piece ≡ first_octets l
    → Receives (Some (log_of s)) (Some (log_of (after_first s l))) (first_answer l) piece
received_is s [] piece h = refl
received_is s (entry.Datagram octets at ∷ es) piece h =
    let e : LinkEntry = entry.Datagram octets at in
    let i : idles_of (s.passed ++ e ∷ []) ≡ idles_of s.passed = (let j : idles_of (s.passed ++ e ∷ []) ≡ idles_of s.passed + 0 = idles-more s.passed e in omega arith) in
    let t : taken_of (s.passed ++ e ∷ []) ≡ taken_of s.passed ++ (take (first_size (e ∷ es)) piece, at) ∷ [] =
    taken-more s.passed e ∙ ap (λ (o : List ℕ). taken_of s.passed ++ (o, at) ∷ []) (sym h) in
    rw (t, i) refl
received_is s (entry.Idle ∷ es) piece h =
    let e : LinkEntry = entry.Idle in
    let i : idles_of (s.passed ++ e ∷ []) ≡ idles_of s.passed + 1 = idles-more s.passed e in
    let t : taken_of (s.passed ++ e ∷ []) ≡ taken_of s.passed = taken-more s.passed e ∙ append-nil (taken_of s.passed) in
    rw (t, i) refl
received_is s (entry.Fail ∷ es) piece h =
    let e : LinkEntry = entry.Fail in
    let i : idles_of (s.passed ++ e ∷ []) ≡ idles_of s.passed = (let j : idles_of (s.passed ++ e ∷ []) ≡ idles_of s.passed + 0 = idles-more s.passed e in omega arith) in
    let t : taken_of (s.passed ++ e ∷ []) ≡ taken_of s.passed = taken-more s.passed e ∙ append-nil (taken_of s.passed) in
    rw (t, i) refl

-- What the calls of a link do to what it tells.
use Rattle.std.specs.Prelude.{◌≡◌, ◌⊎◌, ℕ, ◌+◌, ◌≤◌, Bool, true, List, [], ◌∷◌, ◌++◌, take, Option, Some, None, Result, Ok, Err}
use Rattle.gate_io.specs.declared.received.Received.{Received}
use Rattle.gate_io.specs.declared.received.Received.TheVariants as received

-- the datagrams that came, each with its moment; how often nothing was there; the datagrams that were sent
pub record LinkLog : Type 0 where
  pub taken : List (List ℕ × ℕ)
  pub idles : ℕ
  pub sent : List (List ℕ)

abbrev pub no_log : LinkLog
no_log = record { taken = []; idles = 0; sent = [] }

-- a log that was told stays told, and the two are related so
abbrev pub GoesTo : Option LinkLog → Option LinkLog → (LinkLog → LinkLog → Type 0) → Type 0
GoesTo None new relation = Unit {0}
GoesTo (Some old) None relation = ⊥
GoesTo (Some old) (Some new) relation = relation old new

abbrev pub with_taken : LinkLog → List ℕ → ℕ → LinkLog
with_taken a octets at = record a { taken = a.taken ++ (octets, at) ∷ [] }

abbrev pub with_idle : LinkLog → LinkLog
with_idle a = record a { idles = a.idles + 1 }

abbrev pub with_sent : LinkLog → List ℕ → LinkLog
with_sent a octets = record a { sent = a.sent ++ octets ∷ [] }

-- a datagram alone is taken, an idle answer alone counts as one; nothing is sent
abbrev pub Receives : {E : Type 0} → Option LinkLog → Option LinkLog → Result Received E → List ℕ → Type 0
Receives old new (Ok (received.Datagram len at)) piece = GoesTo old new (λ a b. b ≡ with_taken a (take len piece) at)
Receives old new (Ok received.Idle) piece = GoesTo old new (λ a b. b ≡ with_idle a)
Receives old new (Ok received.Ended) piece = GoesTo old new (λ a b. b ≡ a)
Receives old new (Err e) piece = GoesTo old new (λ a b. b ≡ a)

-- the datagram is sent; where the call fails it is sent or not
abbrev pub Sends : {T E : Type 0} → Option LinkLog → Option LinkLog → Result T E → List ℕ → Type 0
Sends old new (Ok x) octets = GoesTo old new (λ a b. b ≡ with_sent a octets)
Sends old new (Err e) octets = GoesTo old new (λ a b. (b ≡ a) ⊎ (b ≡ with_sent a octets))

-- a datagram has at most this many octets
abbrev pub IsWithin : ℕ → Received → Type 0
IsWithin most (received.Datagram len at) = len ≤ most
IsWithin most received.Idle = Unit {0}
IsWithin most received.Ended = Unit {0}

-- only the answer that it ended ends a link
abbrev pub Ends : {E : Type 0} → Bool → Bool → Result Received E → Type 0
Ends old new (Ok (received.Datagram len at)) = new ≡ old
Ends old new (Ok received.Idle) = new ≡ old
Ends old new (Ok received.Ended) = new ≡ true
Ends old new (Err e) = new ≡ old

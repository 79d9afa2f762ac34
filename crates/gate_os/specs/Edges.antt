-- What contracts see of files and sockets, and times in nanoseconds. Nothing is seen of what files and sockets hold.
use Rattle.std.specs.Prelude.{◌≡◌, ℕ, ◌+◌, ◌-◌, ◌*◌, ◌/◌, ◌%◌, ◌^◌, min, Bool, true, false, nat_le, Option, Some, None, is_some, option_map, Result, Ok, Err, is_ok, if◌then◌else◌}
use Rattle.std.specs.Time.{instant_nanos}
use Rattle.gate_io.specs.declared.received.Received.{Received}
use Rattle.gate_io.specs.declared.received.Received.TheVariants as received
use Rattle.gate_os.specs.declared.reading.Reading.{Reading}

-- a file: whether it could be opened, and the calls that failed
pub record FileState : Type 0 where
  pub is_open : Bool
  pub faults : ℕ

-- what a reading of the clock said, where it could be read
abbrev pub nanos_of : Reading → Option ℕ
nanos_of reading = option_map instant_nanos reading.at

-- the life of a link: when it began and how long it is, when the link was last asked, and when it last had a datagram
pub record LifeState : Type 0 where
  pub begun : Option ℕ
  pub lasts : ℕ
  pub asked : Option ℕ
  pub heard : Option ℕ

-- a socket: whether it could be bound, whether it is known where datagrams are to go, whether that was given and so stays, its
-- life, whether it has answered that it ended, and the calls that failed
pub record SocketState : Type 0 where
  pub is_bound : Bool
  pub has_target : Bool
  pub is_fixed : Bool
  pub life : LifeState
  pub ended : Bool
  pub faults : ℕ

-- a clock of ticks: those that it gave and those that are still to come, whether it has ended, when it began, what it read
-- at its last tick, and how long it then slept
pub record TicksState : Type 0 where
  pub ticks : ℕ
  pub left : ℕ
  pub ended : Bool
  pub begun : Option ℕ
  pub read : Option ℕ
  pub slept : ℕ

-- the count after a call: one more where it failed, up to the largest
abbrev pub count_after : {T E : Type 0} → Result T E → ℕ → ℕ
count_after result n = if is_ok result then n else min (n + 1) (2 ^ 64 - 1)

-- milliseconds, as many as a 64-bit count holds, in nanoseconds
abbrev pub millis : ℕ → ℕ
millis n = min n (2 ^ 64 - 1) * 1_000_000

-- the time of this many ticks of 20 ms
abbrev pub ticks_time : ℕ → ℕ
ticks_time n = millis (n * 20)

-- the life of a link that is to be there a second longer than this many ticks
abbrev pub lasting : ℕ → ℕ
lasting n = millis (min (n * 20) (2 ^ 64 - 1) + 1000)

-- the time from one reading to another, where both are known
abbrev pub age_of : Option ℕ → Option ℕ → Option ℕ
age_of (Some start) (Some now) = Some (now - start)
age_of (Some start) None = None
age_of None now = None

-- what is left to the time of a tick, counted from 1, where so much has passed; one tick where that is not known
abbrev pub left_of : ℕ → Option ℕ → ℕ
left_of tick (Some passed) = ticks_time tick - passed
left_of tick None = ticks_time 1

-- a time in 8000ths of a second, modulo 2^32, as RTP counts it for speech (RFC 3551)
abbrev pub moment_at : ℕ → ℕ
moment_at nanos = nanos / 1_000 / 125 % 2 ^ 32

-- whether a life was over when the link was last asked, where that is known
abbrev pub is_over : LifeState → Option Bool
is_over life = option_map (nat_le life.lasts) (age_of life.begun life.asked)

-- a link ends exactly where it is asked past its life
abbrev pub EndsByLife : LifeState → Received → Type 0
EndsByLife life (received.Datagram len at) = is_over life ≡ Some false
EndsByLife life received.Idle = is_over life ≡ Some false
EndsByLife life received.Ended = is_over life ≡ Some true

-- the moment of a datagram is the link's age when it came
abbrev pub IsTimed : LifeState → Received → Type 0
IsTimed life (received.Datagram len at) = option_map moment_at (age_of life.begun life.heard) ≡ Some at
IsTimed life received.Idle = Unit {0}
IsTimed life received.Ended = Unit {0}

-- a datagram has a sender
abbrev pub SenderKnown : {A : Type 0} → Received → Option A → Type 0
SenderKnown (received.Datagram len at) sender = is_some sender ≡ true
SenderKnown received.Idle sender = Unit {0}
SenderKnown received.Ended sender = Unit {0}

-- once a datagram has come it is known where others are to go, and no other answer changes whether it is
abbrev pub TargetAfter : {E : Type 0} → Bool → Bool → Result Received E → Type 0
TargetAfter old new (Ok (received.Datagram len at)) = new ≡ true
TargetAfter old new (Ok received.Idle) = new ≡ old
TargetAfter old new (Ok received.Ended) = new ≡ old
TargetAfter old new (Err e) = new ≡ old

-- What a leg gives and sends: the codes of whole blocks of 320 octets, and a packet for each.
use Rattle.std.specs.Prelude.{◌≡◌, ◌⊎◌, ℕ, zero, suc, ◌+◌, ◌*◌, ◌/◌, ◌%◌, ◌^◌, ◌<◌, ◌≤◌, Bool, true, false, List, [], ◌∷◌, ◌++◌, length, map, take, drop, flat_map, ℤ, Option, Result, MatchResult, OnErr}
use Rattle.std.specs.Int.{w16, cast_signed}
use Rattle.std.specs.Io.KnownBytes.{Appends}
use Rattle.byteorder.specs.Endian.{big_bytes}
use Rattle.gate_base.specs.Faults.{Rose}
use Rattle.gate_io.specs.Links.{GoesTo, LinkLog}
use Rattle.gate_io.specs.declared.link.Link as link
use Rattle.gate_io.specs.declared.sink.Sink as sink
use Rattle.rtp_codec.specs.Packets.{head_octets}
use Rattle.g711_leg.specs.declared.law.Law.{Law}
use Rattle.g711_leg.specs.declared.law.Law.TheVariants.{Mu, A}
use Rattle.g711_leg.specs.Best.{code_of}

-- ---- blocks, their codes and their packets

-- the samples of 16 bits, the low octet of each first
abbrev pub samples_of : List ℕ → List ℤ
samples_of [] = []
samples_of (low ∷ []) = []
samples_of (low ∷ high ∷ more) = cast_signed w16 (low + 256 * high) ∷ samples_of more

abbrev pub codes_of : Law → List ℕ → List ℕ
codes_of law octets = map (code_of law) (samples_of octets)

-- the first n blocks of 320 octets, and the whole ones of a list
abbrev pub blocks : ℕ → List ℕ → List (List ℕ)
blocks zero octets = []
blocks (suc n) octets = take 320 octets ∷ blocks n (drop 320 octets)

abbrev pub whole_blocks : List ℕ → List (List ℕ)
whole_blocks octets = blocks (length octets / 320) octets

-- what follows the whole ones, fewer than 320 octets
abbrev pub rest_of : List ℕ → List ℕ
rest_of octets = drop (320 * (length octets / 320)) octets

-- the law of a leg, and the source, the first sequence number and the first timestamp of its packets
pub record Start : Type 0 where
  pub law : Law
  pub own : ℕ
  pub sequence : ℕ
  pub stamp : ℕ

-- RFC 3551 section 6
abbrev pub payload_type : Law → ℕ
payload_type Mu = 0
payload_type A = 8

-- the packet of this number, from 0: the sequence number and the timestamp wrap (RFC 3550 section 5.1)
abbrev pub packet_of : Start → ℕ → List ℕ → List ℕ
packet_of s i codes =
    head_octets (record { marker = false; payload_type = payload_type s.law; sequence = (s.sequence + i) % 2 ^ 16; timestamp = (s.stamp + 160 * i) % 2 ^ 32; ssrc = s.own }) ++ codes

-- the codes of blocks, and their packets from this number on
abbrev pub codes_in : Law → List (List ℕ) → List ℕ
codes_in law parts = flat_map (codes_of law) parts

abbrev pub packets_in : Start → ℕ → List (List ℕ) → List (List ℕ)
packets_in s i [] = []
packets_in s i (part ∷ parts) = packet_of s i (codes_of s.law part) ∷ packets_in s (suc i) parts

-- ---- the head of an .au file

-- mu-law and A-law of 8 bits
abbrev pub encoding : Law → ℕ
encoding Mu = 1
encoding A = 27

-- the magic number, the length of the head, an unknown length of the data, the encoding, 8000 samples a second, one channel
abbrev pub au_head : Law → List ℕ
au_head law =
    big_bytes 4 0x2E736E64 ++ (big_bytes 4 24 ++ (big_bytes 4 0xFFFFFFFF ++ (big_bytes 4 (encoding law) ++ (big_bytes 4 8000 ++ big_bytes 4 1))))

-- ---- what goes out behind the speaker

-- What takes the octets and where it stands: the law and the numbers of the packets, the rest of fewer than 320 octets that waits, and the number of packets
-- so far, modulo 2 ^ 32, which is all that their numbers tell.
pub record OutState (A P : Type 0) : Type 0 where
  pub au : A
  pub link : P
  pub start : Start
  pub rest : List ℕ
  pub packets : ℕ

-- the log grows by these datagrams
abbrev pub SendsAll : Option LinkLog → Option LinkLog → List (List ℕ) → Type 0
SendsAll old new datagrams = GoesTo old new (λ a b. b ≡ record a { sent = a.sent ++ datagrams })

-- the whole blocks of what waits and these octets, and the codes and packets of them
abbrev pub blocks_with : {A P : Type 0} → OutState A P → List ℕ → List (List ℕ)
blocks_with s octets = whole_blocks (s.rest ++ octets)

abbrev pub codes_with : {A P : Type 0} → OutState A P → List ℕ → List ℕ
codes_with s octets = codes_in s.start.law (blocks_with s octets)

abbrev pub packets_with : {A P : Type 0} → OutState A P → List ℕ → List (List ℕ)
packets_with s octets = packets_in s.start s.packets (blocks_with s octets)

-- these octets came: the codes of the whole blocks were given, their packets were sent, and what is left waits
pub record Goes {A P : Type 0} (a : sink.Ghosts A) (p : link.Ghosts P) (old new : OutState A P) (octets : List ℕ) : Type 0 where
  pub au : Appends (a.given old.au) (a.given new.au) (codes_with old octets)
  pub link : SendsAll (p.log old.link) (p.log new.link) (packets_with old octets)
  pub ended : p.ended new.link ≡ p.ended old.link
  pub start : new.start ≡ old.start
  pub rest : new.rest ≡ rest_of (old.rest ++ octets)
  pub packets : new.packets ≡ (old.packets + length (blocks_with old octets)) % 2 ^ 32

-- A part failed while these octets came: each has a prefix. No packet was sent before its codes were given, and those of at most one were given without it.
pub record GoesPart {A P : Type 0} (a : sink.Ghosts A) (p : link.Ghosts P) (old new : OutState A P) (octets : List ℕ) : Type 0 where
  pub given : ℕ
  pub sent : ℕ
  pub au : Appends (a.given old.au) (a.given new.au) (take given (codes_with old octets))
  pub link : SendsAll (p.log old.link) (p.log new.link) (take sent (packets_with old octets))
  pub codes_first : 160 * sent ≤ given
  pub one_ahead : given ≤ 160 * (sent + 1)
  pub ended : p.ended new.link ≡ p.ended old.link
  pub start : new.start ≡ old.start

abbrev pub GoesBy : {A P T E : Type 0} → sink.Ghosts A → link.Ghosts P → OutState A P → OutState A P → Result T E → List ℕ → Type 0
GoesBy a p old new result octets = MatchResult result (λ _. Goes a p old new octets) (λ _. GoesPart a p old new octets)

-- no count fell, and a fault comes only where one rose
pub record OutCause {A P T E : Type 0} (a : sink.Ghosts A) (p : link.Ghosts P) (old new : OutState A P) (result : Result T E) : Type 0 where
  pub au : a.faults old.au ≤ a.faults new.au
  pub link : p.faults old.link ≤ p.faults new.link
  pub failed : OnErr result (Rose (a.faults old.au) (a.faults new.au) ⊎ Rose (p.faults old.link) (p.faults new.link))

-- ---- the leg

-- what contracts see of a leg: its three parts, whether `begin` was called and whether it answered Ok, and where what goes out stands
pub record LegState (O A P : Type 0) : Type 0 where
  pub speaker : O
  pub au : A
  pub link : P
  pub called : Bool
  pub ready : Bool
  pub start : Start
  pub rest : List ℕ
  pub packets : ℕ

abbrev pub out_of : {O A P : Type 0} → LegState O A P → OutState A P
out_of s = record { au = s.au; link = s.link; start = s.start; rest = s.rest; packets = s.packets }

abbrev pub leg_faults : {O A P : Type 0} → sink.Ghosts O → sink.Ghosts A → link.Ghosts P → LegState O A P → ℕ
leg_faults o a p s = o.faults s.speaker + (a.faults s.au + p.faults s.link)

-- the count of a part rose
abbrev pub AnyRose : {O A P : Type 0} → sink.Ghosts O → sink.Ghosts A → link.Ghosts P → LegState O A P → LegState O A P → Type 0
AnyRose o a p old new =
    Rose (o.faults old.speaker) (o.faults new.speaker) ⊎ (Rose (a.faults old.au) (a.faults new.au) ⊎ Rose (p.faults old.link) (p.faults new.link))

-- no count of a part fell
pub record NoneFell {O A P : Type 0} (o : sink.Ghosts O) (a : sink.Ghosts A) (p : link.Ghosts P) (old new : LegState O A P) : Type 0 where
  pub speaker : o.faults old.speaker ≤ o.faults new.speaker
  pub au : a.faults old.au ≤ a.faults new.au
  pub link : p.faults old.link ≤ p.faults new.link

-- Where `begin` has answered Ok: the octets went on behind the speaker; or the speaker failed, and nothing went on; or the speaker was given all of them, and
-- a part behind it failed.
abbrev pub GoesOn : {O A P T E : Type 0} → sink.Ghosts O → sink.Ghosts A → link.Ghosts P → LegState O A P → LegState O A P → Result T E → List ℕ → Type 0
GoesOn o a p old new result octets = MatchResult result
    (λ _. Goes a p (out_of old) (out_of new) octets)
    (λ _. (out_of new ≡ out_of old) ⊎ (Appends (o.given old.speaker) (o.given new.speaker) octets × GoesPart a p (out_of old) (out_of new) octets))

-- fewer octets wait than a block has, and the number of packets is one modulo 2 ^ 32: so it is of each leg
pub record IsWaiting {A P : Type 0} (s : OutState A P) : Type 0 where
  pub few : length s.rest < 320
  pub packets : s.packets < 2 ^ 32

-- some octets came in between
pub record Gone {O A P : Type 0} (o : sink.Ghosts O) (a : sink.Ghosts A) (p : link.Ghosts P) (old new : LegState O A P) : Type 0 where
  pub octets : List ℕ
  pub speaker : Appends (o.given old.speaker) (o.given new.speaker) octets
  pub out : Goes a p (out_of old) (out_of new) octets

-- A later state of a leg and an earlier one. No count fell. `begin` and its values are the same in both. Where it had answered Ok, and no count rose, some octets
-- came in between.
pub record IsKin {O A P : Type 0} (o : sink.Ghosts O) (a : sink.Ghosts A) (p : link.Ghosts P) (old new : LegState O A P) : Type 0 where
  pub later : NoneFell o a p old new
  pub called : new.called ≡ old.called
  pub ready : new.ready ≡ old.ready
  pub start : new.start ≡ old.start
  pub gone : old.ready ≡ true → IsWaiting (out_of old) → (AnyRose o a p old new → ⊥) → Gone o a p old new

-- a `begin` with these values has answered Ok
pub record HasBegun {O A P : Type 0} (a : sink.Ghosts A) (old new : LegState O A P) (start : Start) : Type 0 where
  pub au : Appends (a.given old.au) (a.given new.au) (au_head start.law)
  pub state : new ≡ record old { au = new.au; called = true; ready = true; start = start; rest = []; packets = 0 }

-- the speaker was given some octets, `au` the head and the codes of their whole blocks, and the link sent the packets of these from the first on
pub record IsWhole {O A P : Type 0} (o : sink.Ghosts O) (a : sink.Ghosts A) (p : link.Ghosts P) (old new : LegState O A P) (start : Start) : Type 0 where
  pub octets : List ℕ
  pub speaker : Appends (o.given old.speaker) (o.given new.speaker) octets
  pub au : Appends (a.given old.au) (a.given new.au) (au_head start.law ++ codes_in start.law (whole_blocks octets))
  pub link : SendsAll (p.log old.link) (p.log new.link) (packets_in start 0 (whole_blocks octets))

-- from a `begin` that answered Ok to any later state with no count risen
abbrev pub GoesOut : {O A P : Type 0} → sink.Ghosts O → sink.Ghosts A → link.Ghosts P → Type 0
GoesOut {O} {A} {P} o a p =
    (old begun new : LegState O A P) (start : Start) → HasBegun a old begun start → IsKin o a p begun new
    → (AnyRose o a p begun new → ⊥) → IsWhole o a p old new start

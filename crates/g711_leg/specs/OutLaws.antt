-- Octets that come in two pieces.
use Rattle.std.proofs.Common.{◌≡◌, ℕ, zero, suc, ◌+◌, ◌%◌, ◌*◌, ◌^◌, ◌<◌, ◌≤◌, List, [], ◌∷◌, ◌++◌, length, take, Option, Some, None, Result, Ok, Err, ◌⊎◌, inl, inr, refl, sym, ap, ◌∙◌, subst, append_assoc, arith, length-append}
use Rattle.std.specs.Prelude.{true, false, is_err}
use Rattle.std.proofs.lemmas.List.{append-nil, length-take}
use Rattle.std.proofs.lemmas.Grind.{flat_map-append}
use Rattle.std.proofs.Math.Seq.{take-append-add, take-length}
use Rattle.std.specs.Io.KnownBytes.{Appends}
use Rattle.std.proofs.KnownBytes.{Appends-nil, Appends-trans}
use Rattle.gate_base.specs.Faults.{HasCause, Rose}
use Rattle.gate_io.specs.Flow.{AppendsPart}
use Rattle.gate_io.specs.Links.{GoesTo, LinkLog, Sends, with_sent}
use Rattle.gate_io.specs.declared.link.Link as link
use Rattle.gate_io.specs.declared.sink.Sink as sink
use Rattle.g711_leg.specs.Legs.{Goes, GoesBy, GoesPart, OutCause, OutState, SendsAll, Start, blocks_with, codes_in, codes_of, codes_with, packet_of, packets_in, packets_with, rest_of, whole_blocks}
use Rattle.g711_leg.specs.BlockLaws.{codes_of_packets, length_codes, packets_append, rest_none, rest_one, rest_split, same_packets, whole_none, whole_one, whole_split}

-- ---- the link's log

pub sends_none : (log : Option LinkLog) → SendsAll log log []
sends_none None = tt
sends_none (Some a) = λ i. record a { sent = sym (append-nil a.sent) i }

sends_twice : (a b c : LinkLog) (xs ys : List (List ℕ)) → b ≡ record a { sent = a.sent ++ xs } → c ≡ record b { sent = b.sent ++ ys } → c ≡ record a { sent = a.sent ++ (xs ++ ys) }
sends_twice a b c xs ys p q = q ∙ ap (λ (l : LinkLog). record l { sent = l.sent ++ ys }) p ∙ (λ i. record a { sent = append_assoc a.sent xs ys i })

pub sends_after : (a b c : Option LinkLog) (xs ys : List (List ℕ)) → SendsAll a b xs → SendsAll b c ys → SendsAll a c (xs ++ ys)
sends_after None b c xs ys p q = tt
sends_after (Some x) None c xs ys p q = absurd p
sends_after (Some x) (Some y) None xs ys p q = absurd q
sends_after (Some x) (Some y) (Some z) xs ys p q = sends_twice x y z xs ys p q

-- the first of the first are the first of all
pub shorter : {X : Type 0} (k : ℕ) (xs ys : List X) → take k xs ≡ take (length (take k xs)) (xs ++ ys)
shorter zero xs ys = refl
shorter (suc k) [] ys = refl
shorter (suc k) (x ∷ xs) ys = ap (λ (l : List _). x ∷ l) (shorter k xs ys)

-- ---- what goes out

-- the blocks of both pieces, where the second comes to what is left of the first
with_both : {A P : Type 0} (old mid : OutState A P) (xs ys : List ℕ) → mid.rest ≡ rest_of (old.rest ++ xs) → blocks_with old (xs ++ ys) ≡ blocks_with old xs ++ blocks_with mid ys
with_both old mid xs ys rest =
    ap whole_blocks (sym (append_assoc old.rest xs ys)) ∙ whole_split (old.rest ++ xs) ys
    ∙ ap (λ (l : List ℕ). whole_blocks (old.rest ++ xs) ++ whole_blocks (l ++ ys)) (sym rest)

record Follows {A P : Type 0} (old mid : OutState A P) (xs : List ℕ) : Type 0 where
  pub start : mid.start ≡ old.start
  pub rest : mid.rest ≡ rest_of (old.rest ++ xs)
  pub packets : mid.packets ≡ (old.packets + length (blocks_with old xs)) % 2 ^ 32

codes_both : {A P : Type 0} (old mid : OutState A P) (xs ys : List ℕ) → Follows old mid xs → codes_with old (xs ++ ys) ≡ codes_with old xs ++ codes_with mid ys
codes_both old mid xs ys f =
    ap (codes_in old.start.law) (with_both old mid xs ys f.rest)
    ∙ flat_map-append (codes_of old.start.law) (blocks_with old xs) (blocks_with mid ys)
    ∙ ap (λ (s : Start). codes_with old xs ++ codes_in s.law (blocks_with mid ys)) (sym f.start)

packets_both : {A P : Type 0} (old mid : OutState A P) (xs ys : List ℕ) → Follows old mid xs → packets_with old (xs ++ ys) ≡ packets_with old xs ++ packets_with mid ys
packets_both old mid xs ys f =
    ap (packets_in old.start old.packets) (with_both old mid xs ys f.rest)
    ∙ packets_append old.start old.packets (blocks_with old xs) (blocks_with mid ys)
    ∙ ap (λ (packets : List (List ℕ)). packets_with old xs ++ packets)
    (same_packets old.start (old.packets + length (blocks_with old xs)) mid.packets (blocks_with mid ys) (omega (arith, f.packets))
    ∙ ap (λ (s : Start). packets_in s mid.packets (blocks_with mid ys)) (sym f.start))

follows : {A P : Type 0} (a : sink.Ghosts A) (p : link.Ghosts P) (old mid : OutState A P) (xs : List ℕ) → Goes a p old mid xs → Follows old mid xs
follows a p old mid xs h = record { start = h.start; rest = h.rest; packets = h.packets }

-- two pieces are one
pub goes_after : {A P : Type 0} (a : sink.Ghosts A) (p : link.Ghosts P) (old mid new : OutState A P) (xs ys : List ℕ) → Goes a p old mid xs → Goes a p mid new ys → Goes a p old new (xs ++ ys)
goes_after a p old mid new xs ys h k =
    let f = follows a p old mid xs h in
    record {
      au = subst (Appends (a.given old.au) (a.given new.au)) (sym (codes_both old mid xs ys f)) (Appends-trans (a.given old.au) (a.given mid.au) (a.given new.au) _ _ h.au k.au);
      link = subst (SendsAll (p.log old.link) (p.log new.link)) (sym (packets_both old mid xs ys f)) (sends_after (p.log old.link) (p.log mid.link) (p.log new.link) _ _ h.link k.link);
      ended = k.ended ∙ h.ended;
      start = k.start ∙ h.start;
      rest = k.rest ∙ (ap (λ (l : List ℕ). rest_of (l ++ ys)) h.rest ∙ (sym (rest_split (old.rest ++ xs) ys) ∙ ap rest_of (append_assoc old.rest xs ys)));
      packets = let e : length (blocks_with old (xs ++ ys)) ≡ length (blocks_with old xs) + length (blocks_with mid ys) =
          ap length (with_both old mid xs ys h.rest) ∙ length-append (blocks_with old xs) (blocks_with mid ys) in
          omega (arith, h.packets, k.packets);
    }

-- a whole piece, and then one at which a part failed
pub part_after_goes : {A P : Type 0} (a : sink.Ghosts A) (p : link.Ghosts P) (old mid new : OutState A P) (xs ys : List ℕ) → Goes a p old mid xs → GoesPart a p mid new ys
    → GoesPart a p old new (xs ++ ys)
part_after_goes a p old mid new xs ys h k =
    let f = follows a p old mid xs h in
    let codes : List ℕ = codes_with old xs in
    let packets : List (List ℕ) = packets_with old xs in
    let size : length codes ≡ 160 * length packets = codes_of_packets old.start old.packets (old.rest ++ xs) in
    record {
      given = length codes + k.given;
      sent = length packets + k.sent;
      au = subst (Appends (a.given old.au) (a.given new.au))
          (sym (ap (take (length codes + k.given)) (codes_both old mid xs ys f) ∙ take-append-add codes (codes_with mid ys) k.given))
          (Appends-trans (a.given old.au) (a.given mid.au) (a.given new.au) codes (take k.given (codes_with mid ys)) h.au k.au);
      link = subst (SendsAll (p.log old.link) (p.log new.link))
          (sym (ap (take (length packets + k.sent)) (packets_both old mid xs ys f) ∙ take-append-add packets (packets_with mid ys) k.sent))
          (sends_after (p.log old.link) (p.log mid.link) (p.log new.link) packets (take k.sent (packets_with mid ys)) h.link k.link);
      codes_first = omega (arith, size, k.codes_first);
      one_ahead = omega (arith, size, k.one_ahead);
      ended = k.ended ∙ h.ended;
      start = k.start ∙ h.start;
    }

-- a piece is longer than the part of it at which a part failed
pub part_of_longer : {A P : Type 0} (a : sink.Ghosts A) (p : link.Ghosts P) (old new : OutState A P) (xs ys : List ℕ) → GoesPart a p old new xs → GoesPart a p old new (xs ++ ys)
part_of_longer {A} {P} a p old new xs ys h =
    let mid : OutState A P = record old { rest = rest_of (old.rest ++ xs); packets = (old.packets + length (blocks_with old xs)) % 2 ^ 32 } in
    let f : Follows old mid xs = record { start = refl; rest = refl; packets = refl } in
    let codes : List ℕ = codes_with old xs in
    let packets : List (List ℕ) = packets_with old xs in
    let size : length codes ≡ 160 * length packets = codes_of_packets old.start old.packets (old.rest ++ xs) in
    record {
      given = length (take h.given codes);
      sent = length (take h.sent packets);
      au = subst (Appends (a.given old.au) (a.given new.au))
          (shorter h.given codes (codes_with mid ys) ∙ sym (ap (take (length (take h.given codes))) (codes_both old mid xs ys f))) h.au;
      link = subst (SendsAll (p.log old.link) (p.log new.link))
          (shorter h.sent packets (packets_with mid ys) ∙ sym (ap (take (length (take h.sent packets))) (packets_both old mid xs ys f))) h.link;
      codes_first = omega (arith, size, length-take h.given codes, length-take h.sent packets, h.codes_first);
      one_ahead = omega (arith, size, length-take h.given codes, length-take h.sent packets, h.one_ahead);
      ended = h.ended;
      start = h.start;
    }

-- nothing came
pub goes_none : {A P : Type 0} (a : sink.Ghosts A) (p : link.Ghosts P) (s : OutState A P) → length s.rest < 320 → s.packets < 2 ^ 32 → Goes a p s s []
goes_none a p s few packets =
    let e : s.rest ++ [] ≡ s.rest = append-nil s.rest in
    let none : blocks_with s [] ≡ [] = ap whole_blocks e ∙ whole_none s.rest few in
    record {
      au = subst (λ (parts : List (List ℕ)). Appends (a.given s.au) (a.given s.au) (codes_in s.start.law parts)) (sym none) (Appends-nil (a.given s.au));
      link = subst (λ (parts : List (List ℕ)). SendsAll (p.log s.link) (p.log s.link) (packets_in s.start s.packets parts)) (sym none) (sends_none (p.log s.link));
      ended = refl;
      start = refl;
      rest = sym (ap rest_of e ∙ rest_none s.rest few);
      packets = let f : length (blocks_with s []) ≡ 0 = ap length none in omega arith;
    }

-- an octet that does not make a block whole
pub goes_waiting : {A P : Type 0} (a : sink.Ghosts A) (p : link.Ghosts P) (old : OutState A P) (octets : List ℕ) → length (old.rest ++ octets) < 320 → old.packets < 2 ^ 32
    → Goes a p old (record old { rest = old.rest ++ octets }) octets
goes_waiting a p old octets few packets =
    let none : blocks_with old octets ≡ [] = whole_none (old.rest ++ octets) few in
    record {
      au = subst (λ (parts : List (List ℕ)). Appends (a.given old.au) (a.given old.au) (codes_in old.start.law parts)) (sym none) (Appends-nil (a.given old.au));
      link = subst (λ (parts : List (List ℕ)). SendsAll (p.log old.link) (p.log old.link) (packets_in old.start old.packets parts)) (sym none) (sends_none (p.log old.link));
      ended = refl;
      start = refl;
      rest = sym (rest_none (old.rest ++ octets) few);
      packets = let f : length (blocks_with old octets) ≡ 0 = ap length none in omega arith;
    }

-- what waited is taken as the front of a whole block
from_block : {A P T E : Type 0} (a : sink.Ghosts A) (p : link.Ghosts P) (old new : OutState A P) (result : Result T E) (octets : List ℕ)
    → GoesBy a p (record old { rest = [] }) new result (old.rest ++ octets) → GoesBy a p old new result octets
from_block a p old new (Ok x) octets h = record { au = h.au; link = h.link; ended = h.ended; start = h.start; rest = h.rest; packets = h.packets }
from_block a p old new (Err e) octets h =
    record { given = h.given; sent = h.sent; au = h.au; link = h.link; codes_first = h.codes_first; one_ahead = h.one_ahead; ended = h.ended; start = h.start }

pub goes_from_block : {A P T E : Type 0} (a : sink.Ghosts A) (p : link.Ghosts P) (old new : OutState A P) (result : Result T E) (octets block : List ℕ) → block ≡ old.rest ++ octets
    → GoesBy a p (record old { rest = [] }) new result block → GoesBy a p old new result octets
goes_from_block a p old new result octets block e h = from_block a p old new result octets (subst (GoesBy a p (record old { rest = [] }) new result) e h)

-- a datagram was sent or not
sent_part : (a b : Option LinkLog) (packet : List ℕ) → GoesTo a b (λ x y. (y ≡ x) ⊎ (y ≡ with_sent x packet)) → (k : ℕ) × (k ≤ 1) × SendsAll a b (take k (packet ∷ []))
sent_part None b packet h = (0, omega arith, tt)
sent_part (Some x) None packet h = absurd h
sent_part (Some x) (Some y) packet (inl same) = (0, omega arith, same ∙ (λ i. record x { sent = sym (append-nil x.sent) i }))
sent_part (Some x) (Some y) packet (inr more) = (1, omega arith, more)

-- what a block does where nothing waits
record OneBlock {A P : Type 0} (old : OutState A P) (block codes packet : List ℕ) : Type 0 where
  pub empty : old.rest ≡ []
  pub full : length block ≡ 320
  pub codes_are : codes ≡ codes_of old.start.law block
  pub packet_is : packet ≡ packet_of old.start old.packets codes

one_block : {A P : Type 0} (old : OutState A P) (block codes packet : List ℕ) → OneBlock old block codes packet → blocks_with old block ≡ block ∷ []
one_block old block codes packet h = ap (λ (l : List ℕ). whole_blocks (l ++ block)) h.empty ∙ whole_one block h.full

one_codes : {A P : Type 0} (old : OutState A P) (block codes packet : List ℕ) → OneBlock old block codes packet → codes_with old block ≡ codes
one_codes old block codes packet h =
    ap (codes_in old.start.law) (one_block old block codes packet h) ∙ append-nil (codes_of old.start.law block) ∙ sym h.codes_are

one_packet : {A P : Type 0} (old : OutState A P) (block codes packet : List ℕ) → OneBlock old block codes packet → packets_with old block ≡ packet ∷ []
one_packet old block codes packet h =
    ap (packets_in old.start old.packets) (one_block old block codes packet h)
    ∙ ap (λ (l : List ℕ). packet_of old.start old.packets l ∷ []) (sym h.codes_are)
    ∙ ap (λ (l : List ℕ). l ∷ []) (sym h.packet_is)

pub block_sent : {A P T E : Type 0} (a : sink.Ghosts A) (p : link.Ghosts P) (old new : OutState A P) (result : Result T E) (block codes packet : List ℕ)
    → old.rest ≡ [] → length block ≡ 320 → codes ≡ codes_of old.start.law block → packet ≡ packet_of old.start old.packets codes
    → Appends (a.given old.au) (a.given new.au) codes → Sends (p.log old.link) (p.log new.link) result packet → p.ended new.link ≡ p.ended old.link
    → new.start ≡ old.start → new.rest ≡ [] → new.packets ≡ (old.packets + 1) % 2 ^ 32 → GoesBy a p old new result block
block_sent a p old new (Ok x) block codes packet empty full codes_are packet_is au sent ended start rest packets =
    let h : OneBlock old block codes packet = record { empty = empty; full = full; codes_are = codes_are; packet_is = packet_is } in
    record {
      au = subst (Appends (a.given old.au) (a.given new.au)) (sym (one_codes old block codes packet h)) au;
      link = subst (SendsAll (p.log old.link) (p.log new.link)) (sym (one_packet old block codes packet h)) sent;
      ended = ended;
      start = start;
      rest = rest ∙ sym (ap (λ (l : List ℕ). rest_of (l ++ block)) empty ∙ rest_one block full);
      packets = packets ∙ ap (λ (n : ℕ). (old.packets + n) % 2 ^ 32) (sym (ap length (one_block old block codes packet h)));
    }
block_sent a p old new (Err e) block codes packet empty full codes_are packet_is au sent ended start rest packets =
    let h : OneBlock old block codes packet = record { empty = empty; full = full; codes_are = codes_are; packet_is = packet_is } in
    let k = sent_part (p.log old.link) (p.log new.link) packet sent in
    let size : length codes ≡ 160 = ap length codes_are ∙ length_codes old.start.law block full in
    record {
      given = 160;
      sent = k.0;
      au = subst (λ (l : List ℕ). Appends (a.given old.au) (a.given new.au) (take 160 l)) (sym (one_codes old block codes packet h))
          (subst (Appends (a.given old.au) (a.given new.au)) (sym (ap (λ (n : ℕ). take n codes) (sym size) ∙ take-length codes)) au);
      link = subst (λ (l : List (List ℕ)). SendsAll (p.log old.link) (p.log new.link) (take k.0 l)) (sym (one_packet old block codes packet h)) k.2;
      codes_first = omega (arith, k.1);
      one_ahead = omega arith;
      ended = ended;
      start = start;
    }

pub block_lost : {A P : Type 0} (a : sink.Ghosts A) (p : link.Ghosts P) (old new : OutState A P) (block codes : List ℕ)
    → old.rest ≡ [] → length block ≡ 320 → codes ≡ codes_of old.start.law block
    → AppendsPart (a.given old.au) (a.given new.au) codes → new.link ≡ old.link → new.start ≡ old.start → GoesPart a p old new block
block_lost {P = P} a p old new block codes empty full codes_are au same start =
    let h : OneBlock old block codes (packet_of old.start old.packets codes) = record { empty = empty; full = full; codes_are = codes_are; packet_is = refl } in
    let size : length codes ≡ 160 = ap length codes_are ∙ length_codes old.start.law block full in
    let fewer : take au.0 codes ≡ take (length (take au.0 codes)) codes =
    shorter au.0 codes [] ∙ ap (take (length (take au.0 codes))) (append-nil codes) in
    record {
      given = length (take au.0 codes);
      sent = 0;
      au = subst (λ (l : List ℕ). Appends (a.given old.au) (a.given new.au) (take (length (take au.0 codes)) l)) (sym (one_codes old block codes _ h))
          (subst (Appends (a.given old.au) (a.given new.au)) fewer au.1);
      link = subst (λ (l : P). SendsAll (p.log old.link) (p.log l) []) (sym same) (sends_none (p.log old.link));
      codes_first = omega arith;
      one_ahead = omega (arith, size, length-take au.0 codes);
      ended = ap p.ended same;
      start = start;
    }

-- the answer was a fault, or was none
pub was_fault : {A P T E : Type 0} (a : sink.Ghosts A) (p : link.Ghosts P) (old new : OutState A P) (result : Result T E) (octets : List ℕ)
    → is_err result ≡ true → GoesBy a p old new result octets → GoesPart a p old new octets
was_fault a p old new (Ok x) octets test h = absurd (cc)
was_fault a p old new (Err e) octets test h = h

pub was_whole : {A P T E : Type 0} (a : sink.Ghosts A) (p : link.Ghosts P) (old new : OutState A P) (result : Result T E) (octets : List ℕ)
    → is_err result ≡ false → GoesBy a p old new result octets → Goes a p old new octets
was_whole a p old new (Ok x) octets test h = h
was_whole a p old new (Err e) octets test h = absurd (cc)

-- ---- the counts

-- the link failed
pub link_failed : {A P T E : Type 0} (a : sink.Ghosts A) (p : link.Ghosts P) (old new : OutState A P) (result : Result T E) → a.faults old.au ≤ a.faults new.au
    → HasCause (p.faults old.link) (p.faults new.link) result → OutCause a p old new result
link_failed a p old new (Ok x) later cause = record { au = later; link = cause.later; failed = tt }
link_failed a p old new (Err e) later cause = record { au = later; link = cause.later; failed = inr cause.failed }

-- a fault at the end of a time in which no count fell
pub failed_last : {A P T E : Type 0} (a : sink.Ghosts A) (p : link.Ghosts P) (old mid new : OutState A P) (result : Result T E) → is_err result ≡ true
    → a.faults old.au ≤ a.faults mid.au → p.faults old.link ≤ p.faults mid.link → OutCause a p mid new result
    → Rose (a.faults old.au) (a.faults new.au) ⊎ Rose (p.faults old.link) (p.faults new.link)
failed_last a p old mid new (Ok x) test au link cause = absurd (cc)
failed_last a p old mid new (Err e) test au link cause = elim cause.failed [
  | inl rose ↦ inl (omega (arith, au))
  | inr rose ↦ inr (omega (arith, link))
]

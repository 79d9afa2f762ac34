-- The return stream of a run, beat by beat.
use Rattle.std.proofs.Common.{◌≡◌, ℕ, suc, ◌+◌, ◌≤◌, ◌<◌, Bool, true, false, List, [], ◌∷◌, ◌++◌, length, Option, Some, None, IfSome, refl, sym, ap, subst, ◌∙◌, append_assoc, append-nil, length-append, inl, inr, arith}
use Rattle.std.specs.Prelude.{◌⊎◌}
use Rattle.std.specs.Io.KnownBytes.{Consumes, IsAtEnd}
use Rattle.std.proofs.KnownBytes.{Consumes-nil}
use Rattle.gate_io.specs.Links.{GoesTo, LinkLog, with_sent}
use Rattle.player.specs.Pieces.{CutsOff}
use Rattle.player.specs.Returning.{Codes, Stream, Streams, next_packet}
use Rattle.player.specs.Whole.{Sent, SentOrNot, Served}
use Rattle.player.proofs.Streaming.{Streams-more}

-- ---- the microphone

-- the pieces of a known microphone, and so much is left
abbrev pub TakesAll : Option (List ℕ) → Option (List ℕ) → List (List ℕ) → Type 0
TakesAll left left' pieces = IfSome left (λ octets. (rest : List ℕ) × (left' ≡ Some rest) × CutsOff octets pieces rest)

takes-none : (left : Option (List ℕ)) → TakesAll left left []
takes-none None = tt
takes-none (Some xs) = (xs, refl, refl)

cuts-more : (octets : List ℕ) (pieces : List (List ℕ)) (piece rest : List ℕ) → 0 < length piece → length piece ≤ 320 → (length piece < 320 → rest ≡ []) → CutsOff octets pieces (piece ++ rest)
    → CutsOff octets (pieces ++ piece ∷ []) rest
cuts-more octets [] piece rest some most short p = (rest, p, some, most, short, refl)
cuts-more octets (x ∷ pieces) piece rest some most short (more, is, a, b, c, p) = (more, is, a, b, c, cuts-more more pieces piece rest some most short p)

-- nothing more was taken
takes-still : (left mid now : Option (List ℕ)) (pieces : List (List ℕ)) → Consumes mid now [] → TakesAll left mid pieces → TakesAll left now pieces
takes-still None mid now pieces p q = tt
takes-still (Some octets) mid now pieces p (rest, is, cuts) = go now (subst (λ (o : Option (List ℕ)). Consumes o now []) is p)
  where
    go : (now : Option (List ℕ)) → Consumes (Some rest) now [] → (more : List ℕ) × (now ≡ Some more) × CutsOff octets pieces more
    go None h = absurd h
    go (Some ys) h = (ys, refl, subst (CutsOff octets pieces) h cuts)

-- one piece more
takes-more : (left mid now : Option (List ℕ)) (pieces : List (List ℕ)) (piece : List ℕ) → 0 < length piece → length piece ≤ 320 → Consumes mid now piece → (length piece < 320 → IsAtEnd now)
    → TakesAll left mid pieces → TakesAll left now (pieces ++ piece ∷ [])
takes-more None mid now pieces piece some most p short q = tt
takes-more (Some octets) mid now pieces piece some most p short (rest, is, cuts) = go now (subst (λ (o : Option (List ℕ)). Consumes o now piece) is p) short
  where
    go : (now : Option (List ℕ)) → Consumes (Some rest) now piece → (length piece < 320 → IsAtEnd now) → (more : List ℕ) × (now ≡ Some more) × CutsOff octets (pieces ++ piece ∷ []) more
    go None h e = absurd h
    go (Some ys) h e = (ys, refl, cuts-more octets pieces piece ys some most e (subst (CutsOff octets pieces) h cuts))

-- ---- the reply link

pub sent-none : (log : Option LinkLog) → GoesTo log log (Sent [])
sent-none None = tt
sent-none (Some a) = λ i. record a { sent = sym (append-nil a.sent) i }

sent-twice : (a b c : LinkLog) (packets : List (List ℕ)) (packet : List ℕ) → Sent packets a b → c ≡ with_sent b packet → Sent (packets ++ packet ∷ []) a c
sent-twice a b c packets packet p q = q ∙ ap (λ (l : LinkLog). with_sent l packet) p ∙ (λ i. record a { sent = append_assoc a.sent packets (packet ∷ []) i })

pub sent-more : (a b c : Option LinkLog) (packets : List (List ℕ)) (packet : List ℕ) → GoesTo a b (Sent packets) → GoesTo b c (λ x y. y ≡ with_sent x packet) → GoesTo a c (Sent (packets ++ packet ∷ []))
sent-more None b c packets packet p q = tt
sent-more (Some x) None c packets packet p q = absurd p
sent-more (Some x) (Some y) None packets packet p q = absurd q
sent-more (Some x) (Some y) (Some z) packets packet p q = sent-twice x y z packets packet p q

sent-once : (a b c : LinkLog) (packets : List (List ℕ)) (packet : List ℕ) → Sent packets a b → (c ≡ b) ⊎ (c ≡ with_sent b packet) → SentOrNot (packets ++ packet ∷ []) a c
sent-once a b c packets packet p (inl q) = inr (packets, packet, refl, q ∙ p)
sent-once a b c packets packet p (inr q) = inl (sent-twice a b c packets packet p q)

-- one packet more, which was sent or not
pub sent-or-not : (a b c : Option LinkLog) (packets : List (List ℕ)) (packet : List ℕ) → GoesTo a b (Sent packets) → GoesTo b c (λ x y. (y ≡ x) ⊎ (y ≡ with_sent x packet))
    → GoesTo a c (SentOrNot (packets ++ packet ∷ []))
sent-or-not None b c packets packet p q = tt
sent-or-not (Some x) None c packets packet p q = absurd p
sent-or-not (Some x) (Some y) None packets packet p q = absurd q
sent-or-not (Some x) (Some y) (Some z) packets packet p q = sent-once x y z packets packet p q

-- ---- both

-- after so many beats: what was taken, and the stream behind it
pub record Serving (own sequence stamp beats : ℕ) (left left' : Option (List ℕ)) (stream : Stream) (pieces packets : List (List ℕ)) : Type 0 where
  pub streams : Streams own sequence stamp pieces packets stream
  pub few : length pieces ≤ beats
  pub running : stream.ended ≡ false → length pieces ≡ beats
  pub over : stream.ended ≡ true → IsAtEnd left'
  pub taken : TakesAll left left' pieces

is-over : (ended : Bool) (pieces beats : ℕ) (P : Type 0) → (ended ≡ false → pieces ≡ beats) → (ended ≡ true → P) → pieces < beats → P
is-over false pieces beats P running over h = let is : pieces ≡ beats = running refl in absurd (omega arith)
is-over true pieces beats P running over h = over refl

pub served : (own sequence stamp beats : ℕ) (left left' : Option (List ℕ)) (stream : Stream) (pieces packets : List (List ℕ)) → Serving own sequence stamp beats left left' stream pieces packets
    → Served own sequence stamp beats left left' pieces packets
served own sequence stamp beats left left' stream pieces packets s = record {
  stream = stream;
  streams = s.streams;
  few = s.few;
  ended = is-over stream.ended (length pieces) beats (IsAtEnd left') s.running s.over;
  taken = s.taken;
}

-- no beat
pub Serving-none : (own sequence stamp : ℕ) (left : Option (List ℕ)) (stream : Stream) → Streams own sequence stamp [] [] stream → stream.ended ≡ false → Serving own sequence stamp 0 left left stream [] []
Serving-none own sequence stamp left stream streams running = record {
  streams = streams;
  few = omega arith;
  running = λ h. refl;
  over = λ h. let both : true ≡ false = sym h ∙ running in absurd (cc);
  taken = takes-none left;
}

-- it has ended, now or before
at-end : (ended : Bool) (mid now : Option (List ℕ)) → ((ended ≡ true) × (now ≡ mid)) ⊎ ((ended ≡ false) × Consumes mid now [] × IsAtEnd now) → (ended ≡ true → IsAtEnd mid)
    → IsAtEnd now × Consumes mid now []
at-end ended mid now (inl (was, same)) over = (subst IsAtEnd (sym same) (over was), subst (λ (o : Option (List ℕ)). Consumes mid o []) (sym same) (Consumes-nil mid))
at-end ended mid now (inr (running, none, end)) over = (end, none)

-- the end of the microphone changes nothing that was coded
Streams-ended : (own sequence stamp : ℕ) (pieces packets : List (List ℕ)) (stream : Stream) → Streams own sequence stamp pieces packets stream
    → Streams own sequence stamp pieces packets (record stream { ended = true })
Streams-ended own sequence stamp pieces packets stream s = record {
  samples = s.samples;
  frames = s.frames;
  encodes = s.encodes;
  spoken = s.spoken;
  frame_count = s.frame_count;
  packet_count = s.packet_count;
  packets_are = s.packets_are;
  own_is = s.own_is;
  sequence_is = s.sequence_is;
  stamp_is = s.stamp_is;
}

module _ (own sequence stamp beats : ℕ) (left mid now : Option (List ℕ)) (old new : Stream) (pieces packets : List (List ℕ)) (s : Serving own sequence stamp beats left mid old pieces packets) where
  -- a piece was coded
  pub Serving-coded : (octets frame : List ℕ) → Codes old new mid now octets frame
      → Serving own sequence stamp (suc beats) left now new (pieces ++ octets ∷ []) (packets ++ next_packet old frame ∷ [])
  Serving-coded octets frame c =
      let count : length (pieces ++ octets ∷ []) ≡ length pieces + 1 = length-append pieces (octets ∷ []) in
      let all : length pieces ≡ beats = s.running c.running in
      let still : new.ended ≡ false = ap (λ (t : Stream). t.ended) c.state ∙ c.running in
      record {
        streams = Streams-more own sequence stamp pieces packets old new mid now octets frame s.streams c;
        few = omega arith;
        running = λ h. omega arith;
        over = λ h. let both : true ≡ false = sym h ∙ still in absurd (cc);
        taken = takes-more left mid now pieces octets c.piece.some c.piece.most c.piece.taken c.piece.ended s.taken;
      }

  -- the microphone has ended
  pub Serving-silent : new ≡ record old { ended = true } → ((old.ended ≡ true) × (now ≡ mid)) ⊎ ((old.ended ≡ false) × Consumes mid now [] × IsAtEnd now)
      → Serving own sequence stamp (suc beats) left now new pieces packets
  Serving-silent is silent =
      let few : length pieces ≤ beats = s.few in
      let end : IsAtEnd now × Consumes mid now [] = at-end old.ended mid now silent s.over in
      record {
        streams = subst (Streams own sequence stamp pieces packets) (sym is) (Streams-ended own sequence stamp pieces packets old s.streams);
        few = omega arith;
        running = λ h. let both : true ≡ false = sym (ap (λ (t : Stream). t.ended) is) ∙ h in absurd (cc);
        over = λ h. end.0;
        taken = takes-still left mid now pieces end.1 s.taken;
      }

-- States of a leg that are kin.
use Rattle.std.proofs.Common.{◌≡◌, ℕ, ◌≤◌, true, List, [], ◌++◌, length, Option, Result, Ok, Err, OnErr, inl, inr, refl, ap, ◌∙◌, subst, arith}
use Rattle.std.specs.Io.KnownBytes.{Appends}
use Rattle.std.proofs.KnownBytes.{Appends-nil, Appends-trans}
use Rattle.gate_base.specs.Faults.{HasCause, Rose}
use Rattle.gate_io.specs.Flow.{Gives}
use Rattle.gate_io.specs.FlowLaws.{AppendsPart-whole}
use Rattle.gate_io.specs.declared.link.Link as link
use Rattle.gate_io.specs.declared.sink.Sink as sink
use Rattle.g711_leg.specs.BlockLaws.{rest_few}
use Rattle.g711_leg.specs.Legs.{AnyRose, Goes, GoesOn, GoesOut, Gone, IsKin, IsWaiting, LegState, NoneFell, OutState, SendsAll, au_head, codes_in, leg_faults, out_of, packets_in, rest_of, whole_blocks}
use Rattle.g711_leg.specs.OutLaws.{goes_after, goes_none}

-- a count that rose in a part of the time rose in all of it
rose_first : (x y z : ℕ) → Rose x y → y ≤ z → Rose x z
rose_first x y z rose later = omega arith

rose_last : (x y z : ℕ) → x ≤ y → Rose y z → Rose x z
rose_last x y z later rose = omega arith

-- what waits after octets came
still_waiting : {A P : Type 0} (a : sink.Ghosts A) (p : link.Ghosts P) (old new : OutState A P) (octets : List ℕ) → Goes a p old new octets → IsWaiting new
still_waiting a p old new octets h = record {
  few = let e : length new.rest ≡ length (rest_of (old.rest ++ octets)) = ap length h.rest in omega (arith, rest_few (old.rest ++ octets));
  packets = omega (arith, h.packets);
}

-- a state is kin to itself
pub same_leg : {O A P : Type 0} (o : sink.Ghosts O) (a : sink.Ghosts A) (p : link.Ghosts P) (s : LegState O A P) → IsKin o a p s s
same_leg o a p s = record {
  later = record { speaker = omega arith; au = omega arith; link = omega arith };
  called = refl;
  ready = refl;
  start = refl;
  gone = λ ready waiting still. record { octets = []; speaker = Appends-nil (o.given s.speaker); out = goes_none a p (out_of s) waiting.few waiting.packets };
}

-- a count of a part that rose in a part of the time
any_first : {O A P : Type 0} (o : sink.Ghosts O) (a : sink.Ghosts A) (p : link.Ghosts P) (x y z : LegState O A P) → AnyRose o a p x y → NoneFell o a p y z → AnyRose o a p x z
any_first o a p x y z (inl rose) h = inl (rose_first (o.faults x.speaker) (o.faults y.speaker) (o.faults z.speaker) rose h.speaker)
any_first o a p x y z (inr (inl rose)) h = inr (inl (rose_first (a.faults x.au) (a.faults y.au) (a.faults z.au) rose h.au))
any_first o a p x y z (inr (inr rose)) h = inr (inr (rose_first (p.faults x.link) (p.faults y.link) (p.faults z.link) rose h.link))

any_last : {O A P : Type 0} (o : sink.Ghosts O) (a : sink.Ghosts A) (p : link.Ghosts P) (x y z : LegState O A P) → NoneFell o a p x y → AnyRose o a p y z → AnyRose o a p x z
any_last o a p x y z h (inl rose) = inl (rose_last (o.faults x.speaker) (o.faults y.speaker) (o.faults z.speaker) h.speaker rose)
any_last o a p x y z h (inr (inl rose)) = inr (inl (rose_last (a.faults x.au) (a.faults y.au) (a.faults z.au) h.au rose))
any_last o a p x y z h (inr (inr rose)) = inr (inr (rose_last (p.faults x.link) (p.faults y.link) (p.faults z.link) h.link rose))

-- octets that came in between twice came once
gone_after : {O A P : Type 0} (o : sink.Ghosts O) (a : sink.Ghosts A) (p : link.Ghosts P) (x y z : LegState O A P) → Gone o a p x y → Gone o a p y z → Gone o a p x z
gone_after o a p x y z g h = record {
  octets = g.octets ++ h.octets;
  speaker = Appends-trans (o.given x.speaker) (o.given y.speaker) (o.given z.speaker) g.octets h.octets g.speaker h.speaker;
  out = goes_after a p (out_of x) (out_of y) (out_of z) g.octets h.octets g.out h.out;
}

-- kin of kin is kin
pub leg_after : {O A P : Type 0} (o : sink.Ghosts O) (a : sink.Ghosts A) (p : link.Ghosts P) (x y z : LegState O A P) → IsKin o a p x y → IsKin o a p y z → IsKin o a p x z
leg_after o a p x y z k l = record {
  later = record {
    speaker = omega (arith, k.later.speaker, l.later.speaker);
    au = omega (arith, k.later.au, l.later.au);
    link = omega (arith, k.later.link, l.later.link);
  };
  called = l.called ∙ k.called;
  ready = l.ready ∙ k.ready;
  start = l.start ∙ k.start;
  gone = λ ready waiting still.
      let g : Gone o a p x y = k.gone ready waiting (λ rose. still (any_first o a p x y z rose l.later)) in
      gone_after o a p x y z g
      (l.gone (k.ready ∙ ready) (still_waiting a p (out_of x) (out_of y) g.octets g.out)
      (λ rose. still (any_last o a p x y z k.later rose)));
}

-- a give makes kin
pub kin_by_give : {O A P T E : Type 0} (o : sink.Ghosts O) (a : sink.Ghosts A) (p : link.Ghosts P) (old new : LegState O A P) (result : Result T E) (octets : List ℕ)
    → new.called ≡ old.called → new.ready ≡ old.ready → new.start ≡ old.start → Gives (o.given old.speaker) (o.given new.speaker) result octets
    → (old.ready ≡ true → GoesOn o a p old new result octets) → NoneFell o a p old new → OnErr result (AnyRose o a p old new) → IsKin o a p old new
kin_by_give o a p old new (Ok x) octets called ready start given goes later failed =
    record { later = later; called = called; ready = ready; start = start; gone = λ is waiting still. record { octets = octets; speaker = given; out = goes is } }
kin_by_give o a p old new (Err e) octets called ready start given goes later failed =
    record { later = later; called = called; ready = ready; start = start; gone = λ is waiting still. absurd (still failed) }

-- the sum rose where a part did
sum_rose : {O A P : Type 0} (o : sink.Ghosts O) (a : sink.Ghosts A) (p : link.Ghosts P) (old new : LegState O A P) → NoneFell o a p old new → AnyRose o a p old new
    → Rose (leg_faults o a p old) (leg_faults o a p new)
sum_rose o a p old new later (inl rose) = omega (arith, later.au, later.link)
sum_rose o a p old new later (inr (inl rose)) = omega (arith, later.speaker, later.link)
sum_rose o a p old new later (inr (inr rose)) = omega (arith, later.speaker, later.au)

pub cause_of_sum : {O A P T E : Type 0} (o : sink.Ghosts O) (a : sink.Ghosts A) (p : link.Ghosts P) (old new : LegState O A P) (result : Result T E)
    → NoneFell o a p old new → OnErr result (AnyRose o a p old new) → HasCause (leg_faults o a p old) (leg_faults o a p new) result
cause_of_sum o a p old new (Ok x) later failed = record { later = omega (arith, later.speaker, later.au, later.link); failed = tt }
cause_of_sum o a p old new (Err e) later failed =
    record { later = omega (arith, later.speaker, later.au, later.link); failed = sum_rose o a p old new later failed }

-- over all that came since `begin`
pub goes_out : {O A P : Type 0} (o : sink.Ghosts O) (a : sink.Ghosts A) (p : link.Ghosts P) → GoesOut o a p
goes_out {O} {A} {P} o a p old begun new start has kin still =
    let g : Gone o a p begun new = kin.gone (ap (λ (s : LegState O A P). s.ready) has.state) waiting still in
    record {
      octets = g.octets;
      speaker = subst (λ (s : O). Appends (o.given s) (o.given new.speaker) g.octets) (ap (λ (s : LegState O A P). s.speaker) has.state) g.speaker;
      au = Appends-trans (a.given old.au) (a.given begun.au) (a.given new.au) (au_head start.law) (codes_in start.law (whole_blocks g.octets)) has.au (from_first g).0;
      link = (from_first g).1;
    }
  where
    waiting : IsWaiting (out_of begun)
    waiting = record {
      few = let e : length begun.rest ≡ 0 = ap (λ (s : LegState O A P). length s.rest) has.state in omega arith;
      packets = let e : begun.packets ≡ 0 = ap (λ (s : LegState O A P). s.packets) has.state in omega arith;
    }

    from_first : (g : Gone o a p begun new) → Appends (a.given begun.au) (a.given new.au) (codes_in start.law (whole_blocks g.octets))
        × SendsAll (p.log old.link) (p.log new.link) (packets_in start 0 (whole_blocks g.octets))
    from_first g = (
      subst (λ (s : LegState O A P). Appends (a.given begun.au) (a.given new.au) (codes_in s.start.law (whole_blocks (s.rest ++ g.octets)))) has.state g.out.au,
      subst (λ (s : LegState O A P). SendsAll (p.log s.link) (p.log new.link) (packets_in s.start s.packets (whole_blocks (s.rest ++ g.octets)))) has.state g.out.link,
    )

-- what was given whole was given, whatever is answered
pub given_whole : {T E : Type 0} (old new : Option (List ℕ)) (result : Result T E) (octets : List ℕ) → Appends old new octets → Gives old new result octets
given_whole old new (Ok x) octets h = h
given_whole old new (Err e) octets h = AppendsPart-whole old new octets h

-- A datagram that comes to the last case, and one that was taken.
use Rattle.std.proofs.Common.{◌≡◌, ℕ, ◌/◌, eqb, cond, Bool, false, List, length, Option, None, sym, ap, ◌∙◌, arith}
use Rattle.std.proofs.lemmas.Bool.Decides.{nat_tests}
use Rattle.rtp_codec.specs.declared.fault.RtpFault.{RtpFault}
use Rattle.rtp_codec.specs.Grammar.{rtp_fault}
use Rattle.rtp_codec.specs.Packets.{Packet, packet_of}
use Rattle.filer.specs.declared.outcome.Outcome.{Outcome}
use Rattle.filer.specs.declared.outcome.OutcomeEnd.TheVariants as end
use Rattle.filer.specs.Takes.{Known, Replied, Step, IsTaken, HasAllFrames, admitted, bare, judged, read_so, replies_of, settled, with_counted}

not_zero : (n : ℕ) → (n ≡ 0 → ⊥) → eqb n 0 ≡ false
not_zero n h = grind (arith, nat_tests)

-- a packet with a frame
pub admitted_is : (k : Known) (d : List ℕ) (p : Packet) (at : ℕ) (r : Replied) → rtp_fault d ≡ None → (length p.payload / 33 ≡ 0 → ⊥) → p ≡ packet_of d
    → admitted k p at r ≡ read_so (rtp_fault d) k (packet_of d) at r
admitted_is k d p at r none some is =
    sym (ap (λ (o : Option RtpFault). read_so o k (packet_of d) at r) none
    ∙ ap (λ (q : Packet). read_so None k q at r) (sym is)
    ∙ ap (λ (b : Bool). cond b (bare k end.Empty) (admitted k p at r)) (not_zero (length p.payload / 33) some))

pub taken_is : (k from m : Known) (d : List ℕ) (at : ℕ) (o : Outcome) → from ≡ settled k → o ≡ (judged from d at (replies_of o)).outcome → m ≡ (judged from d at (replies_of o)).after
    → HasAllFrames (packet_of d).payload o.end → IsTaken k d at o (with_counted m o.end)
taken_is k from m d at o e outcome after all =
    let s : judged from d at (replies_of o) ≡ judged (settled k) d at (replies_of o) = ap (λ (q : Known). judged q d at (replies_of o)) e in
    record {
      outcome = outcome ∙ ap (λ (t : Step). t.outcome) s;
      after = ap (λ (q : Known). with_counted q o.end) (after ∙ ap (λ (t : Step). t.after) s);
      all = all;
    }

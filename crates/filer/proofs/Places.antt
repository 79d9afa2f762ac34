-- The place that a refusal of RTCP tells lies within its datagram.
use Rattle.std.proofs.Common.{◌≡◌, ℕ, zero, suc, ◌+◌, ◌^◌, ◌<◌, ◌≤◌, ◌||◌, Bool, true, false, cond, List, length, Option, Some, None, nat_le, nat_lt, refl, ap, subst, ◌∙◌, arith}
use Rattle.std.proofs.lemmas.Bool.Decides.{nat_tests}
use Rattle.rtcp_stats.specs.declared.fault.RtcpFault.{RtcpFault}
use Rattle.rtcp_stats.specs.declared.fault.RtcpFault.TheVariants as rtcp
use Rattle.rtcp_stats.specs.Compound.{fault_from, first_of, packet_end, packet_fault, rtcp_fault}
use Rattle.filer.specs.Journals.{rtcp_detail}

-- the chain of tests of one packet
abbrev tested : Bool → Bool → Bool → Bool → Bool → ℕ → Option RtcpFault
tested a b c d e at = cond a (Some (rtcp.Cut at)) (cond b (Some (rtcp.Version at)) (cond c (Some rtcp.First) (cond d (Some (rtcp.Padding at)) (cond e (Some (rtcp.Body at)) None))))

is_at : (g f : RtcpFault) (at : ℕ) → rtcp_detail g ≤ at → Some g ≡ Some f → rtcp_detail f ≤ at
is_at g f at h e = let i : g ≡ f = cc in subst (λ (x : RtcpFault). rtcp_detail x ≤ at) i h

tells : (a b c d e : Bool) (at : ℕ) (f : RtcpFault) → tested a b c d e at ≡ Some f → rtcp_detail f ≤ at
tells true b c d e at f h = is_at (rtcp.Cut at) f at (omega arith) h
tells false true c d e at f h = is_at (rtcp.Version at) f at (omega arith) h
tells false false true d e at f h = is_at rtcp.First f at (omega arith) h
tells false false false true e at f h = is_at (rtcp.Padding at) f at (omega arith) h
tells false false false false true at f h = is_at (rtcp.Body at) f at (omega arith) h
tells false false false false false at f h = absurd (cc)

first_false : (a b c d e : Bool) (at : ℕ) → tested a b c d e at ≡ None → a ≡ false
first_false true b c d e at h = absurd (cc)
first_false false b c d e at h = refl

whole : (d : List ℕ) (at : ℕ) → (nat_lt (length d) (at + 4) || nat_lt (length d) (packet_end d at)) ≡ false → packet_end d at ≤ length d
whole d at h = grind (arith, nat_tests)

packet_tells : (d : List ℕ) (at : ℕ) (f : RtcpFault) → packet_fault d at ≡ Some f → rtcp_detail f ≤ at
packet_tells d at f h = tells _ _ _ _ _ at f h

packet_whole : (d : List ℕ) (at : ℕ) → packet_fault d at ≡ None → packet_end d at ≤ length d
packet_whole d at h = whole d at (first_false _ _ _ _ _ at h)

step_within : (d : List ℕ) (at : ℕ) (f : RtcpFault) (rest o : Option RtcpFault) (b : Bool) → at ≤ length d → packet_fault d at ≡ o
    → (packet_end d at ≤ length d → rest ≡ Some f → rtcp_detail f ≤ length d) → first_of o (cond b None rest) ≡ Some f → rtcp_detail f ≤ length d
step_within d at f rest (Some g) b le e again h =
    let i : g ≡ f = cc in
    let le2 : rtcp_detail f ≤ at = packet_tells d at f (e ∙ ap (λ (x : RtcpFault). Some x) i) in
    omega arith
step_within d at f rest None true le e again h = absurd (cc)
step_within d at f rest None false le e again h = again (packet_whole d at e) h

from_within : (n : ℕ) (d : List ℕ) (at : ℕ) (f : RtcpFault) → at ≤ length d → fault_from n d at ≡ Some f → rtcp_detail f ≤ length d
from_within zero d at f le h = absurd (cc)
from_within (suc n) d at f le h = step_within d at f (fault_from n d (packet_end d at)) (packet_fault d at) _ le refl (from_within n d (packet_end d at) f) h

top : (b : Bool) (d : List ℕ) (f : RtcpFault) → length d ≤ 2048 → cond b (Some rtcp.Oversize) (fault_from (length d + 1) d 0) ≡ Some f → rtcp_detail f < 2 ^ 16
top true d f few h = let le : rtcp_detail f ≤ 0 = is_at rtcp.Oversize f 0 (omega arith) h in omega arith
top false d f few h = let le : rtcp_detail f ≤ length d = from_within (length d + 1) d 0 f (omega arith) h in omega arith

pub rtcp_within : (d : List ℕ) (f : RtcpFault) → length d ≤ 2048 → rtcp_fault d ≡ Some f → rtcp_detail f < 2 ^ 16
rtcp_within d f few h = top (nat_le 2048 (length d)) d f few h

-- The packets of a compound, one after the other.
use Rattle.std.proofs.Common.{[], ◌∷◌, ◌++◌, subst, MatchOption, ◌≡◌, ℕ, zero, suc, ◌+◌, ◌-◌, ◌*◌, ◌<◌, ◌≤◌, ◌==◌, Bool, true, false, not, cond, eqb, ltb, leb, nat_lt, ◌&&◌, ◌||◌, List, length, Option, Some, None, refl, sym, ap, ◌∙◌, arith}
use Rattle.std.proofs.lemmas.Bool.Decides.{nat_tests}
use Rattle.rtcp_stats.specs.declared.fault.RtcpFault.{RtcpFault}
use Rattle.rtcp_stats.specs.Compound.{is_cut, version, is_report, has_bad_padding, padding, least_size, kind, count, packet_fault, packet_end, fault_from, rtcp_fault, first_of, AreFine, IsFirstFault, IsJudged}
use Rattle.rtcp_stats.specs.declared.fault.RtcpFault.TheVariants.{Cut, Version, First, Padding, Body}
use Rattle.rtcp_stats.specs.Reports.{HasReports, blocks_start}

-- the packets that are left have this fault: enough of them are looked at
pub record IsLeft (d : List ℕ) (at : ℕ) : Type 0 where
  pub left : ℕ
  pub enough : length d < at + left
  pub within : at ≤ length d
  pub same : rtcp_fault d ≡ fault_from left d at

skip : {A : Type 0} (b : Bool) (x y : A) → b ≡ false → cond b x y ≡ y
skip b x y e = ap (λ (t : Bool). cond t x y) e

hit : {A : Type 0} (b : Bool) (x y : A) → b ≡ true → cond b x y ≡ x
hit b x y e = ap (λ (t : Bool). cond t x y) e

le_false : (a b : ℕ) → b < a → leb a b ≡ false
le_false a b h = grind (arith, nat_tests)

eq_true : (a b : ℕ) → a ≡ b → eqb a b ≡ true
eq_true a b e = grind (arith, nat_tests)

eq_false : (a b : ℕ) → (a ≡ b → ⊥) → eqb a b ≡ false
eq_false a b e = grind (arith, nat_tests)

abbrev rest : List ℕ → ℕ → ℕ → Option RtcpFault
rest d at left = cond (eqb (packet_end d at) (length d)) None (fault_from (left - 1) d (packet_end d at))

one_step : (d : List ℕ) (at left : ℕ) → 0 < left → fault_from left d at ≡ first_of (packet_fault d at) (rest d at left)
one_step d at left some = ap (λ (n : ℕ). fault_from n d at) (up left some)
  where
    up : (left : ℕ) → 0 < left → left ≡ suc (left - 1)
    up left some = omega arith

pub at_the_start : (d : List ℕ) → length d < 2048 → IsLeft d 0
at_the_start d small = record {
  left = length d + 1;
  enough = omega arith;
  within = omega arith;
  same = skip _ _ _ (le_false 2048 (length d) small);
}

pub fault_here : (d : List ℕ) (at : ℕ) (f : RtcpFault) → IsLeft d at → packet_fault d at ≡ Some f → rtcp_fault d ≡ Some f
fault_here d at f is e = is.same ∙ one_step d at is.left (omega arith) ∙ ap (λ (o : Option RtcpFault). first_of o (rest d at is.left)) e

past : (d : List ℕ) (at : ℕ) (is : IsLeft d at) → packet_fault d at ≡ None
    → rtcp_fault d ≡ rest d at is.left
past d at is e = is.same ∙ one_step d at is.left (omega arith) ∙ ap (λ (o : Option RtcpFault). first_of o (rest d at is.left)) e

pub ends_here : (d : List ℕ) (at : ℕ) → IsLeft d at → packet_fault d at ≡ None → packet_end d at ≡ length d → rtcp_fault d ≡ None
ends_here d at is e last = past d at is e ∙ hit _ _ _ (eq_true (packet_end d at) (length d) last)

pub goes_on : (d : List ℕ) (at end : ℕ) → IsLeft d at → packet_fault d at ≡ None → end ≡ packet_end d at → at + 4 ≤ end → end ≤ length d → (end ≡ length d → ⊥) → IsLeft d end
goes_on d at end is e here rises within more =
    let other : eqb (packet_end d at) (length d) ≡ false = eq_false (packet_end d at) (length d) (λ h. more (here ∙ h)) in
    record {
      left = is.left - 1;
      enough = omega arith;
      within = within;
      same = past d at is e ∙ skip _ _ _ other ∙ ap (λ (k : ℕ). fault_from (is.left - 1) d k) (sym here);
    }

nothing_first : (o later : Option RtcpFault) → first_of o later ≡ None → o ≡ None
nothing_first None later e = refl
nothing_first (Some f) later e = cc

-- where none of five cases holds, neither the first nor the third nor the last does
none_of : (a b c d e : Bool) (f g h i j : RtcpFault) → cond a (Some f) (cond b (Some g) (cond c (Some h) (cond d (Some i) (cond e (Some j) None)))) ≡ None → (a ≡ false) × (c ≡ false) × (e ≡ false)
none_of true b c d e f g h i j none = cc
none_of false true c d e f g h i j none = cc
none_of false false true d e f g h i j none = cc
none_of false false false true e f g h i j none = cc
none_of false false false false true f g h i j none = cc
none_of false false false false false f g h i j none = (refl, refl, refl)

neither : (a b : Bool) → (a || b) ≡ false → b ≡ false
neither false b e = e
neither true b e = cc

not_less : (a b : ℕ) → ltb a b ≡ false → b ≤ a
not_less a b e = grind (arith, nat_tests)

-- a report that is not too short has its blocks
big_enough : (sender receiver : Bool) (size padded count other : ℕ) → not (sender || receiver) ≡ false
    → ltb (size - padded) (cond sender (28 + 24 * count) (cond receiver (8 + 24 * count) other)) ≡ false → cond sender 28 8 + 24 * count ≤ size
big_enough true receiver size padded count other report enough = grind (arith, nat_tests)
big_enough false true size padded count other report enough = grind (arith, nat_tests)
big_enough false false size padded count other report enough = cc

at_most : (b k e n : ℕ) → b + k ≤ e - 0 → e ≤ n → b + k ≤ n
at_most b k e n enough fits = omega arith

pub has_reports : (d : List ℕ) → length d < 2048 → rtcp_fault d ≡ None → HasReports d
has_reports d small none =
    let start : IsLeft d 0 = at_the_start d small in
    let first : packet_fault d 0 ≡ None = nothing_first (packet_fault d 0) (rest d 0 start.left) (sym (start.same ∙ one_step d 0 start.left (omega arith)) ∙ none) in
    let h = none_of (is_cut d 0) (not (version d 0 == 2)) (not (is_report d 0)) (has_bad_padding d 0) (nat_lt (packet_end d 0 - 0 - padding d 0) (least_size d 0)) (Cut 0) (Version 0) First (Padding 0) (Body 0) first in
    let fits : packet_end d 0 ≤ length d = not_less (length d) (packet_end d 0) (neither (ltb (length d) (0 + 4)) (ltb (length d) (packet_end d 0)) h.0) in
    let enough : blocks_start d + 24 * count d 0 ≤ packet_end d 0 - 0 =
    big_enough (kind d 0 == 200) (kind d 0 == 201) (packet_end d 0 - 0) (padding d 0) (count d 0) _ h.1 h.2 in
    record { size = at_most _ _ _ _ enough fits }

fine_then : (d : List ℕ) (from at : ℕ) (ps : List ℕ) → AreFine d from ps at → packet_fault d at ≡ None → AreFine d from (ps ++ at ∷ []) (packet_end d at)
fine_then d from at [] same fine = (sym same, subst (λ (k : ℕ). packet_fault d k ≡ None) (sym same) fine, ap (packet_end d) same)
fine_then d from at (p ∷ ps) all fine = (all.0, all.1, fine_then d (packet_end d from) at ps all.2 fine)

-- one packet at least
nonempty : (d : List ℕ) (from end at : ℕ) (ps : List ℕ) → AreFine d from (ps ++ at ∷ []) end → (p : ℕ) × (qs : List ℕ) × AreFine d from (p ∷ qs) end
nonempty d from end at [] all = (at, [], all)
nonempty d from end at (p ∷ ps) all = (p, ps ++ at ∷ [], all)

fine_within : (d : List ℕ) (at : ℕ) → packet_fault d at ≡ None → packet_end d at ≤ length d
fine_within d at fine =
    let h = none_of (is_cut d at) (not (version d at == 2)) ((at == 0) && not (is_report d at)) (has_bad_padding d at) (nat_lt (packet_end d at - at - padding d at) (least_size d at)) (Cut at) (Version at) First (Padding at) (Body at) fine in
    not_less (length d) (packet_end d at) (neither (ltb (length d) (at + 4)) (ltb (length d) (packet_end d at)) h.0)

abbrev Judged : List ℕ → Option RtcpFault → Type 0
Judged d o = MatchOption o ((p : ℕ) × (ps : List ℕ) × AreFine d 0 (p ∷ ps) (length d)) (IsFirstFault d)

all_fine : (d : List ℕ) (ps : List ℕ) (at : ℕ) → AreFine d 0 ps at → packet_fault d at ≡ None → packet_end d at ≡ length d → Judged d None
all_fine d ps at fine e last = subst (λ (k : ℕ). (p : ℕ) × (qs : List ℕ) × AreFine d 0 (p ∷ qs) k) last (nonempty d 0 (packet_end d at) at ps (fine_then d 0 at ps fine e))

equal : (a b : ℕ) → eqb a b ≡ true → a ≡ b
equal a b e = grind (arith, nat_tests)

-- what is judged from a place on is what was judged at the start, where only fine packets lie between
judged_from : (n : ℕ) (d : List ℕ) (ps : List ℕ) (at : ℕ) → length d < at + n → at ≤ length d → AreFine d 0 ps at → Judged d (fault_from n d at)
judged_from zero d ps at enough within fine = absurd (omega arith)
judged_from (suc n) d ps at enough within fine =
    let later : Option RtcpFault = cond (eqb (packet_end d at) (length d)) None (fault_from n d (packet_end d at)) in
    elim (packet_fault d at) as (λ (r : Option RtcpFault). packet_fault d at ≡ r → Judged d (first_of r later)) [
      | Some f ↦ λ e. (ps, at, fine, e)
      | None ↦ λ e. elim (eqb (packet_end d at) (length d)) as (λ (b : Bool). eqb (packet_end d at) (length d) ≡ b → Judged d (cond b None (fault_from n d (packet_end d at)))) [
        | true ↦ λ last. all_fine d ps at fine e (equal (packet_end d at) (length d) last)
        | false ↦ λ more. judged_from n d (ps ++ at ∷ []) (packet_end d at) (omega arith) (fine_within d at e) (fine_then d 0 at ps fine e)
      ] refl
    ] refl

pub judged : (d : List ℕ) → IsJudged d
judged d small = subst (Judged d) (sym (skip _ _ _ (le_false 2048 (length d) small))) (judged_from (length d + 1) d [] 0 (omega arith) (omega arith) refl)

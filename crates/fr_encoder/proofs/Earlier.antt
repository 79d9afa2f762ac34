-- What comes from earlier values alone.
use Rattle.std.proofs.Common.{◌≡◌, ℕ, zero, suc, ◌+◌, ◌-◌, ◌<◌, ◌≤◌, List, refl, inl, inr, arith}
use Rattle.std.specs.Prelude.{ℤ}
use Rattle.std.proofs.lemmas.Bool.Decides.{leb_tells}
use Rattle.fixed_arith.specs.Signal.{at, past}
use Rattle.frame_codec.specs.declared.params.SubParams.{SubParams}
use Rattle.rpe_ltp.specs.LongTerm.{lag_after, lag_at, lag_before, sub_at}

-- what lies back in time is the same where all earlier values are
pub past-same : (f g : ℕ → ℤ) (t back : ℕ) → 1 ≤ back → ((r : ℕ) → r < t → f r ≡ g r) → past f t back ≡ past g t back
past-same f g t back some same = elim (leb_tells back t) [ inl (is, within) ↦ rw is (same (t - back) (omega arith)) | inr (is, before) ↦ rw is refl ]

-- and so is what lies at least a sub-frame back, from within one
pub past-lag : (dp dq : List ℤ) (t k lag : ℕ) → ((r : ℕ) → r < t → at dp r ≡ at dq r) → 40 ≤ lag → k < 40 → past (at dp) (t + k) lag ≡ past (at dq) (t + k) lag
past-lag dp dq t k lag same least small = elim (leb_tells lag (t + k)) [ inl (is, within) ↦ rw is (same (t + k - lag) (omega arith)) | inr (is, before) ↦ rw is refl ]

-- a lag is never 0
lag_after-some : (before nc : ℕ) → 1 ≤ before → 1 ≤ lag_after before nc
unfolding lag_after
lag_after-some before nc some = elim (leb_tells 40 nc) [
  | inl (is, least) ↦ elim (leb_tells nc 120) [ inl (is', most) ↦ rw (is, is') (omega arith) | inr (is', over) ↦ rw (is, is') some ]
  | inr (is, under) ↦ rw is some
]

lag_before-some : (subs : List SubParams) (j : ℕ) → 1 ≤ lag_before subs j
lag_before-some subs zero = omega arith
lag_before-some subs (suc j) = lag_after-some (lag_before subs j) (sub_at subs j).nc (lag_before-some subs j)

pub lag_at-some : (subs : List SubParams) (j : ℕ) → 1 ≤ lag_at subs j
lag_at-some subs j = lag_after-some (lag_before subs j) (sub_at subs j).nc (lag_before-some subs j)

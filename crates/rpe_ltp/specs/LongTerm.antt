-- Long-term analysis, and long-term synthesis over the time of a whole list of sub-frames: GSM 06.10 sections 5.2.12 and 5.3.2.
use Rattle.std.specs.Prelude.{◌≡◌, ℕ, zero, suc, ◌-◌, ◌*◌, ◌/◌, ◌%◌, ◌<◌, ◌≤◌, ℤ, pos, List, [], ◌∷◌, length, get_or, if◌then◌else◌, nat_le, ◌&&◌}
use Rattle.fixed_arith.specs.Word.{add_words, sub_words, mult_r_words}
use Rattle.fixed_arith.specs.Signal.{at, past}
use Rattle.frame_codec.specs.declared.params.SubParams.{SubParams}
use Rattle.rpe_ltp.specs.History.{back_at}
use Rattle.rpe_ltp.specs.Pulses.{excitation_at}

-- the gain of each code, in units of 1 / 32768 (QLB)
abbrev pub gains : List ℤ
gains = pos 3277 ∷ pos 11469 ∷ pos 21299 ∷ pos 32767 ∷ []

-- what the prediction with a lag and a gain code leaves of a sub-frame at its k-th place, over the values before it (e)
abbrev pub remainder_at : List ℤ → List ℤ → ℕ → ℕ → ℕ → ℤ
remainder_at d kept lag gain k = sub_words (at d k) (mult_r_words (at gains gain) (back_at kept (lag - k)))

-- the j-th sub-frame of a list
abbrev pub sub_at : List SubParams → ℕ → SubParams
sub_at subs j = get_or subs j (record { nc = 0; bc = 0; mc = 0; xmaxc = 0; xmc = [] })

-- the lag of a sub-frame: its code where that is from 40 to 120, else the lag before it
unfoldable pub lag_after : ℕ → ℕ → ℕ
lag_after before nc = if nat_le 40 nc && nat_le nc 120 then nc else before

-- the lag before the j-th sub-frame of a list, 40 before the first
abbrev pub lag_before : List SubParams → ℕ → ℕ
lag_before subs zero = 40
lag_before subs (suc j) = lag_after (lag_before subs j) (sub_at subs j).nc

-- the lag of the j-th sub-frame (N)
abbrev pub lag_at : List SubParams → ℕ → ℕ
lag_at subs j = lag_after (lag_before subs j) (sub_at subs j).nc

-- the gain of the j-th sub-frame
abbrev pub gain_at : List SubParams → ℕ → ℤ
gain_at subs j = at gains (sub_at subs j).bc

-- the long-term residual at time t (ep)
abbrev pub residual_at : List SubParams → ℕ → ℤ
residual_at subs t = excitation_at (sub_at subs (t / 40)) (t % 40)

-- The values solve the long-term equation at each time of the sub-frames, of 40 samples each (drp).
pub record IsLongTerm (subs : List SubParams) (values : List ℤ) : Type 0 where
  pub count : length values ≡ 40 * length subs
  pub each : (t : ℕ) → t < length values
      → at values t ≡ add_words (residual_at subs t) (mult_r_words (gain_at subs (t / 40)) (past (at values) t (lag_at subs (t / 40))))

-- what is kept between sub-frames
pub record Memory : Type 0 where
  pub history : List ℤ
  pub lag : ℕ

-- After a list of sub-frames the last 120 values are kept, and the last lag.
pub record Remembers (subs : List SubParams) (values : List ℤ) (kept : Memory) : Type 0 where
  pub solved : IsLongTerm subs values
  pub size : length kept.history ≡ 120
  pub last : (back : ℕ) → 1 ≤ back → back ≤ 120 → back_at kept.history back ≡ past (at values) (length values) back
  pub lag : kept.lag ≡ lag_before subs (length subs)

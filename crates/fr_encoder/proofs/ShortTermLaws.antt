-- The layers' relations solve the equations of the short-term part.
use Rattle.std.proofs.Common.{◌≡◌, ℕ, zero, suc, ◌+◌, ◌-◌, ◌*◌, ◌/◌, ◌%◌, ◌<◌, ◌≤◌, ℤ, pos, ◌-ℤ◌, List, length, replicate, refl, sym, ◌∙◌, ap, arith}
use Rattle.std.proofs.lemmas.List.{get_or-replicate}
use Rattle.fixed_arith.specs.Signal.{at, past}
use Rattle.lar_filter.specs.Autocorrelation.{onward}
use Rattle.lar_filter.specs.Reflections.{reflections, normal_word, quotients}
use Rattle.lar_filter.specs.Trace.{since, coefficients_at}
use Rattle.lar_filter.specs.RisingTrace.{RisesOver}
use Rattle.lar_filter.specs.SchurLaws.{quotients_same}
use Rattle.fr_encoder.specs.Preprocessing.{Offset, at_rest, offset_word, kept_long, middle_long, emphasised, next_offset, offset_after, preprocessed}
use Rattle.fr_encoder.specs.ShortTerm.{piece_at, codes_of_piece, codes_at, coefficient, IsShortTerm}
use Rattle.lar_filter.specs.Parts.{IsFed}
use Rattle.fr_encoder.proofs.PreprocessingLaws.{offset_after-none, offset_after-more}
use Rattle.lar_filter.specs.PartLaws.{past_reached, past_before}

-- the coefficients depend on the first nine values alone
pub reflections_same : (acf other : ℕ → ℤ) → ((k : ℕ) → k ≤ 8 → acf k ≡ other k) → reflections acf ≡ reflections other
unfolding reflections
reflections_same acf other same =
    let first : acf 0 ≡ other 0 = same 0 (omega arith) in
    let rest : quotients 8 (λ m. normal_word (other 0) (acf m)) (λ m. normal_word (other 0) (acf m)) ≡ quotients 8 (λ m. normal_word (other 0) (other m)) (λ m. normal_word (other 0) (other m)) =
    quotients_same 8 (λ m. normal_word (other 0) (acf m)) (λ m. normal_word (other 0) (acf m)) (λ m. normal_word (other 0) (other m)) (λ m. normal_word (other 0) (other m))
    (λ m h. ap (normal_word (other 0)) (same m h)) (λ m low h. ap (normal_word (other 0)) (same m h)) in
    rw (first, rest) refl

-- from rest, the value before is 0 before time 0
since_rest : (f : ℕ → ℤ) (i t : ℕ) → i < 8 → since (at (replicate 8 (pos 0)) i) f t ≡ past f t 1
since_rest f i zero small = get_or-replicate 8 i (pos 0) (pos 0) small ∙ sym (past_before f 0 1 (omega arith))
since_rest f i (suc t) small = let place : suc t - 1 ≡ t = omega arith in sym (past_reached f (suc t) 1 (omega arith) ∙ ap f place)

-- a value behind a sample is that behind the sample before, which is 0 at rest
value_past : (part : Offset → ℤ) (samples : List ℤ) (t : ℕ) → part at_rest ≡ pos 0 → part (offset_after at_rest samples t) ≡ past (λ u. part (offset_after at_rest samples (u + 1))) t 1
value_past part samples zero none =
    ap part (offset_after-none at_rest samples) ∙ none ∙ sym (past_before (λ u. part (offset_after at_rest samples (u + 1))) 0 1 (omega arith))
value_past part samples (suc t) none =
    let place : suc t - 1 + 1 ≡ suc t = omega arith in
    sym (past_reached (λ u. part (offset_after at_rest samples (u + 1))) (suc t) 1 (omega arith) ∙ ap (λ (n : ℕ). part (offset_after at_rest samples n)) place)

so_of : Offset → ℤ
so_of o = o.so

z_of : Offset → ℤ
z_of o = o.z

mp_of : Offset → ℤ
mp_of o = o.mp

so_rest : so_of at_rest ≡ pos 0
unfolding so_of
so_rest = refl

z_rest : z_of at_rest ≡ pos 0
unfolding z_of
z_rest = refl

mp_rest : mp_of at_rest ≡ pos 0
unfolding mp_of
mp_rest = refl

so_equation : (samples : List ℤ) (t : ℕ) → so_of (offset_after at_rest samples (t + 1)) ≡ offset_word (at samples t)
unfolding so_of next_offset
so_equation samples t = ap so_of (offset_after-more at_rest samples t)

z_step : (o : Offset) (x : ℤ) → z_of (next_offset o x) ≡ kept_long (z_of o) (so_of (next_offset o x) -ℤ so_of o)
unfolding so_of z_of next_offset
z_step o x = refl

mp_step : (o : Offset) (x : ℤ) → mp_of (next_offset o x) ≡ middle_long (z_of (next_offset o x))
unfolding z_of mp_of next_offset
mp_step o x = refl

z_equation : (samples : List ℤ) (t : ℕ)
    → z_of (offset_after at_rest samples (t + 1)) ≡ kept_long (past (λ u. z_of (offset_after at_rest samples (u + 1))) t 1)
    (so_of (offset_after at_rest samples (t + 1)) -ℤ past (λ u. so_of (offset_after at_rest samples (u + 1))) t 1)
z_equation samples t =
    rw (← value_past z_of samples t z_rest, ← value_past so_of samples t so_rest, offset_after-more at_rest samples t) (z_step (offset_after at_rest samples t) (at samples t))

mp_equation : (samples : List ℤ) (t : ℕ) → mp_of (offset_after at_rest samples (t + 1)) ≡ middle_long (z_of (offset_after at_rest samples (t + 1)))
mp_equation samples t = rw (offset_after-more at_rest samples t) (mp_step (offset_after at_rest samples t) (at samples t))

emphasis_equation : (samples : List ℤ) (t : ℕ) → preprocessed at_rest samples t
    ≡ emphasised (mp_of (offset_after at_rest samples (t + 1))) (past (λ u. mp_of (offset_after at_rest samples (u + 1))) t 1)
unfolding preprocessed mp_of
emphasis_equation samples t = ap (emphasised (mp_of (offset_after at_rest samples (t + 1)))) (value_past mp_of samples t mp_rest)

pub IsShortTerm-from_trace : (samples : List ℤ) (codes : List (List ℕ)) (s values residual after : List ℤ) (inputs : List (List ℤ × ℤ))
    → length samples ≡ 160 * length codes → length s ≡ 160 * length codes
    → ((t : ℕ) → t < 160 * length codes → at s t ≡ preprocessed at_rest samples t)
    → ((f : ℕ) → f < length codes → codes_at codes f ≡ codes_of_piece (piece_at s f))
    → length values ≡ 160 * length codes
    → ((t : ℕ) → t < 160 * length codes → at values t ≡ at (onward (piece_at s (t / 160))) (t % 160))
    → IsFed (coefficient codes) 0 values inputs → RisesOver (replicate 8 (pos 0)) inputs residual after → length residual ≡ 160 * length codes
    → IsShortTerm samples codes residual
IsShortTerm-from_trace samples codes s values residual after inputs whole size emphasis coded values_size values_are fed traces count = record {
  so = λ t. so_of (offset_after at_rest samples (t + 1));
  z = λ t. z_of (offset_after at_rest samples (t + 1));
  mp = λ t. mp_of (offset_after at_rest samples (t + 1));
  s = s;
  d = traces.d;
  w = traces.w;
  whole = whole;
  downscaled = λ t h. so_equation samples t;
  compensated = λ t h. z_equation samples t;
  middle = λ t h. mp_equation samples t;
  size = size;
  emphasis = λ t h. emphasis t h ∙ emphasis_equation samples t;
  coded = coded;
  d_foot = λ t h. traces.d_foot t (inside t h) ∙ fed.samples t (omega (arith, values_size)) ∙ values_are t h;
  w_foot = λ t h. traces.w_foot t (inside t h) ∙ fed.samples t (omega (arith, values_size)) ∙ values_are t h;
  d_up = λ i t small h. rw (← fed_is i t small h, ← since_rest (traces.w i) i t small) (traces.d_up i t small (inside t h));
  w_up = λ i t small h. rw (← fed_is i t small h, ← since_rest (traces.w i) i t small) (traces.w_up i t small (inside t h));
  count = count;
  output = λ t h. traces.output t (inside t h);
}
  where
    inside : (t : ℕ) → t < 160 * length codes → t < length inputs
    inside t h = omega (arith, values_size, fed.count)

    fed_is : (i t : ℕ) → i < 8 → t < 160 * length codes → at (coefficients_at inputs t) i ≡ coefficient codes i t
    fed_is i t small h = let place : 0 + t ≡ t = omega arith in fed.coefficients i t small (omega (arith, values_size)) ∙ ap (coefficient codes i) place

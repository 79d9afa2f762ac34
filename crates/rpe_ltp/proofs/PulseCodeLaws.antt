-- The level that a greatest magnitude is given leaves room for each pulse.
use Rattle.std.proofs.Common.{◌≡◌, ℕ, zero, suc, ◌+◌, ◌-◌, ◌*◌, ◌/◌, ◌%◌, ◌^◌, ◌<◌, ◌≤◌, ℤ, pos, negsuc, ◌+ℤ◌, ◌*ℤ◌, ◌≤ℤ◌, refl, subst, arith, inl, inr, Fits, FitsSigned, w8, w16}
use Rattle.std.specs.Prelude.{unsigned_abs, slice_index, List, [], ◌∷◌, length, replicate}
use Rattle.std.specs.Int.{int_shr}
use lib.Signed.{mag, non_neg}
use lib.Dec.{T}
use Rattle.std.proofs.lemmas.Bool.{cases_lt}
use Rattle.std.proofs.lemmas.Int.{ints, unsigned_abs-mul}
use Rattle.std.proofs.lemmas.Nat.{pow_pos}
use Rattle.std.proofs.Math.Nat.{mul-le-mul_right}
use Rattle.fixed_arith.specs.Word.{clip_word, abs_of_word, mult_words, shift_word_left}
use Rattle.fixed_arith.specs.Signal.{at}
use Rattle.frame_codec.specs.Frame.{FitAll}
use Rattle.rpe_ltp.specs.Pulses.{Level, level_of}
use Rattle.rpe_ltp.specs.PulseCodes.{HasDigits, reciprocals, pulse_code}
use Rattle.rpe_ltp.proofs.PulseLaws.{level, level_zero, level_one, level_least, level_low, level_middle, level_high}

-- what a level leaves room for
abbrev pub Room : ℕ → Level → Type 0
Room top l = (top + 1) * 2 ^ l.shift ≤ (9 + l.mantissa) * 2048

room_of : (top code shift mantissa : ℕ) → level shift mantissa ≡ level_of code → (top + 1) * 2 ^ shift ≤ (9 + mantissa) * 2048 → Room top (level_of code)
room_of top code shift mantissa is room = subst (Room top) is room

-- from one digit on
high_room : (top code digits q : ℕ) → 1 ≤ digits → digits ≤ 6 → 8 ≤ q → q < 16 → code ≡ q + 8 * digits → (top + 1) * 2 ^ (6 - digits) ≤ (q + 1) * 2048 → Room top (level_of code)
high_room top code digits q some most low high is room =
    let shift : 7 - code / 8 ≡ 6 - digits = omega arith in
    let mantissa : code % 8 ≡ q - 8 = omega arith in
    let from : 16 ≤ code = omega arith in
    let to : code < 64 = omega arith in
    let told : level (6 - digits) (q - 8) ≡ level_of code = rw (shift, mantissa) at (level_high code from to) in
    let enough : 9 + (q - 8) ≡ q + 1 = omega arith in
    room_of top code (6 - digits) (q - 8) told (rw enough room)

-- with none
low_room : (top code : ℕ) → top < 512 → code ≡ top / 32 → Room top (level_of code)
low_room top code small is = elim (cases_lt code 8) [
  | inl below8 ↦ elim (cases_lt code 4) [
    | inl below4 ↦ elim (cases_lt code 2) [
      | inl below2 ↦ elim (cases_lt code 1) [
        | inl below1 ↦ let none : code ≡ 0 = omega arith in room_of top code 10 7 (rw none level_zero) (omega arith)
        | inr from1 ↦ let one : code ≡ 1 = omega arith in room_of top code 9 7 (rw one level_one) (omega arith)
      ]
      | inr from2 ↦ room_of top code 8 (4 * code - 5) (level_least code from2 below4) (omega arith)
    ]
    | inr from4 ↦ room_of top code 7 (2 * code - 7) (level_low code from4 below8) (omega arith)
  ]
  | inr from8 ↦ let below16 : code < 16 = omega arith in room_of top code 6 (code - 8) (level_middle code from8 below16) (omega arith)
]

pub room : (top code digits : ℕ) → top < 32768 → digits ≤ 6 → HasDigits (top / 512) digits → code ≡ top / 2 ^ (digits + 5) + 8 * digits → Room top (level_of code)
room top code zero small most has is = low_room top code (omega (arith, has.below)) (omega arith)
room top code (suc zero) small most has is = let l : 1 ≤ top / 512 = has.least (omega arith) in high_room top code 1 (top / 64) (omega arith) (omega arith) (omega arith) (omega (arith, has.below)) is (omega arith)
room top code (suc (suc zero)) small most has is = let l : 2 ≤ top / 512 = has.least (omega arith) in high_room top code 2 (top / 128) (omega arith) (omega arith) (omega arith) (omega (arith, has.below)) is (omega arith)
room top code (suc (suc (suc zero))) small most has is = let l : 4 ≤ top / 512 = has.least (omega arith) in high_room top code 3 (top / 256) (omega arith) (omega arith) (omega arith) (omega (arith, has.below)) is (omega arith)
room top code (suc (suc (suc (suc zero)))) small most has is = let l : 8 ≤ top / 512 = has.least (omega arith) in high_room top code 4 (top / 512) (omega arith) (omega arith) (omega arith) (omega (arith, has.below)) is (omega arith)
room top code (suc (suc (suc (suc (suc zero))))) small most has is = let l : 16 ≤ top / 512 = has.least (omega arith) in high_room top code 5 (top / 1024) (omega arith) (omega arith) (omega arith) (omega (arith, has.below)) is (omega arith)
room top code (suc (suc (suc (suc (suc (suc zero)))))) small most has is = let l : 32 ≤ top / 512 = has.least (omega arith) in high_room top code 6 (top / 2048) (omega arith) (omega arith) (omega arith) (omega (arith, has.below)) is (omega arith)
room top code (suc (suc (suc (suc (suc (suc (suc n))))))) small most has is = absurd (omega arith)

pub level_code_below : (top digits : ℕ) → digits ≤ 6 → HasDigits (top / 512) digits → top / 2 ^ (digits + 5) + 8 * digits < 64
level_code_below top zero most has = omega (arith, has.below)
level_code_below top (suc zero) most has = omega (arith, has.below)
level_code_below top (suc (suc zero)) most has = omega (arith, has.below)
level_code_below top (suc (suc (suc zero))) most has = omega (arith, has.below)
level_code_below top (suc (suc (suc (suc zero)))) most has = omega (arith, has.below)
level_code_below top (suc (suc (suc (suc (suc zero))))) most has = omega (arith, has.below)
level_code_below top (suc (suc (suc (suc (suc (suc zero)))))) most has = omega (arith, has.below)
level_code_below top (suc (suc (suc (suc (suc (suc (suc n))))))) most has = absurd (omega arith)

-- a word is not changed by the limits
word_as_it_is : (z : ℤ) → FitsSigned w16 z → clip_word z ≡ z
unfolding clip_word
word_as_it_is (pos n) fits = omega (arith, ints)
word_as_it_is (negsuc n) fits = omega (arith, ints)

-- the eighth of the range that a product of 29 digits lies in
abbrev pub step_of : ℤ → ℤ
step_of z = int_shr (clip_word (int_shr z 15)) 12

pub record IsStep (step : ℤ) : Type 0 where
  pub low : negsuc 3 ≤ℤ step
  pub high : step ≤ℤ pos 3

step_within : (z : ℤ) → mag z < 2 ^ 29 → IsStep (step_of z)
step_within (pos a) small =
    let word : FitsSigned w16 (int_shr (pos a) 15) = record { sfits = omega arith } in
    rw (word_as_it_is (int_shr (pos a) 15) word) (record { low = omega (arith, ints); high = omega (arith, ints) })
step_within (negsuc a) small =
    let word : FitsSigned w16 (int_shr (negsuc a) 15) = record { sfits = omega arith } in
    rw (word_as_it_is (int_shr (negsuc a) 15) word) (record { low = omega (arith, ints); high = omega (arith, ints) })

mag_le : (z : ℤ) → mag z ≤ unsigned_abs z
mag_le (pos n) = omega arith
mag_le (negsuc n) = omega arith

-- below the room of a mantissa, the product with its reciprocal has 29 digits
room_times : (m q : ℕ) → m < 8 → q + 1 ≤ (9 + m) * 2048 → q * unsigned_abs (at reciprocals m) < 2 ^ 29
room_times zero q below room = omega arith
room_times (suc zero) q below room = omega arith
room_times (suc (suc zero)) q below room = omega arith
room_times (suc (suc (suc zero))) q below room = omega arith
room_times (suc (suc (suc (suc zero)))) q below room = omega arith
room_times (suc (suc (suc (suc (suc zero))))) q below room = omega arith
room_times (suc (suc (suc (suc (suc (suc zero)))))) q below room = omega arith
room_times (suc (suc (suc (suc (suc (suc (suc zero))))))) q below room = omega arith
room_times (suc (suc (suc (suc (suc (suc (suc (suc m)))))))) q below room = absurd (omega arith)

-- what is true of a pulse that is shifted up and taken over its mantissa
pub record PulseFits (x : ℤ) (shift mantissa : ℕ) : Type 0 where
  pub word : FitsSigned w16 (x *ℤ pos (2 ^ shift))
  pub step : IsStep (step_of (x *ℤ pos (2 ^ shift) *ℤ at reciprocals mantissa))

word_from_mag : (z : ℤ) → unsigned_abs z < 32768 → FitsSigned w16 z
word_from_mag (pos n) small = record { sfits = omega arith }
word_from_mag (negsuc n) small = record { sfits = omega arith }

magnitude_reached : (x top : ℤ) → unsigned_abs x < 32768 → abs_of_word x ≤ℤ top → unsigned_abs x ≤ unsigned_abs top
unfolding abs_of_word clip_word
magnitude_reached (pos n) top small le = omega (arith, ints)
magnitude_reached (negsuc n) top small le = omega (arith, ints)

ordinary_fits : (x : ℤ) (top shift mantissa : ℕ) → mantissa < 8 → unsigned_abs x ≤ top → (top + 1) * 2 ^ shift ≤ (9 + mantissa) * 2048 → PulseFits x shift mantissa
ordinary_fits x top shift mantissa below reach room =
    let magnitude : unsigned_abs (x *ℤ pos (2 ^ shift)) ≡ unsigned_abs x * 2 ^ shift = unsigned_abs-mul x (pos (2 ^ shift)) in
    let one : 1 ≤ 2 ^ shift = pow_pos shift in
    let grown : (unsigned_abs x + 1) * 2 ^ shift ≤ (top + 1) * 2 ^ shift = mul-le-mul_right (2 ^ shift) (omega arith) in
    let within : unsigned_abs x * 2 ^ shift + 1 ≤ (9 + mantissa) * 2048 = omega (arith, grown, one, room) in
    let product : unsigned_abs (x *ℤ pos (2 ^ shift) *ℤ at reciprocals mantissa) < 2 ^ 29 =
    rw (unsigned_abs-mul (x *ℤ pos (2 ^ shift)) (at reciprocals mantissa), magnitude) (room_times mantissa (unsigned_abs x * 2 ^ shift) below within) in
    record {
      word = word_from_mag (x *ℤ pos (2 ^ shift)) (omega (arith, magnitude, within));
      step = step_within (x *ℤ pos (2 ^ shift) *ℤ at reciprocals mantissa) (omega (arith, mag_le (x *ℤ pos (2 ^ shift) *ℤ at reciprocals mantissa), product));
    }

-- the least word leaves no room for a shift, and its mantissa is the greatest
least_fits : (shift mantissa : ℕ) → mantissa < 8 → 32768 * 2 ^ shift ≤ (9 + mantissa) * 2048 → PulseFits (negsuc 32767) shift mantissa
least_fits zero mantissa below room =
    let greatest : mantissa ≡ 7 = omega arith in
    rw greatest (record { word = record { sfits = omega arith }; step = step_within (negsuc 536870911) (omega arith) })
least_fits (suc n) mantissa below room =
    let one : 1 ≤ 2 ^ n = pow_pos n in
    absurd (omega (arith, one))

least_is : (x : ℤ) → FitsSigned w16 x → 32768 ≤ unsigned_abs x → x ≡ negsuc 32767
least_is (pos n) fits most = absurd (omega arith)
least_is (negsuc n) fits most = let e : n ≡ 32767 = omega arith in rw e refl

least_top : (top : ℤ) → abs_of_word (negsuc 32767) ≤ℤ top → 32767 ≤ unsigned_abs top
unfolding abs_of_word clip_word
least_top top le = omega (arith, ints)

pub pulse_fits : (x top : ℤ) (shift mantissa : ℕ) → FitsSigned w16 x → mantissa < 8 → abs_of_word x ≤ℤ top → (unsigned_abs top + 1) * 2 ^ shift ≤ (9 + mantissa) * 2048 → PulseFits x shift mantissa
pulse_fits x top shift mantissa fits below reach room = elim (cases_lt (unsigned_abs x) 32768) [
  | inl ordinary ↦ ordinary_fits x (unsigned_abs top) shift mantissa below (magnitude_reached x top ordinary reach) room
  | inr extreme ↦
      let least : x ≡ negsuc 32767 = least_is x fits extreme in
      let high : 32767 ≤ unsigned_abs top = least_top top (rw least at reach) in
      let grown : 32768 * 2 ^ shift ≤ (unsigned_abs top + 1) * 2 ^ shift = mul-le-mul_right (2 ^ shift) (omega arith) in
      rw least (least_fits shift mantissa below (omega (arith, grown, room)))
]

-- a shift up that leaves a word is not limited
pub shift_as_it_is : (x : ℤ) (shift : ℕ) → FitsSigned w16 (x *ℤ pos (2 ^ shift)) → shift_word_left x shift ≡ x *ℤ pos (2 ^ shift)
unfolding shift_word_left
shift_as_it_is x shift word = word_as_it_is (x *ℤ pos (2 ^ shift)) word

-- the code's two steps are the formula's
pub pulse_code_is : (x : ℤ) (shift mantissa : ℕ) → pulse_code (level shift mantissa) x ≡ step_of (x *ℤ pos (2 ^ shift) *ℤ at reciprocals mantissa) +ℤ pos 4
unfolding pulse_code mult_words
pulse_code_is x shift mantissa = refl

-- both steps of the code, from the results of its calls
pub step_is : (x up product : ℤ) (shift mantissa : ℕ) → FitsSigned w16 (x *ℤ pos (2 ^ shift)) → up ≡ shift_word_left x shift → product ≡ mult_words up (at reciprocals mantissa)
    → int_shr product 12 ≡ step_of (x *ℤ pos (2 ^ shift) *ℤ at reciprocals mantissa)
unfolding mult_words
step_is x up product shift mantissa word up_is product_is = rw (product_is, up_is, shift_as_it_is x shift word) refl

pub code_fits : (step : ℤ) → IsStep step → FitsSigned w16 (step +ℤ pos 4)
code_fits step is = omega (arith, ints, is.low, is.high)

pub code_below : (step : ℤ) → IsStep step → unsigned_abs (step +ℤ pos 4) < 8
code_below step is = omega (arith, ints, is.low, is.high)

byte_from : (z : ℤ) → pos 0 ≤ℤ z → unsigned_abs z < 256 → T (non_neg z) × Fits w8 (unsigned_abs z)
byte_from (pos n) sign small = (tt, record { fits = small })
byte_from (negsuc n) sign small = absurd (omega (arith, ints))

pub code_casts : (step : ℤ) → IsStep step → T (non_neg (step +ℤ pos 4)) × Fits w8 (unsigned_abs (step +ℤ pos 4))
code_casts step is = byte_from (step +ℤ pos 4) (omega (arith, ints, is.low, is.high)) (omega (arith, ints, is.low, is.high))

same_from_sign : (z : ℤ) → pos 0 ≤ℤ z → pos (unsigned_abs z) ≡ z
same_from_sign (pos n) sign = refl
same_from_sign (negsuc n) sign = absurd (omega (arith, ints))

pub code_value : (step : ℤ) → IsStep step → pos (unsigned_abs (step +ℤ pos 4)) ≡ step +ℤ pos 4
code_value step is = same_from_sign (step +ℤ pos 4) (omega (arith, ints, is.low, is.high))

-- codes that are each below 8 fit widths of 3
pub widths_fit : (n : ℕ) (codes : List ℕ) → length codes ≡ n → ((i : ℕ) → i < n → slice_index codes i < 8) → FitAll (replicate n 3) codes
widths_fit zero [] size small = tt
widths_fit zero (code ∷ codes) size small = absurd (omega arith)
widths_fit (suc n) [] size small = absurd (omega arith)
widths_fit (suc n) (code ∷ codes) size small = (small 0 (omega arith), widths_fit n codes (omega arith) (λ i h. small (suc i) (omega arith)))

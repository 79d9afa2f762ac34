-- The best code for a sample.
use Rattle.std.proofs.Common.{◌≡◌, ◌⊎◌, ℕ, zero, suc, ◌+◌, ◌-◌, ◌*◌, ◌<◌, ◌≤◌, Bool, true, false, ℤ, pos, negsuc, ◌-ℤ◌, ◌≤ℤ◌, ◌<ℤ◌, refl, sym, ap, ◌∙◌, arith, inl, inr}
use Rattle.std.specs.Prelude.{neg_ℤ, unsigned_abs}
use Rattle.std.specs.Int.Bits.{bit_xor}
use Rattle.std.proofs.lemmas.Bool.{cases_lt}
use Rattle.std.proofs.lemmas.Int.{ints}
use Rattle.g711_leg.specs.declared.law.Law.{Law}
use Rattle.g711_leg.specs.declared.law.Law.TheVariants.{Mu, A}
use Rattle.g711_leg.specs.Codes.{IsAsGood, IsCompressed, bits_of, magnitude_of, value_of}
use Rattle.g711_leg.specs.Levels.{IsNearest}
use Rattle.g711_leg.proofs.LevelLaws.{rises}
use Rattle.g711_leg.proofs.Tables.{less_by_table, same_by_table, same_int_by_table}

-- the value v, of code c, is as good as w, of code d
abbrev Better : ℤ → ℤ → ℤ → ℕ → ℕ → Type 0
Better x v w c d =
    (unsigned_abs (x -ℤ v) < unsigned_abs (x -ℤ w))
    ⊎ ((unsigned_abs (x -ℤ v) ≡ unsigned_abs (x -ℤ w)) × ((unsigned_abs v < unsigned_abs w) ⊎ ((unsigned_abs v ≡ unsigned_abs w) × (d ≤ c))))

-- a magnitude with its sign
abbrev signed : Bool → ℕ → ℤ
signed true m = neg_ℤ (pos m)
signed false m = pos m

above_same : (n p q c d : ℕ) → p < q → 2 * n ≤ p + q → Better (pos n) (pos p) (pos q) c d
above_same n p q c d less near = elim (cases_lt (unsigned_abs (pos n -ℤ pos p)) (unsigned_abs (pos n -ℤ pos q))) [
  | inl nearer ↦ inl nearer
  | inr same ↦ inr (omega (arith, ints), inl less)
]

equal_other : (n p c d : ℕ) → d ≤ c → Better (pos n) (pos p) (neg_ℤ (pos p)) c d
equal_other n p c d le = elim (cases_lt (unsigned_abs (pos n -ℤ pos p)) (unsigned_abs (pos n -ℤ neg_ℤ (pos p)))) [
  | inl nearer ↦ inl nearer
  | inr same ↦ inr (omega (arith, ints), inr (omega (arith, ints), le))
]

-- the same on the other side of 0
mirrored : (x v w : ℤ) (c d : ℕ) → Better x v w c d → Better (neg_ℤ x) (neg_ℤ v) (neg_ℤ w) c d
mirrored x v w c d (inl nearer) = inl (omega (arith, ints))
mirrored x v w c d (inr (same, inl smaller)) = inr (omega (arith, ints), inl (omega (arith, ints)))
mirrored x v w c d (inr (same, inr (alike, le))) = inr (omega (arith, ints), inr (omega (arith, ints), le))

-- p is the nearest level's magnitude, and q that of a level below it, above it, or of its own
data Choice (n p q : ℕ) : Type 0 where
  Below : q < p → p + q < 2 * n → Choice n p q
  Above : p < q → 2 * n ≤ p + q → Choice n p q
  Equal : p ≡ q → Choice n p q

better_same : (n p q c d : ℕ) → Choice n p q → (p ≡ q → d ≤ c) → Better (pos n) (pos p) (pos q) c d
better_same n p q c d (Below less near) le = inl (omega (arith, ints))
better_same n p q c d (Above less near) le = above_same n p q c d less near
better_same n p q c d (Equal e) le = rw e (inr (refl, inr (refl, le e)))

better_other : (n p q c d : ℕ) → Choice n p q → (p ≡ q → (d ≤ c) ⊎ ((0 < n) × (0 < p))) → Better (pos n) (pos p) (neg_ℤ (pos q)) c d
better_other n p q c d (Below less near) le = inl (omega (arith, ints))
better_other n p q c d (Above less near) le = inl (omega (arith, ints))
better_other n p q c d (Equal e) le = rw (← e) (elim (le e) [
  | inl h ↦ equal_other n p c d h
  | inr h ↦ inl (omega (arith, ints))
])

-- the nearest level is better than each other level with the same sign, and no worse than the same with the other
choice : (law : Law) (n level k : ℕ) → IsNearest (magnitude_of law) n level → k < 128 → Choice n (magnitude_of law level) (magnitude_of law k)
choice law n level k nearest few = elim (cases_lt k level) [
  | inl below ↦ Below (rises law k level below nearest.few) (omega (arith, nearest.low (omega arith), up_to k (level - 1) (omega arith) (omega (arith, nearest.few))))
  | inr high ↦ elim (cases_lt level k) [
    | inl above ↦ Above (rises law level k above few) (omega (arith, nearest.high (omega arith), up_to (level + 1) k (omega arith) few))
    | inr same ↦ Equal (ap (magnitude_of law) (alike level k high same))
  ]
]
  where
    alike : (a b : ℕ) → a ≤ b → b ≤ a → a ≡ b
    alike a b h k = omega arith

    up_to : (j k : ℕ) → j ≤ k → k < 128 → magnitude_of law j ≤ magnitude_of law k
    up_to j k le less = elim (cases_lt j k) [
      | inl below ↦ omega (arith, rises law j k below less)
      | inr above ↦ let e : j ≡ k = omega arith in rw e (omega arith)
    ]

-- magnitudes that are the same are those of one level
one_level : (law : Law) (j k : ℕ) → j < 128 → k < 128 → magnitude_of law j ≡ magnitude_of law k → j ≡ k
one_level law j k few less same = elim (cases_lt j k) [
  | inl below ↦ absurd (omega (arith, rises law j k below less))
  | inr high ↦ elim (cases_lt k j) [
    | inl above ↦ absurd (omega (arith, rises law k j above few))
    | inr alike ↦ omega arith
  ]
]

-- the code of a level with its sign
abbrev pub code_at : Law → Bool → ℕ → ℕ
code_at Mu true k = 127 - k
code_at Mu false k = 255 - k
code_at A true k = bit_xor k 85
code_at A false k = bit_xor (k + 128) 85

-- the code d is that of the level k, with the sign
pub record IsCode (law : Law) (d : ℕ) (sign : Bool) (k : ℕ) : Type 0 where
  pub few : k < 128
  pub code : d ≡ code_at law sign k
  pub value : value_of law d ≡ signed sign (magnitude_of law k)

xor_back : (d : ℕ) → d < 256 → bit_xor (bit_xor d 85) 85 ≡ d
xor_back = same_by_table (λ d. bit_xor (bit_xor d 85) 85) (λ d. d) 256 refl

xor_few : (d : ℕ) → d < 256 → bit_xor d 85 < 256
xor_few = less_by_table (λ d. bit_xor d 85) (λ d. 256) 256 refl

xor_low : (k : ℕ) → k < 128 → bit_xor k 85 < 128
xor_low = less_by_table (λ k. bit_xor k 85) (λ k. 128) 128 refl

xor_high : (k : ℕ) → k < 128 → 127 < bit_xor (k + 128) 85
xor_high = less_by_table (λ k. 127) (λ k. bit_xor (k + 128) 85) 128 refl

value_at : (law : Law) (sign : Bool) (k : ℕ) → k < 128 → value_of law (code_at law sign k) ≡ signed sign (magnitude_of law k)
unfolding value_of magnitude_of bits_of
value_at Mu true = same_int_by_table (λ k. value_of Mu (127 - k)) (λ k. neg_ℤ (pos (magnitude_of Mu k))) 128 refl
value_at Mu false = same_int_by_table (λ k. value_of Mu (255 - k)) (λ k. pos (magnitude_of Mu k)) 128 refl
value_at A true = same_int_by_table (λ k. value_of A (bit_xor k 85)) (λ k. neg_ℤ (pos (magnitude_of A k))) 128 refl
value_at A false = same_int_by_table (λ k. value_of A (bit_xor (k + 128) 85)) (λ k. pos (magnitude_of A k)) 128 refl

-- the code of a level is one
pub code_is : (law : Law) (sign : Bool) (k : ℕ) → k < 128 → IsCode law (code_at law sign k) sign k
code_is law sign k few = record { few = few; code = refl; value = value_at law sign k few }

-- what level and sign a code has
abbrev pub Coded : Law → ℕ → Type 0
Coded law d = (sign : Bool) × (k : ℕ) × IsCode law d sign k

coded_by : (law : Law) (d : ℕ) (sign : Bool) (k : ℕ) → k < 128 → d ≡ code_at law sign k → Coded law d
coded_by law d sign k few e = (sign, k, record { few = few; code = e; value = ap (value_of law) e ∙ value_at law sign k few })

pub coded : (law : Law) (d : ℕ) → d < 256 → Coded law d
coded Mu d few = elim (cases_lt d 128) [
  | inl low ↦ coded_by Mu d true (127 - d) (omega arith) (omega arith)
  | inr high ↦ coded_by Mu d false (255 - d) (omega arith) (omega arith)
]
coded A d few = elim (cases_lt (bit_xor d 85) 128) [
  | inl low ↦ coded_by A d true (bit_xor d 85) low (sym (xor_back d few))
  | inr high ↦ let e : bit_xor d 85 ≡ bit_xor d 85 - 128 + 128 = omega arith in
      coded_by A d false (bit_xor d 85 - 128) (omega (arith, xor_few d few)) (sym (xor_back d few) ∙ ap (λ (u : ℕ). bit_xor u 85) e)
]

pub code_few : (law : Law) (sign : Bool) (k : ℕ) → k < 128 → code_at law sign k < 256
code_few Mu true k few = omega arith
code_few Mu false k few = omega arith
code_few A true k few = omega (arith, xor_low k few)
code_few A false k few = xor_few (k + 128) (omega arith)

signs_order : (law : Law) (j k : ℕ) → j < 128 → k < 128 → code_at law true j ≤ code_at law false k
signs_order Mu j k few less = omega arith
signs_order A j k few less = omega (arith, xor_low j few, xor_high k less)

-- a code c with the value of the nearest level is best for a sample that is not negative
pub best_above : (law : Law) (n level c : ℕ) → IsNearest (magnitude_of law) n level → value_of law c ≡ pos (magnitude_of law level)
    → c ≡ code_at law false level → (d : ℕ) → Coded law d → IsAsGood law (pos n) c d
best_above law n level c nearest value code d (false, k, is) =
    rw (is.value, value)
    (better_same n (magnitude_of law level) (magnitude_of law k) c d (choice law n level k nearest is.few)
    (λ e. let f : k ≡ level = one_level law k level is.few nearest.few (sym e) in omega (arith, is.code ∙ ap (code_at law false) f)))
best_above law n level c nearest value code d (true, k, is) =
    rw (is.value, value)
    (better_other n (magnitude_of law level) (magnitude_of law k) c d (choice law n level k nearest is.few)
    (λ e. inl (omega (arith, is.code, signs_order law k level is.few nearest.few))))

-- and on the other side of 0, where no code of the level is larger, or neither the sample nor the level is 0
pub best_under : (law : Law) (n level c : ℕ) → IsNearest (magnitude_of law) n level → value_of law c ≡ neg_ℤ (pos (magnitude_of law level))
    → code_at law true level ≤ c → (code_at law false level ≤ c) ⊎ ((0 < n) × (0 < magnitude_of law level))
    → (d : ℕ) → Coded law d → IsAsGood law (neg_ℤ (pos n)) c d
best_under law n level c nearest value code other d (true, k, is) =
    rw (is.value, value)
    (mirrored (pos n) (pos (magnitude_of law level)) (pos (magnitude_of law k)) c d
    (better_same n (magnitude_of law level) (magnitude_of law k) c d (choice law n level k nearest is.few)
    (λ e. let f : k ≡ level = one_level law k level is.few nearest.few (sym e) in omega (arith, is.code ∙ ap (code_at law true) f))))
best_under law n level c nearest value code other d (false, k, is) =
    rw (is.value, value)
    (back (magnitude_of law k) (mirrored (pos n) (pos (magnitude_of law level)) (neg_ℤ (pos (magnitude_of law k))) c d
    (better_other n (magnitude_of law level) (magnitude_of law k) c d (choice law n level k nearest is.few)
    (λ e. smaller (one_level law k level is.few nearest.few (sym e)) other))))
  where
    back : (q : ℕ) → Better (neg_ℤ (pos n)) (neg_ℤ (pos (magnitude_of law level))) (neg_ℤ (neg_ℤ (pos q))) c d
        → Better (neg_ℤ (pos n)) (neg_ℤ (pos (magnitude_of law level))) (pos q) c d
    back zero h = h
    back (suc q) h = h

    smaller : k ≡ level → (code_at law false level ≤ c) ⊎ ((0 < n) × (0 < magnitude_of law level)) → (d ≤ c) ⊎ ((0 < n) × (0 < magnitude_of law level))
    smaller f (inl h) = inl (omega (arith, is.code ∙ ap (code_at law false) f))
    smaller f (inr h) = inr h

-- the code of the nearest level is best
pub best_positive : (law : Law) (x : ℤ) (level : ℕ) → pos 0 ≤ℤ x → IsNearest (magnitude_of law) (unsigned_abs x) level → IsCompressed law x (code_at law false level)
best_positive law (pos n) level sign nearest =
    (code_few law false level nearest.few, λ d few. best_above law n level _ nearest (value_at law false level nearest.few) refl d (coded law d few))
best_positive law (negsuc n) level sign nearest = absurd (omega (arith, ints))

pub best_negative : (law : Law) (x : ℤ) (level : ℕ) → x <ℤ pos 0 → 0 < magnitude_of law level → IsNearest (magnitude_of law) (unsigned_abs x) level
    → IsCompressed law x (code_at law true level)
best_negative law (pos n) level sign positive nearest = absurd (omega (arith, ints))
best_negative law (negsuc n) level sign positive nearest =
    (code_few law true level nearest.few, λ d few. best_under law (suc n) level _ nearest (value_at law true level nearest.few) (omega arith) (inr (omega arith, positive)) d (coded law d few))

pub zero_magnitude : magnitude_of Mu 0 ≡ 0
unfolding magnitude_of
zero_magnitude = refl

zero_is : value_of Mu 255 ≡ neg_ℤ (pos (magnitude_of Mu 0))
unfolding value_of magnitude_of bits_of
zero_is = refl

-- in mu-law the code of 0 with the sign of positive values is the larger one
pub best_zero : (x : ℤ) (level : ℕ) → x <ℤ pos 0 → level ≡ 0 → IsNearest (magnitude_of Mu) (unsigned_abs x) level → IsCompressed Mu x (255 - level)
best_zero x (suc level) sign zeroth nearest = absurd (omega arith)
best_zero (pos n) zero sign zeroth nearest = absurd (omega (arith, ints))
best_zero (negsuc n) zero sign zeroth nearest =
    (omega arith, λ d few. best_under Mu (suc n) 0 255 nearest zero_is (omega arith) (inl (omega arith)) d (coded Mu d few))

-- no magnitude is 0 but the lowest of mu-law
pub positive_mu : (level : ℕ) → 0 < level → level < 128 → 0 < magnitude_of Mu level
positive_mu level above few = omega (arith, rises Mu 0 level above few)

pub positive_a : (level : ℕ) → level < 128 → 0 < magnitude_of A level
unfolding magnitude_of
positive_a = less_by_table (λ k. 0) (magnitude_of A) 128 refl

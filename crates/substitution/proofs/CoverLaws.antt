-- A run of erasures that is long gives silence, however long it is.
use Rattle.std.proofs.Common.{◌≡◌, ℕ, ◌+◌, ◌*◌, ◌/◌, ◌%◌, ◌^◌, ◌<◌, ◌≤◌, nat_lt, Bool, true, false, min, List, [], ◌∷◌, Option, Some, None, if◌then◌else◌, refl, sym, ◌∙◌, ap, arith, inl, inr}
use Rattle.std.specs.Prelude.{IfSome}
use Rattle.std.specs.List.{AllByRecursion}
use Rattle.std.proofs.Math.Nat.{mod-add-div, add-mul-mod_self_left}
use Rattle.std.proofs.lemmas.Bool.{cases_lt, lt-ltb}
use Rattle.std.proofs.lemmas.List.Elements.{recursion_from_All}
use Rattle.frame_codec.specs.declared.params.SubParams.{SubParams}
use Rattle.frame_codec.specs.Frame.{Fields, SubFits, IsWithinWidths}
use Rattle.rand_chacha.specs.ChaCha.{next_word}
use Rattle.substitution.specs.Covering.{level, are_silent, is_muted, covered, silence_frame, generator_at}

-- no level is above 63, so that none is left from the 17th erasure on
are_silent-late : (k : ℕ) (parts : List SubParams) → 17 ≤ k → AllByRecursion SubFits parts → are_silent k parts ≡ true
are_silent-late k [] late fit = refl
are_silent-late k (part ∷ parts) late fit =
    let below : part.xmaxc < 64 = fit.0.1.1.1.0 in
    let none : level k part ≡ 0 = omega (arith, below) in
    rw none (are_silent-late k parts late fit.1)

late_test : (k : ℕ) → 17 ≤ k → nat_lt 1 k ≡ true
late_test k late = lt-ltb 1 k (omega arith)

covered-late : (last : Option Fields) (k word : ℕ) → 17 ≤ k → IfSome last IsWithinWidths → covered last k word ≡ silence_frame
covered-late None k word late fits = refl
covered-late (Some g) k word late fits = rw (late_test k late, are_silent-late k g.sub late (recursion_from_All SubFits g.sub fits.sub)) refl

is_muted-late : (last : Option Fields) (k : ℕ) → 17 ≤ k → IfSome last IsWithinWidths → is_muted last k ≡ false
is_muted-late None k late fits = refl
is_muted-late (Some g) k late fits = rw (late_test k late, are_silent-late k g.sub late (recursion_from_All SubFits g.sub fits.sub)) refl

-- a count that stands still at 255 does for any number of erasures
pub covered-counted : (last : Option Fields) (n word : ℕ) → IfSome last IsWithinWidths → covered last (min (min n 255 + 1) 255) word ≡ covered last (n + 1) word
covered-counted last n word fits = elim (cases_lt n 255) [
  | inl below ↦ let same : min (min n 255 + 1) 255 ≡ n + 1 = omega arith in rw same refl
  | inr above ↦ covered-late last _ word (omega arith) fits ∙ sym (covered-late last (n + 1) word (omega arith) fits)
]

pub is_muted-counted : (last : Option Fields) (n : ℕ) → IfSome last IsWithinWidths → is_muted last (min (min n 255 + 1) 255) ≡ is_muted last (n + 1)
is_muted-counted last n fits = elim (cases_lt n 255) [
  | inl below ↦ let same : min (min n 255 + 1) 255 ≡ n + 1 = omega arith in rw same refl
  | inr above ↦ is_muted-late last _ (omega arith) fits ∙ sym (is_muted-late last (n + 1) (omega arith) fits)
]

pub place-more : (n m : ℕ) → (n % m + 1) % m ≡ (n + 1) % m
place-more n m =
    let whole : n + 1 ≡ n % m + 1 + m * (n / m) = omega (arith, mod-add-div n m) in
    sym (ap (λ (x : ℕ). x % m) whole ∙ add-mul-mod_self_left (n % m + 1) m (n / m))

-- the generator behind a word that was used, or was not
pub words-more : (b : Bool) (seed : List ℕ) (n : ℕ) → (if b then (next_word 4 (generator_at seed n)).1 else generator_at seed n) ≡ generator_at seed (n + (if b then 1 else 0))
words-more true seed n = ap (λ (p : ℕ). record (generator_at seed 0) { word_pos = p }) (place-more n (2 ^ 68))
words-more false seed n = let same : n + 0 ≡ n = omega arith in rw same refl

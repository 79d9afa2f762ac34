-- The places of words lie within the table.
use Rattle.std.proofs.Common.{◌≡◌, ℕ, ◌+◌, ◌%◌, ◌^◌, ◌<◌, ◌≤◌, arith, mod-lt}
use Rattle.ring_core.specs.declared.views.Shape.{Shape}
use Rattle.ring_core.specs.Ring.{slot_count}
use Rattle.ring_core.specs.Steps.{position_of, ahead_of}
use Rattle.ring_core.specs.RuleLaws.{slots_positive}
use Rattle.step_table.specs.Packed.{SeatState}
use Rattle.step_table.specs.Kinds.{StepKind, enlist, load, publish, move, leave, source, base, peek, glance, source_place, base_place, MaySwap, MayLoad, MayExchange}

pub swap_within : (m : StepKind) (k : Shape) (me : SeatState) (word new words : ℕ) → words ≡ 2 ^ k.g + k.filers + 3 → MaySwap m k me word new → word < words
swap_within (move v) k me word new words wide may = let e : word ≡ position_of may.0 % slot_count k = may.5 in let near : position_of may.0 % slot_count k < 2 ^ k.g = mod-lt (position_of may.0) (slots_positive k) in omega arith
swap_within (enlist who) k me word new words wide may = let e : word ≡ slot_count k + who = may.5 in let low : who ≤ k.filers = may.4 in omega arith
swap_within leave k me word new words wide may = let e : word ≡ slot_count k + may.0.who = may.5 in let low : may.0.who ≤ k.filers = may.3 in omega arith
swap_within _ k me word new words wide may = absurd may

pub load_within : (m : StepKind) (k : Shape) (me : SeatState) (word words : ℕ) → words ≡ 2 ^ k.g + k.filers + 3 → MayLoad m k me word → word < words
load_within (load n f) k me word words wide may = let e : word ≡ n % slot_count k = may.5 in let near : n % slot_count k < 2 ^ k.g = mod-lt n (slots_positive k) in omega arith
load_within peek k me word words wide may = let e : word ≡ base_place k = may.4 in omega arith
load_within (glance v) k me word words wide may = let n : ℕ = position_of may.0 + ahead_of v in let e : word ≡ n % slot_count k = may.5 in let near : n % slot_count k < 2 ^ k.g = mod-lt n (slots_positive k) in omega arith
load_within _ k me word words wide may = absurd may

pub exchange_within : (m : StepKind) (k : Shape) (me : SeatState) (word old new words : ℕ) → words ≡ 2 ^ k.g + k.filers + 3 → MayExchange m k me word old new → word < words
exchange_within publish k me word old new words wide may = let n : ℕ = may.1.number in let e : word ≡ n % slot_count k = may.6 in let near : n % slot_count k < 2 ^ k.g = mod-lt n (slots_positive k) in omega arith
exchange_within (source x) k me word old new words wide may = let e : word ≡ source_place k = may.6 in omega arith
exchange_within (base x) k me word old new words wide may = let e : word ≡ base_place k = may.6 in omega arith
exchange_within _ k me word old new words wide may = absurd may

-- The head of a file.
use Rattle.std.specs.Prelude.{ℕ, ◌≤◌, ◌<◌, ◌^◌, min, List, ◌∷◌, ◌++◌, codes, length, take, drop, slice_index, Bool, ◌&&◌, nat_eq, nat_lt, nat_le, Option, Some, None, if◌then◌else◌}
use Rattle.std.specs.Cmp.Lexicographic.{pointwise}
use Rattle.byteorder.specs.Endian.{big_bytes, big_number}
use Rattle.recorder.specs.declared.fault.RecordFault.{RecordFault}
use Rattle.recorder.specs.declared.fault.RecordFault.TheVariants.{Magic}
use Rattle.recorder.specs.Fields.{judged}

-- what a head says after its magic: the number of filers, g where the line has 2 ^ g slots, and the delay in frames
pub record Heading : Type 0 where
  pub filers : ℕ
  pub g : ℕ
  pub delay : ℕ

-- each of them is in its range
pub record IsHeading (h : Heading) : Type 0 where
  pub some : 1 ≤ h.filers
  pub few : h.filers ≤ 64
  pub g : h.g ≤ 10
  pub delay : h.delay < 2 ^ h.g

abbrev pub script_magic : List ℕ
script_magic = codes "GSMGSC01"

abbrev pub play_magic : List ℕ
play_magic = codes "GSMGPJ01"

abbrev pub filer_magic : List ℕ
filer_magic = codes "GSMGFJ01"

-- the twelve octets of a head
abbrev pub head_text : List ℕ → Heading → List ℕ
head_text magic h = magic ++ (h.filers ∷ h.g ∷ big_bytes 2 h.delay)

-- no octet that is there differs from the magic's
abbrev pub agrees : List ℕ → List ℕ → Bool
agrees magic octets = pointwise nat_eq (take (min (length octets) 8) magic) (take (min (length octets) 8) octets)

-- the first fault of a head that has these octets, twelve at most
abbrev pub head_fault : List ℕ → List ℕ → Option RecordFault
head_fault magic octets =
    if agrees magic octets then
    judged octets 0 8 1 (λ o. nat_le 1 (slice_index o 0) && nat_le (slice_index o 0) 64)
    (judged octets 0 9 1 (λ o. nat_le (slice_index o 0) 10)
    (judged octets 0 10 2 (λ o. nat_lt (big_number 2 o) (2 ^ slice_index octets 9)) None))
    else Some Magic

-- the head that twelve octets spell
abbrev pub heading_of : List ℕ → Heading
heading_of octets = record { filers = slice_index octets 8; g = slice_index octets 9; delay = big_number 2 (take 2 (drop 10 octets)) }

-- The frames of blocks that are not refused.
use Rattle.std.proofs.Common.{◌≡◌, ℕ, zero, suc, ◌+◌, ◌/◌, ◌%◌, ◌&&◌, ◌≤◌, not, Bool, true, false, cond, eqb, ltb, List, [], ◌∷◌, ◌++◌, length, length-append, slice_get, Option, Some, None, option_map, refl, sym, ap, ◌∙◌, arith}
use Rattle.std.proofs.lemmas.Bool.{eqb-true, ltb-false}
use Rattle.std.specs.Option.{option_or}
use Rattle.rtp_codec.specs.Packets.{IsPayload}
use Rattle.rtp_codec.specs.SignatureLaws.{payload_if}
use Rattle.red_payload.specs.declared.fault.RedFault.{RedFault}
use Rattle.red_payload.specs.declared.fault.RedFault.TheVariants as fault
use Rattle.red_payload.specs.Blocks.{Block, HaveFrames, blocks_fault, first_broken, frames_fault, speech}
use Rattle.red_payload.proofs.Unsigned.{after, front_is, in_both, unsigned_in}

-- whole frames, at most ten, all signed
record IsFine (place : ℕ) (bs : List Block) : Type 0 where
  whole : first_broken place bs ≡ None
  few : length (speech bs) ≤ 330
  signed : unsigned_in (speech bs) ≡ None

first_none : {A : Type 0} (a b : Option A) → option_or a b ≡ None → a ≡ None
first_none None b e = refl
first_none (Some x) b e = cc

second_none : {A : Type 0} (a b : Option A) → option_or a b ≡ None → b ≡ None
second_none None b e = e
second_none (Some x) b e = cc

map_none : {A B : Type 0} (f : A → B) (o : Option A) → option_map f o ≡ None → o ≡ None
map_none f None e = refl
map_none f (Some x) e = cc

fine_here : (place : ℕ) (b : Block) (bs : List Block) → IsFine place (b ∷ bs) → b.payload_type ≡ 3 → IsPayload b.octets
fine_here place b bs fine full =
    let front = front_is b place bs fine.whole full in
    let size : length (speech (b ∷ bs)) ≡ length b.octets + length (speech bs) = ap length front.speech ∙ length-append b.octets (speech bs) in
    let both = sym (in_both b.octets (speech bs) front.whole) ∙ ap unsigned_in (sym front.speech) ∙ fine.signed in
    payload_if b.octets front.whole (omega (arith, fine.few, size)) (first_none (unsigned_in b.octets) (after (length b.octets / 33) (unsigned_in (speech bs))) both)

fine_behind : (place : ℕ) (b : Block) (bs : List Block) → IsFine place (b ∷ bs) → IsFine (place + 1) bs
fine_behind place b bs fine =
    elim (eqb b.payload_type 3) as (λ (t : Bool). eqb b.payload_type 3 ≡ t → IsFine (place + 1) bs) [
      | true ↦ λ is.
          let front = front_is b place bs fine.whole (eqb-true b.payload_type 3 is) in
          let size : length (speech (b ∷ bs)) ≡ length b.octets + length (speech bs) = ap length front.speech ∙ length-append b.octets (speech bs) in
          let both = sym (in_both b.octets (speech bs) front.whole) ∙ ap unsigned_in (sym front.speech) ∙ fine.signed in
          record {
            whole = front.rest;
            few = omega (arith, fine.few, size);
            signed = map_none (λ i. length b.octets / 33 + i) (unsigned_in (speech bs)) (second_none (unsigned_in b.octets) (after (length b.octets / 33) (unsigned_in (speech bs))) both);
          }
      | false ↦ λ other.
          let passed : speech (b ∷ bs) ≡ speech bs = ap (λ (t : Bool). cond t (b.octets ++ speech bs) (speech bs)) other in
          record {
            whole = sym (ap (λ (t : Bool). cond (t && not (eqb (length b.octets % 33) 0)) (Some place) (first_broken (place + 1) bs)) other) ∙ fine.whole;
            few = rw (sym passed) fine.few;
            signed = ap unsigned_in (sym passed) ∙ fine.signed;
          }
    ] refl

each_fine : (place : ℕ) (bs : List Block) → IsFine place bs → (i : ℕ) (b : Block) → slice_get bs i ≡ Some b → b.payload_type ≡ 3 → IsPayload b.octets
each_fine place [] fine i b at full = absurd (apart b at)
  where
    apart : (b : Block) → None ≡ Some b → ⊥
    apart b e = cc
each_fine place (x ∷ xs) fine zero b at full =
    let same : x ≡ b = is x b at in
    rw (← same) (fine_here place x xs fine (ap (λ (y : Block). y.payload_type) same ∙ full))
  where
    is : (x b : Block) → Some x ≡ Some b → x ≡ b
    is x b e = cc
each_fine place (x ∷ xs) fine (suc i) b at full = each_fine (place + 1) xs (fine_behind place x xs fine) i b at full

not_many : (b : Bool) (rest : Option RedFault) → cond b (Some fault.TooMany) rest ≡ None → b ≡ false
not_many true rest e = cc
not_many false rest e = refl

then : (b : Bool) (rest : Option RedFault) → cond b (Some fault.TooMany) rest ≡ None → rest ≡ None
then true rest e = cc
then false rest e = e

pub have_frames : (bs : List Block) → blocks_fault bs ≡ None → HaveFrames bs
have_frames bs none =
    let broken : option_map fault.Length (first_broken 0 bs) ≡ None = first_none _ (frames_fault (speech bs)) none in
    let frames : frames_fault (speech bs) ≡ None = second_none (option_map fault.Length (first_broken 0 bs)) _ none in
    let rest : Option RedFault = option_map fault.Signature (unsigned_in (speech bs)) in
    let few : length (speech bs) ≤ 330 = ltb-false 330 _ (not_many (ltb 330 (length (speech bs))) rest frames) in
    record {
      each = each_fine 0 bs (record {
        whole = map_none fault.Length (first_broken 0 bs) broken;
        few = few;
        signed = map_none fault.Signature (unsigned_in (speech bs)) (then (ltb 330 (length (speech bs))) rest frames);
      });
      few = few;
    }

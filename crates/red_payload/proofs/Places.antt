-- Walking to a place of a list.
use Rattle.std.proofs.Common.{◌≡◌, ℕ, zero, suc, ◌+◌, ◌<◌, ◌≤◌, List, [], ◌∷◌, length, drop, slice_get, Option, Some, None, IfNone, IfSome, refl, sym, ap, ◌∙◌, arith}
use Rattle.std.specs.Option.{IsSome}
use Rattle.rtp_codec.specs.Packets.{IsPayload}
use Rattle.red_payload.specs.declared.block.RedBlock.{RedBlock}
use Rattle.red_payload.specs.Blocks.{Block, HaveFrames, seen}

nil_cons : {C : Type 0} (b : Block) (bs : List Block) → [] ≡ b ∷ bs → C
nil_cons b bs e = absurd (apart b bs e)
  where
    apart : (b : Block) (bs : List Block) → [] ≡ b ∷ bs → ⊥
    apart b bs e = cc

same_front : (a b : Block) (xs bs : List Block) → a ∷ xs ≡ b ∷ bs → Some a ≡ Some b
same_front a b xs bs e = cc

same_tail : (a b : Block) (xs bs : List Block) → a ∷ xs ≡ b ∷ bs → xs ≡ bs
same_tail a b xs bs e = cc

drop_tail : (k : ℕ) (bs rest : List Block) (b : Block) → drop k bs ≡ b ∷ rest → drop (suc k) bs ≡ rest
drop_tail zero [] rest b e = nil_cons b rest e
drop_tail zero (x ∷ xs) rest b e = same_tail x b xs rest e
drop_tail (suc k) [] rest b e = nil_cons b rest e
drop_tail (suc k) (x ∷ xs) rest b e = drop_tail k xs rest b e

get_front : (k : ℕ) (bs rest : List Block) (b : Block) → drop k bs ≡ b ∷ rest → slice_get bs k ≡ Some b
get_front zero [] rest b e = nil_cons b rest e
get_front zero (x ∷ xs) rest b e = same_front x b xs rest e
get_front (suc k) [] rest b e = nil_cons b rest e
get_front (suc k) (x ∷ xs) rest b e = get_front k xs rest b e

some_left : {C : Type 0} (k : ℕ) (bs : List Block) → k < length bs → drop k bs ≡ [] → C
some_left zero [] below e = absurd (omega arith)
some_left zero (x ∷ xs) below e = nil_cons x xs (sym e)
some_left (suc k) [] below e = absurd (omega arith)
some_left (suc k) (x ∷ xs) below e = some_left k xs (omega arith) e

-- a call of `next_block` before the last block
pub walks_on : (r : Option RedBlock) (bs old new : List Block) (k : ℕ) → old ≡ drop k bs → k < length bs → IfNone r (old ≡ []) → IfSome r (λ b. old ≡ seen b ∷ new) → new ≡ drop (k + 1) bs
walks_on None bs old new k at below none some = some_left k bs below (sym at ∙ none)
walks_on (Some b) bs old new k at below none some =
    let next : k + 1 ≡ suc k = omega arith in
    rw next (sym (drop_tail k bs new (seen b) (sym at ∙ some)))

at_end : (bs old : List Block) (k i : ℕ) → old ≡ drop k bs → i ≤ k → k ≤ i → drop i bs ≡ old
at_end bs old k i at low high =
    let e : i ≡ k = omega arith in
    ap (λ (j : ℕ). drop j bs) e ∙ sym at

pub is_there : (r : Option RedBlock) (bs old : List Block) (k i : ℕ) → old ≡ drop k bs → i ≤ k → k ≤ i → i < length bs → IfNone r (old ≡ []) → IsSome r
is_there None bs old k i at low high below none = some_left i bs below (at_end bs old k i at low high ∙ none)
is_there (Some b) bs old k i at low high below none = refl

pub is_here : (r : Option RedBlock) (b : RedBlock) (bs old new : List Block) (k i : ℕ) → r ≡ Some b → old ≡ drop k bs → i ≤ k → k ≤ i → IfSome r (λ b. old ≡ seen b ∷ new) → slice_get bs i ≡ Some (seen b)
is_here None b bs old new k i e at low high some = absurd (apart b e)
  where
    apart : (b : RedBlock) → None ≡ Some b → ⊥
    apart b e = cc
is_here (Some a) b bs old new k i e at low high some =
    get_front i bs new (seen a) (at_end bs old k i at low high ∙ some) ∙ ap (λ (x : RedBlock). Some (seen x)) (same a b e)
  where
    same : (a b : RedBlock) → Some a ≡ Some b → a ≡ b
    same a b e = cc

pub has_frames : (bs cs : List Block) (i : ℕ) (b : RedBlock) → HaveFrames bs → bs ≡ cs → slice_get cs i ≡ Some (seen b) → b.payload_type ≡ 3 → IsPayload b.octets.now
has_frames bs cs i b have e here full = have.each i (seen b) (rw e here) full

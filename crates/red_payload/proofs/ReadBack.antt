-- What blocks spell, read again.
use Rattle.std.proofs.Common.{◌≡◌, ℕ, suc, ◌+◌, ◌*◌, ◌/◌, ◌%◌, ◌^◌, ◌<◌, ◌≤◌, List, [], ◌∷◌, ◌++◌, length, length-append, Some, option_map, refl, sym, ap, append-nil, ◌∙◌, arith}
use Rattle.std.proofs.lemmas.Bool.{le-ltb, cond-false}
use Rattle.std.proofs.lemmas.List.{take_at, drop_at}
use Rattle.byteorder.specs.Endian.{big_bytes, big_number}
use Rattle.byteorder.specs.Numbers.{big_number-reads_back}
use Rattle.red_payload.specs.Blocks.{Older, Heads, Block, blocks_behind, blocks_from, fault_of_heads, headers, older_of, total, with_older}
use Rattle.red_payload.specs.Spelling.{AreBlocks, AreReadBack, heads_text, octets_text, older_text, spelled}
use Rattle.red_payload.proofs.Splitting.{last_told}
use Rattle.red_payload.proofs.Walking.{headers_on}

abbrev older_for : Block → Older
older_for b = record { payload_type = b.payload_type; offset = b.offset; size = length b.octets }

-- the headers that blocks are read by
abbrev heads_for : List Block → List ℕ → Heads
heads_for [] behind = record { older = []; primary = 0; behind = behind }
heads_for (b ∷ []) behind = record { older = []; primary = b.payload_type; behind = behind }
heads_for (b ∷ c ∷ bs) behind = with_older (older_for b) (heads_for (c ∷ bs) behind)

same_older : (t t2 o o2 n n2 : ℕ) → t ≡ t2 → o ≡ o2 → n ≡ n2 → ◌≡◌ {A = Older} (record { payload_type = t; offset = o; size = n }) (record { payload_type = t2; offset = o2; size = n2 })
same_older t t2 o o2 n n2 e f g = cc

older_again : (b : Block) (rest : List ℕ) → b.payload_type < 128 → b.offset < 2 ^ 14 → length b.octets < 2 ^ 10 → older_of (older_text b ++ rest) ≡ older_for b
older_again b rest kind below size =
    let word : big_number 3 (big_bytes 3 (1024 * b.offset + length b.octets) ++ rest) ≡ 1024 * b.offset + length b.octets =
    big_number-reads_back 3 (1024 * b.offset + length b.octets) rest (omega arith) in
    same_older _ _ _ _ _ _ (omega arith) (ap (λ (w : ℕ). w / 1024) word ∙ high b.offset (length b.octets) size) (ap (λ (w : ℕ). w % 1024) word ∙ low b.offset (length b.octets) size)
  where
    high : (offset n : ℕ) → n < 1024 → (1024 * offset + n) / 1024 ≡ offset
    high offset n h = omega arith

    low : (offset n : ℕ) → n < 1024 → (1024 * offset + n) % 1024 ≡ n
    low offset n h = omega arith

heads_again : (bs : List Block) (behind : List ℕ) → AreBlocks bs → headers (heads_text bs ++ behind) ≡ Some (heads_for bs behind)
heads_again [] behind are = absurd are
heads_again (b ∷ []) behind are = last_told (b.payload_type ∷ behind) (λ e. apart (length behind) e) are.0
  where
    apart : (n : ℕ) → suc n ≡ 0 → ⊥
    apart n e = omega arith
heads_again (b ∷ c ∷ bs) behind are =
    headers_on _ _ _ _ (heads_text (c ∷ bs) ++ behind) (omega arith)
    ∙ ap (λ (o : Older). option_map (with_older o) (headers (heads_text (c ∷ bs) ++ behind))) (older_again b (heads_text (c ∷ bs) ++ behind) are.0 are.1 are.2)
    ∙ ap (option_map (with_older (older_for b))) (heads_again (c ∷ bs) behind are.3)

same_blocks : (t t2 o o2 : ℕ) (xs xs2 : List ℕ) (bs cs : List Block) → t ≡ t2 → o ≡ o2 → xs ≡ xs2 → bs ≡ cs
    → ◌≡◌ {A = List Block} (record { payload_type = t; offset = o; octets = xs } ∷ bs) (record { payload_type = t2; offset = o2; octets = xs2 } ∷ cs)
same_blocks t t2 o o2 xs xs2 bs cs e f g h = cc

blocks_again : (bs : List Block) (behind : List ℕ) → AreBlocks bs → blocks_from (heads_for bs behind).older (heads_for bs behind).primary (octets_text bs) ≡ bs
blocks_again [] behind are = absurd are
blocks_again (b ∷ []) behind are = same_blocks b.payload_type b.payload_type 0 b.offset (b.octets ++ []) b.octets [] [] refl (sym are.1) (append-nil b.octets) refl
blocks_again (b ∷ c ∷ bs) behind are =
    same_blocks b.payload_type b.payload_type b.offset b.offset _ b.octets _ (c ∷ bs) refl refl (take_at b.octets (octets_text (c ∷ bs)) (length b.octets) refl)
    (ap (blocks_from (heads_for (c ∷ bs) behind).older (heads_for (c ∷ bs) behind).primary) (drop_at b.octets (octets_text (c ∷ bs)) (length b.octets) refl)
    ∙ blocks_again (c ∷ bs) behind are.3)

fits_again : (bs : List Block) (behind : List ℕ) → total (heads_for bs behind).older ≤ length (octets_text bs)
fits_again [] behind = omega arith
fits_again (b ∷ []) behind = omega arith
fits_again (b ∷ c ∷ bs) behind = omega (arith, fits_again (c ∷ bs) behind, length-append b.octets (octets_text (c ∷ bs)))

behind_again : (bs : List Block) (behind : List ℕ) → (heads_for bs behind).behind ≡ behind
behind_again [] behind = refl
behind_again (b ∷ []) behind = refl
behind_again (b ∷ c ∷ bs) behind = behind_again (c ∷ bs) behind

pub are_read_back : AreReadBack
are_read_back bs are =
    let octets : List ℕ = octets_text bs in
    let h : Heads = heads_for bs octets in
    let is : headers (spelled bs) ≡ Some h = heads_again bs octets are in
    let size : length h.behind ≡ length octets = ap length (behind_again bs octets) in (
      ap fault_of_heads is ∙ cond-false _ _ _ (le-ltb (length h.behind) (total h.older) (rw size (fits_again bs octets))),
      ap blocks_behind is ∙ ap (blocks_from h.older h.primary) (behind_again bs octets) ∙ blocks_again bs octets are,
    )

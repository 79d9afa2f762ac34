-- The octets that blocks are spelled by.
use Rattle.std.specs.Prelude.{◌≡◌, ℕ, ◌+◌, ◌*◌, ◌^◌, ◌<◌, List, [], ◌∷◌, ◌++◌, length, None}
use Rattle.std.specs.List.{AllByRecursion}
use Rattle.byteorder.specs.Endian.{big_bytes}
use Rattle.red_payload.specs.Blocks.{Block, blocks_of, header_fault}

abbrev pub older_text : Block → List ℕ
older_text b = (128 + b.payload_type) ∷ big_bytes 3 (1024 * b.offset + length b.octets)

-- the last block is the primary one
abbrev pub heads_text : List Block → List ℕ
heads_text [] = []
heads_text (b ∷ []) = b.payload_type ∷ []
heads_text (b ∷ c ∷ bs) = older_text b ++ heads_text (c ∷ bs)

abbrev pub octets_text : List Block → List ℕ
octets_text [] = []
octets_text (b ∷ bs) = b.octets ++ octets_text bs

abbrev pub spelled : List Block → List ℕ
spelled bs = heads_text bs ++ octets_text bs

abbrev pub AreOctets : List ℕ → Type 0
AreOctets xs = AllByRecursion (λ o. o < 256) xs

-- no octet of a payload is lost or read twice
abbrev pub AreSpelled : Type 0
AreSpelled = (payload : List ℕ) → AreOctets payload → header_fault payload ≡ None → payload ≡ spelled (blocks_of payload)

-- what has a spelling: the primary block is the last, and the others fit their headers
abbrev pub AreBlocks : List Block → Type 0
AreBlocks [] = ⊥
AreBlocks (b ∷ []) = (b.payload_type < 128) × (b.offset ≡ 0)
AreBlocks (b ∷ c ∷ bs) = (b.payload_type < 128) × (b.offset < 2 ^ 14) × (length b.octets < 2 ^ 10) × AreBlocks (c ∷ bs)

-- what is spelled so is read as these blocks
abbrev pub AreReadBack : Type 0
AreReadBack = (bs : List Block) → AreBlocks bs → (header_fault (spelled bs) ≡ None) × (blocks_of (spelled bs) ≡ bs)

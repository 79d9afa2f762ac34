-- What is heard of a list goes on with an item at its end.
use Rattle.std.proofs.Common.{◌≡◌, ℕ, ◌*◌, ◌≤◌, ℤ, pos, List, [], ◌∷◌, ◌++◌, length, take, drop, replicate, refl, sym, ◌∙◌, ap, arith, append_assoc, length-drop}
use Rattle.std.proofs.lemmas.List.{append-nil, take-append-le, drop-append-le, take_all}
use Rattle.frame_codec.specs.Frame.{Fields}
use Rattle.substitution.specs.declared.heard.Heard.{Heard}
use Rattle.substitution.specs.declared.heard.Heard.TheVariants.{Nothing, Speech}
use Rattle.substitution.specs.Heard.{spoken, laid_out, Sounding, Voices}
use Rattle.substitution.specs.Masking.{Masks, Kept as MaskKept}
use Rattle.fr_decoder.specs.Decoding.{Decodes, Kept as DecoderKept}
use Rattle.frame_codec.specs.declared.item.Item.{Item}

spoken-nothing : (heard : List Heard) → spoken (heard ++ Nothing ∷ []) ≡ spoken heard
spoken-nothing [] = refl
spoken-nothing (Nothing ∷ heard) = spoken-nothing heard
spoken-nothing (Speech p ∷ heard) = ap (λ (ps : List Fields). p ∷ ps) (spoken-nothing heard)

spoken-speech : (heard : List Heard) (q : Fields) → spoken (heard ++ Speech q ∷ []) ≡ spoken heard ++ q ∷ []
spoken-speech [] q = refl
spoken-speech (Nothing ∷ heard) q = spoken-speech heard q
spoken-speech (Speech p ∷ heard) q = ap (λ (ps : List Fields). p ∷ ps) (spoken-speech heard q)

laid_out-nothing : (heard : List Heard) (speech : List ℤ) → laid_out (heard ++ Nothing ∷ []) speech ≡ laid_out heard speech ++ replicate 160 (pos 0)
laid_out-nothing [] speech = append-nil (replicate 160 (pos 0))
laid_out-nothing (Nothing ∷ heard) speech =
    ap (λ (rest : List ℤ). replicate 160 (pos 0) ++ rest) (laid_out-nothing heard speech) ∙ sym (append_assoc (replicate 160 (pos 0)) (laid_out heard speech) (replicate 160 (pos 0)))
laid_out-nothing (Speech p ∷ heard) speech =
    ap (λ (rest : List ℤ). take 160 speech ++ rest) (laid_out-nothing heard (drop 160 speech)) ∙ sym (append_assoc (take 160 speech) (laid_out heard (drop 160 speech)) (replicate 160 (pos 0)))

laid_out-speech : (heard : List Heard) (q : Fields) (speech out : List ℤ) → length speech ≡ 160 * length (spoken heard) → length out ≡ 160
    → laid_out (heard ++ Speech q ∷ []) (speech ++ out) ≡ laid_out heard speech ++ out
laid_out-speech [] q [] out size block = append-nil (take 160 out) ∙ take_all 160 out (omega (arith, block))
laid_out-speech [] q (x ∷ speech) out size block = absurd (omega (arith, size))
laid_out-speech (Nothing ∷ heard) q speech out size block =
    ap (λ (rest : List ℤ). replicate 160 (pos 0) ++ rest) (laid_out-speech heard q speech out size block)
    ∙ sym (append_assoc (replicate 160 (pos 0)) (laid_out heard speech) out)
laid_out-speech (Speech p ∷ heard) q speech out size block =
    let long : 160 ≤ length speech = omega (arith, size) in
    let left : length (drop 160 speech) ≡ 160 * length (spoken heard) = omega (arith, size, length-drop 160 speech) in
    rw (take-append-le 160 speech out long, drop-append-le 160 speech out long)
    (ap (λ (rest : List ℤ). take 160 speech ++ rest) (laid_out-speech heard q (drop 160 speech) out left block)
    ∙ sym (append_assoc (take 160 speech) (laid_out heard (drop 160 speech)) out))

-- nothing was decoded for the next item
pub Voices-nothing : (seed : List ℕ) (items : List Item) (samples out : List ℤ) (old : Sounding) (item : Item) (masker : MaskKept) (before : Voices seed items samples old)
    → Masks seed (items ++ item ∷ []) (before.heard.heard ++ Nothing ∷ []) masker → out ≡ replicate 160 (pos 0)
    → Voices seed (items ++ item ∷ []) (samples ++ out) (record { masker = masker; decoder = old.decoder })
Voices-nothing seed items samples out old item masker before masks zeros = record {
  heard = record {
    heard = before.heard.heard ++ Nothing ∷ [];
    masking = masks.masking;
    speech = before.heard.speech;
    decoded = rw (spoken-nothing before.heard.heard) before.heard.decoded;
    laid = ap (λ (s : List ℤ). s ++ out) before.heard.laid ∙ ap (λ (o : List ℤ). laid_out before.heard.heard before.heard.speech ++ o) zeros
        ∙ sym (laid_out-nothing before.heard.heard before.heard.speech);
  };
  masks = masks;
  decodes = rw (spoken-nothing before.heard.heard) before.decodes;
}

-- fields were decoded for the next item
pub Voices-speech : (seed : List ℕ) (items : List Item) (samples out : List ℤ) (old new : Sounding) (item : Item) (p : Fields) (before : Voices seed items samples old)
    → Masks seed (items ++ item ∷ []) (before.heard.heard ++ Speech p ∷ []) new.masker → length out ≡ 160
    → Decodes (spoken before.heard.heard ++ p ∷ []) (before.heard.speech ++ out) new.decoder → Voices seed (items ++ item ∷ []) (samples ++ out) new
Voices-speech seed items samples out old new item p before masks block decodes = record {
  heard = record {
    heard = before.heard.heard ++ Speech p ∷ [];
    masking = masks.masking;
    speech = before.heard.speech ++ out;
    decoded = rw (spoken-speech before.heard.heard p) decodes.speech;
    laid = ap (λ (s : List ℤ). s ++ out) before.heard.laid ∙ sym (laid_out-speech before.heard.heard p before.heard.speech out before.heard.decoded.count block);
  };
  masks = masks;
  decodes = rw (spoken-speech before.heard.heard p) decodes;
}

pub Voices-start : (seed : List ℕ) (masker : MaskKept) (decoder : DecoderKept) → Masks seed [] [] masker → Decodes [] [] decoder → Voices seed [] [] (record { masker = masker; decoder = decoder })
Voices-start seed masker decoder masks decodes = record {
  heard = record { heard = []; masking = masks.masking; speech = []; decoded = decodes.speech; laid = refl };
  masks = masks;
  decodes = decodes;
}

-- What the loop over frames keeps.
use Rattle.std.proofs.Common.{◌≡◌, ℕ, ◌+◌, ◌≤◌, ◌<◌, List, [], ◌∷◌, ◌++◌, length, take, drop, Option, Some, None, Err, sym, ap, subst, ◌∙◌, append_assoc, append-nil, length-append, arith}
use Rattle.std.specs.Prelude.{ℤ, IfSome}
use Rattle.std.specs.List.{AllByRecursion}
use Rattle.std.specs.Int.{w16, cast_unsigned}
use Rattle.byteorder.specs.Endian.{little_bytes}
use Rattle.std.specs.Io.KnownBytes.{Appends, Consumes, IsAtEnd}
use Rattle.std.proofs.lemmas.List.{take_at, drop_at}
use Rattle.std.proofs.lemmas.List.Concat.{flat_map-append}
use Rattle.std.proofs.KnownBytes.{Consumes-trans, Appends-trans}
use Rattle.gate_io.specs.Flow.{AppendsPart}
use Rattle.gate_io.specs.FlowLaws.{AppendsPart-after}
use Rattle.frame_codec.specs.Frame.{Fields, IsWithinWidths, Spells}
use Rattle.frame_codec.specs.Octets.{IsFrame}
use Rattle.fr_decoder.specs.Decoding.{Decodes, Kept}
use Rattle.recorder.specs.declared.fault.RecordFault.{RecordFault}
use Rattle.speech_files.specs.Decode.{AreSpelled, BeginsWith, IsDecoded, coded, frame_fault, frame_limit}
use Rattle.speech_files.specs.DecodeRuns.{HasDecoded}
use Rattle.speech_files.proofs.FrameFaults.{frame-clear}
use Rattle.substitution.specs.Heard.{sample_octets}
use Rattle.gate_notes.specs.declared.stop.Stop.TheVariants.{WriteFault}

-- these frames were read and decoded
pub record Decoding (count : ℕ) (decoder : Kept) (input left before now : Option (List ℕ)) (frames : List (List ℕ)) (fields : List Fields) (samples : List ℤ) : Type 0 where
  pub whole : AllByRecursion IsFrame frames
  pub few : length frames ≤ frame_limit
  pub counted : count ≡ length frames
  pub spelled : AreSpelled frames fields
  pub decodes : Decodes fields samples decoder
  pub taken : Consumes input left (coded frames)
  pub given : Appends before now (sample_octets samples)

pub coded-more : (frames : List (List ℕ)) (frame : List ℕ) → coded (frames ++ frame ∷ []) ≡ coded frames ++ frame
coded-more frames frame = flat_map-append (λ (f : List ℕ). f) frames (frame ∷ []) ∙ ap (λ (l : List ℕ). coded frames ++ l) (append-nil frame)

pub whole-more : (frames : List (List ℕ)) (frame : List ℕ) → AllByRecursion IsFrame frames → IsFrame frame → AllByRecursion IsFrame (frames ++ frame ∷ [])
whole-more [] frame all is = (is, tt)
whole-more (f ∷ frames) frame all is = (all.0, whole-more frames frame all.1 is)

pub spelled-more : (frames : List (List ℕ)) (fields : List Fields) (frame : List ℕ) (p : Fields) → AreSpelled frames fields → Spells frame p → IsWithinWidths p → AreSpelled (frames ++ frame ∷ []) (fields ++ p ∷ [])
spelled-more [] [] frame p all spells within = (spells, within, tt)
spelled-more (f ∷ frames) (q ∷ fields) frame p all spells within = (all.0, all.1, spelled-more frames fields frame p all.2 spells within)
spelled-more [] (q ∷ fields) frame p all spells within = absurd all
spelled-more (f ∷ frames) [] frame p all spells within = absurd all

module _ (count : ℕ) (decoder decoder' : Kept) (input left left' before given given' : Option (List ℕ)) (frames : List (List ℕ)) (fields : List Fields) (samples : List ℤ) (frame : List ℕ) (p : Fields) (speech : List ℤ)
    (s : Decoding count decoder input left before given frames fields samples) (is : IsFrame frame) (few : count < frame_limit) (taken : Consumes left left' frame)
    (spells : Spells frame p) (within : IsWithinWidths p) (decodes : Decodes (fields ++ p ∷ []) (samples ++ speech) decoder') where
  more-few : length (frames ++ frame ∷ []) ≤ frame_limit
  more-few = omega (arith, length-append frames (frame ∷ []), s.counted)

  more-taken : Consumes input left' (coded (frames ++ frame ∷ []))
  more-taken = subst (Consumes input left') (sym (coded-more frames frame)) (Consumes-trans input left left' (coded frames) frame s.taken taken)

  pub decoding-more : Appends given given' (sample_octets speech) → Decoding (count + 1) decoder' input left' before given' (frames ++ frame ∷ []) (fields ++ p ∷ []) (samples ++ speech)
  decoding-more gave = record {
    whole = whole-more frames frame s.whole is;
    few = more-few;
    counted = omega (arith, s.counted, length-append frames (frame ∷ []));
    spelled = spelled-more frames fields frame p s.spelled spells within;
    decodes = decodes;
    taken = more-taken;
    given = subst (Appends before given') (sym (flat_map-append (λ (x : ℤ). little_bytes 2 (cast_unsigned w16 x)) samples speech)) (Appends-trans before given given' (sample_octets samples) (sample_octets speech) s.given gave);
  }

  pub decoding-broken : AppendsPart given given' (sample_octets speech) → HasDecoded (Err WriteFault) input before given' (frames ++ frame ∷ []) (samples ++ speech)
  decoding-broken gave = record {
    decoded = record { fields = fields ++ p ∷ []; whole = whole-more frames frame s.whole is; few = more-few; spelled = spelled-more frames fields frame p s.spelled spells within; speech = decodes.speech };
    text = begun input left' (coded (frames ++ frame ∷ [])) more-taken;
    given = subst (AppendsPart before given') (sym (flat_map-append (λ (x : ℤ). little_bytes 2 (cast_unsigned w16 x)) samples speech)) (AppendsPart-after before given given' (sample_octets samples) (sample_octets speech) s.given gave);
    counted = tt;
  }
    where
      begun : (a b : Option (List ℕ)) (bs : List ℕ) → Consumes a b bs → IfSome a (λ octets. (rest : List ℕ) × (octets ≡ bs ++ rest) × Unit {0})
      begun None b bs q = tt
      begun (Some x) None bs q = absurd q
      begun (Some x) (Some y) bs q = (y, q, tt)

-- what is left of which P holds stands behind the frames
pub begins-with : (input left : Option (List ℕ)) (frames : List (List ℕ)) (P : List ℕ → Type 0) → Consumes input left (coded frames) → IfSome left P → IfSome input (BeginsWith frames P)
begins-with None left frames P p q = tt
begins-with (Some x) None frames P p q = absurd p
begins-with (Some x) (Some y) frames P p q = (y, p, q)

pub at-end : (left : Option (List ℕ)) → IsAtEnd left → IfSome left (λ rest. rest ≡ [])
at-end None end = tt
at-end (Some x) end = end

pub nothing-said : (left : Option (List ℕ)) → IfSome left (λ rest. Unit {0})
nothing-said None = tt
nothing-said (Some x) = tt

-- whole frames, not too many, have no fault
none_some : (f : RecordFault) (o : Option RecordFault) → o ≡ None → o ≡ Some f → ⊥
none_some f o p q = let h : None ≡ Some f = sym p ∙ q in absurd cc

pub no-frame-fault : (k : ℕ) (before frames : List (List ℕ)) (rest : List ℕ) (f : RecordFault) → AllByRecursion IsFrame before → AllByRecursion IsFrame frames
    → k + length frames ≤ frame_limit → coded before ++ rest ≡ coded frames → frame_fault (k + length before) (take 33 rest) ≡ Some f → ⊥
no-frame-fault k [] [] rest f whole whole' few same fault = none_some f (frame_fault (k + 0) (take 33 rest)) (ap (λ (l : List ℕ). frame_fault (k + 0) (take 33 l)) same) fault
no-frame-fault k [] (x ∷ frames) rest f whole whole' few same fault =
    none_some f (frame_fault (k + 0) (take 33 rest))
    (ap (λ (l : List ℕ). frame_fault (k + 0) (take 33 l)) same ∙ ap (frame_fault (k + 0)) (take_at x (coded frames) 33 whole'.0.size) ∙ frame-clear (k + 0) x (omega arith) whole'.0.size whole'.0.signature) fault
no-frame-fault k (b ∷ before) [] rest f whole whole' few same fault = let size = whole.0.size in absurd (omega (arith, ap length same, length-append (b ++ coded before) rest, length-append b (coded before)))
no-frame-fault k (b ∷ before) (x ∷ frames) rest f whole whole' few same fault =
    let regrouped : b ++ (coded before ++ rest) ≡ x ++ coded frames = sym (append_assoc b (coded before) rest) ∙ same in
    let behind : coded before ++ rest ≡ coded frames = sym (drop_at b (coded before ++ rest) 33 whole.0.size) ∙ ap (drop 33) regrouped ∙ drop_at x (coded frames) 33 whole'.0.size in
    no-frame-fault (k + 1) before frames rest f whole.1 whole'.1 (omega arith) behind (subst (λ (n : ℕ). frame_fault n (take 33 rest) ≡ Some f) (omega arith) fault)

-- the frames so far are decoded
pub is-decoded : (count : ℕ) (decoder : Kept) (input left before now : Option (List ℕ)) (frames : List (List ℕ)) (fields : List Fields) (samples : List ℤ) → Decoding count decoder input left before now frames fields samples → IsDecoded frames samples
is-decoded count decoder input left before now frames fields samples s = record { fields = fields; whole = s.whole; few = s.few; spelled = s.spelled; speech = s.decodes.speech }

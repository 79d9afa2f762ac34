-- An encoder stands behind one piece more.
use Rattle.std.proofs.Common.{◌≡◌, ℕ, ◌*◌, ◌<◌, ℤ, List, [], ◌∷◌, ◌++◌, length, refl, ◌∙◌, ap, arith, length-append, append_assoc}
use Rattle.std.specs.Prelude.{All, slice_index}
use Rattle.std.proofs.lemmas.List.{append-nil, map-append}
use Rattle.std.proofs.lemmas.List.Elements.{All-append, All-from_recursion, All-nil}
use Rattle.std.proofs.lemmas.Grind.{flat_map-append}
use Rattle.frame_codec.specs.declared.params.SubParams.{SubParams}
use Rattle.frame_codec.specs.Frame.{Fields, FitAll, lar_widths, IsWithinWidths}
use Rattle.rpe_ltp.specs.LongTerm.{Memory}
use Rattle.fr_encoder.specs.Fronting.{Fronts}
use Rattle.fr_encoder.specs.Excitation.{Excites}
use Rattle.fr_encoder.specs.Coding.{ratio_codes, sub_frames, IsCoded, Held, Holds, Encodes}

sub_frames-more : (frames : List Fields) (frame : Fields) → sub_frames (frames ++ frame ∷ []) ≡ sub_frames frames ++ frame.sub
sub_frames-more frames frame = flat_map-append (λ (f : Fields). f.sub) frames (frame ∷ []) ∙ ap (λ (subs : List SubParams). sub_frames frames ++ subs) (append-nil frame.sub)

ratio_codes-more : (frames : List Fields) (frame : Fields) → ratio_codes (frames ++ frame ∷ []) ≡ ratio_codes frames ++ frame.larc ∷ []
ratio_codes-more frames frame = map-append (λ (f : Fields). f.larc) frames (frame ∷ [])

-- the codes of the ratios are within their widths
pub larc_fit : (codes : List ℕ) → length codes ≡ 8 → (slice_index codes 0 < 64) × (slice_index codes 1 < 64) → (slice_index codes 2 < 32) × (slice_index codes 3 < 32)
    → (slice_index codes 4 < 16) × (slice_index codes 5 < 16) → (slice_index codes 6 < 8) × (slice_index codes 7 < 8) → FitAll lar_widths codes
larc_fit (a ∷ b ∷ c ∷ d ∷ e ∷ f ∷ g ∷ h ∷ []) size first second third fourth =
    (first.0, (first.1, (second.0, (second.1, (third.0, (third.1, (fourth.0, (fourth.1, tt))))))))
larc_fit (a ∷ b ∷ c ∷ d ∷ e ∷ f ∷ g ∷ h ∷ i ∷ rest) size first second third fourth = absurd (omega arith)
larc_fit (a ∷ b ∷ c ∷ d ∷ e ∷ f ∷ g ∷ []) size first second third fourth = absurd (omega arith)
larc_fit (a ∷ b ∷ c ∷ d ∷ e ∷ f ∷ []) size first second third fourth = absurd (omega arith)
larc_fit (a ∷ b ∷ c ∷ d ∷ e ∷ []) size first second third fourth = absurd (omega arith)
larc_fit (a ∷ b ∷ c ∷ d ∷ []) size first second third fourth = absurd (omega arith)
larc_fit (a ∷ b ∷ c ∷ []) size first second third fourth = absurd (omega arith)
larc_fit (a ∷ b ∷ []) size first second third fourth = absurd (omega arith)
larc_fit (a ∷ []) size first second third fourth = absurd (omega arith)
larc_fit [] size first second third fourth = absurd (omega arith)

-- four sub-frames, one after another, are those of the piece
pub Excites-four : (before d d0 d1 d2 d3 : List ℤ) (subs : List SubParams) (s0 s1 s2 s3 : SubParams) (memory : Memory) → d ≡ d0 ++ (d1 ++ (d2 ++ d3))
    → Excites ((((before ++ d0) ++ d1) ++ d2) ++ d3) ((((subs ++ s0 ∷ []) ++ s1 ∷ []) ++ s2 ∷ []) ++ s3 ∷ []) memory
    → Excites (before ++ d) (subs ++ s0 ∷ s1 ∷ s2 ∷ s3 ∷ []) memory
Excites-four before d d0 d1 d2 d3 subs s0 s1 s2 s3 memory whole all = rw whole (simp append_assoc at all)

IsCoded-of : (samples : List ℤ) (frames : List Fields) (held : Held) → All IsWithinWidths frames → length (sub_frames frames) ≡ 4 * length frames → Holds samples frames held → IsCoded samples frames
IsCoded-of samples frames held widths count holds = record {
  d = holds.d;
  dp = holds.excites.dp;
  widths = widths;
  count = count;
  short_term = holds.front.short_term;
  excitation = λ j inside. holds.excites.each j (omega (arith, count));
  long_term = holds.excites.remembers.solved;
}

pub Encodes-more : (samples piece d : List ℤ) (frames : List Fields) (frame : Fields) (old next : Held) (encodes : Encodes samples frames old) → IsWithinWidths frame
    → Fronts (samples ++ piece) (ratio_codes frames ++ frame.larc ∷ []) (encodes.carried.d ++ d) next.front
    → Excites (encodes.carried.d ++ d) (sub_frames frames ++ frame.sub) next.long_term
    → Encodes (samples ++ piece) (frames ++ frame ∷ []) next
Encodes-more samples piece d frames frame old next encodes within front excites =
    let holds : Holds (samples ++ piece) (frames ++ frame ∷ []) next = record {
      d = encodes.carried.d ++ d;
      front = rw (ratio_codes-more frames frame) front;
      excites = rw (sub_frames-more frames frame) excites;
    } in
    let widths : All IsWithinWidths (frames ++ frame ∷ []) = All-append IsWithinWidths frames (frame ∷ []) encodes.speech.widths (All-from_recursion IsWithinWidths (frame ∷ []) (within, tt)) in
    let count : length (sub_frames (frames ++ frame ∷ [])) ≡ 4 * length (frames ++ frame ∷ []) =
    ap length (sub_frames-more frames frame) ∙ (omega (arith, length-append (sub_frames frames) frame.sub, length-append frames (frame ∷ []), within.count, encodes.speech.count)) in
    record {
      speech = IsCoded-of (samples ++ piece) (frames ++ frame ∷ []) next widths count holds;
      carried = holds;
    }

pub Encodes-start : (held : Held) → Fronts [] [] [] held.front → Excites [] [] held.long_term → Encodes [] [] held
Encodes-start held front excites =
    let holds : Holds [] [] held = record { d = []; front = front; excites = excites } in
    record {
      speech = IsCoded-of [] [] held (All-nil IsWithinWidths) refl holds;
      carried = holds;
    }

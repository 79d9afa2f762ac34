-- One frame more: what was before stays, and the coefficients of the new one.
use Rattle.std.proofs.Common.{◌≡◌, ℕ, zero, suc, ◌+◌, ◌-◌, ◌*◌, ◌/◌, ◌%◌, ◌<◌, ◌≤◌, ℤ, List, [], ◌∷◌, ◌++◌, length, get_or, refl, sym, ◌∙◌, ap, arith, length-append}
use Rattle.std.proofs.lemmas.List.{get_or_append_left, get_or-append_right, append-nil}
use Rattle.std.proofs.lemmas.Grind.{get_or_head, flat_map-append}
use Rattle.fixed_arith.specs.Signal.{at, past}
use Rattle.frame_codec.specs.declared.params.SubParams.{SubParams}
use Rattle.frame_codec.specs.Frame.{Fields}
use Rattle.lar_filter.specs.Ratios.{ratios_of}
use Rattle.std.proofs.Common.{append_assoc}
use Rattle.rpe_ltp.specs.LongTerm.{Memory, Remembers}
use Rattle.fr_decoder.specs.Speech.{frame_at, sub_frames, ratio, coefficient}
use Rattle.lar_filter.specs.Parts.{frame_coefficient}
use Rattle.lar_filter.specs.PartLaws.{past_reached, past_before}

pub sub_frames-more : (frames : List Fields) (frame : Fields) → sub_frames (frames ++ frame ∷ []) ≡ sub_frames frames ++ frame.sub
sub_frames-more frames frame = flat_map-append (λ (f : Fields). f.sub) frames (frame ∷ []) ∙ ap (λ (subs : List SubParams). sub_frames frames ++ subs) (append-nil frame.sub)

frame_at-front : (frames : List Fields) (frame : Fields) (f : ℕ) → f < length frames → frame_at (frames ++ frame ∷ []) f ≡ frame_at frames f
frame_at-front frames frame f inside = get_or_append_left frames (frame ∷ []) _ f inside

frame_at-last : (frames : List Fields) (frame : Fields) → frame_at (frames ++ frame ∷ []) (length frames) ≡ frame
frame_at-last frames frame =
    get_or-append_right frames (frame ∷ []) (length frames) (length frames) _ refl (omega arith) ∙ get_or_head frame [] (length frames - length frames) _ (omega arith)

pub ratio-front : (frames : List Fields) (frame : Fields) (i f : ℕ) → f < length frames → ratio (frames ++ frame ∷ []) i f ≡ ratio frames i f
unfolding ratio
ratio-front frames frame i f inside = ap (λ (found : Fields). at (ratios_of found.larc) i) (frame_at-front frames frame f inside)

pub ratio-last : (frames : List Fields) (frame : Fields) (i : ℕ) → ratio (frames ++ frame ∷ []) i (length frames) ≡ at (ratios_of frame.larc) i
unfolding ratio
ratio-last frames frame i = ap (λ (found : Fields). at (ratios_of found.larc) i) (frame_at-last frames frame)

-- the ratio before a frame is that of the frames so far
pub ratio_before : (frames : List Fields) (frame : Fields) (i f : ℕ) → f ≤ length frames → past (ratio (frames ++ frame ∷ []) i) f 1 ≡ past (ratio frames i) f 1
ratio_before frames frame i zero inside = past_before (ratio (frames ++ frame ∷ []) i) 0 1 (omega arith) ∙ sym (past_before (ratio frames i) 0 1 (omega arith))
ratio_before frames frame i (suc f) inside =
    let here : suc f - 1 < length frames = omega arith in
    past_reached (ratio (frames ++ frame ∷ []) i) (suc f) 1 (omega arith) ∙ ratio-front frames frame i (suc f - 1) here ∙ sym (past_reached (ratio frames i) (suc f) 1 (omega arith))

pub coefficient-front : (frames : List Fields) (frame : Fields) (i t : ℕ) → t < 160 * length frames → coefficient (frames ++ frame ∷ []) i t ≡ coefficient frames i t
unfolding coefficient
coefficient-front frames frame i t inside =
    let here : t / 160 < length frames = omega arith in
    rw (ratio_before frames frame i (t / 160) (omega arith), ratio-front frames frame i (t / 160) here) refl

pub coefficient-last : (frames : List Fields) (frame : Fields) (before : List ℤ) (i k : ℕ) → k < 160 → at before i ≡ past (ratio frames i) (length frames) 1
    → frame_coefficient before (ratios_of frame.larc) i k ≡ coefficient (frames ++ frame ∷ []) i (160 * length frames + k)
unfolding coefficient
coefficient-last frames frame before i k small kept =
    let place : (160 * length frames + k) / 160 ≡ length frames = omega arith in
    let within : (160 * length frames + k) % 160 ≡ k = omega arith in
    rw (place, within, ratio_before frames frame i (length frames) (omega arith), ratio-last frames frame i, kept) refl

-- the ratio that is kept for the next frame
pub ratio-next : (frames : List Fields) (frame : Fields) (i : ℕ) → at (ratios_of frame.larc) i ≡ past (ratio (frames ++ frame ∷ []) i) (length (frames ++ frame ∷ [])) 1
ratio-next frames frame i =
    let total : length (frames ++ frame ∷ []) ≡ length frames + 1 = omega (arith, length-append frames (frame ∷ [])) in
    let place : length frames + 1 - 1 ≡ length frames = omega arith in
    sym (rw (total, past_reached (ratio (frames ++ frame ∷ []) i) (length frames + 1) 1 (omega arith), place) (ratio-last frames frame i))

-- four sub-frames, one after another, are the list of them
pub Remembers-four : (before subs : List SubParams) (d : SubParams) (values v0 v1 v2 v3 n0 n1 n2 n3 : List ℤ) (kept : Memory) → length subs ≡ 4 → n0 ≡ v0 → n1 ≡ v1 → n2 ≡ v2 → n3 ≡ v3
    → Remembers ((((before ++ get_or subs 0 d ∷ []) ++ get_or subs 1 d ∷ []) ++ get_or subs 2 d ∷ []) ++ get_or subs 3 d ∷ []) ((((values ++ v0) ++ v1) ++ v2) ++ v3) kept
    → Remembers (before ++ subs) (values ++ (n0 ++ (n1 ++ (n2 ++ n3)))) kept
Remembers-four before (s0 ∷ s1 ∷ s2 ∷ s3 ∷ []) d values v0 v1 v2 v3 n0 n1 n2 n3 kept size e0 e1 e2 e3 all = rw (e0, e1, e2, e3) (simp append_assoc at all)
Remembers-four before (s0 ∷ s1 ∷ s2 ∷ s3 ∷ s4 ∷ rest) d values v0 v1 v2 v3 n0 n1 n2 n3 kept size e0 e1 e2 e3 all = absurd (omega arith)
Remembers-four before (s0 ∷ s1 ∷ s2 ∷ []) d values v0 v1 v2 v3 n0 n1 n2 n3 kept size e0 e1 e2 e3 all = absurd (omega arith)
Remembers-four before (s0 ∷ s1 ∷ []) d values v0 v1 v2 v3 n0 n1 n2 n3 kept size e0 e1 e2 e3 all = absurd (omega arith)
Remembers-four before (s0 ∷ []) d values v0 v1 v2 v3 n0 n1 n2 n3 kept size e0 e1 e2 e3 all = absurd (omega arith)
Remembers-four before [] d values v0 v1 v2 v3 n0 n1 n2 n3 kept size e0 e1 e2 e3 all = absurd (omega arith)

-- A front stands behind one piece more.
use Rattle.std.proofs.Common.{◌≡◌, ℕ, ◌+◌, ◌*◌, ◌/◌, ◌%◌, ◌<◌, ℤ, pos, List, [], ◌∷◌, ◌++◌, length, replicate, refl, sym, ◌∙◌, ap, arith, length-append}
use Rattle.std.proofs.lemmas.List.{length-map}
use Rattle.fixed_arith.specs.Word.{shift_word_left}
use Rattle.fixed_arith.specs.Sums.{greatest_of}
use Rattle.fixed_arith.specs.Signal.{at, past}
use Rattle.lar_filter.specs.Ratios.{ratios_of}
use Rattle.lar_filter.specs.Rising.{RisesTo}
use Rattle.lar_filter.specs.RisingTrace.{RisesOver}
use Rattle.lar_filter.specs.Parts.{IsFed, frame_coefficient, PassesFrame}
use Rattle.lar_filter.specs.PartLaws.{IsFed-same, IsFed-append, past_before}
use Rattle.lar_filter.specs.Autocorrelation.{scale_of, scaled_word, scaled, onward}
use Rattle.fr_encoder.specs.Preprocessing.{Offset, at_rest, offset_after, preprocessed}
use Rattle.fr_encoder.specs.ShortTerm.{piece_at, codes_of_piece, codes_at, ratio, coefficient}
use Rattle.fr_encoder.specs.Fronting.{Kept, Carries, Fronts}
use Rattle.fr_encoder.proofs.PreprocessingLaws.{offset_after-none, offset_after-join, preprocessed-append}
use Rattle.fr_encoder.proofs.PieceLaws.{coded-more, onward-more, coefficient-front, coefficient-last, ratio-next}
use Rattle.fr_encoder.proofs.ShortTermLaws.{IsShortTerm-from_trace}

fed-more : (codes : List (List ℕ)) (code : List ℕ) (before values more : List ℤ) (inputs ins : List (List ℤ × ℤ)) → length values ≡ 160 * length codes → length more ≡ 160
    → ((i : ℕ) → i < 8 → at before i ≡ past (ratio codes i) (length codes) 1) → IsFed (coefficient codes) 0 values inputs → IsFed (frame_coefficient before (ratios_of code)) 0 more ins
    → IsFed (coefficient (codes ++ code ∷ [])) 0 (values ++ more) (inputs ++ ins)
fed-more codes code before values more inputs ins size count kept old new =
    IsFed-append (coefficient (codes ++ code ∷ [])) 0 values more inputs ins
    (IsFed-same (coefficient codes) (coefficient (codes ++ code ∷ [])) 0 0 values inputs old
    (λ i k small inside. sym (coefficient-front codes code i (0 + k) (omega (arith, size)))))
    (IsFed-same (frame_coefficient before (ratios_of code)) (coefficient (codes ++ code ∷ [])) 0 (0 + length values) more ins new
    (λ i k small inside.
    let place : 160 * length codes + k ≡ 0 + length values + k = omega (arith, size) in
    let from : 0 + k ≡ k = omega arith in
    ap (frame_coefficient before (ratios_of code) i) from
    ∙ coefficient-last codes code before i k (omega (arith, count)) (kept i small)
    ∙ ap (coefficient (codes ++ code ∷ []) i) place))

length-onward : (xs : List ℤ) → length (onward xs) ≡ length xs
length-onward xs =
    length-map (scaled xs) (λ x. shift_word_left x (scale_of (greatest_of xs))) ∙ length-map xs (scaled_word (scale_of (greatest_of xs)))

pub Fronts-more : (samples : List ℤ) (codes : List (List ℕ)) (residual : List ℤ) (old next : Kept) (carried : Carries samples codes residual old) (piece ys : List ℤ) (code : List ℕ) (out : List ℤ)
    → length piece ≡ 160 → length ys ≡ 160 → length out ≡ 160
    → next.offset ≡ offset_after old.offset piece 160 → ((k : ℕ) → k < 160 → at ys k ≡ preprocessed old.offset piece k)
    → code ≡ codes_of_piece ys
    → PassesFrame RisesTo RisesOver old.ratios (ratios_of code) (onward ys) (replicate 8 (pos 0)) carried.inputs (residual ++ out) next.filter
    → next.ratios ≡ ratios_of code
    → Fronts (samples ++ piece) (codes ++ code ∷ []) (residual ++ out) next
Fronts-more samples codes residual old next carried piece ys code out piece_size ys_size out_size offset preprocessed_is code_is passes ratios =
    let pieces : length (codes ++ code ∷ []) ≡ length codes + 1 = omega (arith, length-append codes (code ∷ [])) in
    let total : 160 * length (codes ++ code ∷ []) ≡ 160 * length codes + 160 = omega (arith, pieces) in
    let whole : length (samples ++ piece) ≡ 160 * length (codes ++ code ∷ []) = omega (arith, length-append samples piece, carried.whole) in
    let size : length (carried.s ++ ys) ≡ 160 * length (codes ++ code ∷ []) = omega (arith, length-append carried.s ys, carried.size) in
    let onward_size : length (onward ys) ≡ 160 = length-onward ys ∙ ys_size in
    let values_size : length (carried.values ++ onward ys) ≡ 160 * length (codes ++ code ∷ []) = omega (arith, length-append carried.values (onward ys), carried.values_size, onward_size) in
    let count : length (residual ++ out) ≡ 160 * length (codes ++ code ∷ []) = omega (arith, length-append residual out, carried.count) in
    let emphasis : (t : ℕ) → t < 160 * length (codes ++ code ∷ []) → at (carried.s ++ ys) t ≡ preprocessed at_rest (samples ++ piece) t =
    λ t h. preprocessed-append at_rest old.offset samples piece carried.s ys (160 * length codes) carried.whole carried.size carried.offset carried.emphasis preprocessed_is t (omega arith) in
    let coded : (f : ℕ) → f < length (codes ++ code ∷ []) → codes_at (codes ++ code ∷ []) f ≡ codes_of_piece (piece_at (carried.s ++ ys) f) =
    λ f h. coded-more codes code carried.s ys carried.size ys_size code_is carried.coded f (omega arith) in
    let values_are : (t : ℕ) → t < 160 * length (codes ++ code ∷ []) → at (carried.values ++ onward ys) t ≡ at (onward (piece_at (carried.s ++ ys) (t / 160))) (t % 160) =
    λ t h. onward-more (length codes) carried.s ys carried.values (onward ys) carried.size ys_size carried.values_size refl carried.values_are t (omega arith) in
    let fed : IsFed (coefficient (codes ++ code ∷ [])) 0 (carried.values ++ onward ys) (carried.inputs ++ passes.more) =
    fed-more codes code old.ratios carried.values (onward ys) carried.inputs passes.more carried.values_size onward_size carried.ratios carried.fed passes.fed in
    let place : length samples + 160 ≡ 160 * length (codes ++ code ∷ []) = omega (arith, carried.whole) in
    record {
      short_term = IsShortTerm-from_trace (samples ++ piece) (codes ++ code ∷ []) (carried.s ++ ys) (carried.values ++ onward ys) (residual ++ out) next.filter (carried.inputs ++ passes.more)
          whole size emphasis coded values_size values_are fed passes.equations count;
      carried = record {
        s = carried.s ++ ys;
        values = carried.values ++ onward ys;
        inputs = carried.inputs ++ passes.more;
        whole = whole;
        size = size;
        offset = offset
            ∙ ap (λ (o : Offset). offset_after o piece 160) (carried.offset ∙ ap (offset_after at_rest samples) (sym carried.whole))
            ∙ sym (offset_after-join at_rest samples piece 160) ∙ ap (offset_after at_rest (samples ++ piece)) place;
        emphasis = emphasis;
        coded = coded;
        values_size = values_size;
        values_are = values_are;
        fed = fed;
        run = passes.run;
        ratios = λ i small. ap (λ (found : List ℤ). at found i) ratios ∙ ratio-next codes code i;
        count = count;
      };
    }

pub Fronts-start : (kept : Kept) → kept.offset ≡ at_rest → ((i : ℕ) → i < 8 → at kept.ratios i ≡ pos 0) → kept.filter ≡ replicate 8 (pos 0) → Fronts [] [] [] kept
Fronts-start kept offset ratios filter = record {
  short_term = record {
    so = λ t. pos 0;
    z = λ t. pos 0;
    mp = λ t. pos 0;
    s = [];
    d = λ i t. pos 0;
    w = λ i t. pos 0;
    whole = refl;
    downscaled = λ t h. absurd (omega arith);
    compensated = λ t h. absurd (omega arith);
    middle = λ t h. absurd (omega arith);
    size = refl;
    emphasis = λ t h. absurd (omega arith);
    coded = λ f h. absurd (omega arith);
    d_foot = λ t h. absurd (omega arith);
    w_foot = λ t h. absurd (omega arith);
    d_up = λ i t b h. absurd (omega arith);
    w_up = λ i t b h. absurd (omega arith);
    count = refl;
    output = λ t h. absurd (omega arith);
  };
  carried = record {
    s = [];
    values = [];
    inputs = [];
    whole = refl;
    size = refl;
    offset = offset ∙ sym (offset_after-none at_rest []);
    emphasis = λ t h. absurd (omega arith);
    coded = λ f h. absurd (omega arith);
    values_size = refl;
    values_are = λ t h. absurd (omega arith);
    fed = record { count = refl; coefficients = λ i k b h. absurd (omega arith); samples = λ k h. absurd (omega arith) };
    run = filter;
    ratios = λ i h. ratios i h ∙ sym (past_before (ratio [] i) 0 1 (omega arith));
    count = refl;
  };
}

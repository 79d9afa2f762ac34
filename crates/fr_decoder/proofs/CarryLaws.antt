-- A decoder stands behind one frame more.
use Rattle.std.proofs.Common.{◌≡◌, ℕ, ◌+◌, ◌-◌, ◌*◌, ◌<◌, ℤ, pos, List, [], ◌∷◌, ◌++◌, length, replicate, refl, sym, ◌∙◌, ap, arith, length-append, inl, inr}
use Rattle.std.proofs.lemmas.Bool.{cases_lt}
use Rattle.std.proofs.lemmas.List.{get_or_append_left, get_or-append_right}
use Rattle.fixed_arith.specs.Signal.{at, past}
use Rattle.frame_codec.specs.Frame.{Fields}
use Rattle.lar_filter.specs.Ratios.{ratios_of}
use Rattle.lar_filter.specs.Lattice.{StepsTo}
use Rattle.lar_filter.specs.Trace.{Traces}
use Rattle.lar_filter.specs.Parts.{IsFed, frame_coefficient, PassesFrame}
use Rattle.lar_filter.specs.PartLaws.{IsFed-same, IsFed-append, past_before}
use Rattle.rpe_ltp.specs.LongTerm.{Remembers}
use Rattle.fr_decoder.specs.Deemphasis.{emphasis_after, output_of}
use Rattle.fr_decoder.specs.Speech.{sub_frames, ratio, coefficient}
use Rattle.fr_decoder.specs.Decoding.{Kept, Carries, Decodes}
use Rattle.fr_decoder.proofs.DeemphasisLaws.{emphasis_after-none, emphasis_after-front, emphasis_after-join}
use Rattle.fr_decoder.proofs.FrameLaws.{sub_frames-more, coefficient-front, coefficient-last, ratio-next}
use Rattle.fr_decoder.proofs.SpeechLaws.{IsSpeech-from_trace}

fed-more : (frames : List Fields) (frame : Fields) (before residual more : List ℤ) (inputs ins : List (List ℤ × ℤ)) → length residual ≡ 160 * length frames → length more ≡ 160
    → ((i : ℕ) → i < 8 → at before i ≡ past (ratio frames i) (length frames) 1) → IsFed (coefficient frames) 0 residual inputs → IsFed (frame_coefficient before (ratios_of frame.larc)) 0 more ins
    → IsFed (coefficient (frames ++ frame ∷ [])) 0 (residual ++ more) (inputs ++ ins)
fed-more frames frame before residual more inputs ins size count kept old new =
    IsFed-append (coefficient (frames ++ frame ∷ [])) 0 residual more inputs ins
    (IsFed-same (coefficient frames) (coefficient (frames ++ frame ∷ [])) 0 0 residual inputs old
    (λ i k small inside. sym (coefficient-front frames frame i (0 + k) (omega (arith, size)))))
    (IsFed-same (frame_coefficient before (ratios_of frame.larc)) (coefficient (frames ++ frame ∷ [])) 0 (0 + length residual) more ins new
    (λ i k small inside.
    let place : 160 * length frames + k ≡ 0 + length residual + k = omega (arith, size) in
    let from : 0 + k ≡ k = omega arith in
    ap (frame_coefficient before (ratios_of frame.larc) i) from
    ∙ coefficient-last frames frame before i k (omega (arith, count)) (kept i small)
    ∙ ap (coefficient (frames ++ frame ∷ []) i) place))

output-more : (filtered ys samples out : List ℤ) (last : ℤ) (n : ℕ) → length filtered ≡ n → length samples ≡ n → last ≡ emphasis_after (pos 0) filtered n
    → ((t : ℕ) → t < n → at samples t ≡ output_of (emphasis_after (pos 0) filtered (t + 1)))
    → ((k : ℕ) → k < 160 → at out k ≡ output_of (emphasis_after last ys (k + 1)))
    → (t : ℕ) → t < n + 160 → at (samples ++ out) t ≡ output_of (emphasis_after (pos 0) (filtered ++ ys) (t + 1))
output-more filtered ys samples out last n size count kept old new t inside = elim (cases_lt t n) [
  | inl early ↦
      let here : t < length samples = omega arith in
      get_or_append_left samples out (pos 0) t here ∙ old t early ∙ ap output_of (sym (emphasis_after-front (pos 0) filtered ys (t + 1) (omega arith)))
  | inr late ↦
      let there : t - n < 160 = omega arith in
      let place : length filtered + (t - n + 1) ≡ t + 1 = omega arith in
      get_or-append_right samples out n t (pos 0) count late ∙ new (t - n) there
      ∙ ap output_of (ap (λ (value : ℤ). emphasis_after value ys (t - n + 1)) (kept ∙ ap (emphasis_after (pos 0) filtered) (sym size))
      ∙ sym (emphasis_after-join (pos 0) filtered ys (t - n + 1)) ∙ ap (emphasis_after (pos 0) (filtered ++ ys)) place)
]

pub Decodes-more : (frames : List Fields) (frame : Fields) (samples : List ℤ) (old next : Kept) (carried : Carries frames samples old) (more ys out : List ℤ)
    → length more ≡ 160 → length ys ≡ 160 → length out ≡ 160
    → Remembers (sub_frames frames ++ frame.sub) (carried.residual ++ more) next.long_term
    → PassesFrame StepsTo Traces old.ratios (ratios_of frame.larc) more (replicate 8 (pos 0)) carried.inputs (carried.filtered ++ ys) next.filter
    → next.ratios ≡ ratios_of frame.larc → next.emphasis ≡ emphasis_after old.emphasis ys 160
    → ((k : ℕ) → k < 160 → at out k ≡ output_of (emphasis_after old.emphasis ys (k + 1)))
    → Decodes (frames ++ frame ∷ []) (samples ++ out) next
Decodes-more frames frame samples old next carried more ys out size ys_size out_size long_term passes ratios emphasis output =
    let total : 160 * length (frames ++ frame ∷ []) ≡ 160 * length frames + 160 = omega (arith, length-append frames (frame ∷ [])) in
    let values : length (carried.residual ++ more) ≡ 160 * length (frames ++ frame ∷ []) = omega (arith, length-append carried.residual more, carried.size) in
    let count : length (samples ++ out) ≡ 160 * length (frames ++ frame ∷ []) = omega (arith, length-append samples out, carried.count) in
    let remembers : Remembers (sub_frames (frames ++ frame ∷ [])) (carried.residual ++ more) next.long_term = rw (sub_frames-more frames frame) long_term in
    let fed : IsFed (coefficient (frames ++ frame ∷ [])) 0 (carried.residual ++ more) (carried.inputs ++ passes.more) =
    fed-more frames frame old.ratios carried.residual more carried.inputs passes.more carried.size size carried.ratios carried.fed passes.fed in
    let given : (t : ℕ) → t < 160 * length (frames ++ frame ∷ []) → at (samples ++ out) t ≡ output_of (emphasis_after (pos 0) (carried.filtered ++ ys) (t + 1)) =
    λ t h. output-more carried.filtered ys samples out old.emphasis (160 * length frames) carried.filtered_size carried.count carried.emphasis carried.output output t (omega arith) in
    let place : length carried.filtered + 160 ≡ 160 * length (frames ++ frame ∷ []) = omega (arith, carried.filtered_size) in
    record {
      speech = IsSpeech-from_trace (frames ++ frame ∷ []) (carried.residual ++ more) (carried.filtered ++ ys) (samples ++ out) next.filter (carried.inputs ++ passes.more)
          values remembers.solved fed passes.equations count given;
      carried = record {
        residual = carried.residual ++ more;
        inputs = carried.inputs ++ passes.more;
        filtered = carried.filtered ++ ys;
        size = values;
        long_term = remembers;
        fed = fed;
        run = passes.run;
        filtered_size = omega (arith, length-append carried.filtered ys, carried.filtered_size);
        ratios = λ i small. ap (λ (found : List ℤ). at found i) ratios ∙ ratio-next frames frame i;
        emphasis = emphasis
            ∙ ap (λ (value : ℤ). emphasis_after value ys 160) (carried.emphasis ∙ ap (emphasis_after (pos 0) carried.filtered) (sym carried.filtered_size))
            ∙ sym (emphasis_after-join (pos 0) carried.filtered ys 160) ∙ ap (emphasis_after (pos 0) (carried.filtered ++ ys)) place;
        count = count;
        output = given;
      };
    }

pub Decodes-start : (kept : Kept) → Remembers [] [] kept.long_term → ((i : ℕ) → i < 8 → at kept.ratios i ≡ pos 0) → kept.filter ≡ replicate 8 (pos 0) → kept.emphasis ≡ pos 0 → Decodes [] [] kept
Decodes-start kept long_term ratios filter emphasis = record {
  speech = record {
    drp = λ t. pos 0;
    s = λ i t. pos 0;
    v = λ i t. pos 0;
    m = λ t. pos 0;
    long_term = λ t h. absurd (omega arith);
    top = λ t h. absurd (omega arith);
    down = λ i t b h. absurd (omega arith);
    up = λ i t b h. absurd (omega arith);
    foot = λ t h. absurd (omega arith);
    emphasis = λ t h. absurd (omega arith);
    count = refl;
    output = λ t h. absurd (omega arith);
  };
  carried = record {
    residual = [];
    inputs = [];
    filtered = [];
    size = refl;
    long_term = long_term;
    fed = record { count = refl; coefficients = λ i k b h. absurd (omega arith); samples = λ k h. absurd (omega arith) };
    run = filter;
    filtered_size = refl;
    ratios = λ i h. ratios i h ∙ sym (past_before (ratio [] i) 0 1 (omega arith));
    emphasis = emphasis ∙ sym (emphasis_after-none (pos 0) []);
    count = refl;
    output = λ t h. absurd (omega arith);
  };
}

-- The layers' relations solve the equations of decoded speech.
use Rattle.std.proofs.Common.{◌≡◌, ℕ, zero, suc, ◌+◌, ◌-◌, ◌*◌, ◌<◌, ℤ, pos, List, length, replicate, sym, ◌∙◌, ap, arith}
use Rattle.std.proofs.lemmas.List.{get_or-replicate}
use Rattle.fixed_arith.specs.Word.{add_words, mult_r_words}
use Rattle.fixed_arith.specs.Signal.{at, past}
use Rattle.frame_codec.specs.Frame.{Fields}
use Rattle.lar_filter.specs.Trace.{since, Traces, coefficients_at}
use Rattle.rpe_ltp.specs.LongTerm.{IsLongTerm}
use Rattle.fr_decoder.specs.Deemphasis.{emphasis_next, emphasis_after, output_of}
use Rattle.fr_decoder.specs.Speech.{sub_frames, coefficient, IsSpeech}
use Rattle.lar_filter.specs.Parts.{IsFed}
use Rattle.fr_decoder.proofs.DeemphasisLaws.{emphasis_after-none, emphasis_after-more}
use Rattle.lar_filter.specs.PartLaws.{past_reached, past_before}

-- from rest, the value before is 0 before time 0
since_rest : (f : ℕ → ℤ) (i t : ℕ) → i < 8 → since (at (replicate 8 (pos 0)) i) f t ≡ past f t 1
since_rest f i zero small = get_or-replicate 8 i (pos 0) (pos 0) small ∙ sym (past_before f 0 1 (omega arith))
since_rest f i (suc t) small = let place : suc t - 1 ≡ t = omega arith in sym (past_reached f (suc t) 1 (omega arith) ∙ ap f place)

emphasis_past : (filtered : List ℤ) (t : ℕ) → emphasis_after (pos 0) filtered t ≡ past (λ u. emphasis_after (pos 0) filtered (u + 1)) t 1
emphasis_past filtered zero = emphasis_after-none (pos 0) filtered ∙ sym (past_before (λ u. emphasis_after (pos 0) filtered (u + 1)) 0 1 (omega arith))
emphasis_past filtered (suc t) =
    let place : suc t - 1 + 1 ≡ suc t = omega arith in
    sym (past_reached (λ u. emphasis_after (pos 0) filtered (u + 1)) (suc t) 1 (omega arith) ∙ ap (emphasis_after (pos 0) filtered) place)

emphasis_equation : (filtered : List ℤ) (x : ℤ) (t : ℕ) → at filtered t ≡ x
    → emphasis_after (pos 0) filtered (t + 1) ≡ add_words x (mult_r_words (past (λ u. emphasis_after (pos 0) filtered (u + 1)) t 1) (pos 28180))
unfolding emphasis_next
emphasis_equation filtered x t same = rw (← emphasis_past filtered t, ← same) (emphasis_after-more (pos 0) filtered t)

pub IsSpeech-from_trace : (frames : List Fields) (residual filtered samples after : List ℤ) (inputs : List (List ℤ × ℤ)) → length residual ≡ 160 * length frames → IsLongTerm (sub_frames frames) residual
    → IsFed (coefficient frames) 0 residual inputs → Traces (replicate 8 (pos 0)) inputs filtered after → length samples ≡ 160 * length frames
    → ((t : ℕ) → t < 160 * length frames → at samples t ≡ output_of (emphasis_after (pos 0) filtered (t + 1))) → IsSpeech frames samples
IsSpeech-from_trace frames residual filtered samples after inputs size solved fed traces count output = record {
  drp = at residual;
  s = traces.s;
  v = traces.v;
  m = λ t. emphasis_after (pos 0) filtered (t + 1);
  long_term = λ t h. solved.each t (omega (arith, size));
  top = λ t h. traces.top t (inside t h) ∙ fed.samples t (omega (arith, size));
  down = λ i t small h. rw (← fed_is i t small h, ← since_rest (traces.v i) i t small) (traces.down i t small (inside t h));
  up = λ i t small h. rw (← fed_is i t small h, ← since_rest (traces.v i) i t small) (traces.up i t small (inside t h));
  foot = λ t h. traces.foot t (inside t h);
  emphasis = λ t h. emphasis_equation filtered (traces.s 0 t) t (traces.output t (inside t h));
  count = count;
  output = output;
}
  where
    inside : (t : ℕ) → t < 160 * length frames → t < length inputs
    inside t h = omega (arith, size, fed.count)

    fed_is : (i t : ℕ) → i < 8 → t < 160 * length frames → at (coefficients_at inputs t) i ≡ coefficient frames i t
    fed_is i t small h = let place : 0 + t ≡ t = omega arith in fed.coefficients i t small (omega (arith, size)) ∙ ap (coefficient frames i) place

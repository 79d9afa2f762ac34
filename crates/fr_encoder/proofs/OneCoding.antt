-- Coded speech of a list of pieces is one.
use Rattle.std.proofs.Common.{◌≡◌, ℕ, ◌*◌, List, [], ◌∷◌, ◌++◌, length, take, drop, refl, sym, ap, subst, ◌∙◌, arith}
use Rattle.std.specs.Prelude.{ℤ}
use Rattle.std.specs.List.{AllByRecursion}
use Rattle.std.proofs.lemmas.List.{length-map}
use Rattle.std.proofs.lemmas.List.Elements.{recursion_from_All}
use Rattle.std.proofs.Math.Seq.{take-append_seam, drop-append_seam}
use Rattle.frame_codec.specs.declared.params.SubParams.{SubParams}
use Rattle.frame_codec.specs.Frame.{Fields, IsWithinWidths}
use Rattle.fr_encoder.specs.Coding.{ratio_codes, sub_frames}
use Rattle.fr_encoder.specs.Excitation.{IsExcitation}
use Rattle.rpe_ltp.specs.LongTerm.{sub_at}
use Rattle.fr_encoder.specs.Sameness.{CodingIsOne}
use Rattle.fr_encoder.proofs.OneShortTerm.{codes-same, residual-same}
use Rattle.fr_encoder.proofs.OneExcitation.{subs-same}

-- lists of as many sub-frames, each with more behind them
apart : (a b c d : List SubParams) → length a ≡ length c → a ++ b ≡ c ++ d → (a ≡ c) × (b ≡ d)
apart a b c d same e = (
  sym (take-append_seam a b) ∙ ap (take (length a)) e ∙ ap (λ (n : ℕ). take n (c ++ d)) same ∙ take-append_seam c d,
  sym (drop-append_seam a b) ∙ ap (drop (length a)) e ∙ ap (λ (n : ℕ). drop n (c ++ d)) same ∙ drop-append_seam c d,
)

-- frames with the same codes and the same sub-frames, four each, are the same
same_fields : (a b : List Fields) → AllByRecursion IsWithinWidths a → AllByRecursion IsWithinWidths b → ratio_codes a ≡ ratio_codes b → sub_frames a ≡ sub_frames b → a ≡ b
same_fields [] [] x y codes subs = refl
same_fields [] (q ∷ qs) x y codes subs = absurd (omega (arith, ap length codes))
same_fields (p ∷ ps) [] x y codes subs = absurd (omega (arith, ap length codes))
same_fields (p ∷ ps) (q ∷ qs) x y codes subs =
    let larc : p.larc ≡ q.larc = cc in
    let more : ratio_codes ps ≡ ratio_codes qs = cc in
    let sub = apart p.sub (sub_frames ps) q.sub (sub_frames qs) (x.0.count ∙ sym y.0.count) subs in
    let four : p.sub ≡ q.sub = sub.0 in
    let first : p ≡ q = λ z. record { larc = larc z; sub = four z } in
    let rest : ps ≡ qs = same_fields ps qs x.1 y.1 more sub.1 in
    λ z. first z ∷ rest z

pub one_coding : CodingIsOne
one_coding samples a b x y =
    let codes : ratio_codes a ≡ ratio_codes b = codes-same samples (ratio_codes a) (ratio_codes b) x.d y.d x.short_term y.short_term in
    let residual : x.d ≡ y.d = residual-same samples (ratio_codes a) (ratio_codes b) x.d y.d x.short_term y.short_term in
    let count : length a ≡ length b = omega (arith, ap length codes, length-map a (λ (f : Fields). f.larc), length-map b (λ (f : Fields). f.larc)) in
    let subs : sub_frames a ≡ sub_frames b =
    subs-same x.d x.dp y.dp (sub_frames a) (sub_frames b) (omega (arith, x.count, y.count, count)) x.long_term y.long_term
    (λ j inside. x.excitation j (omega (arith, x.count)))
    (λ j inside. subst (λ (d : List ℤ). IsExcitation d y.dp (40 * j) (sub_at (sub_frames b) j)) (sym residual) (y.excitation j (omega (arith, y.count)))) in
    same_fields a b (recursion_from_All IsWithinWidths a x.widths) (recursion_from_All IsWithinWidths b y.widths) codes subs

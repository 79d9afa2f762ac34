-- Frames compared with those of an encoder, piece by piece.
use Rattle.std.proofs.Common.{◌≡◌, ℕ, ◌+◌, ◌*◌, ◌<◌, ◌≤◌, Decides, List, [], ◌∷◌, ◌++◌, Bool, true, false, get_or, length, take, refl, sym, ◌∙◌, ap, subst, add-one, arith, length-append, zero, suc, slice_index_or}
use Rattle.std.specs.Prelude.{ℤ, flat_map, nat_eq, not, ◌&&◌}
use lib.Pointwise.{pointwise}
use Rattle.std.proofs.Math.Seq.{take-suc}
use Rattle.std.proofs.lemmas.Grind.{flat_map-append}
use Rattle.std.proofs.lemmas.List.{append-nil, take_all, length-map}
use Rattle.std.proofs.lemmas.Bool.Decides.{Decides-and, Decides-eqb}
use Rattle.std.proofs.lemmas.Slice.Eq.{slice_eq-Decides}
use Rattle.frame_codec.specs.declared.params.SubParams.{SubParams}
use Rattle.frame_codec.specs.Frame.{Fields}
use Rattle.fr_encoder.specs.Coding.{Encodes, Held, IsCoded}
use Rattle.fr_encoder.proofs.OneCoding.{one_coding}

-- The frames of the first k pieces are the first k of those that are judged, exactly where the test says so.
pub record Judged (pieces : List (List ℤ)) (frames : List Fields) (k : ℕ) (held : Held) (same : Bool) : Type 0 where
  pub coded : List Fields
  pub encodes : Encodes (flat_map (λ piece. piece) (take k pieces)) coded held
  pub test : Decides same (coded ≡ take k frames)

pub judged-first : (pieces : List (List ℤ)) (frames : List Fields) (held : Held) → Encodes [] [] held → Judged pieces frames 0 held true
judged-first pieces frames held encodes = record { coded = []; encodes = encodes; test = (λ t. refl, λ e. refl) }

snoc-first : (xs ys : List Fields) (x y : Fields) → xs ++ x ∷ [] ≡ ys ++ y ∷ [] → xs ≡ ys
snoc-first [] [] x y e = refl
snoc-first [] (v ∷ []) x y e = absurd (omega (arith, ap length e))
snoc-first [] (v ∷ w ∷ ys) x y e = absurd (omega (arith, ap length e))
snoc-first (u ∷ xs) [] x y e = absurd (omega (arith, ap length e, length-append xs (x ∷ [])))
snoc-first (u ∷ xs) (v ∷ ys) x y e =
    let first : u ≡ v = cc in
    let rest : xs ++ x ∷ [] ≡ ys ++ y ∷ [] = cc in
    let more : xs ≡ ys = snoc-first xs ys x y rest in
    λ z. first z ∷ more z

snoc-last : (xs ys : List Fields) (x y : Fields) → xs ++ x ∷ [] ≡ ys ++ y ∷ [] → x ≡ y
snoc-last [] [] x y e = cc
snoc-last [] (v ∷ []) x y e = absurd (omega (arith, ap length e))
snoc-last [] (v ∷ w ∷ ys) x y e = absurd (omega (arith, ap length e))
snoc-last (u ∷ xs) [] x y e = absurd (omega (arith, ap length e, length-append xs (x ∷ [])))
snoc-last (u ∷ xs) (v ∷ ys) x y e = let rest : xs ++ x ∷ [] ≡ ys ++ y ∷ [] = cc in snoc-last xs ys x y rest

-- the next piece
pub judged-next : (pieces : List (List ℤ)) (frames : List Fields) (k : ℕ) (piece : List ℤ) (frame own : Fields) (old new : Held) (same also : Bool) (judged : Judged pieces frames k old same)
    → k < length pieces → k < length frames → piece ≡ get_or pieces k [] → frame ≡ get_or frames k frame
    → Encodes (flat_map (λ p. p) (take k pieces) ++ piece) (judged.coded ++ own ∷ []) new
    → Decides also ((same ≡ true) × (own ≡ frame)) → Judged pieces frames (k + 1) new also
judged-next pieces frames k piece frame own old new same also judged inside within is_piece is_frame encodes test =
    let taken : take (k + 1) pieces ≡ take k pieces ++ piece ∷ [] = rw add-one (take-suc pieces k [] inside ∙ ap (λ (p : List ℤ). take k pieces ++ p ∷ []) (sym is_piece)) in
    let samples : flat_map (λ (p : List ℤ). p) (take (k + 1) pieces) ≡ flat_map (λ (p : List ℤ). p) (take k pieces) ++ piece =
    ap (flat_map (λ (p : List ℤ). p)) taken ∙ flat_map-append (λ (p : List ℤ). p) (take k pieces) (piece ∷ []) ∙ ap (λ (l : List ℤ). flat_map (λ (p : List ℤ). p) (take k pieces) ++ l) (append-nil piece) in
    let front : take (k + 1) frames ≡ take k frames ++ frame ∷ [] = rw add-one (take-suc frames k frame within ∙ ap (λ (f : Fields). take k frames ++ f ∷ []) (sym is_frame)) in
    record {
      coded = judged.coded ++ own ∷ [];
      encodes = subst (λ (l : List ℤ). Encodes l (judged.coded ++ own ∷ []) new) (sym samples) encodes;
      test = (
        λ t. let all : judged.coded ≡ take k frames = judged.test.0 (test.0 t).0 in let last : own ≡ frame = (test.0 t).1 in let both : judged.coded ++ own ∷ [] ≡ take k frames ++ frame ∷ [] = λ z. all z ++ last z ∷ [] in both ∙ sym front,
        λ e. let whole : judged.coded ++ own ∷ [] ≡ take k frames ++ frame ∷ [] = e ∙ front in test.1 (judged.test.1 (snoc-first judged.coded (take k frames) own frame whole), snoc-last judged.coded (take k frames) own frame whole),
      );
    }

-- behind all pieces
pub judged-all : (pieces : List (List ℤ)) (frames : List Fields) (k : ℕ) (held : Held) (same : Bool) → length pieces ≡ length frames → length pieces ≤ k → Judged pieces frames k held same
    → Decides same (IsCoded (flat_map (λ p. p) pieces) frames)
judged-all pieces frames k held same count done judged =
    (λ t. subst (λ (l : List Fields). IsCoded (flat_map (λ p. p) pieces) l) (judged.test.0 t ∙ front) whole, λ h. judged.test.1 (one_coding (flat_map (λ p. p) pieces) judged.coded frames whole h ∙ sym front))
  where
    front : take k frames ≡ frames
    front = take_all k frames (omega (arith, count, done))

    whole : IsCoded (flat_map (λ p. p) pieces) judged.coded
    whole = subst (λ (l : List (List ℤ)). IsCoded (flat_map (λ p. p) l) judged.coded) (take_all k pieces done) judged.encodes.speech

-- as many samples as pieces have
pub samples-count : (pieces : List (List ℤ)) → ((i : ℕ) → i < length pieces → length (slice_index_or pieces i []) ≡ 160) → length (flat_map (λ p. p) pieces) ≡ 160 * length pieces
samples-count [] each = refl
samples-count (p ∷ pieces) each =
    omega (arith, length-append p (flat_map (λ (q : List ℤ). q) pieces), each 0 (omega arith), samples-count pieces (λ (i : ℕ) (inside : i < length pieces). each (suc i) (omega arith)))

pub frames-count : (samples : List ℤ) (frames : List Fields) → IsCoded samples frames → length samples ≡ 160 * length frames
frames-count samples frames coded = omega (arith, coded.short_term.whole, length-map frames (λ (f : Fields). f.larc))

-- ---- what `==` says of fields

abbrev pub sub_eq : SubParams → SubParams → Bool
sub_eq x y = nat_eq x.nc y.nc && (nat_eq x.bc y.bc && (nat_eq x.mc y.mc && (nat_eq x.xmaxc y.xmaxc && pointwise nat_eq x.xmc y.xmc)))

abbrev pub fields_eq : Fields → Fields → Bool
fields_eq x y = pointwise nat_eq x.larc y.larc && pointwise sub_eq x.sub y.sub

sub_eq-Decides : (x y : SubParams) → Decides (sub_eq x y) (x ≡ y)
sub_eq-Decides x y =
    let levels = Decides-and (nat_eq x.xmaxc y.xmaxc) (pointwise nat_eq x.xmc y.xmc) (Decides-eqb x.xmaxc y.xmaxc) (slice_eq-Decides Decides-eqb x.xmc y.xmc (pointwise nat_eq x.xmc y.xmc) refl) in
    let grids = Decides-and (nat_eq x.mc y.mc) (nat_eq x.xmaxc y.xmaxc && pointwise nat_eq x.xmc y.xmc) (Decides-eqb x.mc y.mc) levels in
    let gains = Decides-and (nat_eq x.bc y.bc) (nat_eq x.mc y.mc && (nat_eq x.xmaxc y.xmaxc && pointwise nat_eq x.xmc y.xmc)) (Decides-eqb x.bc y.bc) grids in
    let all = Decides-and (nat_eq x.nc y.nc) (nat_eq x.bc y.bc && (nat_eq x.mc y.mc && (nat_eq x.xmaxc y.xmaxc && pointwise nat_eq x.xmc y.xmc))) (Decides-eqb x.nc y.nc) gains in (
      λ t.
          let nc = (all.0 t).0 in
          let more = (all.0 t).1 in
          let bc = more.0 in
          let rest = more.1 in
          let mc = rest.0 in
          let last = rest.1 in
          let xmaxc = last.0 in
          let xmc = last.1 in
          λ z. record { nc = nc z; bc = bc z; mc = mc z; xmaxc = xmaxc z; xmc = xmc z },
      λ e. all.1 (ap (λ (s : SubParams). s.nc) e, (ap (λ (s : SubParams). s.bc) e, (ap (λ (s : SubParams). s.mc) e, (ap (λ (s : SubParams). s.xmaxc) e, ap (λ (s : SubParams). s.xmc) e)))),
    )

pub fields_eq-Decides : (x y : Fields) → Decides (fields_eq x y) (x ≡ y)
fields_eq-Decides x y =
    let all = Decides-and (pointwise nat_eq x.larc y.larc) (pointwise sub_eq x.sub y.sub) (slice_eq-Decides Decides-eqb x.larc y.larc (pointwise nat_eq x.larc y.larc) refl)
    (slice_eq-Decides sub_eq-Decides x.sub y.sub (pointwise sub_eq x.sub y.sub) refl) in (
      λ t. let larc = (all.0 t).0 in let sub = (all.0 t).1 in λ z. record { larc = larc z; sub = sub z },
      λ e. all.1 (ap (λ (f : Fields). f.larc) e, ap (λ (f : Fields). f.sub) e),
    )

pub differs-told : (P : Type 0) (same also ne eq : Bool) → ne ≡ not eq → Decides eq P → ne ≡ true → also ≡ false → Decides also ((same ≡ true) × P)
differs-told P same also ne true e d is so = let x : false ≡ true = sym e ∙ is in cc
differs-told P same also ne false e d is so = (λ t. let x : false ≡ true = sym so ∙ t in cc, λ p. let x : false ≡ true = d.1 p.1 in cc)

pub agrees-told : (P : Type 0) (same also ne eq : Bool) → ne ≡ not eq → Decides eq P → ne ≡ false → also ≡ same → Decides also ((same ≡ true) × P)
agrees-told P same also ne true e d is so = (λ t. (sym so ∙ t, d.0 refl), λ p. so ∙ p.0)
agrees-told P same also ne false e d is so = let x : false ≡ true = sym is ∙ e in cc

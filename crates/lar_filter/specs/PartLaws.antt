-- Inputs of a filter, part by part: how the four parts of a frame make up the frame, and what a signal was before.
use Rattle.std.proofs.Common.{◌≡◌, ℕ, ◌+◌, ◌-◌, ◌<◌, ◌≤◌, ℤ, pos, List, [], ◌++◌, length, take, drop, refl, sym, ◌∙◌, ap, arith, length-append, append_assoc, inl, inr}
use Rattle.std.proofs.lemmas.Bool.{cases_lt, lt-ltb, le-ltb, le-leb, lt-leb}
use Rattle.std.proofs.lemmas.List.{get_or_append_left, get_or-append_right, take-append-drop, length-map, get_or-map}
use Rattle.fixed_arith.specs.Signal.{at, past}
use Rattle.lar_filter.specs.Coefficients.{between, coefficient_of}
use Rattle.lar_filter.specs.Runs.{Runs, inputs_of}
use Rattle.lar_filter.specs.Parts.{part_of, IsPart, IsFed, frame_coefficient, PassesFrame}

-- inputs that are fed by some coefficients are fed by any that are the same by another count of time
pub IsFed-same : (rp other : ℕ → ℕ → ℤ) (first from : ℕ) (values : List ℤ) (inputs : List (List ℤ × ℤ)) → IsFed rp first values inputs
    → ((i k : ℕ) → i < 8 → k < length values → rp i (first + k) ≡ other i (from + k)) → IsFed other from values inputs
IsFed-same rp other first from values inputs fed same = record {
  count = fed.count;
  coefficients = λ i k small inside. fed.coefficients i k small inside ∙ same i k small inside;
  samples = fed.samples;
}

-- inputs after one another are fed with the values after one another
pub IsFed-append : (rp : ℕ → ℕ → ℤ) (first : ℕ) (xs ys : List ℤ) (ins outs : List (List ℤ × ℤ)) → IsFed rp first xs ins → IsFed rp (first + length xs) ys outs → IsFed rp first (xs ++ ys) (ins ++ outs)
IsFed-append rp first xs ys ins outs front back = record {
  count = omega (arith, length-append ins outs, length-append xs ys, front.count, back.count);
  coefficients = λ i k small inside. elim (cases_lt k (length xs)) [
    | inl early ↦
        let here : k < length ins = omega (arith, front.count) in
        ap (λ (pair : List ℤ × ℤ). at pair.0 i) (get_or_append_left ins outs ([], pos 0) k here) ∙ front.coefficients i k small early
    | inr late ↦
        let there : k - length xs < length ys = omega (arith, length-append xs ys) in
        let place : first + length xs + (k - length xs) ≡ first + k = omega arith in
        ap (λ (pair : List ℤ × ℤ). at pair.0 i) (get_or-append_right ins outs (length xs) k ([], pos 0) front.count late)
        ∙ back.coefficients i (k - length xs) small there ∙ ap (rp i) place
  ];
  samples = λ k inside. elim (cases_lt k (length xs)) [
    | inl early ↦
        let here : k < length ins = omega (arith, front.count) in
        ap (λ (pair : List ℤ × ℤ). pair.1) (get_or_append_left ins outs ([], pos 0) k here) ∙ front.samples k early ∙ sym (get_or_append_left xs ys (pos 0) k early)
    | inr late ↦
        let there : k - length xs < length ys = omega (arith, length-append xs ys) in
        ap (λ (pair : List ℤ × ℤ). pair.1) (get_or-append_right ins outs (length xs) k ([], pos 0) front.count late)
        ∙ back.samples (k - length xs) there ∙ sym (get_or-append_right xs ys (length xs) k (pos 0) refl late)
  ];
}

-- values that share the coefficients of a part are fed with the coefficients of the frame
pub IsFed-part : (before now rp values : List ℤ) (part first : ℕ) → IsPart before now part rp
    → ((k : ℕ) → k < length values → part_of (first + k) ≡ part) → IsFed (frame_coefficient before now) first values (inputs_of rp values)
IsFed-part before now rp values part first rp_is part_is =
    let pair : ℤ → List ℤ × ℤ = λ x. (rp, x) in
    record {
      count = length-map values pair;
      coefficients = λ i k small inside.
          ap (λ (found : List ℤ × ℤ). at found.0 i) (get_or-map pair values k (pos 0) ([], pos 0) inside)
          ∙ rp_is i small ∙ ap (λ (p : ℕ). coefficient_of (between p (at before i) (at now i))) (sym (part_is k inside));
      samples = λ k inside. ap (λ (found : List ℤ × ℤ). found.1) (get_or-map pair values k (pos 0) ([], pos 0) inside);
    }

-- the first 13 samples of a frame are in part 0
pub part_of-first : (k : ℕ) → k < 13 → part_of k ≡ 0
unfolding part_of
part_of-first k high = rw (lt-ltb k 13 high) refl

-- the next 14 in part 1
pub part_of-second : (k : ℕ) → 13 ≤ k → k < 27 → part_of k ≡ 1
unfolding part_of
part_of-second k low high = rw (le-ltb k 13 low, lt-ltb k 27 high) refl

-- the next 13 in part 2
pub part_of-third : (k : ℕ) → 27 ≤ k → k < 40 → part_of k ≡ 2
unfolding part_of
part_of-third k low high = rw (le-ltb k 13 (omega arith), le-ltb k 27 low, lt-ltb k 40 high) refl

-- and all others in part 3
pub part_of-fourth : (k : ℕ) → 40 ≤ k → part_of k ≡ 3
unfolding part_of
part_of-fourth k low = rw (le-ltb k 13 (omega arith), le-ltb k 27 (omega arith), le-ltb k 40 low) refl

parts_fed : (before now rp0 rp1 rp2 rp3 x0 x1 x2 x3 : List ℤ) → length x0 ≡ 13 → length x1 ≡ 14 → length x2 ≡ 13
    → IsPart before now 0 rp0 → IsPart before now 1 rp1 → IsPart before now 2 rp2 → IsPart before now 3 rp3
    → IsFed (frame_coefficient before now) 0 (((x0 ++ x1) ++ x2) ++ x3) (((inputs_of rp0 x0 ++ inputs_of rp1 x1) ++ inputs_of rp2 x2) ++ inputs_of rp3 x3)
parts_fed before now rp0 rp1 rp2 rp3 x0 x1 x2 x3 size0 size1 size2 is0 is1 is2 is3 =
    let two : length (x0 ++ x1) ≡ 27 = omega (arith, length-append x0 x1) in
    let three : length ((x0 ++ x1) ++ x2) ≡ 40 = omega (arith, length-append (x0 ++ x1) x2) in
    IsFed-append (frame_coefficient before now) 0 ((x0 ++ x1) ++ x2) x3 ((inputs_of rp0 x0 ++ inputs_of rp1 x1) ++ inputs_of rp2 x2) (inputs_of rp3 x3)
    (IsFed-append (frame_coefficient before now) 0 (x0 ++ x1) x2 (inputs_of rp0 x0 ++ inputs_of rp1 x1) (inputs_of rp2 x2)
    (IsFed-append (frame_coefficient before now) 0 x0 x1 (inputs_of rp0 x0) (inputs_of rp1 x1)
    (IsFed-part before now rp0 x0 0 0 is0 (λ k h. part_of-first (0 + k) (omega arith)))
    (IsFed-part before now rp1 x1 1 (0 + length x0) is1 (λ k h. part_of-second (0 + length x0 + k) (omega arith) (omega arith))))
    (IsFed-part before now rp2 x2 2 (0 + length (x0 ++ x1)) is2 (λ k h. part_of-third (0 + length (x0 ++ x1) + k) (omega arith) (omega arith))))
    (IsFed-part before now rp3 x3 3 (0 + length ((x0 ++ x1) ++ x2)) is3 (λ k h. part_of-fourth (0 + length ((x0 ++ x1) ++ x2) + k) (omega arith)))

-- four runs, each over the values of a part with its coefficients, are the frame's run
pub PassesFrame-from_parts : (Step : List ℤ → List ℤ → ℤ → ℤ → List ℤ → Type 0) (Solves : List ℤ → List (List ℤ × ℤ) → List ℤ → List ℤ → Type 0)
    (before now rp0 rp1 rp2 rp3 values x0 x1 x2 x3 start : List ℤ) (inputs : List (List ℤ × ℤ)) (ys y0 y1 y2 y3 after : List ℤ)
    → values ≡ x0 ++ (x1 ++ (x2 ++ x3)) → length x0 ≡ 13 → length x1 ≡ 14 → length x2 ≡ 13
    → IsPart before now 0 rp0 → IsPart before now 1 rp1 → IsPart before now 2 rp2 → IsPart before now 3 rp3
    → Runs Step start ((((inputs ++ inputs_of rp0 x0) ++ inputs_of rp1 x1) ++ inputs_of rp2 x2) ++ inputs_of rp3 x3) ((((ys ++ y0) ++ y1) ++ y2) ++ y3) after
    → Solves start ((((inputs ++ inputs_of rp0 x0) ++ inputs_of rp1 x1) ++ inputs_of rp2 x2) ++ inputs_of rp3 x3) ((((ys ++ y0) ++ y1) ++ y2) ++ y3) after
    → PassesFrame Step Solves before now values start inputs (ys ++ (y0 ++ (y1 ++ (y2 ++ y3)))) after
PassesFrame-from_parts Step Solves before now rp0 rp1 rp2 rp3 values x0 x1 x2 x3 start inputs ys y0 y1 y2 y3 after whole size0 size1 size2 is0 is1 is2 is3 run equations =
    let i0 : List (List ℤ × ℤ) = inputs_of rp0 x0 in
    let i1 : List (List ℤ × ℤ) = inputs_of rp1 x1 in
    let i2 : List (List ℤ × ℤ) = inputs_of rp2 x2 in
    let i3 : List (List ℤ × ℤ) = inputs_of rp3 x3 in
    let ins : inputs ++ (((i0 ++ i1) ++ i2) ++ i3) ≡ (((inputs ++ i0) ++ i1) ++ i2) ++ i3 = nested inputs i0 i1 i2 i3 in
    let outs : ys ++ (y0 ++ (y1 ++ (y2 ++ y3))) ≡ (((ys ++ y0) ++ y1) ++ y2) ++ y3 = simp append_assoc in
    let all : values ≡ ((x0 ++ x1) ++ x2) ++ x3 = whole ∙ (simp append_assoc) in
    record {
      more = ((i0 ++ i1) ++ i2) ++ i3;
      fed = rw all (parts_fed before now rp0 rp1 rp2 rp3 x0 x1 x2 x3 size0 size1 size2 is0 is1 is2 is3);
      run = rw (ins, outs) run;
      equations = rw (ins, outs) equations;
    }
  where
    nested : (a b c d e : List (List ℤ × ℤ)) → a ++ (((b ++ c) ++ d) ++ e) ≡ (((a ++ b) ++ c) ++ d) ++ e
    nested a b c d e = simp append_assoc

-- pieces that were split off one after another are the whole
pub pieces_are : (xs a rest b rest' c d : List ℤ) (m n k : ℕ) → a ≡ take m xs → rest ≡ drop m xs → b ≡ take n rest → rest' ≡ drop n rest → c ≡ take k rest' → d ≡ drop k rest' → xs ≡ a ++ (b ++ (c ++ d))
pieces_are xs a rest b rest' c d m n k a_is rest_is b_is rest'_is c_is d_is =
    let last : c ++ d ≡ rest' = rw (c_is, d_is) (take-append-drop k rest') in
    let middle : b ++ rest' ≡ rest = rw (b_is, rest'_is) (take-append-drop n rest) in
    let first : a ++ rest ≡ xs = rw (a_is, rest_is) (take-append-drop m xs) in
    rw (last, middle, first) refl

-- from time n on, the value n places back is the signal's
pub past_reached : (f : ℕ → ℤ) (t n : ℕ) → n ≤ t → past f t n ≡ f (t - n)
past_reached f t n h = rw (le-leb n t h) refl

-- before time n, the value n places back is 0
pub past_before : (f : ℕ → ℤ) (t n : ℕ) → t < n → past f t n ≡ pos 0
past_before f t n h = rw (lt-leb n t h) refl

-- The ends of a line's filers, one more at a time: their lines, and the first that is a fault.
use Rattle.std.proofs.Common.{◌≡◌, ℕ, zero, suc, ◌+◌, List, [], ◌∷◌, ◌++◌, take, drop, Option, Some, None, is_some, true, false, slice_get, refl, sym, ap, subst, ◌∙◌, append_assoc, append-nil, arith, codes}
use Rattle.std.specs.Io.KnownBytes.{Appends}
use Rattle.gate_io.specs.Flow.{AppendsPart}
use Rattle.gate_io.specs.FlowLaws.{AppendsPart-after, AppendsPart-longer}
use Rattle.recorder.specs.declared.tally.Tally.{Tally}
use Rattle.filer.specs.declared.run.FilerEnd.{FilerEnd}
use Rattle.gate_notes.specs.declared.status.Status.{Status}
use Rattle.gate_notes.specs.Notes.{counted, tally_line}
use Rattle.serve_runs.specs.Serve.{filer_fault, link_lines, lowest_fault, or_else}

abbrev Told : Type 0
Told = FilerEnd × Tally

none-some : (o : Option Told) (f : Told) → o ≡ None → o ≡ Some f → ⊥
none-some o f p q = cc

same-some : (f h : Told) → Some f ≡ Some h → f ≡ h
same-some f h e = cc

-- the line of a filer
abbrev pub link_line : ℕ → Told → List ℕ
link_line k f = tally_line (counted (codes "link ") k) f.1

more : (n i : ℕ) (fs : List Told) (f : Told) → slice_get fs i ≡ Some f → link_lines n (take (suc i) fs) ≡ link_lines n (take i fs) ++ link_line (n + i) f
more n i [] f is = absurd (none-some None f refl is)
more n zero (x ∷ fs) f is =
    let same : n ≡ n + 0 = omega arith in
    append-nil (link_line n x) ∙ (ap (λ (k : ℕ). link_line k x) same ∙ ap (λ (y : Told). link_line (n + 0) y) (same-some x f is))
more n (suc i) (x ∷ fs) f is =
    let place : n + 1 + i ≡ n + suc i = omega arith in
    ap (λ (l : List ℕ). link_line n x ++ l) (more (n + 1) i fs f is ∙ ap (λ (k : ℕ). link_lines (n + 1) (take i fs) ++ link_line k f) place)
    ∙ sym (append_assoc (link_line n x) (link_lines (n + 1) (take i fs)) (link_line (n + suc i) f))

pub links-more : (i : ℕ) (fs : List Told) (f : Told) → slice_get fs i ≡ Some f → link_lines 0 (take (i + 1) fs) ≡ link_lines 0 (take i fs) ++ link_line i f
links-more i fs f is =
    let next : i + 1 ≡ suc i = omega arith in
    let from : 0 + i ≡ i = omega arith in
    ap (λ (k : ℕ). link_lines 0 (take k fs)) next ∙ more 0 i fs f is ∙ ap (λ (k : ℕ). link_lines 0 (take i fs) ++ link_line k f) from

split : (n k : ℕ) (fs : List Told) → link_lines n fs ≡ link_lines n (take k fs) ++ link_lines (n + k) (drop k fs)
split n zero fs =
    let same : n ≡ n + 0 = omega arith in
    ap (λ (m : ℕ). link_lines m fs) same
split n (suc k) [] = refl
split n (suc k) (x ∷ fs) =
    let place : n + 1 + k ≡ n + suc k = omega arith in
    ap (λ (l : List ℕ). link_line n x ++ l) (split (n + 1) k fs ∙ ap (λ (m : ℕ). link_lines (n + 1) (take k fs) ++ link_lines m (drop k fs)) place)
    ∙ sym (append_assoc (link_line n x) (link_lines (n + 1) (take k fs)) (link_lines (n + suc k) (drop k fs)))

-- the lines of some filers, and a front of the next line
pub links-broken : (a b d : Option (List ℕ)) (i : ℕ) (fs : List Told) (f : Told) → slice_get fs i ≡ Some f → Appends a b (link_lines 0 (take i fs)) → AppendsPart b d (link_line i f)
    → AppendsPart a d (link_lines 0 fs)
links-broken a b d i fs f is whole part =
    let both : AppendsPart a d (link_lines 0 (take (i + 1) fs)) = subst (AppendsPart a d) (sym (links-more i fs f is)) (AppendsPart-after a b d (link_lines 0 (take i fs)) (link_line i f) whole part) in
    subst (AppendsPart a d) (sym (split 0 (i + 1) fs)) (AppendsPart-longer a d (link_lines 0 (take (i + 1) fs)) (link_lines (0 + (i + 1)) (drop (i + 1) fs)) both)

-- the first fault from a filer on is its own, or the first one from the next on
fault-from : (i : ℕ) (fs : List Told) (f : Told) → slice_get fs i ≡ Some f → lowest_fault (drop i fs) ≡ or_else (filer_fault f.0) (lowest_fault (drop (suc i) fs))
fault-from i [] f is = absurd (none-some None f refl is)
fault-from zero (x ∷ fs) f is = ap (λ (y : Told). or_else (filer_fault y.0) (lowest_fault fs)) (same-some x f is)
fault-from (suc i) (x ∷ fs) f is = fault-from i fs f is

fault-next : (i : ℕ) (fs : List Told) (f : Told) → slice_get fs i ≡ Some f → lowest_fault (drop i fs) ≡ or_else (filer_fault f.0) (lowest_fault (drop (i + 1) fs))
fault-next i fs f is =
    let next : suc i ≡ i + 1 = omega arith in
    fault-from i fs f is ∙ ap (λ (k : ℕ). or_else (filer_fault f.0) (lowest_fault (drop k fs))) next

-- a filer's own fault is the first from it on
own : (o later : Option Status) → is_some o ≡ true → or_else o later ≡ o
own (Some s) later is = refl
own None later is = absurd (no_yes is)
  where
    no_yes : false ≡ true → ⊥
    no_yes e = cc

passed : (o later : Option Status) → is_some o ≡ false → or_else o later ≡ later
passed None later is = refl
passed (Some s) later is = absurd (yes_no is)
  where
    yes_no : true ≡ false → ⊥
    yes_no e = cc

-- it is the first of all, where those before it have none
pub found-fault : (i : ℕ) (fs : List Told) (f : Told) → slice_get fs i ≡ Some f → (o : Option Status) → o ≡ filer_fault f.0 → is_some o ≡ true
    → (all : Option Status) → all ≡ lowest_fault (drop i fs) → o ≡ all
found-fault i fs f is o told some all before =
    sym (before ∙ fault-next i fs f is ∙ ap (λ (p : Option Status). or_else p (lowest_fault (drop (i + 1) fs))) (sym told) ∙ own o (lowest_fault (drop (i + 1) fs)) some)

-- it has none, and the next ones decide
pub no-fault : (i : ℕ) (fs : List Told) (f : Told) → slice_get fs i ≡ Some f → (o : Option Status) → o ≡ filer_fault f.0 → is_some o ≡ false
    → (all : Option Status) → all ≡ lowest_fault (drop i fs) → all ≡ lowest_fault (drop (i + 1) fs)
no-fault i fs f is o told none all before =
    before ∙ fault-next i fs f is ∙ ap (λ (p : Option Status). or_else p (lowest_fault (drop (i + 1) fs))) (sym told) ∙ passed o (lowest_fault (drop (i + 1) fs)) none

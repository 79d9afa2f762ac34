use Rattle.std.proofs.Common.{◌≡◌, ℕ, ℤ, pos, ◌≤ℤ◌, ◌<ℤ◌, FitsSigned, to_z, of_z, w16, ap, ◌∙◌, subst, arith}
use Rattle.std.specs.Prelude.{unsigned_abs}
use Rattle.std.proofs.lemmas.Int.{ints, to_z-of_z}
use Rattle.g711_leg.specs.declared.law.Law.{Law}
use Rattle.g711_leg.specs.Codes.{magnitude_of}
use Rattle.g711_leg.specs.Levels.{IsNearest}
use Rattle.g711_leg.proofs.CodeLaws.{best_negative, best_positive, best_zero, positive_a, positive_mu}
use Rattle.g711_leg.proofs.compressing.best_code.Goals as goal
use Rattle.g711_leg.proofs.compressing.best_code.Goals.{then-sample-lt0+else-level-gt0, else-sample-lt0}

nearest_is : (law : Law) (x : ℤ) (a n level : ℕ) → FitsSigned w16 x → a ≡ unsigned_abs (to_z w16 (of_z w16 x)) → n ≡ a
    → IsNearest (magnitude_of law) n level → IsNearest (magnitude_of law) (unsigned_abs x) level
nearest_is law x a n level fits size same nearest =
    subst (λ (m : ℕ). IsNearest (magnitude_of law) m level) (same ∙ (size ∙ ap unsigned_abs (to_z-of_z w16 x fits))) nearest

pub returns-in-Mu : goal.returns-in-Mu
returns-in-Mu c =
    let nearest = nearest_is c.args.law c.args.sample _ _ _ c.ranges.sample c.unsigned_abs.ensures.value c.from.ensures c.nearest-level.ensures in
    let below : c.args.sample <ℤ pos 0 = omega (arith, ints) in
    let h = rw c.in-Mu.is at nearest in
    rw c.in-Mu.is (best_negative _ c.args.sample c.nearest-level.result below (positive_mu _ c.if-level-gt0.true nearest.few) h)

pub returns-in-Mu-2 : goal.returns-in-Mu-2
returns-in-Mu-2 c =
    let nearest = nearest_is c.args.law c.args.sample _ _ _ c.ranges.sample c.unsigned_abs.ensures.value c.from.ensures c.nearest-level.ensures in
    let h = rw c.in-Mu.is at nearest in
    rw c.in-Mu.is (elim c.if-sample-lt0.branch [
      | then-sample-lt0+else-level-gt0 w ↦ best_zero c.args.sample c.nearest-level.result (omega (arith, ints)) (omega arith) h
      | else-sample-lt0 w ↦ best_positive _ c.args.sample c.nearest-level.result (omega (arith, ints)) h
    ])

pub returns-in-A : goal.returns-in-A
returns-in-A c =
    let nearest = nearest_is c.args.law c.args.sample _ _ _ c.ranges.sample c.unsigned_abs.ensures.value c.from.ensures c.nearest-level.ensures in
    let below : c.args.sample <ℤ pos 0 = omega (arith, ints) in
    let h = rw c.in-A.is at nearest in
    rw c.in-A.is (best_negative _ c.args.sample c.nearest-level.result below (positive_a _ nearest.few) h)

pub returns-in-A-2 : goal.returns-in-A-2
returns-in-A-2 c =
    let nearest = nearest_is c.args.law c.args.sample _ _ _ c.ranges.sample c.unsigned_abs.ensures.value c.from.ensures c.nearest-level.ensures in
    let above : pos 0 ≤ℤ c.args.sample = omega (arith, ints) in
    let h = rw c.in-A-2.is at nearest in
    rw c.in-A-2.is (best_positive _ c.args.sample c.nearest-level.result above h)

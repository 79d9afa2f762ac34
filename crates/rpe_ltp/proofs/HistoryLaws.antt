-- What stays of the kept values.
use Rattle.std.proofs.Common.{◌≡◌, ℤ, List, length, take, drop, ◌∙◌, arith, length-drop}
use Rattle.std.specs.List.{copy_within}
use Rattle.std.proofs.Math.Seq.{take-length}
use Rattle.std.proofs.lemmas.List.Edits.{take-paste}

pub front_of_moved : (old : List ℤ) → length old ≡ 120 → take 80 (copy_within old 40 (length old) 0) ≡ drop 40 old
front_of_moved old size =
    let rest : 80 ≡ length (drop 40 old) = omega (arith, length-drop 40 old) in
    rw size (take-paste old 0 (drop 40 old) 80 (omega arith) (omega arith) ∙ (rw rest (take-length (drop 40 old))))

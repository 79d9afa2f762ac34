-- What a binary search finds in a list of pairs in rising order.
use Rattle.std.proofs.Common.{◌≡◌, ℕ, ◌≤◌, length, Result, Ok, Err, IfOk, IfErr, sym, ap, arith, []}
use Rattle.std.specs.List.Sorted.{IsSearchInRange, IsBinarySearchResult, IsNonDecreasingBy}
use Rattle.std.specs.Ordering.{nat_cmp, ordering_index}
use Rattle.std.proofs.lemmas.Cmp.{ranked}
use Rattle.std.proofs.lemmas.List.Sorted.{IsNonDecreasingBy-from_default}
use Rattle.std.proofs.lemmas.Bool.Decides.{nat_tests}
use Rattle.playout.specs.Pairs.{Pairs, key_at, Rises, IsAt, IsGapFor}

module _ (l : Pairs) (rises : Rises l) (k : ℕ) where
  comparisons_rise : IsNonDecreasingBy (λ pair. ordering_index (nat_cmp pair.0 k)) l
  comparisons_rise = IsNonDecreasingBy-from_default (λ pair. ordering_index (nat_cmp pair.0 k)) l (0, []) (λ i j le in_range.
      let keys_rise : key_at l i ≤ key_at l j = grind (arith, rises i j, λ (same : i ≡ j). ap (key_at l) same) in
      grind (arith, nat_tests))

  pub found_at : (r : Result ℕ ℕ) → IsSearchInRange r (length l) → IsBinarySearchResult (λ pair. nat_cmp pair.0 k) l r → IfOk r (IsAt l k)
  found_at (Ok at) in_range equal = record { in_range = in_range; has_key = ranked _ k _ (sym (equal (0, []))) }
  found_at (Err at) in_range parted = tt

  pub gap_at : (r : Result ℕ ℕ) → IsSearchInRange r (length l) → IsBinarySearchResult (λ pair. nat_cmp pair.0 k) l r → IfErr r (IsGapFor l k)
  gap_at (Ok at) in_range equal = tt
  gap_at (Err at) in_range parted = record {
    in_range = in_range;
    smaller_before = λ j lt. ranked _ k _ (sym ((parted comparisons_rise).0 j (0, []) (omega arith) lt));
    greater_after = λ j le lt. ranked _ k _ (sym ((parted comparisons_rise).1 j (0, []) le lt));
  }

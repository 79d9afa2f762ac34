-- Two changes of the held frames, at two numbers, may be made in either order.
use Rattle.std.proofs.Common.{◌≡◌, ◌≢◌, ℕ, List, Some, arith}
use Rattle.std.proofs.lemmas.Bool.Decides.{nat_tests}
use Rattle.std.specs.Cmp.{nat_cmp_total}
use Rattle.std.specs.FinMap as map
use Rattle.std.specs.FinMap.{gets, same_map, nat_cmp-IsAntisymmetric}
use Rattle.playout.specs.Machine.{Frames}

pub get-insert_here : (m : Frames) (n : ℕ) (f : List ℕ) → map.get (map.insert m n f) n ≡ Some f
get-insert_here m n f = grind (arith, gets, nat_tests)

pub get-insert_else : (m : Frames) (n q : ℕ) (f : List ℕ) → q ≢ n → map.get (map.insert m n f) q ≡ map.get m q
get-insert_else m n q f other = grind (arith, gets, nat_tests)

pub get-remove_else : (m : Frames) (n q : ℕ) → q ≢ n → map.get (map.remove m n) q ≡ map.get m q
get-remove_else m n q other = grind (arith, gets, nat_tests)

pub insert-insert : (m : Frames) (n q : ℕ) (f g : List ℕ) → q ≢ n → map.insert (map.insert m n f) q g ≡ map.insert (map.insert m q g) n f
insert-insert m n q f g other = same_map nat_cmp_total nat_cmp-IsAntisymmetric _ _ (λ k. at k)
  where
    at : (k : ℕ) → map.get (map.insert (map.insert m n f) q g) k ≡ map.get (map.insert (map.insert m q g) n f) k
    at k = grind (arith, gets, nat_tests)

pub remove-insert : (m : Frames) (n q : ℕ) (f : List ℕ) → q ≢ n → map.remove (map.insert m n f) q ≡ map.insert (map.remove m q) n f
remove-insert m n q f other = same_map nat_cmp_total nat_cmp-IsAntisymmetric _ _ (λ k. at k)
  where
    at : (k : ℕ) → map.get (map.remove (map.insert m n f) q) k ≡ map.get (map.insert (map.remove m q) n f) k
    at k = grind (arith, gets, nat_tests)

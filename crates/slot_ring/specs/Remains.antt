-- What a ring that was closed leaves.
use Rattle.std.specs.Prelude.{◌≡◌, ℕ, zero, suc, ◌+◌, ◌-◌, ◌*◌, ◌/◌, ◌%◌, ◌≤◌, ◌==◌, ◌&&◌, List, [], ◌∷◌, Option, Some, None, slice_get, slice_index, slice_index_or, nat_lt, not, if◌then◌else◌}
use Rattle.std.specs.FinMap as map
use Rattle.playout.specs.declared.call.Call.{Call}
use Rattle.ring_core.specs.declared.views.Shape.{Shape}
use Rattle.playout.specs.Machine.{opening_machine}
use Rattle.playout.specs.History.{Entry, IsLegal, AllMayCall, after_all, calls_of}
use Rattle.ring_core.specs.Ring.{slot_count}
use Rattle.step_table.specs.Packed.{Kept}

-- the frames that are left by number, and the lists that were gathered
pub record LeftView : Type 0 where
  pub frames : List (ℕ × List ℕ)
  pub lists : List (Option (List Call))

-- each caller's list is there
abbrev pub AllGathered : ℕ → List (Option (List Call)) → Type 0
AllGathered filers lists = (who : ℕ) → who ≤ filers → (l : List Call) × (slice_get lists who ≡ Some (Some l))

-- one legal history has these lists as its callers', and the frames are those of the machine after it, in rising number
abbrev pub Ended : Shape → List (Option (List Call)) → List (ℕ × List ℕ) → Type 0
Ended k lists frames =
    (h : List Entry) × IsLegal (slot_count k) opening_machine h × AllMayCall k.filers h
    × ((who : ℕ) → who ≤ k.filers → slice_get lists who ≡ Some (Some (calls_of who h)))
    × (frames ≡ map.entries (after_all opening_machine h).frames)

-- the frame of a number, from the words and the cells: that of its slot's word, where it has this number and is filled
abbrev pub read_at : ℕ → List ℕ → List Kept → ℕ → Kept
read_at r words cells n =
    if (slice_index words (n % r) % 281474976710656 == n) && not (nat_lt (slice_index words (n % r)) 9223372036854775808)
    then slice_index_or cells (slice_index words (n % r) / 281474976710656 % 32768) None
    else None

abbrev pub with_number : ℕ → Kept → List (ℕ × List ℕ) → List (ℕ × List ℕ)
with_number n None rest = rest
with_number n (Some f) rest = (n, f) ∷ rest

-- the frames of this many numbers from this one on
abbrev pub pairs_from : (ℕ → Kept) → ℕ → ℕ → List (ℕ × List ℕ)
pairs_from g n zero = []
pairs_from g n (suc count) = with_number n (g n) (pairs_from g (n + 1) count)

-- all frames that are left: each number is less than r away from that of the first word
abbrev pub frames_left : ℕ → List ℕ → List Kept → List (ℕ × List ℕ)
frames_left r words cells = pairs_from (read_at r words cells) (slice_index words 0 % 281474976710656 - r) (2 * r)

abbrev pub shape_of : ℕ → ℕ → Shape
shape_of filers g = record { filers = filers; g = g }

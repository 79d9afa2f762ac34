-- The ring at the start.
use Rattle.std.specs.Prelude.{ℕ, zero, suc, ◌+◌, List, [], ◌∷◌, replicate, None, true}
use Rattle.ring_core.specs.declared.views.Shape.{Shape}
use Rattle.ring_core.specs.declared.views.Pooling.{Pooling}
use Rattle.playout.specs.Machine.{start}
use Rattle.ring_core.specs.declared.words.SlotWord.{SlotWord}
use Rattle.ring_core.specs.declared.words.Berth.{Berth}
use Rattle.ring_core.specs.declared.words.Berth.TheVariants.{Fresh}
use Rattle.ring_core.specs.declared.words.Cell.TheVariants.{AtHome}
use Rattle.ring_core.specs.Ring.{Ring, slot_count}
use Rattle.ring_core.specs.Steps.{free_word, pool_view}

-- n free words, from the i-th on
abbrev pub slots_from : ℕ → ℕ → List SlotWord
slots_from i zero = []
slots_from i (suc n) = free_word (start + i) i ∷ slots_from (suc i) n

abbrev pub berths_from : ℕ → ℕ → List Berth
berths_from i zero = []
berths_from i (suc n) = Fresh i ∷ berths_from (suc i) n

abbrev pub all_rights : Shape → Pooling
all_rights k = record { lists = replicate (k.filers + 1) None; rights = replicate (k.filers + 1) true }

abbrev pub opening_ring : Shape → Ring
opening_ring k =
    record {
      slots = slots_from 0 (slot_count k);
      berths = berths_from (slot_count k) (k.filers + 1);
      source = 0;
      base = 0;
      cells = replicate (slot_count k + k.filers + 1) (AtHome None);
      views = pool_view k (all_rights k) ∷ [];
    }

-- How the program keeps the ring.
use Rattle.ring_core.specs.Ring.{Ring, word_of}
use Rattle.ring_core.specs.declared.core_state.CoreState.TheInside.{Inside}

abbrev pub ring_of : Inside → Ring
ring_of a = record { slots = a.slots.items; berths = a.berths.items; source = word_of a.source; base = word_of a.base; cells = a.cells.items; views = a.views.items }

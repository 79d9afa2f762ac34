-- How many words and cells a table has.
use Rattle.std.specs.Prelude.{◌≡◌, ◌+◌, ◌^◌}
use Rattle.atomic_table.specs.Seated.{TableId}
use Rattle.ring_core.specs.declared.views.Shape.{Shape}

abbrev pub IsLaid : TableId → Shape → Type 0
IsLaid id k = (id.words ≡ 2 ^ k.g + k.filers + 3) × (id.slots ≡ 2 ^ k.g + k.filers + 1)

-- How a line on one thread keeps its machine.
use Rattle.std.specs.Prelude.{◌≤◌, ◌^◌}
use Rattle.std.specs.Vec.{vec_capacity}
use Rattle.playout.specs.Line.{Line}
use Rattle.playout.specs.Pairs.{frames_in, Rises, InWindow}
use Rattle.playout.specs.declared.map_line.MapLine.TheInside.{Inside}

abbrev pub line_of : Inside → Line
line_of a = record { filers = a.filers; g = a.g; machine = record { source = a.source; base = a.base; position = a.position; frames = frames_in a.pairs.items } }

-- the pairs rise within the window, and there is room for all that it can hold
pub record IsLine (a : Inside) : Type 0 where
  pub g : a.g ≤ 10
  pub started : 2 ^ 32 ≤ a.position
  pub position : a.position ≤ 2 ^ 33
  pub rises : Rises a.pairs.items
  pub window : InWindow (2 ^ a.g) a.position a.pairs.items
  pub room : 2 ^ a.g ≤ vec_capacity a.pairs

-- The parts of a beat.
use Rattle.std.specs.Prelude.{◌≡◌, ◌⊎◌, ◌+◌, true, false, List, [], ◌∷◌, ◌++◌}
use Rattle.std.specs.List.{AllByRecursion}
use Rattle.frame_codec.specs.declared.item.Item.{Item}
use Rattle.playout.specs.declared.call.Call.{Call}
use Rattle.playout.specs.declared.call.Call.TheVariants.{TickCall, LookCall, RetireCall}
use Rattle.playout.specs.declared.side.PlayerSide as player_side
use Rattle.playout.specs.History.{Chained, moves}
use Rattle.player.specs.Beats.{CanBeTold, IsTaken}

-- the item of the next number is taken
abbrev pub Ticks : List Call → Type 0
Ticks calls = (item : Item) × IsTaken item × (calls ≡ TickCall item ∷ [])

-- the item of the next number is taken, and not played
abbrev pub Retires : List Call → Type 0
Retires calls = (item : Item) × IsTaken item × (calls ≡ RetireCall item ∷ [])

-- the next number is left out where no frame waits for it and one waits for the number after it
abbrev pub LeavesOut : List Call → Type 0
LeavesOut calls =
    (calls ≡ LookCall 0 true ∷ [])
    ⊎ ((calls ≡ LookCall 0 false ∷ LookCall 1 false ∷ [])
    ⊎ ((gone : Item) × IsTaken gone × (calls ≡ LookCall 0 false ∷ LookCall 1 true ∷ RetireCall gone ∷ [])))

-- A part of a beat: its calls are by this rule, the journal can tell them, they follow those before it, and the side went on by them.
pub record Asks {S : Type 0} (s : player_side.Ghosts S) (rule : List Call → Type 0) (before now : S) (calls calls_now : List Call) : Type 0 where
  pub part : List Call
  pub by_rule : rule part
  pub told : AllByRecursion (CanBeTold (s.g before)) part
  pub side : Chained s.did before part now
  pub position : s.position now ≡ s.position before + moves part
  pub slots : s.g now ≡ s.g before
  pub follow : calls_now ≡ calls ++ part

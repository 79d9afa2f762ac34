-- When all callers of a line reach their ends.
use Rattle.std.specs.Prelude.{◌≡◌, ℕ, List}
use mathlib.Core.Option.{some}
use lib.ListN.{get_elem?}
use Rattle.gate_base.specs.Faults.{Rose}
use Rattle.recorder.specs.declared.tally.Tally.{Tally}
use Rattle.filer.specs.declared.run.FilerEnd.{FilerEnd}
use Rattle.filer.specs.declared.run.FilerEnd.TheVariants.{Ended}
use Rattle.line_run.specs.Seen.{PlayerSeen}

-- every filer reached its end
abbrev pub AllEnded : List (FilerEnd × Tally) → Type 0
AllEnded filers = (i : ℕ) (end : FilerEnd) (tally : Tally) → get_elem? filers i ≡ some (end, tally) → end ≡ Ended

-- of no place of the lists did the count rise
abbrev pub NoneRose : {P : Type 0} → (P → ℕ) → List P → List P → Type 0
NoneRose {P} faults ps ps' = (i : ℕ) (p p' : P) → get_elem? ps i ≡ some p → get_elem? ps' i ≡ some p' → ¬ Rose (faults p) (faults p')

-- the count of none of the player's objects rose
pub record PlayerNone (a b : PlayerSeen) : Type 0 where
  pub speaker : ¬ Rose a.speaker.faults b.speaker.faults
  pub microphone : ¬ Rose a.microphone.faults b.microphone.faults
  pub reply : ¬ Rose a.reply.faults b.reply.faults

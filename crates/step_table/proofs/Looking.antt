-- A look and a hold are steps that the table's rule allows.
use Rattle.std.proofs.Common.{ℕ, ◌+◌, ◌%◌, List, refl}
use Rattle.atomic_table.specs.Table.{Allows}
use Rattle.ring_core.specs.declared.player_steps.Glance.{Glance}
use Rattle.ring_core.specs.declared.views.Shape.{Shape}
use Rattle.ring_core.specs.declared.views.Calling.{Calling}
use Rattle.ring_core.specs.Ring.{slot_count}
use Rattle.ring_core.specs.Steps.{position_of, ahead_of, glanced}
use Rattle.ring_core.specs.RuleLaws.{number_ahead}
use Rattle.ring_core.specs.RingLaws.{AllStepsKeepTheRule, CallersAreFresh}
use Rattle.step_table.specs.Packed.{Kept, SeatState, Holds}
use Rattle.step_table.specs.Kinds.{glance, MayLoad, AfterGlance, told}
use Rattle.step_table.proofs.Reading.{reads, read_allowed}

pub glance_allowed : AllStepsKeepTheRule → CallersAreFresh → (k : Shape) (slots id : ℕ) (me : SeatState) (word : ℕ) (v : Glance) → MayLoad (glance v) k me word → Allows (Holds k) slots id me word (λ x. x) (told (glance v) me)
glance_allowed steps fresh k slots id me word v may =
    let c : Calling = may.0 in let held : List (ℕ × Kept) = may.1 in let n : ℕ = position_of c + ahead_of v in
    read_allowed (glance v) k slots id me word (n % slot_count k) c held may.2 may.5 (λ s rule keep at.
    reads k s rule keep id c held n (λ w. glanced c v w) (λ e found now. AfterGlance k e v held found now)
    (λ w there. (steps k s rule).glance v id c w (at, may.3) may.4 there)
    (λ w there found shows small. (w, shows, small, refl, number_ahead k s rule id c (ahead_of v) w at may.3 may.4 there, λ f has. (fresh k s rule id c at).found (ahead_of v) w f may.3 may.4 there has)))

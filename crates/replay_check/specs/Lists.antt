-- The journals whose calls are judged, where the calls stand in them, and how far each caller has come.
use Rattle.std.specs.Prelude.{ℕ, zero, suc, ◌≡◌, ◌+◌, ◌-◌, List, [], ◌∷◌, length, drop, map, Option, Some, None, slice_index, Vec}
use Rattle.std.specs.Global.{Global}
use Rattle.playout.specs.declared.call.Call.{Call}
use Rattle.recorder.specs.declared.events.FilerEvent.{FilerEvent}
use Rattle.recorder.specs.Journals.{FilerRecord, PlayerRecord}
use Rattle.replay_check.specs.Journals.{call_of, calls_in, filer_calls, journal_lists, plays_in}
use Rattle.replay_check.specs.Denials.{AreDenials}
use Rattle.replay_check.specs.Verdict.{Lists}

pub record Recording : Type 0 where
  pub filers : List FilerRecord
  pub player : PlayerRecord

-- the calls of each caller
abbrev pub list_of : Recording → Lists
list_of r = journal_lists r.filers r.player

-- the call of the event at this place, where it is one
abbrev pub call_at : List FilerEvent → ℕ → Option Call
call_at [] p = None
call_at (e ∷ es) zero = call_of e
call_at (e ∷ es) (suc p) = call_at es p

-- the events at these places are all calls, in their order
abbrev pub AreCallsAt : List FilerEvent → List ℕ → Type 0
AreCallsAt events places = map (call_at events) places ≡ map (λ c. Some c) (calls_in events)

-- for each filer these are the places of its calls
abbrev pub AllCallsAt : List FilerRecord → List (Vec ℕ Global) → Type 0
AllCallsAt [] [] = Unit {0}
AllCallsAt [] (v ∷ vs) = ⊥
AllCallsAt (f ∷ fs) [] = ⊥
AllCallsAt (f ∷ fs) (v ∷ vs) = AreCallsAt f.events v.items × AllCallsAt fs vs

-- where the filers' calls stand, and which numbers the player's calls say are absent
pub record AreFound (filers : List FilerRecord) (player : PlayerRecord) (places : List (Vec ℕ Global)) (denials : List ℕ) : Type 0 where
  pub calls : AllCallsAt filers places
  pub denied : AreDenials denials (plays_in player.events)

-- what is left where this many calls of each caller were taken
abbrev pub left_of : Lists → List ℕ → Lists
left_of lists at k = drop (slice_index at k) (lists k)

abbrev pub first_of : List Call → Option Call
first_of [] = None
first_of (c ∷ cs) = Some c

-- how many calls of the filers and of the player are left
abbrev pub count_left : List FilerRecord → PlayerRecord → List ℕ → ℕ
count_left [] p [] = length (plays_in p.events)
count_left [] p (a ∷ at) = length (plays_in p.events) - a
count_left (f ∷ fs) p [] = length (filer_calls f) + count_left fs p []
count_left (f ∷ fs) p (a ∷ at) = (length (filer_calls f) - a) + count_left fs p at

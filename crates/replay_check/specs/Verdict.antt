-- Lists of calls that come from one line: what is asked of them, and what is answered.
use Rattle.std.specs.Prelude.{◌≡◌, ℕ, ◌≤◌, List, [], ◌∷◌}
use Rattle.playout.specs.declared.call.Call.{Call}
use Rattle.playout.specs.Machine.{Machine}
use Rattle.playout.specs.History.{Entry, IsLegal, calls_of}

-- the calls of each caller, by its number
abbrev pub Lists : Type 0
Lists = ℕ → List Call

-- each caller is a filer or the player, whose number is that of the filers
abbrev pub AllAtMost : ℕ → List Entry → Type 0
AllAtMost filers [] = Unit {0}
AllAtMost filers (e ∷ es) = (e.who ≤ filers) × AllAtMost filers es

-- the history is legal from m on, and each caller's calls in it are its list
pub record IsHistory (r filers : ℕ) (m : Machine) (lists : Lists) (h : List Entry) : Type 0 where
  pub legal : IsLegal r m h
  pub callers : AllAtMost filers h
  pub made : (k : ℕ) → k ≤ filers → calls_of k h ≡ lists k

-- the lists are those of some legal history
abbrev pub Lawful : ℕ → ℕ → Machine → Lists → Type 0
Lawful r filers m lists = (h : List Entry) × IsHistory r filers m lists h

-- the callers of a history, one after the other
abbrev pub whos : List Entry → List ℕ
whos [] = []
whos (e ∷ es) = e.who ∷ whos es

-- some legal history of the lists has its callers in this order
abbrev pub HasOrder : ℕ → ℕ → Machine → Lists → List ℕ → Type 0
HasOrder r filers m lists order = (h : List Entry) × IsHistory r filers m lists h × (whos h ≡ order)

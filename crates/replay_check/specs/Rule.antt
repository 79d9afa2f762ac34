-- The rule that takes the calls of the lists one by one.
use Rattle.std.specs.Prelude.{◌≡◌, ◌≢◌, ◌⊎◌, ℕ, ◌+◌, ◌^◌, ◌<◌, ◌≤◌, ◌==◌, List, [], ◌∷◌, length, Some, None, true, false, if◌then◌else◌}
use Rattle.playout.specs.declared.call.Call.{Call}
use Rattle.playout.specs.declared.call.Call.TheVariants.{FileCall, SourceCall, BaseCall, PeekCall, TickCall, LookCall, HoldCall, RetireCall}
use Rattle.playout.specs.declared.reply.FileReply.TheVariants.{Accepted}
use Rattle.playout.specs.Machine.{Machine, opening_machine, Replies, after}
use Rattle.playout.specs.History.{move_weight}
use Rattle.replay_check.specs.declared.verdict.Verdict.{Verdict}
use Rattle.replay_check.specs.declared.verdict.Verdict.TheVariants.{Legal, Illegal}
use Rattle.replay_check.specs.Verdict.{Lists, Lawful, HasOrder}

-- this call of the player, made at position p, answers that n is absent
abbrev pub SaysAbsent : ℕ → ℕ → Call → Type 0
SaysAbsent n p (LookCall ahead false) = p + ahead ≡ n
SaysAbsent n p (HoldCall true) = p ≡ n
SaysAbsent n p _ = ⊥

-- one of the player's calls from position p on does
abbrev pub Absent : ℕ → ℕ → List Call → Type 0
Absent n p [] = ⊥
Absent n p (c ∷ cs) = SaysAbsent n p c ⊎ Absent n (p + move_weight c) cs

-- a frame that was accepted has to wait for the calls of the player that answer that its number is absent
abbrev pub Waits : ℕ → Machine → Lists → Call → Type 0
Waits filers m lists (FileCall n f Accepted) = Absent n m.position (lists filers)
Waits filers m lists _ = ⊥

-- a caller's list begins with this call, the machine would reply to it so, and it need not wait
pub record IsNext (r filers : ℕ) (m : Machine) (lists : Lists) (who : ℕ) (c : Call) (rest : List Call) : Type 0 where
  pub next : lists who ≡ c ∷ rest
  pub replies : Replies r m c
  pub ready : Waits filers m lists c → ⊥

-- a caller's next call is possible
abbrev pub Can : ℕ → ℕ → Machine → Lists → ℕ → Type 0
Can r filers m lists who = (c : Call) × (rest : List Call) × IsNext r filers m lists who c rest

-- a call of the player that takes nothing
abbrev pub IsQuiet : Call → Type 0
IsQuiet (PeekCall held) = Unit {0}
IsQuiet (LookCall ahead filled) = Unit {0}
IsQuiet (HoldCall held) = Unit {0}
IsQuiet _ = ⊥

-- the player's next call takes nothing and is possible
abbrev pub CanQuietly : ℕ → ℕ → Machine → Lists → Type 0
CanQuietly r filers m lists = (c : Call) × (rest : List Call) × IsNext r filers m lists filers c rest × IsQuiet c

-- of the callers below this number none has a possible call
abbrev pub NoneCan : ℕ → ℕ → ℕ → Machine → Lists → Type 0
NoneCan r filers below m lists = (k : ℕ) → k < below → Can r filers m lists k → ⊥

-- The caller whose call the rule takes: the player where its next call takes nothing and is possible, else the lowest filer that has a
-- possible call, else the player where its tick or retire is possible.
abbrev pub IsTaken : ℕ → ℕ → Machine → Lists → ℕ → Type 0
IsTaken r filers m lists who =
    ((who ≡ filers) × CanQuietly r filers m lists)
    ⊎ (((who < filers) × (CanQuietly r filers m lists → ⊥) × Can r filers m lists who × NoneCan r filers who m lists)
    ⊎ ((who ≡ filers) × (CanQuietly r filers m lists → ⊥) × Can r filers m lists filers × NoneCan r filers filers m lists))

-- the lists with another one for this caller
abbrev pub without : Lists → ℕ → List Call → Lists
without lists who rest k = if k == who then rest else lists k

-- the rule takes a call of each of these callers in turn, and leaves a machine and lists of which P holds
abbrev pub Follows : ℕ → ℕ → Machine → Lists → List ℕ → (Machine → Lists → Type 0) → Type 0
Follows r filers m lists [] P = P m lists
Follows r filers m lists (who ∷ order) P =
    IsTaken r filers m lists who × ((c : Call) × (rest : List Call) × IsNext r filers m lists who c rest × Follows r filers (after m c) (without lists who rest) order P)

-- all calls were taken
abbrev pub NothingLeft : ℕ → Machine → Lists → Type 0
NothingLeft filers m lists = (k : ℕ) → k ≤ filers → lists k ≡ []

-- No call is possible, and some are left: the first caller that has any is this one, and this many of its calls were
-- taken.
pub record IsStuck (r filers : ℕ) (all : Lists) (caller place : ℕ) (m : Machine) (lists : Lists) : Type 0 where
  pub none : (k : ℕ) → k ≤ filers → Can r filers m lists k → ⊥
  pub known : caller ≤ filers
  pub some : lists caller ≢ []
  pub first : (k : ℕ) → k < caller → lists k ≡ []
  pub counted : place + length (lists caller) ≡ length (all caller)

-- Legal has the rule's order, which is that of a legal history; Illegal is answered where there is no legal history,
-- with the place where the rule found no call.
abbrev pub IsVerdict : ℕ → ℕ → Lists → Verdict → Type 0
IsVerdict r filers lists (Legal order) = HasOrder r filers opening_machine lists order × Follows r filers opening_machine lists order (NothingLeft filers)
IsVerdict r filers lists (Illegal caller place) =
    (Lawful r filers opening_machine lists → ⊥) × ((order : List ℕ) × Follows r filers opening_machine lists order (IsStuck r filers lists caller place))

-- ---- what the lists of journals are

-- what a filer may have called
abbrev pub IsFilers : Call → Type 0
IsFilers (FileCall n f reply) = n < 2 ^ 47
IsFilers (SourceCall x held) = Unit {0}
IsFilers (BaseCall x held) = Unit {0}
IsFilers _ = ⊥

abbrev pub AllFilers : List Call → Type 0
AllFilers [] = Unit {0}
AllFilers (c ∷ cs) = IsFilers c × AllFilers cs

-- what the player may have called after its peeks that saw no base
abbrev pub IsLater : Call → Type 0
IsLater (PeekCall (Some x)) = Unit {0}
IsLater (TickCall item) = Unit {0}
IsLater (LookCall ahead filled) = Unit {0}
IsLater (HoldCall held) = Unit {0}
IsLater (RetireCall item) = Unit {0}
IsLater _ = ⊥

abbrev pub AllLater : List Call → Type 0
AllLater [] = Unit {0}
AllLater (c ∷ cs) = IsLater c × AllLater cs

-- the player's peeks that saw no base come first
abbrev pub IsPlayers : List Call → Type 0
IsPlayers [] = Unit {0}
IsPlayers (c ∷ cs) = ((c ≡ PeekCall None) × IsPlayers cs) ⊎ AllLater (c ∷ cs)

pub record AreJournals (filers : ℕ) (lists : Lists) : Type 0 where
  pub filer : (k : ℕ) → k < filers → AllFilers (lists k)
  pub player : IsPlayers (lists filers)

-- ---- laws

-- the rule takes one caller's call, or none
abbrev pub RuleDecides : Type 0
RuleDecides = (r filers : ℕ) (m : Machine) (lists : Lists) (one two : ℕ) → IsTaken r filers m lists one → IsTaken r filers m lists two → one ≡ two

-- the rule reaches its end exactly where there is a legal history
abbrev pub RuleIsExact : Type 0
RuleIsExact = (r filers : ℕ) (lists : Lists) (order : List ℕ) → AreJournals filers lists
    → (Follows r filers opening_machine lists order (NothingLeft filers) → HasOrder r filers opening_machine lists order)
    × ((caller place : ℕ) → Follows r filers opening_machine lists order (IsStuck r filers lists caller place) → Lawful r filers opening_machine lists → ⊥)

pub record SameOrder (r filers : ℕ) (lists : Lists) (order order' : List ℕ) (caller place caller' place' : ℕ) : Type 0 where
  pub legal : Follows r filers opening_machine lists order (NothingLeft filers) → Follows r filers opening_machine lists order' (NothingLeft filers) → order ≡ order'
  pub illegal : Follows r filers opening_machine lists order (IsStuck r filers lists caller place) → Follows r filers opening_machine lists order' (IsStuck r filers lists caller' place') → order ≡ order'

-- two orders of the rule that reach an end are one
abbrev pub OrderIsOne : Type 0
OrderIsOne = (r filers : ℕ) (lists : Lists) (order order' : List ℕ) (caller place caller' place' : ℕ) → SameOrder r filers lists order order' caller place caller' place'

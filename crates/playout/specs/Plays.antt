-- What follows for a legal history: which frame is played, how often, and that no reply is free.
use Rattle.std.specs.Prelude.{◌≡◌, ◌⊎◌, ℕ, ◌+◌, ◌%◌, ◌≤◌, ◌<◌, ◌==◌, false, List, [], ◌∷◌, ◌++◌, None, if◌then◌else◌}
use Rattle.frame_codec.specs.declared.item.Item.{Item}
use Rattle.frame_codec.specs.declared.item.Item.TheVariants.{Idle, Frame, Erasure}
use Rattle.playout.specs.declared.reply.FileReply.TheVariants.{Accepted}
use Rattle.playout.specs.declared.call.Call.{Call}
use Rattle.playout.specs.declared.call.Call.TheVariants.{FileCall, SourceCall, BaseCall, PeekCall, TickCall, LookCall, HoldCall, RetireCall}
use Rattle.playout.specs.Machine.{start, opening_machine, IsAhead}
use Rattle.playout.specs.History.{Entry, entry, IsLegal, after_all, calls, move_weight, moves, next_number}

-- some call filed this frame under n and was accepted
abbrev pub WasAccepted : ℕ → List ℕ → List Entry → Type 0
WasAccepted n f [] = ⊥
WasAccepted n f (e ∷ es) = (e.call ≡ FileCall n f Accepted) ⊎ WasAccepted n f es

abbrev pub AllAccepted : List (ℕ × List ℕ) → List Entry → Type 0
AllAccepted [] es = Unit {0}
AllAccepted (p ∷ ps) es = WasAccepted p.0 p.1 es × AllAccepted ps es

-- the item is the frame that was accepted under n, or an erasure where none was
abbrev pub IsAcceptedItem : ℕ → List Entry → Item → Type 0
IsAcceptedItem n before Idle = ⊥
IsAcceptedItem n before (Frame f) = WasAccepted n f before
IsAcceptedItem n before Erasure = (f : List ℕ) → WasAccepted n f before → ⊥

-- the position of the machine is the first number and the ticks and retires before
abbrev pub PositionCountsMoves : Type 0
PositionCountsMoves = (history : List Entry) → (after_all opening_machine history).position ≡ next_number history

-- a tick plays what was accepted before under its number
abbrev pub TicksPlayAccepted : Type 0
TicksPlayAccepted = (r who : ℕ) (before rest : List Entry) (item : Item) → IsLegal r opening_machine (before ++ entry who (TickCall item) ∷ rest) → IsAcceptedItem (next_number before) before item

-- a retire answers what was accepted before under its number, and does not play it
abbrev pub RetiresTakeAccepted : Type 0
RetiresTakeAccepted = (r who : ℕ) (before rest : List Entry) (item : Item) → IsLegal r opening_machine (before ++ entry who (RetireCall item) ∷ rest) → IsAcceptedItem (next_number before) before item

-- 1 for a call that is accepted under n
abbrev pub accepted_weight : ℕ → Call → ℕ
accepted_weight n (FileCall k f Accepted) = if n == k then 1 else 0
accepted_weight n _ = 0

-- how many of the calls were accepted under n
abbrev pub times_accepted : ℕ → List Call → ℕ
times_accepted n [] = 0
times_accepted n (c ∷ cs) = accepted_weight n c + times_accepted n cs

-- 1 for a tick
abbrev pub tick_weight : Call → ℕ
tick_weight (TickCall item) = 1
tick_weight _ = 0

-- 1 for a retire
abbrev pub retire_weight : Call → ℕ
retire_weight (RetireCall item) = 1
retire_weight _ = 0

-- 1 for a frame
abbrev pub frame_weight : Item → ℕ
frame_weight Idle = 0
frame_weight (Frame f) = 1
frame_weight Erasure = 0

-- 1 for a tick that plays a frame
abbrev pub played_weight : Call → ℕ
played_weight (TickCall item) = frame_weight item
played_weight _ = 0

-- how much those of the calls weigh that are made while the position is n, where it is p at first
abbrev pub weight_at : (Call → ℕ) → ℕ → ℕ → List Call → ℕ
weight_at weight n p [] = 0
weight_at weight n p (c ∷ cs) = (if n == p then weight c else 0) + weight_at weight n (p + move_weight c) cs

-- how many of the calls are ticks of n
abbrev pub times_ticked : ℕ → List Call → ℕ
times_ticked n cs = weight_at tick_weight n start cs

-- how many of the calls are retires of n
abbrev pub times_retired : ℕ → List Call → ℕ
times_retired n cs = weight_at retire_weight n start cs

-- how many of the calls play a frame under n
abbrev pub times_played : ℕ → List Call → ℕ
times_played n cs = weight_at played_weight n start cs

-- at most one call is accepted under n, and none below the first number; from that on each number that is passed has one tick or one retire, and one that
-- is not has neither; where the tick of n is there the frame was played, and else never
pub record IsOnce (n : ℕ) (cs : List Call) : Type 0 where
  pub accepted : times_accepted n cs ≤ 1
  pub below : n < start → (times_accepted n cs ≡ 0) × (times_ticked n cs + times_retired n cs ≡ 0)
  pub passed : start ≤ n → n < start + moves cs → times_ticked n cs + times_retired n cs ≡ 1
  pub waits : start + moves cs ≤ n → times_ticked n cs + times_retired n cs ≡ 0
  pub played : times_ticked n cs ≡ 1 → times_played n cs ≡ times_accepted n cs
  pub unplayed : times_ticked n cs ≡ 0 → times_played n cs ≡ 0

abbrev pub AcceptedOnce : Type 0
AcceptedOnce = (r : ℕ) (history : List Entry) → IsLegal r opening_machine history → (n : ℕ) → IsOnce n (calls history)

-- a call with its reply left out
abbrev pub asked : Call → Call
asked (FileCall n f reply) = FileCall n f Accepted
asked (SourceCall x held) = SourceCall x 0
asked (BaseCall x held) = BaseCall x 0
asked (PeekCall held) = PeekCall None
asked (TickCall item) = TickCall Erasure
asked (LookCall ahead filled) = LookCall ahead false
asked (HoldCall held) = HoldCall false
asked (RetireCall item) = RetireCall Erasure

-- who asked what, in order
abbrev pub all_asked : List Entry → List Entry
all_asked [] = []
all_asked (e ∷ es) = entry e.who (asked e.call) ∷ all_asked es

-- the same callers with the same arguments get the same replies
abbrev pub RepliesAreOne : Type 0
RepliesAreOne = (r : ℕ) (one two : List Entry) → all_asked one ≡ all_asked two → IsLegal r opening_machine one → IsLegal r opening_machine two → one ≡ two

-- the number told ahead is the least that is still to come and is congruent to the one that was filed
abbrev pub AheadIsLeast : Type 0
AheadIsLeast = (r p n ahead other : ℕ) → IsAhead r p n ahead → p ≤ other → other % r ≡ n % r → ahead ≤ other

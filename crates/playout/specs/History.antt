-- Histories: who called, and what was replied, one call after the other.
use Rattle.std.specs.Prelude.{◌≡◌, ℕ, ◌+◌, ◌^◌, ◌≤◌, ◌<◌, ◌==◌, List, [], ◌∷◌, if◌then◌else◌}
use Rattle.playout.specs.declared.reply.FileReply.{FileReply}
use Rattle.playout.specs.declared.reply.FileReply.TheVariants.{Accepted, Duplicate, Late, Beyond}
use Rattle.playout.specs.declared.call.Call.{Call}
use Rattle.playout.specs.declared.call.Call.TheVariants.{FileCall, SourceCall, BaseCall, PeekCall, TickCall, LookCall, HoldCall, RetireCall}
use Rattle.playout.specs.Machine.{start, Machine, Replies, after}

-- a caller's number, and its call with the reply
pub record Entry : Type 0 where
  pub who : ℕ
  pub call : Call

abbrev pub entry : ℕ → Call → Entry
entry who call = record { who = who; call = call }

-- each reply is the machine's, from m on, where there are r slots
abbrev pub IsLegal : ℕ → Machine → List Entry → Type 0
IsLegal r m [] = Unit {0}
IsLegal r m (e ∷ es) = Replies r m e.call × IsLegal r (after m e.call) es

-- the machine after a history
abbrev pub after_all : Machine → List Entry → Machine
after_all m [] = m
after_all m (e ∷ es) = after_all (after m e.call) es

-- the calls of one caller, in the order of the history
abbrev pub calls_of : ℕ → List Entry → List Call
calls_of who [] = []
calls_of who (e ∷ es) = if e.who == who then e.call ∷ calls_of who es else calls_of who es

-- all calls, whoever made them
abbrev pub calls : List Entry → List Call
calls [] = []
calls (e ∷ es) = e.call ∷ calls es

-- a tick or a retire goes on by one number, no other call does
abbrev pub move_weight : Call → ℕ
move_weight (TickCall item) = 1
move_weight (RetireCall item) = 1
move_weight _ = 0

-- how many of the calls are ticks or retires
abbrev pub moves : List Call → ℕ
moves [] = 0
moves (c ∷ cs) = move_weight c + moves cs

-- the number that the next tick or retire takes
abbrev pub next_number : List Entry → ℕ
next_number before = start + moves (calls before)

-- the player, whose number is that of the filers, peeks, ticks, looks, holds and retires; the filers make all other calls
abbrev pub MayCall : ℕ → ℕ → Call → Type 0
MayCall filers who (FileCall n f reply) = who < filers
MayCall filers who (SourceCall x held) = who < filers
MayCall filers who (BaseCall x held) = who < filers
MayCall filers who (PeekCall held) = who ≡ filers
MayCall filers who (TickCall item) = who ≡ filers
MayCall filers who (LookCall ahead filled) = who ≡ filers
MayCall filers who (HoldCall held) = who ≡ filers
MayCall filers who (RetireCall item) = who ≡ filers

abbrev pub AllMayCall : ℕ → List Entry → Type 0
AllMayCall filers [] = Unit {0}
AllMayCall filers (e ∷ es) = MayCall filers e.who e.call × AllMayCall filers es

-- what a reply says of its number, whatever the machine was
abbrev pub ReplyFits : ℕ → FileReply → Type 0
ReplyFits n Accepted = (2 ^ 32 ≤ n) × (n < 2 ^ 33 + 1024)
ReplyFits n Duplicate = Unit {0}
ReplyFits n (Late ahead) = (n < ahead) × (ahead < 2 ^ 48)
ReplyFits n (Beyond ahead) = ahead < n

-- something went from before to after by these calls, one after the other
abbrev pub Chained : {S : Type 0} → (S → Call → S → Type 0) → S → List Call → S → Type 0
Chained {S} did before [] after = before ≡ after
Chained {S} did before (c ∷ cs) after = (mid : S) × did before c mid × Chained did mid cs after

-- Where each reply of a legal history comes from: the cause of a filing's reply, what is held of sources and bases, and what a look and a hold tell.
use Rattle.std.specs.Prelude.{◌≡◌, ℕ, ◌+◌, ◌%◌, ◌≤◌, ◌<◌, Bool, List, [], ◌∷◌, ◌++◌, Option, Some, None, MatchBool}
use Rattle.playout.specs.declared.reply.FileReply.{FileReply}
use Rattle.playout.specs.declared.reply.FileReply.TheVariants.{Accepted, Duplicate, Late, Beyond}
use Rattle.playout.specs.declared.call.Call.{Call}
use Rattle.playout.specs.declared.call.Call.TheVariants.{FileCall, SourceCall, BaseCall, PeekCall, LookCall, HoldCall}
use Rattle.playout.specs.Machine.{opening_machine, held_or}
use Rattle.playout.specs.History.{Entry, entry, IsLegal, next_number}
use Rattle.playout.specs.Plays.{WasAccepted}

-- some frame was accepted under n
abbrev pub SomeAccepted : ℕ → List Entry → Type 0
SomeAccepted n before = (f : List ℕ) × WasAccepted n f before

-- no frame was accepted under n
abbrev pub NoneAccepted : ℕ → List Entry → Type 0
NoneAccepted n before = (f : List ℕ) → WasAccepted n f before → ⊥

-- the least number from p on that is congruent to n modulo r
pub record IsLeastAhead (r p n ahead : ℕ) : Type 0 where
  pub reached : p ≤ ahead
  pub congruent : ahead % r ≡ n % r
  pub least : (other : ℕ) → p ≤ other → other % r ≡ n % r → ahead ≤ other

-- why n gets this reply, where p is the number that the next tick or retire takes and there are r slots: nothing was accepted under it in
-- the window; a frame was; its tick or retire is past; or it is r or more ahead
abbrev pub IsCause : ℕ → ℕ → List Entry → ℕ → FileReply → Type 0
IsCause r p before n Accepted = (p ≤ n) × (n < p + r) × NoneAccepted n before
IsCause r p before n Duplicate = (p ≤ n) × (n < p + r) × SomeAccepted n before
IsCause r p before n (Late ahead) = (n < p) × IsLeastAhead r p n ahead
IsCause r p before n (Beyond ahead) = (p + r ≤ n) × IsLeastAhead r p n ahead

-- each reply comes for its cause alone
abbrev pub RepliesHaveCauses : Type 0
RepliesHaveCauses = (r who n : ℕ) (f : List ℕ) (reply : FileReply) (before rest : List Entry) → IsLegal r opening_machine (before ++ entry who (FileCall n f reply) ∷ rest) → IsCause r (next_number before) before n reply

-- each cause gives its reply
abbrev pub CausesGiveReplies : Type 0
CausesGiveReplies = (r who n : ℕ) (f : List ℕ) (reply : FileReply) (before : List Entry) → 1 ≤ r → IsLegal r opening_machine before → IsCause r (next_number before) before n reply
    → IsLegal r opening_machine (before ++ entry who (FileCall n f reply) ∷ [])

-- for each number just one reply has its cause
abbrev pub JustOneCause : Type 0
JustOneCause = (r n : ℕ) (before : List Entry) → 1 ≤ r → IsLegal r opening_machine before
    → (reply : FileReply) × IsCause r (next_number before) before n reply × ((other : FileReply) → IsCause r (next_number before) before n other → other ≡ reply)

-- what the calls say of the source, and of the base
abbrev pub source_said : Call → Option ℕ
source_said (SourceCall x held) = Some x
source_said _ = None

abbrev pub base_said : Call → Option ℕ
base_said (BaseCall x held) = Some x
base_said _ = None

abbrev pub or_later : Option ℕ → Option ℕ → Option ℕ
or_later (Some x) later = Some x
or_later None later = later

-- the first that was said
abbrev pub first_source : List Entry → Option ℕ
first_source [] = None
first_source (e ∷ es) = or_later (source_said e.call) (first_source es)

abbrev pub first_base : List Entry → Option ℕ
first_base [] = None
first_base (e ∷ es) = or_later (base_said e.call) (first_base es)

-- what is held is what was said first: a call that says it is answered that, or its own, and a peek that, or none
pub record HeldIsFirst (r who : ℕ) (before rest : List Entry) : Type 0 where
  pub source : (x held : ℕ) → IsLegal r opening_machine (before ++ entry who (SourceCall x held) ∷ rest) → held ≡ held_or (first_source before) x
  pub base : (x held : ℕ) → IsLegal r opening_machine (before ++ entry who (BaseCall x held) ∷ rest) → held ≡ held_or (first_base before) x
  pub peek : (held : Option ℕ) → IsLegal r opening_machine (before ++ entry who (PeekCall held) ∷ rest) → held ≡ first_base before

abbrev pub FirstIsHeld : Type 0
FirstIsHeld = (r who : ℕ) (before rest : List Entry) → HeldIsFirst r who before rest

-- a look so many numbers ahead, less than the slots, tells yes where a frame was accepted before under the number there, and no where none was; a hold
-- tells yes where none was under the number that comes next, and no where one was
pub record TellsAccepted (r who : ℕ) (before rest : List Entry) : Type 0 where
  pub look : (ahead : ℕ) (filled : Bool) → IsLegal r opening_machine (before ++ entry who (LookCall ahead filled) ∷ rest)
      → (ahead < r) × MatchBool filled (SomeAccepted (next_number before + ahead) before) (NoneAccepted (next_number before + ahead) before)
  pub hold : (held : Bool) → IsLegal r opening_machine (before ++ entry who (HoldCall held) ∷ rest) → MatchBool held (NoneAccepted (next_number before) before) (SomeAccepted (next_number before) before)

abbrev pub LooksTellAccepted : Type 0
LooksTellAccepted = (r who : ℕ) (before rest : List Entry) → TellsAccepted r who before rest

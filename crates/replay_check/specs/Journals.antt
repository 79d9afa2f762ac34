-- The calls that journals tell.
use Rattle.std.specs.Prelude.{◌≡◌, ℕ, zero, suc, ◌+◌, List, [], ◌∷◌, ◌++◌, length, map, true, false, Option, Some, None}
use Rattle.frame_codec.specs.declared.item.Item.TheVariants as item
use Rattle.playout.specs.declared.call.Call.{Call}
use Rattle.playout.specs.declared.call.Call.TheVariants.{FileCall, SourceCall, BaseCall, PeekCall, TickCall, LookCall, HoldCall, RetireCall}
use Rattle.recorder.specs.declared.events.FilerEvent.{FilerEvent}
use Rattle.recorder.specs.declared.events.FilerEvent.TheVariants as filer
use Rattle.recorder.specs.declared.events.PlayEvent.{PlayEvent}
use Rattle.recorder.specs.declared.events.PlayEvent.TheVariants as play
use Rattle.recorder.specs.Heads.{Heading}
use Rattle.recorder.specs.Journals.{FilerRecord, FilerRecordFits, PlayerRecord}
use Rattle.replay_check.specs.Verdict.{Lists}

-- the call of an event of a filer; a datagram that gave no frame makes none
abbrev pub call_of : FilerEvent → Option Call
call_of (filer.Source asked) = Some (SourceCall asked.said asked.held)
call_of (filer.Base asked) = Some (BaseCall asked.said asked.held)
call_of (filer.File number frame reply) = Some (FileCall number frame reply)
call_of (filer.Refused code detail) = None
call_of filer.Rtcp = None
call_of (filer.Stranger ssrc held) = None
call_of filer.Empty = None

abbrev pub listed : Option Call → List Call
listed None = []
listed (Some c) = c ∷ []

abbrev pub calls_in : List FilerEvent → List Call
calls_in [] = []
calls_in (e ∷ es) = listed (call_of e) ++ calls_in es

-- the calls of a filer's journal
abbrev pub filer_calls : FilerRecord → List Call
filer_calls f = calls_in f.events

-- the call of an event of the player
abbrev pub play_of : PlayEvent → Call
play_of play.Idle = PeekCall None
play_of (play.Base base) = PeekCall (Some base)
play_of play.Erasure = TickCall item.Erasure
play_of (play.Frame f) = TickCall (item.Frame f)
play_of play.Held = HoldCall true
play_of play.Found = HoldCall false
play_of (play.LookFree ahead) = LookCall ahead false
play_of (play.LookFilled ahead) = LookCall ahead true
play_of play.RetiredErasure = RetireCall item.Erasure
play_of (play.RetiredFrame f) = RetireCall (item.Frame f)

abbrev pub plays_in : List PlayEvent → List Call
plays_in events = map play_of events

-- the filers' calls by their numbers, and the player's after them
abbrev pub journal_lists : List FilerRecord → PlayerRecord → Lists
journal_lists [] p zero = plays_in p.events
journal_lists [] p (suc k) = []
journal_lists (f ∷ fs) p zero = filer_calls f
journal_lists (f ∷ fs) p (suc k) = journal_lists fs p k

-- the journals have this head, and are those of the filers from this number on
abbrev pub AreNumbered : Heading → ℕ → List FilerRecord → Type 0
AreNumbered h k [] = Unit {0}
AreNumbered h k (f ∷ fs) = (f.head ≡ h) × (f.caller ≡ k) × AreNumbered h (k + 1) fs

-- the journals of one line: all heads are equal, and each filer has its journal
pub record AreOfOneLine (fs : List FilerRecord) (p : PlayerRecord) : Type 0 where
  pub many : length fs ≡ p.head.filers
  pub numbered : AreNumbered p.head 0 fs

-- each journal is in its ranges
abbrev pub AllRecordsFit : List FilerRecord → Type 0
AllRecordsFit [] = Unit {0}
AllRecordsFit (f ∷ fs) = FilerRecordFits f × AllRecordsFit fs

-- What the callers of a line have, and what they result in.
use Rattle.std.specs.Prelude.{◌≡◌, ◌⊎◌, ℕ, ◌+◌, ◌<◌, ◌≤◌, List, [], ◌∷◌, length, Option, Some, slice_get, slice_set, Bool, true}
use mathlib.Core.Option.{some}
use lib.ListN.{get_elem?}
use Rattle.playout.specs.declared.call.Call.{Call}
use Rattle.step_table.specs.Packed.{Where}
use Rattle.slot_ring.specs.Seen.{PassView}
use Rattle.recorder.specs.declared.tally.PlayTally.{PlayTally}
use Rattle.recorder.specs.declared.tally.Tally.{Tally}
use Rattle.recorder.specs.Tallies.{play_tally}
use Rattle.filer.specs.declared.run.FilerEnd.{FilerEnd}
use Rattle.player.specs.declared.run.PlayerEnd.{PlayerEnd}
use Rattle.player.specs.declared.run.PlayerEnd.TheVariants.{Ended}
use Rattle.player.specs.Whole.{PlayerGave}
use Rattle.line_run.specs.declared.caller.Caller.{Caller}
use Rattle.line_run.specs.declared.options.LineOptions.{LineOptions}
use Rattle.line_run.specs.declared.player_caller.PlayerCaller.{PlayerCaller}
use Rattle.line_run.specs.Fan.{Each}
use Rattle.line_run.specs.Filing.{FilerCame}
use Rattle.line_run.specs.Opening.{LineSeen}
use Rattle.line_run.specs.Playing.{PlayerCame, ports}
use Rattle.line_run.specs.Seen.{LinkSeen, PlayerSeen, SinkSeen}

-- ---- before they run

-- the filer has a pass of this ring under its number, which is one of the line's, and has made no call
pub record Stands (l : LineSeen) (ring : Where) (a : Caller) : Type 0 where
  pub pass : PassView
  pub has : a.pass ≡ Some pass
  pub of_ring : pass.ring ≡ ring
  pub who : pass.who ≡ a.number
  pub list : pass.list ≡ []
  pub low : a.number < l.filers

-- each filer does, and its number is its place
abbrev pub AreNew : LineSeen → Where → List Caller → Type 0
AreNew l ring cs = (i : ℕ) (c : Caller) → get_elem? cs i ≡ some c → Stands l ring c × (c.number ≡ i)

-- the player has a pass of this ring, which has the slots of the line, and has made no call
pub record PlayerStands (l : LineSeen) (ring : Where) (a : PlayerCaller) : Type 0 where
  pub pass : PassView
  pub has : a.pass ≡ Some pass
  pub of_ring : pass.ring ≡ ring
  pub who : pass.who ≡ ring.shape.filers
  pub list : pass.list ≡ []
  pub slots : ring.shape.g ≡ l.options.g

-- the right to each caller from one number to another, both included
abbrev pub HasRightsFrom : ℕ → ℕ → List Bool → Type 0
HasRightsFrom first last rights = (i : ℕ) → first ≤ i → i ≤ last → slice_get rights i ≡ Some true

-- ---- after they ran

-- a filer's pass is back, with the calls of what it resulted in, and its journal is kin to what it was
pub record CallerRan {P J : Type 0} (l : LineSeen) (ring : Where) (link : P → LinkSeen) (sink : J → SinkSeen) (kin : J → J → Type 0) (a : Caller) (p : P) (j : J) (a' : Caller) (p' : P) (j' : J) : Type 0 where
  pub pass : PassView
  pub has : a'.pass ≡ Some pass
  pub of_ring : pass.ring ≡ ring
  pub who : pass.who ≡ a.number
  pub came : FilerCame l.filers l.options a.number (link p) (sink j) (link p') (sink j') pass.list a'.end a'.tally
  pub journal : kin j j'

-- the player's pass is back, with the calls of what it resulted in
pub record PlayerRan (l : LineSeen) (ring : Where) (a : PlayerSeen) (j : SinkSeen) (b : PlayerSeen) (j' : SinkSeen) (c' : PlayerCaller) : Type 0 where
  pub pass : PassView
  pub has : c'.pass ≡ Some pass
  pub of_ring : pass.ring ≡ ring
  pub who : pass.who ≡ ring.shape.filers
  pub came : PlayerCame l.filers l.options a j b j' pass.list c'.end c'.tally

-- a player that had made no beat ran over a pass, with these calls
pub record PassPlayed (o : LineOptions) (calls : List Call) (a : PlayerSeen) (j : SinkSeen) (b : PlayerSeen) (j' : SinkSeen) (end : PlayerEnd) (tally : PlayTally) : Type 0 where
  pub made : ℕ
  pub gave : PlayerGave o.seed o.own o.sequence o.stamp o.elastic o.g j.faults j'.faults made calls (ports a j) (ports b j') end
  pub ticked : b.clock.ticks ≡ a.clock.ticks + made
  pub within : made ≤ o.ticks
  pub ended : end ≡ Ended → (b.clock.ended ≡ true) ⊎ (made ≡ o.ticks)
  pub counted : tally ≡ play_tally calls
  pub open_still : b.reply.ended ≡ a.reply.ended

-- All callers ran: the player over the first journal, and each filer over its link and its place of the other journals.
pub record AllRan {P J : Type 0} (l : LineSeen) (ring : Where) (link : P → LinkSeen) (sink : J → SinkSeen) (kin : J → J → Type 0) (cs : List Caller) (ps : List P) (js : List J) (a : PlayerSeen) (cs' : List Caller) (ps' : List P) (js' : List J) (b : PlayerSeen) (player : PlayerCaller) : Type 0 where
  pub first : J
  pub first' : J
  pub rest : List J
  pub rest' : List J
  pub split : js ≡ first ∷ rest
  pub split' : js' ≡ first' ∷ rest'
  pub filers : Each (CallerRan l ring link sink kin) cs ps rest cs' ps' rest'
  pub playing : PlayerRan l ring a (sink first) b (sink first') player
  pub journal : kin first first'

-- ---- and when they leave

-- the filer has a pass of this ring, under this number
abbrev pub HasPass : Where → ℕ → Caller → Type 0
HasPass ring who c = (x : PassView) × (c.pass ≡ Some x) × (x.ring ≡ ring) × (x.who ≡ who)

-- each filer has, under its place
abbrev pub AreNumbered : Where → List Caller → Type 0
AreNumbered ring cs = (i : ℕ) (c : Caller) → get_elem? cs i ≡ some c → HasPass ring i c

-- the player has a pass of this ring
abbrev pub PlayerThere : Where → PlayerCaller → Type 0
PlayerThere ring a = (x : PassView) × (a.pass ≡ Some x) × (x.ring ≡ ring) × (x.who ≡ ring.shape.filers)

abbrev pub Lists : Type 0
Lists = List (Option (List Call))

-- the list of this filer was put at its place
abbrev pub GatheredOne : Caller → Lists → Lists → Type 0
GatheredOne c before after = (x : PassView) → c.pass ≡ Some x → after ≡ slice_set before x.who (Some x.list)

-- the lists of these filers stand at their places, and the others are as they were
pub record HasLists (cs : List Caller) (before after : Lists) : Type 0 where
  pub long : length after ≡ length before
  pub has : (i : ℕ) (c : Caller) (x : PassView) → get_elem? cs i ≡ some c → c.pass ≡ Some x → slice_get after i ≡ Some (Some x.list)
  pub others : (i : ℕ) → length cs ≤ i → slice_get after i ≡ slice_get before i

-- the lists are those of the filers and then the player's
pub record AreLists (filers : ℕ) (cs : List Caller) (a : PlayerCaller) (lists : Lists) : Type 0 where
  pub of_filers : (i : ℕ) (c : Caller) (x : PassView) → get_elem? cs i ≡ some c → c.pass ≡ Some x → slice_get lists i ≡ Some (Some x.list)
  pub of_player : (x : PassView) → a.pass ≡ Some x → slice_get lists filers ≡ Some (Some x.list)

-- how a filer ended, and what it counted
abbrev pub told : Caller → FilerEnd × Tally
told c = (c.end, c.tally)

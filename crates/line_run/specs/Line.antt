-- What a whole line results in: one legal history holds the calls of all its callers.
use Rattle.std.specs.Prelude.{◌≡◌, ℕ, ◌+◌, ◌^◌, ◌<◌, ◌≤◌, List, Some, slice_get, length}
use mathlib.Core.Option.{some}
use lib.ListN.{get_elem?}
use Rattle.std.specs.FinMap as map
use Rattle.playout.specs.Machine.{opening_machine}
use Rattle.playout.specs.History.{Entry, IsLegal, AllMayCall, after_all, calls_of}
use Rattle.recorder.specs.declared.tally.Tally.{Tally}
use Rattle.recorder.specs.declared.tally.PlayTally.{PlayTally}
use Rattle.filer.specs.declared.run.FilerEnd.{FilerEnd}
use Rattle.player.specs.declared.run.PlayerEnd.{PlayerEnd}
use Rattle.slot_ring.specs.Remains.{LeftView}
use Rattle.line_run.specs.Filing.{FilerCame}
use Rattle.line_run.specs.Opening.{LineSeen}
use Rattle.line_run.specs.Playing.{PlayerCame}
use Rattle.line_run.specs.Seen.{LinkSeen, SinkSeen, PlayerSeen}

-- The history is legal for the ring, and each caller in it is a filer or the player, whose number is that of the filers. Filer i, over link i and the journal
-- after the player's, reached the end and the tally that are reported of it, with its calls in the history; so did the player. What is left are the frames of the
-- machine after the history, in rising number, and the lists that the ring gathered are the callers' lists of the history.
pub record LineRan {P J : Type 0} (l : LineSeen) (link : P → LinkSeen) (sink : J → SinkSeen) (ps : List P) (js : List J) (ps' : List P) (js' : List J) (a b : PlayerSeen) (player : PlayerEnd) (played : PlayTally) (filers : List (FilerEnd × Tally)) (left : LeftView) : Type 0 where
  pub h : List Entry
  pub legal : IsLegal (2 ^ l.options.g) opening_machine h
  pub callers : AllMayCall l.filers h
  pub links : length ps' ≡ length ps
  pub journals : length js' ≡ length js
  pub ends : length filers ≡ l.filers
  pub filed : (i : ℕ) (p : P) (j : J) → i < l.filers → get_elem? ps i ≡ some p → get_elem? js (1 + i) ≡ some j
      → (p' : P) × (j' : J) × (end : FilerEnd) × (tally : Tally) × (get_elem? ps' i ≡ some p') × (get_elem? js' (1 + i) ≡ some j') × (get_elem? filers i ≡ some (end, tally))
      × FilerCame l.filers l.options i (link p) (sink j) (link p') (sink j') (calls_of i h) end tally
  pub played_so : (j : J) × (j' : J) × (get_elem? js 0 ≡ some j) × (get_elem? js' 0 ≡ some j') × PlayerCame l.filers l.options a (sink j) b (sink j') (calls_of l.filers h) player played
  pub lists : (who : ℕ) → who ≤ l.filers → slice_get left.lists who ≡ Some (Some (calls_of who h))
  pub frames : left.frames ≡ map.entries (after_all opening_machine h).frames

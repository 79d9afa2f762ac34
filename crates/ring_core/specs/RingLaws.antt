-- What holds of the ring under every interleaving of its callers.
use Rattle.std.specs.Prelude.{◌≡◌, ◌≢◌, ◌⊎◌, ℕ, ◌+◌, ◌%◌, ◌<◌, ◌≤◌, ◌^◌, List, Option, Some, true, slice_get}
use mathlib.Core.Option.{some}
use lib.ListN.{get_elem?}
use Rattle.frame_codec.specs.declared.item.Item.TheVariants.{Frame}
use Rattle.playout.specs.declared.call.Call.{Call}
use Rattle.ring_core.specs.declared.words.SlotWord.{SlotWord}
use Rattle.ring_core.specs.declared.words.Berth.TheVariants.{Fresh}
use Rattle.ring_core.specs.declared.words.Cell.TheVariants.{AtHome}
use Rattle.ring_core.specs.declared.player_steps.Move.{Move}
use Rattle.ring_core.specs.declared.player_steps.Glance.{Glance}
use Rattle.ring_core.specs.declared.views.Shape.{Shape}
use Rattle.ring_core.specs.declared.views.Known.{Known}
use Rattle.ring_core.specs.declared.views.Flight.{Flight}
use Rattle.ring_core.specs.declared.views.Pooling.{Pooling}
use Rattle.ring_core.specs.declared.views.Calling.{Calling}
use Rattle.ring_core.specs.declared.views.Departing.{Departing}
use Rattle.ring_core.specs.declared.views.View.{View}
use Rattle.ring_core.specs.declared.event.CoreEvent.{CoreEvent}
use Rattle.playout.specs.Machine.{start}
use Rattle.playout.specs.History.{calls_of}
use Rattle.ring_core.specs.Ring.{Ring, RingRule, Has, slot_count, word_of}
use Rattle.ring_core.specs.Steps.{caller_view, pool_view, note_view, gone_view, position_of, taken, free_word, move_at, ahead_of, glanced, loaded, view_at, publish_at, split_at, note_at, enlist_at, leave_at, learn_at, gather_at, sourced, source_at, based, base_at, peeked}
use Rattle.ring_core.specs.Opening.{opening_ring}
use Rattle.ring_core.specs.Core.{held_in, run}
use Rattle.ring_core.specs.CoreState.{IsListOf}

-- the ring of this shape at the start meets the rule
abbrev pub OpeningMeetsTheRule : Type 0
OpeningMeetsTheRule = (k : Shape) → 1 ≤ k.filers → k.filers ≤ 64 → k.g ≤ 10 → RingRule k (opening_ring k)

abbrev pub Seated : Ring → ℕ → View → Type 0
Seated s seat v = get_elem? s.views seat ≡ some v

-- the seat is the player's
abbrev pub IsPlayer : Shape → Ring → ℕ → Calling → Type 0
IsPlayer k s seat c = Seated s seat (caller_view k c) × (c.who ≡ k.filers)

-- the slot of this number has this word
abbrev pub HasWord : Shape → Ring → ℕ → SlotWord → Type 0
HasWord k s number w = get_elem? s.slots (number % slot_count k) ≡ some w

-- each kind of atomic step, where its seat's view allows it, leads from a ring that meets the rule to one that meets it
pub record StepsKeepTheRule (k : Shape) (s : Ring) : Type 0 where
  pub enlist : (seat who cell : ℕ) (p : Pooling) → Seated s seat (pool_view k p) → slice_get p.rights who ≡ Some true → ((n : ℕ) (l : List Call) → slice_get p.lists n ≡ Some (Some l) → ⊥)
      → get_elem? s.berths who ≡ some (Fresh cell) → RingRule k (enlist_at k s seat who cell)
  pub load : (seat number : ℕ) (c : Calling) (w : SlotWord) (f : List ℕ) → Seated s seat (caller_view k c) → c.who < k.filers → HasWord k s number w
      → RingRule k (view_at k s seat (loaded c w number f))
  pub publish : (seat : ℕ) (c : Calling) (f : Flight) (held : Option (List ℕ)) → Seated s seat (caller_view k c) → c.who < k.filers → HasWord k s f.number (free_word f.number f.cell)
      → get_elem? s.cells f.cell ≡ some (AtHome held) → RingRule k (publish_at k s seat c f)
  pub move : (v : Move) (seat : ℕ) (c : Calling) (w : SlotWord) (held own : Option (List ℕ)) → IsPlayer k s seat c → position_of c < 2 ^ 33 → HasWord k s (position_of c) w
      → get_elem? s.cells w.cell ≡ some (AtHome held) → RingRule k (move_at k s seat c v w held own)
  pub glance : (v : Glance) (seat : ℕ) (c : Calling) (w : SlotWord) → IsPlayer k s seat c → ahead_of v < slot_count k → HasWord k s (position_of c + ahead_of v) w
      → RingRule k (view_at k s seat (glanced c v w))
  pub leave : (seat : ℕ) (c : Calling) (own : Option (List ℕ)) → Seated s seat (caller_view k c) → RingRule k (leave_at k s seat c own)
  pub split : (seat who : ℕ) (p : Pooling) → Seated s seat (pool_view k p) → slice_get p.rights who ≡ Some true → RingRule k (split_at k s seat p who)
  pub note : (seat : ℕ) (c : Calling) → Seated s seat (caller_view k c) → RingRule k (note_at k s c)
  pub learn : (seat other : ℕ) (c : Calling) (n : Known) → Seated s seat (caller_view k c) → other ≢ seat → Seated s other (note_view k n) → RingRule k (learn_at k s seat c other n)
  pub gather : (seat other : ℕ) (p : Pooling) (d : Departing) → Seated s seat (pool_view k p) → other ≢ seat → Seated s other (gone_view k d) → RingRule k (gather_at k s seat p other d)
  pub source : (seat x : ℕ) (c : Calling) → Seated s seat (caller_view k c) → c.who < k.filers → s.source ≡ 0 → RingRule k (source_at k s seat c x)
  pub source_again : (seat x held : ℕ) (c : Calling) → Seated s seat (caller_view k c) → c.who < k.filers → s.source ≡ word_of (Some held) → RingRule k (view_at k s seat (sourced c x held))
  pub base : (seat x : ℕ) (c : Calling) → Seated s seat (caller_view k c) → c.who < k.filers → s.base ≡ 0 → RingRule k (base_at k s seat c x)
  pub base_again : (seat x held : ℕ) (c : Calling) → Seated s seat (caller_view k c) → c.who < k.filers → s.base ≡ word_of (Some held) → RingRule k (view_at k s seat (based c x held))
  pub peek : (seat : ℕ) (c : Calling) → Seated s seat (caller_view k c) → c.who ≡ k.filers → RingRule k (view_at k s seat (peeked c (held_in s.base)))

abbrev pub AllStepsKeepTheRule : Type 0
AllStepsKeepTheRule = (k : Shape) (s : Ring) → RingRule k s → StepsKeepTheRule k s

-- whatever the events, for every number of filers and of slots
abbrev pub RuleHolds : Type 0
RuleHolds = (k : Shape) (events : List CoreEvent) → 1 ≤ k.filers → k.filers ≤ 64 → k.g ≤ 10 → RingRule k (run k (opening_ring k) events)

-- the word has this number, and its cell this frame
abbrev pub IsThere : Ring → SlotWord → ℕ → List ℕ → Type 0
IsThere s w n f = (w.number ≡ n) × (w.filled ≡ true) × (get_elem? s.cells w.cell ≡ some (AtHome (Some f)))

-- what a caller knows shows in the words that it reads
pub record KnownIsFresh (k : Shape) (s : Ring) (seat : ℕ) (c : Calling) : Type 0 where
  -- the player takes the frame that it knows to be accepted, by a tick or by a retire
  pub played : (w : SlotWord) (held : Option (List ℕ)) (f : List ℕ) → c.who ≡ k.filers → position_of c < 2 ^ 33 → HasWord k s (position_of c) w → get_elem? s.cells w.cell ≡ some (AtHome held)
      → Has c.known.pairs (position_of c) f → taken w.filled held ≡ Frame f
  -- and finds its slot filled, by a look or by a hold
  pub found : (a : ℕ) (w : SlotWord) (f : List ℕ) → c.who ≡ k.filers → a < slot_count k → HasWord k s (position_of c + a) w → Has c.known.pairs (position_of c + a) f → w.filled ≡ true
  -- each slot has reached the positions that it knows
  pub reached : (i : ℕ) (w : SlotWord) → get_elem? s.slots i ≡ some w → c.known.position ≤ w.number
  -- the slot of a number that it knows to be accepted has that frame under it, or has gone on
  pub accepted : (n : ℕ) (w : SlotWord) (f : List ℕ) → HasWord k s n w → Has c.known.pairs n f → IsThere s w n f ⊎ (n < w.number)
  pub source : (x : ℕ) → c.known.source ≡ Some x → s.source ≡ word_of (Some x)
  pub base : (x : ℕ) → c.known.base ≡ Some x → s.base ≡ word_of (Some x)

abbrev pub CallersAreFresh : Type 0
CallersAreFresh = (k : Shape) (s : Ring) → RingRule k s → (seat : ℕ) (c : Calling) → Seated s seat (caller_view k c) → KnownIsFresh k s seat c

-- the numbers of the slots lie between the start and the last window
abbrev pub SlotsAreNear : Type 0
SlotsAreNear = (k : Shape) (s : Ring) → RingRule k s → (i : ℕ) (w : SlotWord) → get_elem? s.slots i ≡ some w → (start ≤ w.number) × (w.number < 2 ^ 33 + 1024)

-- a list that was gathered is its caller's in the history
abbrev pub GatheredAreTheCalls : Type 0
GatheredAreTheCalls = (k : Shape) (s : Ring) (rule : RingRule k s) (seat who : ℕ) (p : Pooling) (l : List Call) → Seated s seat (pool_view k p) → who ≤ k.filers → slice_get p.lists who ≡ Some (Some l) → l ≡ calls_of who rule.history

-- a list that some view has for a caller, or none where no view has one, is that caller's in the history
abbrev pub ListsAreTheCalls : Type 0
ListsAreTheCalls = (k : Shape) (s : Ring) (rule : RingRule k s) (who : ℕ) (l : List Call) → who ≤ k.filers → IsListOf s who l → l ≡ calls_of who rule.history

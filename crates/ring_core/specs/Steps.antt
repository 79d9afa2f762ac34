-- What each atomic step does to the ring.
use Rattle.std.specs.Prelude.{ℕ, ◌+◌, ◌%◌, List, [], ◌∷◌, ◌++◌, Option, Some, None, Bool, true, false, not, slice_set, max, ◌==◌, nat_lt, if◌then◌else◌, replicate}
use Rattle.frame_codec.specs.declared.item.Item.{Item}
use Rattle.frame_codec.specs.declared.item.Item.TheVariants.{Frame, Erasure}
use Rattle.playout.specs.declared.reply.FileReply.{FileReply}
use Rattle.playout.specs.declared.reply.FileReply.TheVariants.{Accepted, Duplicate, Late, Beyond}
use Rattle.playout.specs.declared.call.Call.{Call}
use Rattle.playout.specs.declared.call.Call.TheVariants.{FileCall, SourceCall, BaseCall, PeekCall, TickCall, LookCall, HoldCall, RetireCall}
use Rattle.ring_core.specs.declared.player_steps.Move.{Move}
use Rattle.ring_core.specs.declared.player_steps.Move.TheVariants.{Played, Retired}
use Rattle.ring_core.specs.declared.player_steps.Glance.{Glance}
use Rattle.ring_core.specs.declared.player_steps.Glance.TheVariants.{Ahead, Here}
use Rattle.ring_core.specs.declared.views.Shape.{Shape}
use Rattle.ring_core.specs.declared.views.Known.{Known}
use Rattle.ring_core.specs.declared.views.Flight.{Flight}
use Rattle.ring_core.specs.declared.views.Calling.{Calling}
use Rattle.ring_core.specs.declared.views.Pooling.{Pooling}
use Rattle.ring_core.specs.declared.views.Departing.{Departing}
use Rattle.ring_core.specs.declared.views.Role.TheVariants.{Pool, Caller, Departed, Note, Spent}
use Rattle.ring_core.specs.declared.views.View.{View}
use Rattle.playout.specs.Machine.{start}
use Rattle.playout.specs.History.{moves}
use Rattle.ring_core.specs.declared.words.SlotWord.{SlotWord}
use Rattle.ring_core.specs.declared.words.Berth.TheVariants.{Out, Home}
use Rattle.ring_core.specs.declared.words.Cell.TheVariants.{AtHome, OutWith}
use Rattle.ring_core.specs.Ring.{Ring, slot_count, word_of}

abbrev pub caller_view : Shape → Calling → View
caller_view k c = record { shape = k; role = Caller c }

abbrev pub with_call : Calling → Call → Calling
with_call c call = record c { list = c.list ++ call ∷ [] }

abbrev pub at_position : Known → ℕ → Known
at_position k p = record k { position = p }

abbrev pub with_pair : Known → ℕ → List ℕ → Known
with_pair k n f = record k { pairs = (n, f) ∷ k.pairs }

-- a player's position: the number that its next tick or retire takes
abbrev pub position_of : Calling → ℕ
position_of c = start + moves c.list

-- what a tick or a retire takes out of a slot: the word's frame, or none
abbrev pub taken : Bool → Option (List ℕ) → Item
taken true (Some f) = Frame f
taken true None = Erasure
taken false x = Erasure

-- a tick's call or a retire's, with what it took
abbrev pub move_call : Move → Item → Call
move_call Played item = TickCall item
move_call Retired item = RetireCall item

-- tick and retire: the player's caller afterwards, where the word read names this cell, which had y
abbrev pub moved : Calling → Move → SlotWord → Option (List ℕ) → Calling
moved c v w y = record c { list = c.list ++ move_call v (taken w.filled y) ∷ []; spare = w.cell; known = at_position c.known (position_of c + 1) }

abbrev pub free_word : ℕ → ℕ → SlotWord
free_word number cell = record { number = number; filled = false; cell = cell }

abbrev pub full_word : ℕ → ℕ → SlotWord
full_word number cell = record { number = number; filled = true; cell = cell }

-- tick or retire by this seat: the spare, in which z lies, goes into the slot
abbrev pub move_at : Shape → Ring → ℕ → Calling → Move → SlotWord → Option (List ℕ) → Option (List ℕ) → Ring
move_at k s seat c v w y z =
    record s {
      slots = slice_set s.slots (position_of c % slot_count k) (free_word (position_of c + slot_count k) c.spare);
      cells = slice_set (slice_set s.cells c.spare (AtHome z)) w.cell (OutWith seat);
      views = slice_set s.views seat (caller_view k (moved c v w y));
    }

-- how many numbers ahead of the player's the slot of a look or a hold is
abbrev pub ahead_of : Glance → ℕ
ahead_of (Ahead ahead) = ahead
ahead_of Here = 0

-- a look's call or a hold's, where the word read is filled or free
abbrev pub glance_call : Glance → Bool → Call
glance_call (Ahead ahead) filled = LookCall ahead filled
glance_call Here filled = HoldCall (not filled)

-- look and hold: the player's caller afterwards. Nothing changes but its list
abbrev pub glanced : Calling → Glance → SlotWord → Calling
glanced c v w = with_call c (glance_call v w.filled)

-- load: what is found says which reply is given, or that the filer is in flight
abbrev pub in_flight : Calling → ℕ → ℕ → List ℕ → Calling
in_flight c number cell frame = record c { flight = Some (record { number = number; cell = cell; frame = frame }) }

abbrev pub replied : Calling → ℕ → List ℕ → FileReply → Calling
replied c number frame reply = record c { list = c.list ++ FileCall number frame reply ∷ []; flight = None }

abbrev pub late : Calling → ℕ → List ℕ → ℕ → Calling
late c number frame ahead = record c { list = c.list ++ FileCall number frame (Late ahead) ∷ []; flight = None; known = at_position c.known (max c.known.position (number + 1)) }

-- load of a slot word with a number and a frame: what the filer's caller is afterwards
abbrev pub loaded_by : Bool → Bool → Bool → Calling → SlotWord → ℕ → List ℕ → Calling
loaded_by true full greater c w n f = if full then replied c n f Duplicate else in_flight c n w.cell f
loaded_by false full true c w n f = late c n f w.number
loaded_by false full false c w n f = replied c n f (Beyond w.number)

abbrev pub loaded : Calling → SlotWord → ℕ → List ℕ → Calling
loaded c w n f = loaded_by (w.number == n) w.filled (nat_lt n w.number) c w n f

abbrev pub view_at : Shape → Ring → ℕ → Calling → Ring
view_at k s seat c = record s { views = slice_set s.views seat (caller_view k c) }

-- publish, where the word is still the free one that was loaded
abbrev pub published : Calling → ℕ → List ℕ → ℕ → Calling
published c number frame cell = record c { list = c.list ++ FileCall number frame Accepted ∷ []; spare = cell; flight = None; known = with_pair c.known number frame }

abbrev pub publish_at : Shape → Ring → ℕ → Calling → Flight → Ring
publish_at k s seat c f =
    record s {
      slots = slice_set s.slots (f.number % slot_count k) (full_word f.number c.spare);
      cells = slice_set (slice_set s.cells c.spare (AtHome (Some f.frame))) f.cell (OutWith seat);
      views = slice_set s.views seat (caller_view k (published c f.number f.frame f.cell));
    }

abbrev pub pool_view : Shape → Pooling → View
pool_view k p = record { shape = k; role = Pool p }

abbrev pub without : Pooling → ℕ → Pooling
without p who = record p { rights = slice_set p.rights who false }

-- the right to enlist one caller, and no list
abbrev pub only : Shape → ℕ → Pooling
only k who = record { lists = replicate (k.filers + 1) None; rights = slice_set (replicate (k.filers + 1) false) who true }

-- split of a pool: the new seat has the one right
abbrev pub split_at : Shape → Ring → ℕ → Pooling → ℕ → Ring
split_at k s seat p who = record s { views = slice_set s.views seat (pool_view k (without p who)) ++ pool_view k (only k who) ∷ [] }

abbrev pub newcomer : ℕ → ℕ → Calling
newcomer who cell = record { who = who; list = []; spare = cell; flight = None; known = record { pairs = []; position = start; source = None; base = None } }

-- enlist: the cell of the fresh berth is the caller's spare
abbrev pub enlist_at : Shape → Ring → ℕ → ℕ → ℕ → Ring
enlist_at k s seat who cell =
    record s {
      berths = slice_set s.berths who Out;
      cells = slice_set s.cells cell (OutWith seat);
      views = slice_set s.views seat (caller_view k (newcomer who cell));
    }

abbrev pub either_known : Option ℕ → Option ℕ → Option ℕ
either_known (Some x) y = Some x
either_known None y = y

-- what either knew
abbrev pub merged : Known → Known → Known
merged a b = record { pairs = a.pairs ++ b.pairs; position = max a.position b.position; source = either_known a.source b.source; base = either_known a.base b.base }

abbrev pub told_by : Calling → Known → Calling
told_by c k = record c { known = merged c.known k }

abbrev pub spent_view : View
spent_view = record { shape = record { filers = 0; g = 0 }; role = Spent }

abbrev pub note_view : Shape → Known → View
note_view k n = record { shape = k; role = Note n }

-- learn: a caller takes in a note, which is spent
abbrev pub learn_at : Shape → Ring → ℕ → Calling → ℕ → Known → Ring
learn_at k s seat c other n = record s { views = slice_set (slice_set s.views seat (caller_view k (told_by c n))) other spent_view }

abbrev pub with_source : Known → ℕ → Known
with_source k x = record k { source = Some x }

-- source: the caller afterwards, with the value then held
abbrev pub sourced : Calling → ℕ → ℕ → Calling
sourced c x held = record c { list = c.list ++ SourceCall x held ∷ []; known = with_source c.known held }

-- source, where the word was 0
abbrev pub source_at : Shape → Ring → ℕ → Calling → ℕ → Ring
source_at k s seat c x = record s { source = word_of (Some x); views = slice_set s.views seat (caller_view k (sourced c x x)) }

abbrev pub departed_view : Shape → Calling → View
departed_view k c = record { shape = k; role = Departed (record { who = c.who; list = c.list }) }

-- leave: the spare, in which z lies, goes home to the berth
abbrev pub leave_at : Shape → Ring → ℕ → Calling → Option (List ℕ) → Ring
leave_at k s seat c z =
    record s {
      berths = slice_set s.berths c.who (Home c.spare);
      cells = slice_set s.cells c.spare (AtHome z);
      views = slice_set s.views seat (departed_view k c);
    }

abbrev pub gone_view : Shape → Departing → View
gone_view k d = record { shape = k; role = Departed d }

abbrev pub with_list : Pooling → Departing → Pooling
with_list p d = record p { lists = slice_set p.lists d.who (Some d.list) }

-- gather: a pool takes in the list of a caller that has left, whose seat is spent
abbrev pub gather_at : Shape → Ring → ℕ → Pooling → ℕ → Departing → Ring
gather_at k s seat p other d = record s { views = slice_set (slice_set s.views seat (pool_view k (with_list p d))) other spent_view }

-- peek: the base that was seen is known
abbrev pub peeked : Calling → Option ℕ → Calling
peeked c held = record c { list = c.list ++ PeekCall held ∷ []; known = record c.known { base = either_known held c.known.base } }

-- split of a caller: the new seat knows what it knows
abbrev pub note_at : Shape → Ring → Calling → Ring
note_at k s c = record s { views = s.views ++ note_view k c.known ∷ [] }

abbrev pub with_base : Known → ℕ → Known
with_base k x = record k { base = Some x }

abbrev pub based : Calling → ℕ → ℕ → Calling
based c x held = record c { list = c.list ++ BaseCall x held ∷ []; known = with_base c.known held }

-- base, where the word was 0
abbrev pub base_at : Shape → Ring → ℕ → Calling → ℕ → Ring
base_at k s seat c x = record s { base = word_of (Some x); views = slice_set s.views seat (caller_view k (based c x x)) }

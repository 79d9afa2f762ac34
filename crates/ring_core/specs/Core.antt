-- The core: events on the ring as plain data. An event that its seat's view does not allow changes nothing.
use Rattle.std.specs.Prelude.{◌<◌, ◌^◌, ℕ, ◌+◌, ◌-◌, ◌%◌, ◌==◌, ◌&&◌, nat_lt, List, [], ◌∷◌, Option, Some, None, Bool, true, false, if◌then◌else◌, slice_get}
use mathlib.Core.Option as maybe
use lib.ListN.{get_elem?}
use Rattle.playout.specs.declared.call.Call.{Call}
use Rattle.ring_core.specs.declared.event.CoreEvent.{CoreEvent}
use Rattle.ring_core.specs.declared.event.CoreEvent.TheVariants.{Enlist, Load, Publish, Tick, Leave, Split, Learn, Gather, Source, Base, Peek, Look, Retire, Hold}
use Rattle.ring_core.specs.declared.player_steps.Move.{Move}
use Rattle.ring_core.specs.declared.player_steps.Move.TheVariants.{Played, Retired}
use Rattle.ring_core.specs.declared.player_steps.Glance.{Glance}
use Rattle.ring_core.specs.declared.player_steps.Glance.TheVariants.{Ahead, Here}
use Rattle.ring_core.specs.declared.views.Shape.{Shape}
use Rattle.ring_core.specs.declared.views.Calling.{Calling}
use Rattle.ring_core.specs.declared.views.Pooling.{Pooling}
use Rattle.ring_core.specs.declared.views.Flight.{Flight}
use Rattle.ring_core.specs.declared.views.Role.{Role}
use Rattle.ring_core.specs.declared.views.Role.TheVariants.{Pool, Caller, Departed, Note, Spent}
use Rattle.ring_core.specs.declared.views.View.{View}
use Rattle.ring_core.specs.declared.words.SlotWord.{SlotWord}
use Rattle.ring_core.specs.declared.words.Berth.{Berth}
use Rattle.ring_core.specs.declared.words.Berth.TheVariants.{Fresh}
use Rattle.ring_core.specs.declared.words.Cell.{Cell}
use Rattle.ring_core.specs.declared.words.Cell.TheVariants.{AtHome}
use Rattle.ring_core.specs.Ring.{Ring, slot_count}
use Rattle.ring_core.specs.Steps.{position_of, move_at, ahead_of, glanced, loaded, view_at, publish_at, split_at, note_at, enlist_at, leave_at, learn_at, gather_at, source_at, sourced, base_at, based, peeked}

-- what a cell at home holds
abbrev pub kept_in : maybe.Option Cell → Option (List ℕ)
kept_in (maybe.some (AtHome y)) = y
kept_in _ = None

abbrev pub view_role : maybe.Option View → Role
view_role maybe.none = Spent
view_role (maybe.some v) = v.role

-- a held value, from its word
abbrev pub held_in : ℕ → Option ℕ
held_in word = if word == 0 then None else Some (word - 4294967296)

abbrev pub no_lists : List (Option (List Call)) → Bool
no_lists [] = true
no_lists (None ∷ ls) = no_lists ls
no_lists (Some l ∷ ls) = false

abbrev pub has_right : Option Bool → Bool
has_right None = false
has_right (Some right) = right

abbrev pub on_ground : Option Flight → Bool
on_ground None = true
on_ground (Some f) = false

abbrev pub is_player : Shape → Calling → Bool
is_player k c = c.who == k.filers

abbrev pub is_filer : Shape → Calling → Bool
is_filer k c = nat_lt c.who k.filers && on_ground c.flight

abbrev pub move_word : Shape → Ring → ℕ → Calling → Move → maybe.Option SlotWord → Ring
move_word k s seat c v maybe.none = s
move_word k s seat c v (maybe.some w) = move_at k s seat c v w (kept_in (get_elem? s.cells w.cell)) None

-- tick and retire: only the player, below the last number
abbrev pub move_role : Shape → Ring → ℕ → Move → Role → Ring
move_role k s seat v (Caller c) =
    if is_player k c && nat_lt (position_of c) 8589934592 then move_word k s seat c v (get_elem? s.slots (position_of c % slot_count k)) else s
move_role k s seat v _ = s

abbrev pub glance_word : Shape → Ring → ℕ → Calling → Glance → maybe.Option SlotWord → Ring
glance_word k s seat c v maybe.none = s
glance_word k s seat c v (maybe.some w) = view_at k s seat (glanced c v w)

-- look and hold: only the player, within its window
abbrev pub glance_role : Shape → Ring → ℕ → Glance → Role → Ring
glance_role k s seat v (Caller c) =
    if is_player k c && nat_lt (ahead_of v) (slot_count k) then glance_word k s seat c v (get_elem? s.slots ((position_of c + ahead_of v) % slot_count k)) else s
glance_role k s seat v _ = s

abbrev pub load_word : Shape → Ring → ℕ → Calling → ℕ → List ℕ → maybe.Option SlotWord → Ring
load_word k s seat c n f maybe.none = s
load_word k s seat c n f (maybe.some w) = view_at k s seat (loaded c w n f)

abbrev pub load_role : Shape → Ring → ℕ → ℕ → List ℕ → Role → Ring
load_role k s seat n f (Caller c) = if is_filer k c then load_word k s seat c n f (get_elem? s.slots (n % slot_count k)) else s
load_role k s seat n f _ = s

abbrev pub publish_word : Shape → Ring → ℕ → Calling → Flight → maybe.Option SlotWord → Ring
publish_word k s seat c f maybe.none = s
publish_word k s seat c f (maybe.some w) = if (w.number == f.number) && (if w.filled then false else true) then publish_at k s seat c f else view_at k s seat (loaded c w f.number f.frame)

abbrev pub publish_flight : Shape → Ring → ℕ → Calling → Option Flight → Ring
publish_flight k s seat c None = s
publish_flight k s seat c (Some f) = publish_word k s seat c f (get_elem? s.slots (f.number % slot_count k))

abbrev pub publish_role : Shape → Ring → ℕ → Role → Ring
publish_role k s seat (Caller c) = if nat_lt c.who k.filers then publish_flight k s seat c c.flight else s
publish_role k s seat _ = s

abbrev pub enlist_berth : Shape → Ring → ℕ → ℕ → maybe.Option Berth → Ring
enlist_berth k s seat who (maybe.some (Fresh cell)) = enlist_at k s seat who cell
enlist_berth k s seat who _ = s

abbrev pub enlist_right : Shape → Ring → ℕ → ℕ → Option Bool → Ring
enlist_right k s seat who (Some true) = enlist_berth k s seat who (get_elem? s.berths who)
enlist_right k s seat who _ = s

abbrev pub enlist_role : Shape → Ring → ℕ → ℕ → Role → Ring
enlist_role k s seat who (Pool p) = if no_lists p.lists then enlist_right k s seat who (slice_get p.rights who) else s
enlist_role k s seat who _ = s

abbrev pub leave_role : Shape → Ring → ℕ → Role → Ring
leave_role k s seat (Caller c) = if on_ground c.flight then leave_at k s seat c None else s
leave_role k s seat _ = s

abbrev pub split_right : Shape → Ring → ℕ → Pooling → ℕ → Option Bool → Ring
split_right k s seat p who (Some true) = split_at k s seat p who
split_right k s seat p who _ = s

abbrev pub split_role : Shape → Ring → ℕ → ℕ → Role → Ring
split_role k s seat who (Pool p) = split_right k s seat p who (slice_get p.rights who)
split_role k s seat who (Caller c) = if on_ground c.flight then note_at k s c else s
split_role k s seat who _ = s

abbrev pub learn_roles : Shape → Ring → ℕ → ℕ → Role → Role → Ring
learn_roles k s seat other (Caller c) (Note n) = if on_ground c.flight then learn_at k s seat c other n else s
learn_roles k s seat other _ _ = s

abbrev pub gather_roles : Shape → Ring → ℕ → ℕ → Role → Role → Ring
gather_roles k s seat other (Pool p) (Departed d) = gather_at k s seat p other d
gather_roles k s seat other _ _ = s

abbrev pub source_word : Shape → Ring → ℕ → Calling → ℕ → Option ℕ → Ring
source_word k s seat c x None = source_at k s seat c x
source_word k s seat c x (Some held) = view_at k s seat (sourced c x held)

abbrev pub source_role : Shape → Ring → ℕ → ℕ → Role → Ring
source_role k s seat x (Caller c) = if is_filer k c then source_word k s seat c x (held_in s.source) else s
source_role k s seat x _ = s

abbrev pub base_word : Shape → Ring → ℕ → Calling → ℕ → Option ℕ → Ring
base_word k s seat c x None = base_at k s seat c x
base_word k s seat c x (Some held) = view_at k s seat (based c x held)

abbrev pub base_role : Shape → Ring → ℕ → ℕ → Role → Ring
base_role k s seat x (Caller c) = if is_filer k c then base_word k s seat c x (held_in s.base) else s
base_role k s seat x _ = s

abbrev pub peek_role : Shape → Ring → ℕ → Role → Ring
peek_role k s seat (Caller c) = if is_player k c then view_at k s seat (peeked c (held_in s.base)) else s
peek_role k s seat _ = s

abbrev pub role_at : Ring → ℕ → Role
role_at s seat = view_role (get_elem? s.views seat)

abbrev pub happens : Shape → Ring → CoreEvent → Ring
happens k s (Enlist seat berth) = enlist_role k s seat berth (role_at s seat)
happens k s (Load seat number frame) = load_role k s seat number frame (role_at s seat)
happens k s (Publish seat) = publish_role k s seat (role_at s seat)
happens k s (Tick seat) = move_role k s seat Played (role_at s seat)
happens k s (Leave seat) = leave_role k s seat (role_at s seat)
happens k s (Split seat right) = split_role k s seat right (role_at s seat)
happens k s (Learn seat note) = learn_roles k s seat note (role_at s seat) (role_at s note)
happens k s (Gather seat other) = gather_roles k s seat other (role_at s seat) (role_at s other)
happens k s (Source seat ssrc) = source_role k s seat ssrc (role_at s seat)
happens k s (Base seat ts) = base_role k s seat ts (role_at s seat)
happens k s (Peek seat) = peek_role k s seat (role_at s seat)
happens k s (Look seat ahead) = glance_role k s seat (Ahead ahead) (role_at s seat)
happens k s (Retire seat) = move_role k s seat Retired (role_at s seat)
happens k s (Hold seat) = glance_role k s seat Here (role_at s seat)

-- the state after all events
abbrev pub run : Shape → Ring → List CoreEvent → Ring
run k s [] = s
run k s (e ∷ es) = run k (happens k s e) es

-- a number that is filed is below 2 ^ 47
abbrev pub NumberFits : CoreEvent → Type 0
NumberFits (Load seat number frame) = number < 2 ^ 47
NumberFits _ = Unit {0}

-- A look and a hold keep the rule.
use Rattle.std.proofs.Common.{◌≡◌, ℕ, ◌+◌, ◌%◌, ◌<◌, List, Option, Some, None, is_some, is_none, Bool, true, false, refl, sym, ap, ◌∙◌, arith, le_refl}
use Rattle.std.specs.Prelude.{not}
use Rattle.std.specs.FinMap as map
use Rattle.playout.specs.declared.call.Call.{Call}
use Rattle.ring_core.specs.declared.player_steps.Glance.{Glance}
use Rattle.ring_core.specs.declared.player_steps.Glance.TheVariants.{Ahead, Here}
use Rattle.ring_core.specs.declared.views.Shape.{Shape}
use Rattle.ring_core.specs.declared.views.Calling.{Calling}
use Rattle.playout.specs.Machine.{Machine, opening_machine, Replies, after}
use Rattle.playout.specs.History.{after_all, entry, move_weight, MayCall}
use Rattle.ring_core.specs.declared.words.SlotWord.{SlotWord}
use Rattle.ring_core.specs.declared.words.Cell.{Cell}
use Rattle.ring_core.specs.Ring.{Ring, slot_count, SlotFits, RingRule}
use Rattle.ring_core.specs.Steps.{caller_view, position_of, ahead_of, glance_call, glanced, view_at}
use Rattle.ring_core.specs.RingLaws.{IsPlayer, HasWord}
use Rattle.ring_core.specs.RuleLaws.{player_position, number_ahead}
use Rattle.ring_core.proofs.Seats.{known_kept}
use Rattle.ring_core.proofs.Replied.{reply_keeps}

-- a word is filled where the machine has a frame under its number
word_shows : (r : ℕ) (m : Machine) (all : List Cell) (i n : ℕ) (w : SlotWord) → SlotFits r m all i w → w.number ≡ n → w.filled ≡ is_some (map.get m.frames n)
word_shows r m all i n w fits is = go w.filled refl
  where
    go : (b : Bool) → w.filled ≡ b → b ≡ is_some (map.get m.frames n)
    go true e = sym (ap (λ (q : ℕ). is_some (map.get m.frames q)) (sym is) ∙ ap is_some (fits.filled e).1)
    go false e = sym (ap (λ (q : ℕ). is_some (map.get m.frames q)) (sym is) ∙ ap is_some (fits.free e))

none_or_some : (o : Option (List ℕ)) → not (is_some o) ≡ is_none o
none_or_some None = refl
none_or_some (Some f) = refl

-- what a look and a hold have in common
answered : (v : Glance) (r : ℕ) (m : Machine) (filled : Bool) → ahead_of v < r → filled ≡ is_some (map.get m.frames (m.position + ahead_of v)) → Replies r m (glance_call v filled)
answered (Ahead a) r m filled low is = (low, is)
answered Here r m filled low is = let none : m.position + 0 ≡ m.position = omega arith in ap not (is ∙ ap (λ (q : ℕ). is_some (map.get m.frames q)) none) ∙ none_or_some (map.get m.frames m.position)

allowed : (v : Glance) (filers who : ℕ) (filled : Bool) → who ≡ filers → MayCall filers who (glance_call v filled)
allowed (Ahead a) filers who filled player = player
allowed Here filers who filled player = player

stays : (v : Glance) (m : Machine) (filled : Bool) → after m (glance_call v filled) ≡ m
stays (Ahead a) m filled = refl
stays Here m filled = refl

weighs : (v : Glance) (filled : Bool) → move_weight (glance_call v filled) ≡ 0
weighs (Ahead a) filled = refl
weighs Here filled = refl

pub glance_keeps : (k : Shape) (s : Ring) (rule : RingRule k s) (id : ℕ) (c : Calling) (v : Glance) (w : SlotWord) → IsPlayer k s id c → ahead_of v < slot_count k → HasWord k s (position_of c + ahead_of v) w → RingRule k (view_at k s id (glanced c v w))
glance_keeps k s rule id c v w at low found =
    let m : Machine = after_all opening_machine rule.history in
    let call : Call = glance_call v w.filled in
    let role = rule.role id (caller_view k c) at.0 in
    let known = known_kept s.source s.base m m rule.history (entry c.who call) c.known (le_refl m.position) role.1 in
    let here : position_of c + ahead_of v ≡ m.position + ahead_of v = ap (λ (p : ℕ). p + ahead_of v) (player_position k s rule id c at.0 at.1) in
    let number = number_ahead k s rule id c (ahead_of v) w at.0 at.1 low found ∙ here in
    let shows = word_shows (slot_count k) m s.cells ((position_of c + ahead_of v) % slot_count k) (m.position + ahead_of v) w (rule.slot _ w found) number in
    reply_keeps k s rule id c (glanced c v w) at.0 refl refl call refl (allowed v k.filers c.who w.filled at.1) (answered v (slot_count k) m w.filled low shows) (stays v m w.filled) (weighs v w.filled) known role.2

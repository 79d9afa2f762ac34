-- What a beat did.
use Rattle.std.proofs.Common.{◌≡◌, ℕ, ◌+◌, List, [], ◌∷◌, length, Option, inl, inr, ap, subst, ◌∙◌}
use Rattle.std.specs.Prelude.{ℤ}
use Rattle.std.specs.List.{flat_map, AllByRecursion}
use Rattle.std.specs.Io.KnownBytes.{Appends}
use Rattle.gate_io.specs.Links.{LinkLog}
use Rattle.frame_codec.specs.declared.item.Item.{Item}
use Rattle.playout.specs.declared.call.Call.{Call}
use Rattle.playout.specs.History.{Chained, moves}
use Rattle.recorder.specs.Play.{call_text}
use Rattle.recorder.specs.Tallies.{call_items}
use Rattle.substitution.specs.Heard.{sample_octets}
use Rattle.player.specs.declared.return_stream.ReturnEnd.{ReturnEnd}
use Rattle.player.specs.declared.return_stream.ReturnEnd.TheVariants as ends
use Rattle.player.specs.declared.beat.Beat.{Beat}
use Rattle.player.specs.declared.beat.Beat.TheVariants.{Played, MicFault, ReplyFault}
use Rattle.player.specs.Returning.{Returns, Stream}
use Rattle.player.specs.Beats.{Beats, CanBeTold, Hears, IsBeat, Playing, Replies, Speaks, Standing, Writes, all_counted, beaten, held_after, opened_after}

-- ---- the return stream

-- the end of a beat by that of its packet
abbrev pub beat_of : ReturnEnd → Beat
beat_of ends.Sent = Played
beat_of ends.Silent = Played
beat_of ends.MicFault = MicFault
beat_of ends.ReplyFault = ReplyFault

pub replies-of : (old new : Stream) (left left' : Option (List ℕ)) (log log' : Option LinkLog) (r : ReturnEnd) → Returns old new left left' log log' r → Replies (beat_of r) old new left left' log log'
replies-of old new left left' log log' ends.Sent h = inl h
replies-of old new left left' log log' ends.Silent h = inr h
replies-of old new left left' log log' ends.MicFault h = h
replies-of old new left left' log log' ends.ReplyFault h = h

pub hears-of : (old new : Option (List ℕ)) (octets : List ℕ) (r : ReturnEnd) → Appends old new octets → Hears (beat_of r) old new octets
hears-of old new octets ends.Sent h = h
hears-of old new octets ends.Silent h = h
hears-of old new octets ends.MicFault h = h
hears-of old new octets ends.ReplyFault h = h

pub writes-of : (old new : Option (List ℕ)) (text : List ℕ) (r : ReturnEnd) → Appends old new text → Writes (beat_of r) old new text
writes-of old new text ends.Sent h = h
writes-of old new text ends.Silent h = h
writes-of old new text ends.MicFault h = h
writes-of old new text ends.ReplyFault h = h

-- ---- a beat of its parts

-- what was asked, made of the player that stood before
pub record Made {S : Type 0} (did : S → Call → S → Type 0) (a b : Standing S) (was : Playing) (calls : List Call) (item : Item) : Type 0 where
  pub was_is : was ≡ a.player
  pub asks : IsBeat was.elastic was.held was.opened calls
  pub told : AllByRecursion (CanBeTold a.g) calls
  pub side : Chained did a.side calls b.side
  pub position : b.position ≡ a.position + moves calls
  pub slots : b.g ≡ a.g
  pub gives : flat_map call_items calls ≡ item ∷ []
  pub now : b.player ≡ beaten was calls b.player.voice b.player.stream

pub beat-is : {S : Type 0} (did : S → Call → S → Type 0) (a b : Standing S) (was : Playing) (end : Beat) (calls : List Call) (item : Item) (played : List ℤ) → Made did a b was calls item
    → length played ≡ 160 → Speaks was.voice b.player.voice item played
    → Hears end a.heard b.heard (sample_octets played) → Writes end a.written b.written (flat_map call_text calls)
    → Replies end was.stream b.player.stream a.left b.left a.log b.log → Beats did a b end
beat-is did a b was end calls item played made count voice hears writes replies = record {
  calls = calls;
  asks = subst (λ (p : Playing). IsBeat p.elastic p.held p.opened calls) made.was_is made.asks;
  told = made.told;
  side = made.side;
  position = made.position;
  slots = made.slots;
  item = item;
  heard = made.gives;
  played = played;
  count = count;
  voice = subst (λ (p : Playing). Speaks p.voice b.player.voice item played) made.was_is voice;
  player = made.now ∙ ap (λ (p : Playing). beaten p calls b.player.voice b.player.stream) made.was_is;
  speaker = hears;
  journal = writes;
  reply = subst (λ (p : Playing). Replies end p.stream b.player.stream a.left b.left a.log b.log) made.was_is replies;
}

-- a player by what a beat has made of it
pub beaten-is : (was now : Playing) (calls : List Call) → now.tally ≡ all_counted was.tally calls → now.opened ≡ opened_after was.opened calls → now.made ≡ was.made + 1 → now.ticks ≡ was.ticks
    → now.held ≡ held_after was.held calls → now.elastic ≡ was.elastic → now ≡ beaten was calls now.voice now.stream
beaten-is was now calls tally opened made most held elastic =
    λ i. record { voice = now.voice; stream = now.stream; tally = tally i; opened = opened i; made = made i; ticks = most i; held = held i; elastic = elastic i }

-- What is counted of replies and of items.
use Rattle.std.specs.Prelude.{ℕ, ◌+◌, ◌-◌, ◌^◌, min, List, [], ◌∷◌, count_by, Bool, true, false, Some, None}
use Rattle.frame_codec.specs.declared.item.Item.{Item}
use Rattle.frame_codec.specs.declared.item.Item.TheVariants.{Idle, Frame, Erasure}
use Rattle.playout.specs.declared.reply.FileReply.{FileReply}
use Rattle.playout.specs.declared.reply.FileReply.TheVariants.{Accepted, Duplicate, Late, Beyond}
use Rattle.playout.specs.declared.call.Call.{Call}
use Rattle.playout.specs.declared.call.Call.TheVariants.{FileCall, SourceCall, BaseCall, PeekCall, TickCall, LookCall, HoldCall, RetireCall}
use Rattle.recorder.specs.declared.tally.Tally.{Tally}
use Rattle.recorder.specs.declared.tally.PlayTally.{PlayTally}

-- a count stands still at its end
abbrev pub capped : ℕ → ℕ
capped n = min n (2 ^ 64 - 1)

abbrev pub is_accepted : FileReply → Bool
is_accepted Accepted = true
is_accepted Duplicate = false
is_accepted (Late ahead) = false
is_accepted (Beyond ahead) = false

abbrev pub is_duplicate : FileReply → Bool
is_duplicate Accepted = false
is_duplicate Duplicate = true
is_duplicate (Late ahead) = false
is_duplicate (Beyond ahead) = false

abbrev pub is_late : FileReply → Bool
is_late Accepted = false
is_late Duplicate = false
is_late (Late ahead) = true
is_late (Beyond ahead) = false

abbrev pub is_beyond : FileReply → Bool
is_beyond Accepted = false
is_beyond Duplicate = false
is_beyond (Late ahead) = false
is_beyond (Beyond ahead) = true

-- the counts of a list of replies, with no datagram
abbrev pub reply_tally : List FileReply → Tally
reply_tally replies = record {
  datagrams = 0;
  accepted = capped (count_by is_accepted replies);
  duplicate = capped (count_by is_duplicate replies);
  late = capped (count_by is_late replies);
  beyond = capped (count_by is_beyond replies);
  refused = 0;
  stranger = 0;
  rtcp = 0;
  empty = 0;
}

abbrev pub no_tally : Tally
no_tally = record { datagrams = 0; accepted = 0; duplicate = 0; late = 0; beyond = 0; refused = 0; stranger = 0; rtcp = 0; empty = 0 }

-- one reply more
abbrev pub reply_counted : Tally → FileReply → Tally
reply_counted t Accepted = record t { accepted = capped (t.accepted + 1) }
reply_counted t Duplicate = record t { duplicate = capped (t.duplicate + 1) }
reply_counted t (Late ahead) = record t { late = capped (t.late + 1) }
reply_counted t (Beyond ahead) = record t { beyond = capped (t.beyond + 1) }

-- what is counted of the player's calls: ticks, those of them that play a frame or an erasure, peeks that see no base, holds that let a beat
-- pass, and retires
abbrev pub is_tick : Call → Bool
is_tick (TickCall item) = true
is_tick _ = false

abbrev pub is_frame : Call → Bool
is_frame (TickCall (Frame f)) = true
is_frame _ = false

abbrev pub is_erasure : Call → Bool
is_erasure (TickCall Erasure) = true
is_erasure _ = false

abbrev pub is_idle : Call → Bool
is_idle (PeekCall None) = true
is_idle _ = false

abbrev pub is_held : Call → Bool
is_held (HoldCall true) = true
is_held _ = false

abbrev pub is_retired : Call → Bool
is_retired (RetireCall item) = true
is_retired _ = false

-- the counts of a list of calls
abbrev pub play_tally : List Call → PlayTally
play_tally calls = record {
  ticks = capped (count_by is_tick calls);
  frames = capped (count_by is_frame calls);
  erasures = capped (count_by is_erasure calls);
  idle = capped (count_by is_idle calls);
  held = capped (count_by is_held calls);
  retired = capped (count_by is_retired calls);
}

abbrev pub no_plays : PlayTally
no_plays = record { ticks = 0; frames = 0; erasures = 0; idle = 0; held = 0; retired = 0 }

-- one more of a count, where a call is one of those
abbrev pub raised : Bool → ℕ → ℕ
raised true n = capped (n + 1)
raised false n = n

-- one call more
abbrev pub call_counted : PlayTally → Call → PlayTally
call_counted t c = record {
  ticks = raised (is_tick c) t.ticks;
  frames = raised (is_frame c) t.frames;
  erasures = raised (is_erasure c) t.erasures;
  idle = raised (is_idle c) t.idle;
  held = raised (is_held c) t.held;
  retired = raised (is_retired c) t.retired;
}

-- what a call of the player gives to be heard: an idle beat, an erasure where a beat passes, or the item of a tick
abbrev pub call_items : Call → List Item
call_items (FileCall n f reply) = []
call_items (SourceCall x held) = []
call_items (BaseCall x held) = []
call_items (PeekCall None) = Idle ∷ []
call_items (PeekCall (Some base)) = []
call_items (TickCall item) = item ∷ []
call_items (LookCall ahead filled) = []
call_items (HoldCall true) = Erasure ∷ []
call_items (HoldCall false) = []
call_items (RetireCall item) = []

-- how a frame was answered in a call of a filer
abbrev pub call_replies : Call → List FileReply
call_replies (FileCall n f reply) = reply ∷ []
call_replies (SourceCall x held) = []
call_replies (BaseCall x held) = []
call_replies (PeekCall held) = []
call_replies (TickCall item) = []
call_replies (LookCall ahead filled) = []
call_replies (HoldCall held) = []
call_replies (RetireCall item) = []

-- The playout machine: what it holds, and what each call of it answers and changes.
use Rattle.std.specs.Prelude.{◌≡◌, ℕ, ◌+◌, ◌%◌, ◌≤◌, ◌<◌, List, Option, Some, None, IsSome, is_some, is_none, refl}
use Rattle.std.specs.Coded.{Coded, code_by, coded×, coded_ℕ, coded_list, coded_option}
use Rattle.std.specs.FinMap as map
use Rattle.std.specs.Ordering.{nat_cmp}
use Rattle.frame_codec.specs.declared.item.Item.{Item}
use Rattle.frame_codec.specs.declared.item.Item.TheVariants.{Frame, Erasure}
use Rattle.playout.specs.declared.reply.FileReply.{FileReply}
use Rattle.playout.specs.declared.reply.FileReply.TheVariants.{Accepted, Duplicate, Late, Beyond}
use Rattle.playout.specs.declared.call.Call.{Call}
use Rattle.playout.specs.declared.call.Call.TheVariants.{FileCall, SourceCall, BaseCall, PeekCall, TickCall, LookCall, HoldCall, RetireCall}

-- the number that the first tick or retire takes
abbrev pub start : ℕ
start = 4294967296

-- frames by number
abbrev pub Frames : Type 0
Frames = map.FinMap nat_cmp (List ℕ)

-- the held source and base, the number that the next tick or retire takes, and the frames that were filed and not yet taken
pub record Machine : Type 0 where
  pub source : Option ℕ
  pub base : Option ℕ
  pub position : ℕ
  pub frames : Frames

abbrev pub machine_code : Coded Machine
machine_code =
    code_by (Option ℕ × (Option ℕ × (ℕ × Frames))) (coded× (coded_option coded_ℕ) (coded× (coded_option coded_ℕ) (coded× coded_ℕ (map.code coded_ℕ (coded_list coded_ℕ)))))
    (λ m. (m.source, (m.base, (m.position, m.frames)))) (λ p. record { source = p.0; base = p.1.0; position = p.1.1.0; frames = p.1.1.1 }) (λ _. refl)

-- before any call
abbrev pub opening_machine : Machine
opening_machine = record { source = None; base = None; position = start; frames = map.empty }

-- the least number that is at least p and congruent to n modulo the number of slots r
pub record IsAhead (r p n ahead : ℕ) : Type 0 where
  pub reached : p ≤ ahead
  pub near : ahead < p + r
  pub congruent : ahead % r ≡ n % r

-- what is held once x was said
abbrev pub held_or : Option ℕ → ℕ → ℕ
held_or (Some held) x = held
held_or None x = x

-- what a tick or a retire answers where this is held for its number
abbrev pub item_of : Option (List ℕ) → Item
item_of None = Erasure
item_of (Some f) = Frame f

-- a frame is taken where its number is in the window of r numbers from the position on, and is not there yet
abbrev pub FileReplies : ℕ → Machine → ℕ → FileReply → Type 0
FileReplies r m n Accepted = (m.position ≤ n) × (n < m.position + r) × (map.get m.frames n ≡ None)
FileReplies r m n Duplicate = (m.position ≤ n) × (n < m.position + r) × IsSome (map.get m.frames n)
FileReplies r m n (Late ahead) = (n < m.position) × IsAhead r m.position n ahead
FileReplies r m n (Beyond ahead) = (m.position + r ≤ n) × IsAhead r m.position n ahead

-- the reply in this call is the machine's. A look tells whether a frame waits so many numbers ahead, less than the slots; a hold whether none waits
-- under the position; a tick and a retire answer what waits there
abbrev pub Replies : ℕ → Machine → Call → Type 0
Replies r m (FileCall n f reply) = FileReplies r m n reply
Replies r m (SourceCall x held) = held ≡ held_or m.source x
Replies r m (BaseCall x held) = held ≡ held_or m.base x
Replies r m (PeekCall held) = held ≡ m.base
Replies r m (TickCall item) = item ≡ item_of (map.get m.frames m.position)
Replies r m (LookCall ahead filled) = (ahead < r) × (filled ≡ is_some (map.get m.frames (m.position + ahead)))
Replies r m (HoldCall held) = held ≡ is_none (map.get m.frames m.position)
Replies r m (RetireCall item) = item ≡ item_of (map.get m.frames m.position)

-- only Accepted changes the machine
abbrev pub filed : Machine → ℕ → List ℕ → FileReply → Machine
filed m n f Accepted = record m { frames = map.insert m.frames n f }
filed m n f Duplicate = m
filed m n f (Late ahead) = m
filed m n f (Beyond ahead) = m

-- what waits under the position is taken out, and the position goes on by one
abbrev pub passed : Machine → Machine
passed m = record m { position = m.position + 1; frames = map.remove m.frames m.position }

-- the machine after a call
abbrev pub after : Machine → Call → Machine
after m (FileCall n f reply) = filed m n f reply
after m (SourceCall x held) = record m { source = Some held }
after m (BaseCall x held) = record m { base = Some held }
after m (PeekCall held) = m
after m (TickCall item) = passed m
after m (LookCall ahead filled) = m
after m (HoldCall held) = m
after m (RetireCall item) = passed m

-- What a player's run results in, over the list of all its calls.
use Rattle.std.specs.Prelude.{◌≡◌, ◌⊎◌, ℕ, suc, ◌+◌, ◌-◌, ◌*◌, ◌<◌, ◌≤◌, false, List, [], ◌∷◌, ◌++◌, length, take, ℤ, Option, Some, IfSome}
use Rattle.std.specs.List.{flat_map, AllByRecursion}
use Rattle.std.specs.Io.KnownBytes.{Appends, IsAtEnd}
use Rattle.gate_base.specs.Faults.{Rose}
use Rattle.gate_io.specs.Flow.{ConsumesFewer}
use Rattle.gate_io.specs.Links.{GoesTo, LinkLog}
use Rattle.gate_io.specs.declared.link.Link as link
use Rattle.gate_io.specs.declared.sink.Sink as sink
use Rattle.gate_io.specs.declared.source.Source as source
use Rattle.frame_codec.specs.declared.item.Item.{Item}
use Rattle.playout.specs.declared.call.Call.{Call}
use Rattle.playout.specs.declared.side.PlayerSide as player_side
use Rattle.playout.specs.History.{Chained, moves}
use Rattle.recorder.specs.Files.{end_mark}
use Rattle.recorder.specs.Play.{call_text}
use Rattle.recorder.specs.Tallies.{call_items, play_tally}
use Rattle.substitution.specs.Heard.{IsHeard, sample_octets}
use Rattle.player.specs.declared.run.PlayerEnd.{PlayerEnd}
use Rattle.player.specs.declared.run.PlayerEnd.TheVariants.{Ended, SpeakerFault, JournalFault, MicFault, ReplyFault}
use Rattle.player.specs.Beats.{AreBeats, CanBeTold, Playing, Standing, Starts, standing_of}
use Rattle.player.specs.Pieces.{CutsOff}
use Rattle.player.specs.Returning.{Stream, Streams}

-- what the calls give to be heard
abbrev pub items_in : List Call → List Item
items_in calls = flat_map call_items calls

-- what the journal has of the calls
abbrev pub text_in : List Call → List ℕ
text_in calls = flat_map call_text calls

-- the calls of this many beats from the first on, where this many numbers may be held
abbrev pub AreAllBeats : ℕ → ℕ → List Call → Type 0
AreAllBeats elastic made calls = AreBeats elastic 0 false made calls

-- the calls of all beats but the last
pub record ButLast (elastic made : ℕ) (calls earlier : List Call) : Type 0 where
  pub last : List Call
  pub count : ℕ
  pub one_more : made ≡ suc count
  pub beats : AreAllBeats elastic count earlier
  pub calls_are : calls ≡ earlier ++ last

-- ---- the speaker

-- it has what is heard of all beats, 320 octets each; where it failed, of all but the last, and a prefix of that one
abbrev pub SpeakerHas : PlayerEnd → ℕ → Option (List ℕ) → Option (List ℕ) → List ℕ → Type 0
SpeakerHas Ended made old new octets = Appends old new octets
SpeakerHas SpeakerFault made old new octets = (k : ℕ) × (320 * (made - 1) ≤ k) × Appends old new (take k octets)
SpeakerHas JournalFault made old new octets = Appends old new octets
SpeakerHas MicFault made old new octets = Appends old new octets
SpeakerHas ReplyFault made old new octets = Appends old new octets

-- ---- the journal

-- the text, and after it the end mark, or nothing of that where the journal's count rose
abbrev pub MarkedBehind : Option (List ℕ) → Option (List ℕ) → ℕ → ℕ → List ℕ → Type 0
MarkedBehind old new before now text = Appends old new (text ++ end_mark ∷ []) ⊎ (Appends old new text × Rose before now)

-- What the journal has by the end of a run, and how many of the beats asked the return stream and were answered without a fault. This many numbers may be
-- held; the journal's count of faults was `before` and is `now`.
abbrev pub Journaled : PlayerEnd → ℕ → ℕ → ℕ → ℕ → List Call → Option (List ℕ) → Option (List ℕ) → ℕ → Type 0
Journaled Ended elastic before now made calls old new served = Appends old new (text_in calls ++ end_mark ∷ []) × (served ≡ made)
Journaled SpeakerFault elastic before now made calls old new served =
    (earlier : List Call) × ButLast elastic made calls earlier × MarkedBehind old new before now (text_in earlier) × (made ≡ suc served)
Journaled JournalFault elastic before now made calls old new served =
    ((earlier : List Call) × (k : ℕ) × ButLast elastic made calls earlier × (length (text_in earlier) ≤ k) × Appends old new (take k (text_in calls)) × (made ≡ suc served))
    ⊎ ((k : ℕ) × Appends old new (text_in calls ++ take k (end_mark ∷ [])) × (served ≡ made))
Journaled MicFault elastic before now made calls old new served = MarkedBehind old new before now (text_in calls) × (made ≡ suc served)
Journaled ReplyFault elastic before now made calls old new served = MarkedBehind old new before now (text_in calls) × (made ≡ suc served)

-- ---- the return stream

-- this many beats took these pieces of the microphone, one each until it ended, and these are their packets
pub record Served (own sequence stamp beats : ℕ) (left left_now : Option (List ℕ)) (pieces packets : List (List ℕ)) : Type 0 where
  pub stream : Stream
  pub streams : Streams own sequence stamp pieces packets stream
  pub few : length pieces ≤ beats
  pub ended : length pieces < beats → IsAtEnd left_now
  pub taken : IfSome left (λ octets. (rest : List ℕ) × (left_now ≡ Some rest) × CutsOff octets pieces rest)

-- the packets were sent, and nothing else was done
abbrev pub Sent : List (List ℕ) → LinkLog → LinkLog → Type 0
Sent packets a b = b ≡ record a { sent = a.sent ++ packets }

-- the same, the last of them sent or not
abbrev pub SentOrNot : List (List ℕ) → LinkLog → LinkLog → Type 0
SentOrNot packets a b = Sent packets a b ⊎ ((earlier : List (List ℕ)) × (last : List ℕ) × (packets ≡ earlier ++ last ∷ []) × Sent earlier a b)

-- What the microphone and the reply link did by the end of a run, of which this many beats were answered. A microphone that failed may have lost some octets
-- of one more piece; a reply link that failed was given one more packet, and sent it or not.
abbrev pub Returned : PlayerEnd → ℕ → ℕ → ℕ → ℕ → Option (List ℕ) → Option (List ℕ) → Option LinkLog → Option LinkLog → Type 0
Returned Ended own sequence stamp served left left_now log log_now =
    (pieces packets : List (List ℕ)) × Served own sequence stamp served left left_now pieces packets × GoesTo log log_now (Sent packets)
Returned SpeakerFault own sequence stamp served left left_now log log_now =
    (pieces packets : List (List ℕ)) × Served own sequence stamp served left left_now pieces packets × GoesTo log log_now (Sent packets)
Returned JournalFault own sequence stamp served left left_now log log_now =
    (pieces packets : List (List ℕ)) × Served own sequence stamp served left left_now pieces packets × GoesTo log log_now (Sent packets)
Returned MicFault own sequence stamp served left left_now log log_now =
    (pieces packets : List (List ℕ)) × (mid : Option (List ℕ)) × Served own sequence stamp served left mid pieces packets × (length pieces ≡ served)
    × ConsumesFewer 320 mid left_now × GoesTo log log_now (Sent packets)
Returned ReplyFault own sequence stamp served left left_now log log_now =
    (pieces packets : List (List ℕ)) × Served own sequence stamp (suc served) left left_now pieces packets × (length pieces ≡ suc served)
    × GoesTo log log_now (SentOrNot packets)

-- ---- the whole run

-- the objects of a player: what its speaker and its journal were given, what is left of its microphone, and what its reply link tells
pub record Ports : Type 0 where
  pub heard : Option (List ℕ)
  pub written : Option (List ℕ)
  pub left : Option (List ℕ)
  pub log : Option LinkLog

-- What a run of this many beats with these calls gave, from its first beat on, where this many numbers may be held and a line has 2 ^ g slots. The
-- journal's count of faults was `before` and is `now`.
pub record PlayerGave (seed : List ℕ) (own sequence stamp elastic g before now made : ℕ) (calls : List Call) (a b : Ports) (end : PlayerEnd) : Type 0 where
  pub beats : AreAllBeats elastic made calls
  pub told : AllByRecursion (CanBeTold g) calls
  pub samples : List ℤ
  pub heard : IsHeard seed (items_in calls) samples
  pub speaker : SpeakerHas end made a.heard b.heard (sample_octets samples)
  pub served : ℕ
  pub journal : Journaled end elastic before now made calls a.written b.written served
  pub reply : Returned end own sequence stamp served a.left b.left a.log b.log

-- the objects of a player at one moment
abbrev pub ports : {S : Type 0} → Standing S → Ports
ports s = record { heard = s.heard; written = s.written; left = s.left; log = s.log }

-- All calls of a whole run, what it gave, and that all of them were counted, of a player with this seed and these first numbers that had made no beat and
-- may hold this many numbers. The journal's count of faults was `before` and is `now`.
pub record PlayerTold {S : Type 0} (did : S → Call → S → Type 0) (seed : List ℕ) (own sequence stamp elastic before now : ℕ) (a b : Standing S) (end : PlayerEnd) : Type 0 where
  pub calls : List Call
  pub side : Chained did a.side calls b.side
  pub position : b.position ≡ a.position + moves calls
  pub gave : PlayerGave seed own sequence stamp elastic a.g before now b.player.made calls (ports a) (ports b) end
  pub tally : b.player.tally ≡ play_tally calls

-- The same of a player over its side, its speaker, its journal, its microphone and its reply link, by what these tell before and now. It has any seed and
-- any first numbers, and may hold any number of numbers.
abbrev pub RunTells : {S O J I P : Type 0} → player_side.Ghosts S → sink.Ghosts O → sink.Ghosts J → source.Ghosts I → link.Ghosts P
    → Playing → S → O → J → I → P → Playing → S → O → J → I → P → PlayerEnd → Type 0
RunTells s o j i p player side speaker journal microphone reply player_now side_now speaker_now journal_now microphone_now reply_now end =
    (seed : List ℕ) (own sequence stamp most elastic : ℕ) → Starts seed own sequence stamp most elastic player
    → PlayerTold s.did seed own sequence stamp elastic (j.faults journal) (j.faults journal_now)
    (standing_of s o j i p player side speaker journal microphone reply) (standing_of s o j i p player_now side_now speaker_now journal_now microphone_now reply_now) end

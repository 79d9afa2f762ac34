-- What the making of a script answers.
use Rattle.std.specs.Prelude.{ℕ, ◌≡◌, ◌^◌, List, [], ◌∷◌, ◌++◌, Option, Result, Ok, Err}
use Rattle.std.specs.List.{flat_map}
use Rattle.std.specs.Io.KnownBytes.{Appends, Keeps}
use Rattle.gate_io.specs.Flow.{AppendsPart}
use Rattle.frame_codec.specs.declared.item.Item.{Item}
use Rattle.playout.specs.declared.reply.FileReply.{FileReply}
use Rattle.playout.specs.declared.call.Call.TheVariants.{FileCall, TickCall}
use Rattle.playout.specs.Machine.{opening_machine}
use Rattle.playout.specs.History.{Entry, entry, IsLegal, calls, calls_of}
use Rattle.recorder.specs.declared.events.ScriptEvent.{ScriptEvent}
use Rattle.recorder.specs.declared.events.ScriptEvent.TheVariants.{Tick, File, Datagram, Beat}
use Rattle.recorder.specs.declared.tally.PlayTally.{PlayTally}
use Rattle.recorder.specs.declared.tally.Tally.{Tally}
use Rattle.recorder.specs.Tallies.{call_replies, play_tally, reply_tally}
use Rattle.replay_check.specs.Generator.{made_events, made_script, seed_key}
use Rattle.replay_check.specs.declared.made.Made.{Made}
use Rattle.replay_check.specs.declared.made.Made.TheVariants.{Done, WriteFault}

-- the calls of an event of a script, whatever is replied; the generator makes neither datagrams nor beats
abbrev pub AreCallsOf : ℕ → ScriptEvent → List Entry → Type 0
AreCallsOf filers Tick made = (item : Item) × (made ≡ entry filers (TickCall item) ∷ [])
AreCallsOf filers (File caller number frame) made = (reply : FileReply) × (made ≡ entry caller (FileCall number frame reply) ∷ [])
AreCallsOf filers (Datagram caller at octets) made = ⊥
AreCallsOf filers Beat made = ⊥

-- the calls of the events, in the events' order
abbrev pub AreCalls : ℕ → List ScriptEvent → List Entry → Type 0
AreCalls filers [] history = history ≡ []
AreCalls filers (e ∷ es) history = (first rest : List Entry) × AreCallsOf filers e first × AreCalls filers es rest × (history ≡ first ++ rest)

-- the tallies are those of the calls of the generator's events, run over the playout machine
pub record AreTallies (seed count filers : ℕ) (plays : PlayTally) (tally : Tally) : Type 0 where
  pub history : List Entry
  pub are_calls : AreCalls filers (made_events (seed_key seed) filers count) history
  pub legal : IsLegal (2 ^ 6) opening_machine history
  pub played : plays ≡ play_tally (calls_of filers history)
  pub filed : tally ≡ reply_tally (flat_map call_replies (calls history))

-- what each answer says of the octets that the sink was given
abbrev pub Makes : {E : Type 0} → ℕ → ℕ → ℕ → Option (List ℕ) → Option (List ℕ) → Result Made E → Type 0
Makes seed count filers before now (Ok (Done plays tally)) = Appends before now (made_script seed count filers) × AreTallies seed count filers plays tally
Makes seed count filers before now (Ok WriteFault) = AppendsPart before now (made_script seed count filers)
Makes seed count filers before now (Err e) = Keeps before now

-- What the rounds of a script that is made keep.
use Rattle.std.proofs.Common.{◌≡◌, ℕ, zero, suc, ◌+◌, ◌-◌, ◌≤◌, ◌<◌, ◌^◌, List, [], ◌∷◌, ◌++◌, Option, refl, sym, ap, subst, ◌∙◌, append_assoc, append-nil, arith}
use Rattle.std.specs.List.{flat_map}
use Rattle.std.specs.Io.KnownBytes.{Appends}
use Rattle.std.proofs.lemmas.List.Concat.{flat_map-append}
use Rattle.std.proofs.lemmas.Bool.{eq-eqb, ne_eqb}
use Rattle.std.proofs.KnownBytes.{Appends-trans}
use Rattle.gate_io.specs.Flow.{AppendsPart}
use Rattle.gate_io.specs.FlowLaws.{AppendsPart-after, AppendsPart-longer}
use Rattle.playout.specs.declared.reply.FileReply.{FileReply}
use Rattle.playout.specs.declared.reply.FileReply.TheVariants.{Accepted, Duplicate, Late, Beyond}
use Rattle.playout.specs.declared.call.Call.{Call}
use Rattle.playout.specs.declared.call.Call.TheVariants.{FileCall, TickCall}
use Rattle.playout.specs.Machine.{Machine, opening_machine, after, filed}
use Rattle.playout.specs.Line.{Line}
use Rattle.playout.specs.History.{Entry, entry, IsLegal, after_all, calls, calls_of}
use Rattle.playout.specs.HistoryLaws.{after_all-append, IsLegal-append, calls-append, calls_of-append}
use Rattle.recorder.specs.declared.events.ScriptEvent.{ScriptEvent}
use Rattle.recorder.specs.declared.events.ScriptEvent.TheVariants.{Tick, File}
use Rattle.recorder.specs.Files.{end_mark}
use Rattle.recorder.specs.Heads.{head_text, script_magic}
use Rattle.recorder.specs.Script.{event_text, script_text}
use Rattle.recorder.specs.Tallies.{call_replies, play_tally, reply_tally, call_counted, reply_counted}
use Rattle.recorder.specs.TallyLaws.{play_tally-more, reply_tally-more}
use Rattle.replay_check.specs.Generator.{made_events, made_file, made_heading, made_script, seed_key}
use Rattle.replay_check.specs.Made.{AreCalls, AreTallies}
use Rattle.replay_check.specs.Plays.{Plays}
use Rattle.replay_check.specs.declared.played.Played.{Played}

-- n rounds were given and run
pub record Sofar (key : List ℕ) (filers n : ℕ) (run : Played) (before now : Option (List ℕ)) (history : List Entry) : Type 0 where
  pub are_calls : AreCalls filers (made_events key filers n) history
  pub legal : IsLegal (2 ^ 6) opening_machine history
  pub line : run.line ≡ record { filers = filers; g = 6; machine = after_all opening_machine history }
  pub slow : run.line.machine.position ≤ 4294967296 + n
  pub given : Appends before now (script_text (made_heading filers) (made_events key filers n))
  pub items : run.items ≡ play_tally (calls_of filers history)
  pub replies : run.replies ≡ reply_tally (flat_map call_replies (calls history))

AreCalls-append : (filers : ℕ) (es ds : List ScriptEvent) (h k : List Entry) → AreCalls filers es h → AreCalls filers ds k → AreCalls filers (es ++ ds) (h ++ k)
AreCalls-append filers [] ds h k none more = subst (λ (l : List Entry). AreCalls filers ds (l ++ k)) (sym none) more
AreCalls-append filers (e ∷ es) ds h k (first, rest, one, others, is) more =
    (first, rest ++ k, one, AreCalls-append filers es ds rest k others more, ap (λ (l : List Entry). l ++ k) is ∙ append_assoc first rest k)

of-own : (who : ℕ) (c : Call) → calls_of who (entry who c ∷ []) ≡ c ∷ []
of-own who c = rw (eq-eqb who who refl) refl

of-other : (who other : ℕ) (c : Call) (h : List Entry) → other < who → calls_of who (entry other c ∷ h) ≡ calls_of who h
of-other who other c h lt = rw (ne_eqb other who (λ same. omega arith)) refl

all-more : {A : Type 0} (f : Call → List A) (h k : List Entry) → flat_map f (calls (h ++ k)) ≡ flat_map f (calls h) ++ flat_map f (calls k)
all-more f h k = ap (flat_map f) (calls-append h k) ∙ flat_map-append f (calls h) (calls k)

filed-position : (m : Machine) (n : ℕ) (f : List ℕ) (r : FileReply) → (filed m n f r).position ≡ m.position
filed-position m n f Accepted = refl
filed-position m n f Duplicate = refl
filed-position m n f (Late a) = refl
filed-position m n f (Beyond a) = refl

-- the text of one round more
pub text-more : (key : List ℕ) (filers n : ℕ) → script_text (made_heading filers) (made_events key filers (n + 1)) ≡ script_text (made_heading filers) (made_events key filers n) ++ (event_text (made_file key filers n) ++ event_text Tick)
text-more key filers n =
    let one : made_events key filers (n + 1) ≡ made_events key filers n ++ (made_file key filers n ∷ Tick ∷ []) = ap (made_events key filers) (let e : n + 1 ≡ suc n = omega arith in e) in
    let h = head_text script_magic (made_heading filers) in
    let both : flat_map event_text (made_file key filers n ∷ Tick ∷ []) ≡ event_text (made_file key filers n) ++ event_text Tick = ap (λ (l : List ℕ). event_text (made_file key filers n) ++ l) (append-nil (event_text Tick)) in
    ap (λ (l : List ScriptEvent). h ++ flat_map event_text l) one ∙ ap (λ (l : List ℕ). h ++ l) (flat_map-append event_text (made_events key filers n) (made_file key filers n ∷ Tick ∷ []) ∙ ap (λ (l : List ℕ). flat_map event_text (made_events key filers n) ++ l) both)
    ∙ sym (append_assoc h (flat_map event_text (made_events key filers n)) (event_text (made_file key filers n) ++ event_text Tick))

-- one round more
pub sofar-more : (key : List ℕ) (filers n : ℕ) (run run' : Played) (before now now' : Option (List ℕ)) (history : List Entry) (caller number : ℕ) (frame : List ℕ) → Sofar key filers n run before now history
    → File caller number frame ≡ made_file key filers n → caller < filers → Appends now now' (event_text (File caller number frame) ++ event_text Tick) → (p : Plays caller number frame run run')
    → Sofar key filers (n + 1) run' before now' (history ++ (entry caller (FileCall number frame p.reply) ∷ entry filers (TickCall p.item) ∷ []))
sofar-more key filers n run run' before now now' history caller number frame s is known gave p =
    let c = FileCall number frame p.reply in
    let d = TickCall p.item in
    let made = entry caller c ∷ entry filers d ∷ [] in
    let one : made_events key filers n ++ (made_file key filers n ∷ Tick ∷ []) ≡ made_events key filers (n + 1) = ap (made_events key filers) (let e : suc n ≡ n + 1 = omega arith in e) in
    let two : AreCalls filers (File caller number frame ∷ Tick ∷ []) made = (entry caller c ∷ [], entry filers d ∷ [], (p.reply, refl), (entry filers d ∷ [], [], (p.item, refl), refl, refl), refl) in
    let own : calls_of filers made ≡ d ∷ [] = of-other filers caller c (entry filers d ∷ []) known ∙ of-own filers d in
    let machine : run.line.machine ≡ after_all opening_machine history = ap (λ (l : Line). l.machine) s.line in
    let slots : run.line.g ≡ 6 = ap (λ (l : Line). l.g) s.line in
    let legal : IsLegal (2 ^ 6) (after_all opening_machine history) made =
    subst (λ (m : Machine). IsLegal (2 ^ 6) m made) machine (subst (λ (g : ℕ). IsLegal (2 ^ g) run.line.machine made) slots (p.filed, (p.ticked, tt))) in
    record {
      are_calls = subst (λ (es : List ScriptEvent). AreCalls filers es (history ++ made)) one
          (AreCalls-append filers (made_events key filers n) (made_file key filers n ∷ Tick ∷ []) history made s.are_calls (subst (λ (e : ScriptEvent). AreCalls filers (e ∷ Tick ∷ []) made) is two));
      legal = IsLegal-append (2 ^ 6) opening_machine history made s.legal legal;
      line = p.line ∙ ap (λ (l : Line). record { filers = l.filers; g = l.g; machine = after (after l.machine c) d }) s.line
          ∙ ap (λ (m : Machine). record { filers = filers; g = 6; machine = m }) (sym (after_all-append opening_machine history made));
      slow = omega (arith, ap (λ (l : Line). l.machine.position) p.line, filed-position run.line.machine number frame p.reply, s.slow);
      given = subst (Appends before now') (sym (text-more key filers n ∙ ap (λ (e : ScriptEvent). script_text (made_heading filers) (made_events key filers n) ++ (event_text e ++ event_text Tick)) (sym is)))
          (Appends-trans before now now' (script_text (made_heading filers) (made_events key filers n)) (event_text (File caller number frame) ++ event_text Tick) s.given gave);
      items = p.items ∙ ap (λ t. call_counted t d) s.items ∙ sym (play_tally-more (calls_of filers history) d)
          ∙ ap (λ (cs : List Call). play_tally (calls_of filers history ++ cs)) (sym own) ∙ ap play_tally (sym (calls_of-append filers history made));
      replies = p.replies ∙ ap (λ t. reply_counted t p.reply) s.replies ∙ sym (reply_tally-more (flat_map call_replies (calls history)) p.reply) ∙ ap reply_tally (sym (all-more call_replies history made));
    }

-- a script is its first rounds and more
pub front : (key : List ℕ) (filers n k : ℕ) → (rest : List ℕ) × (script_text (made_heading filers) (made_events key filers (n + k)) ≡ script_text (made_heading filers) (made_events key filers n) ++ rest)
front key filers n zero =
    ([], ap (λ (j : ℕ). script_text (made_heading filers) (made_events key filers j)) (let e : n + 0 ≡ n = omega arith in e) ∙ sym (append-nil (script_text (made_heading filers) (made_events key filers n))))
front key filers n (suc k) =
    let short = front key filers n k in
    let round = event_text (made_file key filers (n + k)) ++ event_text Tick in (
      short.0 ++ round,
      ap (λ (j : ℕ). script_text (made_heading filers) (made_events key filers j)) (let e : n + suc k ≡ n + k + 1 = omega arith in e) ∙ text-more key filers (n + k)
          ∙ ap (λ (l : List ℕ). l ++ round) short.1 ∙ append_assoc (script_text (made_heading filers) (made_events key filers n)) short.0 round,
    )

-- the head alone, and the first rounds, are fronts of a script
pub part_of : (seed filers n count : ℕ) (before now : Option (List ℕ)) → n ≤ count → AppendsPart before now (script_text (made_heading filers) (made_events (seed_key seed) filers n)) → AppendsPart before now (made_script seed count filers)
part_of seed filers n count before now le part =
    let key = seed_key seed in
    let more = front key filers n (count - n) in
    let text = script_text (made_heading filers) (made_events key filers n) in
    let whole : text ++ (more.0 ++ end_mark ∷ []) ≡ made_script seed count filers =
    sym (append_assoc text more.0 (end_mark ∷ [])) ∙ ap (λ (l : List ℕ). l ++ end_mark ∷ []) (sym more.1 ∙ ap (λ (j : ℕ). script_text (made_heading filers) (made_events key filers j)) (let e : n + (count - n) ≡ count = omega arith in e)) in
    subst (AppendsPart before now) whole (AppendsPart-longer before now text (more.0 ++ end_mark ∷ []) part)

-- a round that broke off
pub broken : (seed filers n count : ℕ) (run : Played) (before now now' : Option (List ℕ)) (history : List Entry) (e : ScriptEvent) → n + 1 ≤ count → Sofar (seed_key seed) filers n run before now history → e ≡ made_file (seed_key seed) filers n
    → AppendsPart now now' (event_text e ++ event_text Tick) → AppendsPart before now' (made_script seed count filers)
broken seed filers n count run before now now' history e le s is part =
    let key = seed_key seed in
    part_of seed filers (n + 1) count before now' le (subst (AppendsPart before now') (sym (text-more key filers n ∙ ap (λ (d : ScriptEvent). script_text (made_heading filers) (made_events key filers n) ++ (event_text d ++ event_text Tick)) (sym is)))
    (AppendsPart-after before now now' (script_text (made_heading filers) (made_events key filers n)) (event_text e ++ event_text Tick) s.given part))

-- before the first round
pub sofar-head : (key : List ℕ) (filers : ℕ) (run : Played) (before now : Option (List ℕ)) → run ≡ record { line = record { filers = filers; g = 6; machine = opening_machine }; items = play_tally []; replies = reply_tally [] }
    → Appends before now (head_text script_magic (made_heading filers)) → Sofar key filers 0 run before now []
sofar-head key filers run before now opened gave =
    let line : run.line ≡ record { filers = filers; g = 6; machine = opening_machine } = ap (λ (p : Played). p.line) opened in
    record {
      are_calls = refl;
      legal = tt;
      line = line;
      slow = omega (arith, ap (λ (l : Line). l.machine.position) line);
      given = subst (Appends before now) (sym (append-nil (head_text script_magic (made_heading filers)))) gave;
      items = ap (λ (p : Played). p.items) opened;
      replies = ap (λ (p : Played). p.replies) opened;
    }

-- behind the last round
pub tallies : (seed filers count : ℕ) (run : Played) (before now : Option (List ℕ)) (history : List Entry) → Sofar (seed_key seed) filers count run before now history → AreTallies seed count filers run.items run.replies
tallies seed filers count run before now history s = record { history = history; are_calls = s.are_calls; legal = s.legal; played = s.items; filed = s.replies }

-- At most one call is accepted under a number, and its frame is played once where its tick is there.
use Rattle.std.proofs.Common.{◌≡◌, ◌≢◌, ℕ, ◌+◌, ◌<◌, ◌≤◌, eqb, cond, List, [], ◌∷◌, Option, Some, None, refl, sym, ap, ◌∙◌, arith}
use native.Mathlib.Decide.{ℕ_discrete, dec_le}
use Rattle.std.specs.FinMap as map
use Rattle.playout.specs.declared.call.Call.{Call}
use Rattle.playout.specs.declared.call.Call.TheVariants.{FileCall, TickCall, RetireCall}
use Rattle.playout.specs.declared.reply.FileReply.{FileReply}
use Rattle.playout.specs.declared.reply.FileReply.TheVariants.{Accepted, Duplicate, Late, Beyond}
use Rattle.playout.specs.Machine.{start, Machine, opening_machine, Replies, FileReplies, after, passed, item_of}
use Rattle.playout.specs.History.{Entry, IsLegal, calls, move_weight}
use Rattle.playout.specs.Plays.{accepted_weight, times_accepted, tick_weight, frame_weight, played_weight, weight_at, AcceptedOnce}
use Rattle.playout.specs.FrameLaws.{get-insert_here, get-insert_else, get-remove_else}
use Rattle.playout.specs.HeldFrames.{call-position}
use Rattle.playout.proofs.AcceptedLaws.{nothing_yet}
use Rattle.playout.proofs.Counting.{weigh, weigh_not, split_move, one_move, plays_at_ticks, none_past, less_at, moves_at, none_yet, one_each}

-- 1 where there is a frame
abbrev weight_of : Option (List ℕ) → ℕ
weight_of None = 0
weight_of (Some f) = 1

abbrev held_weight : Machine → ℕ → ℕ
held_weight m n = weight_of (map.get m.frames n)

-- once the position is past n nothing of n is accepted; before, what is held and what is accepted are one at most, and that is what the tick of n plays
record StaysOnce (m : Machine) (n : ℕ) (cs : List Call) : Type 0 where
  past : n < m.position → times_accepted n cs ≡ 0
  one : m.position ≤ n → held_weight m n + times_accepted n cs ≤ 1
  played : weight_at tick_weight n m.position cs ≡ 1 → weight_at played_weight n m.position cs ≡ held_weight m n + times_accepted n cs

-- what one call does to n
record Counts (m : Machine) (n : ℕ) (c : Call) : Type 0 where
  past : n < m.position → accepted_weight n c ≡ 0
  keeps : m.position + move_weight c ≤ n → held_weight (after m c) n ≡ held_weight m n + accepted_weight n c
  quiet : m.position ≤ n → n < m.position + move_weight c → accepted_weight n c ≡ 0
  plays : n ≡ m.position → tick_weight c ≡ 1 → played_weight c ≡ held_weight m n

few : (m : Machine) (n : ℕ) → held_weight m n ≤ 1
few m n = go (map.get m.frames n)
  where
    go : (o : Option (List ℕ)) → weight_of o ≤ 1
    go None = omega arith
    go (Some f) = omega arith

frame-weight : (o : Option (List ℕ)) → frame_weight (item_of o) ≡ weight_of o
frame-weight None = refl
frame-weight (Some f) = refl

passed-keeps : (m : Machine) (n : ℕ) → m.position + 1 ≤ n → held_weight (passed m) n ≡ held_weight m n + 0
passed-keeps m n le = let other : n ≢ m.position = λ same. omega arith in omega (arith, ap weight_of (get-remove_else m.frames m.position n other))

counts-file : (r : ℕ) (m : Machine) (n k : ℕ) (f : List ℕ) (reply : FileReply) → FileReplies r m k reply → Counts m n (FileCall k f reply)
counts-file r m n k f Accepted reply = record { past = λ lt. weigh_not n k 1 (λ same. omega (arith, reply.0)); keeps = λ le. go (ℕ_discrete n k); quiet = λ le lt. absurd (omega arith); plays = λ _ one. absurd (omega arith) }
  where
    go : Dec (n ≡ k) → weight_of (map.get (map.insert m.frames k f) n) ≡ weight_of (map.get m.frames n) + cond (eqb n k) 1 0
    go (yes is) =
        let now : map.get (map.insert m.frames k f) n ≡ Some f = ap (λ (z : ℕ). map.get (map.insert m.frames k f) z) is ∙ get-insert_here m.frames k f in
        let before : map.get m.frames n ≡ None = ap (λ (z : ℕ). map.get m.frames z) is ∙ reply.2 in
        omega (arith, ap weight_of now, ap weight_of before, weigh n k 1 is)
    go (no other) = omega (arith, ap weight_of (get-insert_else m.frames k n f other), weigh_not n k 1 other)
counts-file r m n k f Duplicate reply = record { past = λ _. refl; keeps = λ _. omega arith; quiet = λ _ _. refl; plays = λ _ one. absurd (omega arith) }
counts-file r m n k f (Late ahead) reply = record { past = λ _. refl; keeps = λ _. omega arith; quiet = λ _ _. refl; plays = λ _ one. absurd (omega arith) }
counts-file r m n k f (Beyond ahead) reply = record { past = λ _. refl; keeps = λ _. omega arith; quiet = λ _ _. refl; plays = λ _ one. absurd (omega arith) }

counts : (r : ℕ) (m : Machine) (n : ℕ) (c : Call) → Replies r m c → Counts m n c
counts r m n (FileCall k f reply) is = counts-file r m n k f reply is
counts r m n (TickCall item) is = record { past = λ _. refl; keeps = λ le. passed-keeps m n le; quiet = λ _ _. refl; plays = λ here _. plays here }
  where
    plays : n ≡ m.position → frame_weight item ≡ held_weight m n
    plays here =
        let item_here : item ≡ item_of (map.get m.frames n) = is ∙ ap (λ (z : ℕ). item_of (map.get m.frames z)) (sym here) in
        ap frame_weight item_here ∙ frame-weight (map.get m.frames n)
counts r m n (RetireCall item) is = record { past = λ _. refl; keeps = λ le. passed-keeps m n le; quiet = λ _ _. refl; plays = λ _ one. absurd (omega arith) }
counts r m n _ is = record { past = λ _. refl; keeps = λ _. omega arith; quiet = λ _ _. refl; plays = λ _ one. absurd (omega arith) }

-- a call that leaves n to come plays nothing of it
not_here : (w : Call → ℕ) (c : Call) (n p : ℕ) → w c ≤ move_weight c → p + move_weight c ≤ n → cond (eqb n p) (w c) 0 ≡ 0
not_here w c n p less still = go (ℕ_discrete n p)
  where
    go : Dec (n ≡ p) → cond (eqb n p) (w c) 0 ≡ 0
    go (yes is) = omega (arith, less, weigh n p (w c) is)
    go (no other) = weigh_not n p (w c) other

-- where a call and those behind it have the tick of n, that plays what is held and accepted under it
plays : (m : Machine) (n : ℕ) (c : Call) (cs : List Call) → Counts m n c → (after m c).position ≡ m.position + move_weight c → StaysOnce (after m c) n cs
    → Dec (m.position + move_weight c ≤ n) → Dec (m.position ≤ n) → weight_at tick_weight n m.position (c ∷ cs) ≡ 1 → weight_at played_weight n m.position (c ∷ cs) ≡ held_weight m n + times_accepted n (c ∷ cs)
plays m n c cs now on later still come one = go still come (at tick_weight) (at played_weight)
  where
    -- the calls behind it are counted from the next position on
    at : (w : Call → ℕ) → weight_at w n (m.position + move_weight c) cs ≡ weight_at w n (after m c).position cs
    at w = ap (λ (p : ℕ). weight_at w n p cs) (sym on)

    go : Dec (m.position + move_weight c ≤ n) → Dec (m.position ≤ n) → weight_at tick_weight n (m.position + move_weight c) cs ≡ weight_at tick_weight n (after m c).position cs
        → weight_at played_weight n (m.position + move_weight c) cs ≡ weight_at played_weight n (after m c).position cs → weight_at played_weight n m.position (c ∷ cs) ≡ held_weight m n + times_accepted n (c ∷ cs)
    go (yes still) come ticks plays =
        let less : tick_weight c ≤ move_weight c = omega (arith, split_move c) in
        let ticked = not_here tick_weight c n m.position less still in
        let played = not_here played_weight c n m.position (omega (arith, less, plays_at_ticks c)) still in
        omega (arith, one, ticks, plays, ticked, played, now.keeps still, later.played (omega (arith, one, ticks, ticked)))
    go (no gone) (yes le) ticks plays =
        let same : n ≡ m.position = omega (arith, one_move c) in
        let past : n < m.position + move_weight c = omega arith in
        let ticked : tick_weight c ≡ 1 = omega (arith, one, weigh n m.position (tick_weight c) same, none_past tick_weight n (m.position + move_weight c) cs past) in
        omega (arith, weigh n m.position (played_weight c) same, none_past played_weight n (m.position + move_weight c) cs past, now.plays same ticked, now.quiet le past, later.past (omega (arith, on, past)))
    go (no gone) (no low) ticks plays = absurd (omega (arith, one, none_past tick_weight n m.position (c ∷ cs) (omega arith)))

stays_once : (r : ℕ) (m : Machine) (h : List Entry) → IsLegal r m h → (n : ℕ) → StaysOnce m n (calls h)
stays_once r m [] legal n = record { past = λ _. refl; one = λ _. omega (arith, few m n); played = λ one. absurd (omega arith) }
stays_once r m (e ∷ h) legal n =
    let now : Counts m n e.call = counts r m n e.call legal.0 in
    let next : Machine = after m e.call in
    let on : next.position ≡ m.position + move_weight e.call = call-position m e.call in
    let later : StaysOnce next n (calls h) = stays_once r next h legal.1 n in
    record {
      past = λ lt. omega (arith, on, now.past lt, later.past (omega arith));
      one = λ le. elim (dec_le (m.position + move_weight e.call) n) [
        | yes still ↦ omega (arith, on, now.keeps still, later.one (omega arith))
        | no gone ↦ omega (arith, on, few m n, now.quiet le (omega arith), later.past (omega arith))
      ];
      played = plays m n e.call (calls h) now on later (dec_le (m.position + move_weight e.call) n) (dec_le m.position n);
    }

pub accepted_once : AcceptedOnce
accepted_once r h legal n =
    let cs : List Call = calls h in
    let is : StaysOnce opening_machine n cs = stays_once r opening_machine h legal n in
    let nothing : held_weight opening_machine n ≡ 0 = ap weight_of (nothing_yet n) in
    let moved = moves_at n start cs in
    let below : n < start → times_accepted n cs ≡ 0 = λ lt. is.past lt in
    record {
      accepted = elim (dec_le start n) [ yes le ↦ omega (arith, nothing, is.one le) | no low ↦ omega (arith, below (omega arith)) ];
      below = λ lt. (below lt, omega (arith, moved, none_past move_weight n start cs lt));
      passed = λ le lt. omega (arith, moved, one_each n start cs le lt);
      waits = λ le. omega (arith, moved, none_yet n start cs le);
      played = λ one. omega (arith, nothing, is.played one);
      unplayed = λ none. omega (arith, none, less_at played_weight tick_weight plays_at_ticks n start cs);
    }

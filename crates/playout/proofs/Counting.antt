-- What calls weigh at a number, whatever the machine is.
use Rattle.std.proofs.Common.{◌≡◌, ◌≢◌, ℕ, ◌+◌, ◌<◌, ◌≤◌, eqb, eq-eqb, ne_eqb, Bool, cond, true, false, List, [], ◌∷◌, refl, ap, arith}
use native.Mathlib.Decide.{ℕ_discrete, dec_le}
use Rattle.frame_codec.specs.declared.item.Item.TheVariants.{Idle, Frame, Erasure}
use Rattle.playout.specs.declared.call.Call.{Call}
use Rattle.playout.specs.declared.call.Call.TheVariants.{TickCall}
use Rattle.playout.specs.History.{moves, move_weight}
use Rattle.playout.specs.Plays.{tick_weight, retire_weight, played_weight, weight_at}

pub weigh : (n k : ℕ) (w : ℕ) → n ≡ k → cond (eqb n k) w 0 ≡ w
weigh n k w e = ap (λ (b : Bool). cond b w 0) (eq-eqb n k e)

pub weigh_not : (n k : ℕ) (w : ℕ) → n ≢ k → cond (eqb n k) w 0 ≡ 0
weigh_not n k w e = ap (λ (b : Bool). cond b w 0) (ne_eqb n k e)

pub split_move : (c : Call) → tick_weight c + retire_weight c ≡ move_weight c
split_move (TickCall item) = refl
split_move _ = refl

pub one_move : (c : Call) → move_weight c ≤ 1
one_move (TickCall item) = omega arith
one_move _ = omega arith

pub plays_at_ticks : (c : Call) → played_weight c ≤ tick_weight c
plays_at_ticks (TickCall Idle) = omega arith
plays_at_ticks (TickCall (Frame f)) = omega arith
plays_at_ticks (TickCall Erasure) = omega arith
plays_at_ticks _ = omega arith

-- nothing is made at a number that is past
pub none_past : (w : Call → ℕ) (n p : ℕ) (cs : List Call) → n < p → weight_at w n p cs ≡ 0
none_past w n p [] lt = refl
none_past w n p (c ∷ cs) lt = omega (arith, weigh_not n p (w c) (λ same. omega arith), none_past w n (p + move_weight c) cs (omega arith))

pub less_at : (v w : Call → ℕ) → ((c : Call) → v c ≤ w c) → (n p : ℕ) (cs : List Call) → weight_at v n p cs ≤ weight_at w n p cs
less_at v w less n p [] = omega arith
less_at v w less n p (c ∷ cs) = omega (arith, step (eqb n p) (v c) (w c) (less c), less_at v w less n (p + move_weight c) cs)
  where
    step : (b : Bool) (x y : ℕ) → x ≤ y → cond b x 0 ≤ cond b y 0
    step true x y le = le
    step false x y le = omega arith

-- a tick or a retire at n is a move there
pub moves_at : (n p : ℕ) (cs : List Call) → weight_at tick_weight n p cs + weight_at retire_weight n p cs ≡ weight_at move_weight n p cs
moves_at n p [] = refl
moves_at n p (c ∷ cs) = omega (arith, step (eqb n p) (tick_weight c) (retire_weight c) (move_weight c) (split_move c), moves_at n (p + move_weight c) cs)
  where
    step : (b : Bool) (x y z : ℕ) → x + y ≡ z → cond b x 0 + cond b y 0 ≡ cond b z 0
    step true x y z e = e
    step false x y z e = refl

-- a number to come has no move yet
pub none_yet : (n p : ℕ) (cs : List Call) → p + moves cs ≤ n → weight_at move_weight n p cs ≡ 0
none_yet n p [] le = refl
none_yet n p (c ∷ cs) le = omega (arith, here (ℕ_discrete n p), none_yet n (p + move_weight c) cs (omega arith))
  where
    here : Dec (n ≡ p) → cond (eqb n p) (move_weight c) 0 ≡ 0
    here (yes is) = omega (arith, weigh n p (move_weight c) is)
    here (no other) = weigh_not n p (move_weight c) other

-- a number that was passed has one move
pub one_each : (n p : ℕ) (cs : List Call) → p ≤ n → n < p + moves cs → weight_at move_weight n p cs ≡ 1
one_each n p [] le lt = absurd (omega arith)
one_each n p (c ∷ cs) le lt = go (dec_le (p + move_weight c) n) (λ still. one_each n (p + move_weight c) cs still (omega arith))
  where
    here : p + move_weight c ≤ n → Dec (n ≡ p) → cond (eqb n p) (move_weight c) 0 ≡ 0
    here still (yes is) = omega (arith, weigh n p (move_weight c) is)
    here still (no other) = weigh_not n p (move_weight c) other

    go : Dec (p + move_weight c ≤ n) → (p + move_weight c ≤ n → weight_at move_weight n (p + move_weight c) cs ≡ 1) → cond (eqb n p) (move_weight c) 0 + weight_at move_weight n (p + move_weight c) cs ≡ 1
    go (yes still) rest = omega (arith, here still (ℕ_discrete n p), rest still)
    go (no passed) rest =
        let small = one_move c in
        let same : n ≡ p = omega arith in
        omega (arith, small, weigh n p (move_weight c) same, none_past move_weight n (p + move_weight c) cs (omega arith))

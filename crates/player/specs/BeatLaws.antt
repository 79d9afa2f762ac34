-- What the calls of beats are, whatever the line replied.
use Rattle.std.proofs.Common.{◌≡◌, ℕ, zero, suc, ◌+◌, ◌<◌, ◌≤◌, Bool, true, false, List, [], ◌∷◌, ◌++◌, replicate, Some, None, refl, sym, ap, subst, ◌∙◌, inl, inr, arith}
use Rattle.std.specs.Prelude.{◌⊎◌}
use Rattle.std.proofs.lemmas.List.Sums.{fold-append}
use Rattle.frame_codec.specs.declared.item.Item.TheVariants as items
use Rattle.playout.specs.declared.call.Call.{Call}
use Rattle.playout.specs.declared.call.Call.TheVariants.{PeekCall}
use Rattle.playout.specs.History.{moves}
use Rattle.player.specs.Beats.{AreBeats, GivesOne, HoldsOrTicks, IsBeat, IsTurn, LooksAndTicks, held_after, held_by, opened_after}

-- ---- one beat

-- a beat lets a number pass or goes on by one number, and by one more where one that was held is retired
pub record Counts (elastic held : ℕ) (calls : List Call) : Type 0 where
  pub one : GivesOne calls
  pub few : held_after held calls ≤ elastic
  pub goes_on : moves calls + held_after held calls ≤ held + 1

counts_hold : (elastic held : ℕ) (calls : List Call) → held < elastic → HoldsOrTicks calls → Counts elastic held calls
counts_hold elastic held calls low (inl is) = subst (Counts elastic held) (sym is) (record { one = (items.Erasure, refl); few = omega (arith, low); goes_on = omega arith })
counts_hold elastic held calls low (inr (item, taken, is)) = subst (Counts elastic held) (sym is) (record { one = (item, refl); few = omega (arith, low); goes_on = omega arith })

counts_look : (elastic held : ℕ) (calls : List Call) → 0 < elastic → held ≡ elastic → LooksAndTicks calls → Counts elastic held calls
counts_look elastic held calls some full (inl (item, taken, is)) = subst (Counts elastic held) (sym is) (record { one = (item, refl); few = omega (arith, full); goes_on = omega arith })
counts_look elastic held calls some full (inr (inl (item, taken, is))) = subst (Counts elastic held) (sym is) (record { one = (item, refl); few = omega (arith, full); goes_on = omega arith })
counts_look elastic held calls some full (inr (inr (gone, item, left, taken, is))) =
    subst (Counts elastic held) (sym is) (record { one = (item, refl); few = omega (arith, full); goes_on = omega (arith, some, full) })

counts_turn : (elastic held : ℕ) (calls : List Call) → held ≤ elastic → IsTurn elastic held calls → Counts elastic held calls
counts_turn elastic held calls most (inl (none, (item, taken, is))) = subst (Counts elastic held) (sym is) (record { one = (item, refl); few = most; goes_on = omega arith })
counts_turn elastic held calls most (inr (inl (low, holds))) = counts_hold elastic held calls low holds
counts_turn elastic held calls most (inr (inr (some, full, looks))) = counts_look elastic held calls some full looks

counts_behind : (elastic held base : ℕ) (turn calls : List Call) → Counts elastic held turn → calls ≡ PeekCall (Some base) ∷ turn → Counts elastic held calls
counts_behind elastic held base turn calls c is = subst (Counts elastic held) (sym is) (record { one = c.one; few = c.few; goes_on = omega (arith, c.goes_on) })

pub beat_counts : (elastic held : ℕ) (opened : Bool) (calls : List Call) → held ≤ elastic → IsBeat elastic held opened calls → Counts elastic held calls
beat_counts elastic held true calls most asks = counts_turn elastic held calls most asks
beat_counts elastic held false calls most (inl is) = subst (Counts elastic held) (sym is) (record { one = (items.Idle, refl); few = most; goes_on = omega arith })
beat_counts elastic held false calls most (inr (base, turn, asks, is)) = counts_behind elastic held base turn calls (counts_turn elastic held turn most asks) is

-- ---- beats, one after the other

pub moves-append : (xs ys : List Call) → moves (xs ++ ys) ≡ moves xs + moves ys
moves-append [] ys = omega arith
moves-append (x ∷ xs) ys = omega (arith, moves-append xs ys)

-- where this many numbers are held before them: at most as many as may be are held behind them, and no more numbers are gone than there are beats
pub beats_count : (elastic held : ℕ) (opened : Bool) (n : ℕ) (calls : List Call) → held ≤ elastic → AreBeats elastic held opened n calls
    → (held_after held calls ≤ elastic) × (moves calls + held_after held calls ≤ held + n)
beats_count elastic held opened zero calls most none =
    subst (λ (l : List Call). (held_after held l ≤ elastic) × (moves l + held_after held l ≤ held + zero)) (sym none) (most, omega arith)
beats_count elastic held opened (suc n) calls most (first, rest, asks, is, more) =
    let now = beat_counts elastic held opened first most asks in
    let then = beats_count elastic (held_after held first) (opened_after opened first) n rest now.few more in
    let behind : held_after held (first ++ rest) ≡ held_after (held_after held first) rest = fold-append held_by held first rest in
    let few : held_after held (first ++ rest) ≤ elastic = omega (arith, behind, then.0) in
    let goes_on : moves (first ++ rest) + held_after held (first ++ rest) ≤ held + suc n = omega (arith, behind, moves-append first rest, now.goes_on, then.1) in
    subst (λ (l : List Call). (held_after held l ≤ elastic) × (moves l + held_after held l ≤ held + suc n)) (sym is) (few, goes_on)

-- some peeks that saw no base and nothing more; or, behind them, one that saw it, and the calls of one beat or more
abbrev pub PeeksThenBeats : ℕ → ℕ → List Call → Type 0
PeeksThenBeats elastic made calls =
    (calls ≡ replicate made (PeekCall None))
    ⊎ ((idle base more : ℕ) × (turns : List Call) × (made ≡ idle + suc more) × (calls ≡ replicate idle (PeekCall None) ++ PeekCall (Some base) ∷ turns) × AreBeats elastic 0 true (suc more) turns)

idle_first : (elastic n : ℕ) (rest : List Call) → PeeksThenBeats elastic n rest → PeeksThenBeats elastic (suc n) (PeekCall None ∷ rest)
idle_first elastic n rest (inl is) = inl (ap (λ (l : List Call). PeekCall None ∷ l) is)
idle_first elastic n rest (inr (idle, base, more, turns, made, is, beats)) =
    inr (suc idle, base, more, turns, omega (arith, made), ap (λ (l : List Call). PeekCall None ∷ l) is, beats)

-- the calls of all beats of a player that has not begun
pub beats_open : (elastic made : ℕ) (calls : List Call) → AreBeats elastic 0 false made calls → PeeksThenBeats elastic made calls
beats_open elastic zero calls none = inl none
beats_open elastic (suc n) calls (first, rest, inl peek, is, more) =
    let then = beats_open elastic n rest (subst (λ (l : List Call). AreBeats elastic (held_after 0 l) (opened_after false l) n rest) peek more) in
    subst (PeeksThenBeats elastic (suc n)) (sym (is ∙ ap (λ (l : List Call). l ++ rest) peek)) (idle_first elastic n rest then)
beats_open elastic (suc n) calls (first, rest, inr (base, turn, asks, opening), is, more) =
    let then = subst (λ (l : List Call). AreBeats elastic (held_after 0 l) (opened_after false l) n rest) opening more in
    inr (0, base, n, turn ++ rest, omega arith, is ∙ ap (λ (l : List Call). l ++ rest) opening, (turn, rest, asks, refl, then))

-- What is held was accepted, and so each tick plays what was accepted.
use Rattle.std.proofs.Common.{◌≡◌, ◌⊎◌, inl, inr, ⊎_elim, ℕ, ◌+◌, ◌≤◌, List, [], ◌∷◌, ◌++◌, Option, Some, None, refl, sym, ap, ◌∙◌, subst, arith}
use native.Mathlib.Decide.{ℕ_discrete}
use Rattle.std.specs.FinMap as map
use Rattle.std.specs.FinMap.{gets}
use Rattle.frame_codec.specs.declared.item.Item.{Item}
use Rattle.playout.specs.declared.call.Call.{Call}
use Rattle.playout.specs.declared.call.Call.TheVariants.{FileCall, TickCall, RetireCall}
use Rattle.playout.specs.declared.reply.FileReply.{FileReply}
use Rattle.playout.specs.declared.reply.FileReply.TheVariants.{Accepted, Duplicate, Late, Beyond}
use Rattle.playout.specs.Machine.{Machine, opening_machine, Replies, after, filed, passed, item_of}
use Rattle.playout.specs.History.{Entry, entry, IsLegal, after_all, calls, next_number}
use Rattle.playout.specs.Plays.{WasAccepted, IsAcceptedItem, PositionCountsMoves, TicksPlayAccepted, RetiresTakeAccepted}
use Rattle.playout.specs.FrameLaws.{get-insert_here, get-insert_else, get-remove_here, get-remove_else}
use Rattle.playout.specs.HeldFrames.{none_some, position_is, accepted_there}

-- the position counts the ticks and the retires
pub counts_moves : PositionCountsMoves
counts_moves h = position_is opening_machine h

-- what is there after a call was there before, or was accepted by it
there-filed : (m : Machine) (n : ℕ) (f : List ℕ) (q : ℕ) (g : List ℕ) (reply : FileReply) → map.get (filed m q g reply).frames n ≡ Some f → (map.get m.frames n ≡ Some f) ⊎ (FileCall q g reply ≡ FileCall n f Accepted)
there-filed m n f q g Accepted e = go (ℕ_discrete n q)
  where
    go : Dec (n ≡ q) → (map.get m.frames n ≡ Some f) ⊎ (FileCall q g Accepted ≡ FileCall n f Accepted)
    go (yes is) =
        let same : g ≡ f = some_one g f (sym (get-insert_here m.frames q g) ∙ ap (λ (z : ℕ). map.get (map.insert m.frames q g) z) (sym is) ∙ e) in
        inr (λ i. FileCall (sym is i) (same i) Accepted)
      where
        some_one : (g f : List ℕ) → Path (Option (List ℕ)) (Some g) (Some f) → g ≡ f
        some_one g f e = cc
    go (no other) = inl (sym (get-insert_else m.frames q n g other) ∙ e)
there-filed m n f q g Duplicate e = inl e
there-filed m n f q g (Late x) e = inl e
there-filed m n f q g (Beyond x) e = inl e

there-passed : (m : Machine) (n : ℕ) (f : List ℕ) → map.get (passed m).frames n ≡ Some f → map.get m.frames n ≡ Some f
there-passed m n f e = go (ℕ_discrete n m.position)
  where
    go : Dec (n ≡ m.position) → map.get m.frames n ≡ Some f
    go (yes is) = absurd (none_some (sym (get-remove_here m.frames m.position) ∙ ap (λ (z : ℕ). map.get (map.remove m.frames m.position) z) (sym is) ∙ e))
    go (no other) = sym (get-remove_else m.frames m.position n other) ∙ e

there-after : (m : Machine) (n : ℕ) (f : List ℕ) (c : Call) → map.get (after m c).frames n ≡ Some f → (map.get m.frames n ≡ Some f) ⊎ (c ≡ FileCall n f Accepted)
there-after m n f (FileCall q g reply) e = there-filed m n f q g reply e
there-after m n f (TickCall x) e = inl (there-passed m n f e)
there-after m n f (RetireCall x) e = inl (there-passed m n f e)
there-after m n f _ e = inl e

-- what is there was there at first, or was accepted
pub there_accepted : (m : Machine) (h : List Entry) (n : ℕ) (f : List ℕ) → map.get (after_all m h).frames n ≡ Some f → (map.get m.frames n ≡ Some f) ⊎ WasAccepted n f h
there_accepted m [] n f e = inl e
there_accepted m (x ∷ h) n f e =
    ⊎_elim
    (λ (t : map.get (after m x.call).frames n ≡ Some f). ⊎_elim (λ (old : map.get m.frames n ≡ Some f). inl old) (λ (new : x.call ≡ FileCall n f Accepted). inr (inl new)) (there-after m n f x.call t))
    (λ (t : WasAccepted n f h). inr (inr t))
    (there_accepted (after m x.call) h n f e)

pub nothing_yet : (n : ℕ) → map.get opening_machine.frames n ≡ None
nothing_yet n = grind (arith, gets)

-- the reply in the middle of a legal history, and what comes before it
pub reply_at : (r : ℕ) (m : Machine) (before : List Entry) (e : Entry) (rest : List Entry) → IsLegal r m (before ++ e ∷ rest) → IsLegal r m before × Replies r (after_all m before) e.call
reply_at r m [] e rest legal = (tt, legal.0)
reply_at r m (x ∷ before) e rest legal = let later = reply_at r (after m x.call) before e rest legal.1 in ((legal.0, later.0), later.1)

-- where the machine gives its item next, that is what was accepted under the next number
item_accepted : (r : ℕ) (before : List Entry) (item : Item) → IsLegal r opening_machine before → item ≡ item_of (map.get (after_all opening_machine before).frames (after_all opening_machine before).position)
    → IsAcceptedItem (next_number before) before item
item_accepted r before item legal gives =
    let m : Machine = after_all opening_machine before in
    let n : ℕ = next_number before in
    let here : m.position ≡ n = position_is opening_machine before in
    let reply : item ≡ item_of (map.get m.frames n) = gives ∙ ap (λ (q : ℕ). item_of (map.get m.frames q)) here in
    subst (λ (i : Item). IsAcceptedItem n before i) (sym reply) (go n (omega arith) (map.get m.frames n) refl)
  where
    go : (n : ℕ) → (after_all opening_machine before).position ≤ n → (o : Option (List ℕ)) → map.get (after_all opening_machine before).frames n ≡ o → IsAcceptedItem n before (item_of o)
    go n le None e = λ f was. none_some (sym e ∙ accepted_there r opening_machine before n f legal le was)
    go n le (Some f) e = ⊎_elim (λ (t : map.get opening_machine.frames n ≡ Some f). absurd (none_some (sym (nothing_yet n) ∙ t))) (λ (t : WasAccepted n f before). t) (there_accepted opening_machine before n f e)

pub plays_accepted : TicksPlayAccepted
plays_accepted r who before rest item legal = let at = reply_at r opening_machine before (entry who (TickCall item)) rest legal in item_accepted r before item at.0 at.1

pub takes_accepted : RetiresTakeAccepted
takes_accepted r who before rest item legal = let at = reply_at r opening_machine before (entry who (RetireCall item)) rest legal in item_accepted r before item at.0 at.1

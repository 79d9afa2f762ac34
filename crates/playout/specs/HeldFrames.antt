-- What is accepted is held until its tick or its retire.
use Rattle.std.proofs.Common.{◌≡◌, ⊎_elim, ℕ, ◌+◌, ◌≤◌, List, [], ◌∷◌, Option, Some, None, refl, sym, ap, ◌∙◌, arith, le_trans}
use native.Mathlib.Decide.{ℕ_discrete}
use Rattle.std.specs.FinMap as map
use Rattle.playout.specs.declared.call.Call.{Call}
use Rattle.playout.specs.declared.call.Call.TheVariants.{FileCall, TickCall, RetireCall}
use Rattle.playout.specs.declared.reply.FileReply.{FileReply}
use Rattle.playout.specs.declared.reply.FileReply.TheVariants.{Accepted, Duplicate, Late, Beyond}
use Rattle.playout.specs.Machine.{Machine, Replies, FileReplies, after, filed, passed}
use Rattle.playout.specs.History.{Entry, IsLegal, after_all, calls, moves, move_weight}
use Rattle.playout.specs.Plays.{WasAccepted}
use Rattle.playout.specs.FrameLaws.{get-insert_here, get-insert_else, get-remove_else}

-- nothing is no frame
pub none_some : {f : List ℕ} → Path (Option (List ℕ)) None (Some f) → ⊥
none_some e = cc

file-position : (m : Machine) (n : ℕ) (f : List ℕ) (r : FileReply) → (filed m n f r).position ≡ m.position
file-position m n f Accepted = refl
file-position m n f Duplicate = refl
file-position m n f (Late a) = refl
file-position m n f (Beyond a) = refl

-- a tick or a retire moves the position by one, and no other call does
pub call-position : (m : Machine) (c : Call) → (after m c).position ≡ m.position + move_weight c
call-position m (FileCall n f r) = omega (arith, file-position m n f r)
call-position m _ = omega arith

-- the position counts the ticks and the retires
pub position_is : (m : Machine) (h : List Entry) → (after_all m h).position ≡ m.position + moves (calls h)
position_is m [] = omega arith
position_is m (e ∷ h) = omega (arith, position_is (after m e.call) h, call-position m e.call)

-- the position never falls
pub rises_all : (m : Machine) (h : List Entry) → m.position ≤ (after_all m h).position
rises_all m h = omega (arith, position_is m h)

-- a call leaves a frame that is held, until its tick or its retire
kept-filed : (r : ℕ) (m : Machine) (n : ℕ) (f : List ℕ) (q : ℕ) (g : List ℕ) (reply : FileReply) → FileReplies r m q reply → map.get m.frames n ≡ Some f → map.get (filed m q g reply).frames n ≡ Some f
kept-filed r m n f q g Accepted a e = go (ℕ_discrete n q)
  where
    go : Dec (n ≡ q) → map.get (map.insert m.frames q g) n ≡ Some f
    go (yes is) = absurd (none_some (sym a.2 ∙ (ap (λ (z : ℕ). map.get m.frames z) (sym is) ∙ e)))
    go (no other) = get-insert_else m.frames q n g other ∙ e
kept-filed r m n f q g Duplicate a e = e
kept-filed r m n f q g (Late x) a e = e
kept-filed r m n f q g (Beyond x) a e = e

kept-passed : (m : Machine) (n : ℕ) (f : List ℕ) → m.position + 1 ≤ n → map.get m.frames n ≡ Some f → map.get (passed m).frames n ≡ Some f
kept-passed m n f le e = get-remove_else m.frames m.position n (λ same. omega arith) ∙ e

kept-after : (r : ℕ) (m : Machine) (n : ℕ) (f : List ℕ) (c : Call) → Replies r m c → (after m c).position ≤ n → map.get m.frames n ≡ Some f → map.get (after m c).frames n ≡ Some f
kept-after r m n f (FileCall q g reply) a le e = kept-filed r m n f q g reply a e
kept-after r m n f (TickCall x) a le e = kept-passed m n f le e
kept-after r m n f (RetireCall x) a le e = kept-passed m n f le e
kept-after r m n f _ a le e = e

-- a frame that is held stays so until its tick or its retire
pub still_there : (r : ℕ) (m : Machine) (h : List Entry) (n : ℕ) (f : List ℕ) → IsLegal r m h → (after_all m h).position ≤ n → map.get m.frames n ≡ Some f → map.get (after_all m h).frames n ≡ Some f
still_there r m [] n f l le e = e
still_there r m (x ∷ h) n f l le e = let up = rises_all (after m x.call) h in still_there r (after m x.call) h n f l.1 le (kept-after r m n f x.call l.0 (le_trans up le) e)

-- what was accepted is there until its tick or its retire
pub accepted_there : (r : ℕ) (m : Machine) (h : List Entry) (n : ℕ) (f : List ℕ) → IsLegal r m h → (after_all m h).position ≤ n → WasAccepted n f h → map.get (after_all m h).frames n ≡ Some f
accepted_there r m [] n f l le a = absurd a
accepted_there r m (x ∷ h) n f l le a =
    ⊎_elim
    (λ (e : x.call ≡ FileCall n f Accepted). still_there r (after m x.call) h n f l.1 le (ap (λ (c : Call). map.get (after m c).frames n) e ∙ get-insert_here m.frames n f))
    (λ (b : WasAccepted n f h). accepted_there r (after m x.call) h n f l.1 le b)
    a

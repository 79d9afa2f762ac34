-- A history that is one entry longer.
use Rattle.std.proofs.Common.{◌≡◌, ◌≢◌, inl, inr, ⊎_elim, ℕ, ◌+◌, eqb, eq-eqb, ne_eqb, List, [], ◌∷◌, ◌++◌, refl, ap, ◌∙◌, arith}
use native.Mathlib.Decide.{ℕ_discrete}
use mathlib.Core.Bool.{Bool, cond, true, false}
use Rattle.playout.specs.declared.call.Call.{Call}
use Rattle.playout.specs.declared.call.Call.TheVariants.{FileCall, TickCall, RetireCall}
use Rattle.playout.specs.declared.reply.FileReply.TheVariants.{Accepted}
use Rattle.playout.specs.Machine.{Machine, Replies, after}
use Rattle.playout.specs.History.{Entry, IsLegal, after_all, calls_of, calls, moves, move_weight, MayCall, AllMayCall}
use Rattle.playout.specs.Plays.{WasAccepted, AllAccepted}

-- the machine after one entry more
pub after_all-snoc : (m : Machine) (h : List Entry) (e : Entry) → after_all m (h ++ e ∷ []) ≡ after (after_all m h) e.call
after_all-snoc m [] e = refl
after_all-snoc m (x ∷ h) e = after_all-snoc (after m x.call) h e

-- a legal history goes on by a reply of the machine after it
pub legal-snoc : (r : ℕ) (m : Machine) (h : List Entry) (e : Entry) → IsLegal r m h → Replies r (after_all m h) e.call → IsLegal r m (h ++ e ∷ [])
legal-snoc r m [] e l a = (a, tt)
legal-snoc r m (x ∷ h) e l a = (l.0, legal-snoc r (after m x.call) h e l.1 a)

-- and so does one in which all may make their calls, by a call that its caller may make
pub callers-snoc : (filers : ℕ) (h : List Entry) (e : Entry) → AllMayCall filers h → MayCall filers e.who e.call → AllMayCall filers (h ++ e ∷ [])
callers-snoc filers [] e l a = (a, tt)
callers-snoc filers (x ∷ h) e l a = (l.0, callers-snoc filers h e l.1 a)

calls_of-head : (who : ℕ) (x : Entry) (a b : List Call) → x.who ≡ who → cond (eqb x.who who) a b ≡ a
calls_of-head who x a b e = ap (λ t. cond t a b) (eq-eqb x.who who e)

calls_of-skip : (who : ℕ) (x : Entry) (a b : List Call) → x.who ≢ who → cond (eqb x.who who) a b ≡ b
calls_of-skip who x a b n = ap (λ t. cond t a b) (ne_eqb x.who who n)

-- an entry is the last of its caller's list
pub calls_of-same : (who : ℕ) (h : List Entry) (e : Entry) → e.who ≡ who → calls_of who (h ++ e ∷ []) ≡ calls_of who h ++ e.call ∷ []
calls_of-same who [] e same = calls_of-head who e (e.call ∷ []) [] same
calls_of-same who (x ∷ h) e same = go (eqb x.who who) (calls_of-same who h e same)
  where
    go : (b : Bool) → calls_of who (h ++ e ∷ []) ≡ calls_of who h ++ e.call ∷ [] → cond b (x.call ∷ calls_of who (h ++ e ∷ [])) (calls_of who (h ++ e ∷ [])) ≡ cond b (x.call ∷ calls_of who h) (calls_of who h) ++ e.call ∷ []
    go true ih = ap (λ t. x.call ∷ t) ih
    go false ih = ih

-- and leaves the list of every other
pub calls_of-other : (who : ℕ) (h : List Entry) (e : Entry) → e.who ≢ who → calls_of who (h ++ e ∷ []) ≡ calls_of who h
calls_of-other who [] e other = calls_of-skip who e (e.call ∷ []) [] other
calls_of-other who (x ∷ h) e other = ap (λ t. cond (eqb x.who who) (x.call ∷ t) t) (calls_of-other who h e other)

-- the ticks and retires of one call more
pub moves-snoc : (cs : List Call) (c : Call) → moves (cs ++ c ∷ []) ≡ moves cs + move_weight c
moves-snoc [] c = omega arith
moves-snoc (x ∷ cs) c = let ih = moves-snoc cs c in omega arith

-- the calls of one entry more
pub calls-snoc : (h : List Entry) (e : Entry) → calls (h ++ e ∷ []) ≡ calls h ++ e.call ∷ []
calls-snoc [] e = refl
calls-snoc (x ∷ h) e = ap (λ t. x.call ∷ t) (calls-snoc h e)

-- what was accepted stays so
pub accepted-longer : (n : ℕ) (f : List ℕ) (h : List Entry) (e : Entry) → WasAccepted n f h → WasAccepted n f (h ++ e ∷ [])
accepted-longer n f [] e a = absurd a
accepted-longer n f (x ∷ h) e a = ⊎_elim (λ y. inl y) (λ y. inr (accepted-longer n f h e y)) a

-- what the last entry filed was accepted
pub accepted-last : (n : ℕ) (f : List ℕ) (h : List Entry) (e : Entry) → e.call ≡ FileCall n f Accepted → WasAccepted n f (h ++ e ∷ [])
accepted-last n f [] e a = inl a
accepted-last n f (x ∷ h) e a = inr (accepted-last n f h e a)

-- what was accepted of a list stays so
pub all_accepted-longer : (ps : List (ℕ × List ℕ)) (h : List Entry) (e : Entry) → AllAccepted ps h → AllAccepted ps (h ++ e ∷ [])
all_accepted-longer [] h e a = tt
all_accepted-longer (p ∷ ps) h e a = (accepted-longer p.0 p.1 h e a.0, all_accepted-longer ps h e a.1)

-- who is not the player makes no tick and no retire
weight_by : (filers : ℕ) (x : Entry) → MayCall filers x.who x.call → x.who ≢ filers → move_weight x.call ≡ 0
weight_by filers x m n = go x.call m
  where
    go : (c : Call) → MayCall filers x.who c → move_weight c ≡ 0
    go (TickCall a) m = absurd (n m)
    go (RetireCall a) m = absurd (n m)
    go _ m = refl

-- so all of them are its own
pub player_moves : (filers : ℕ) (h : List Entry) → AllMayCall filers h → moves (calls_of filers h) ≡ moves (calls h)
player_moves filers [] a = refl
player_moves filers (x ∷ h) a = go (ℕ_discrete x.who filers) (player_moves filers h a.1)
  where
    go : Dec (x.who ≡ filers) → moves (calls_of filers h) ≡ moves (calls h) → moves (cond (eqb x.who filers) (x.call ∷ calls_of filers h) (calls_of filers h)) ≡ move_weight x.call + moves (calls h)
    go (yes e) ih = ap moves (calls_of-head filers x _ _ e) ∙ ap (λ t. move_weight x.call + t) ih
    go (no n) ih = ap moves (calls_of-skip filers x _ _ n) ∙ (let w = weight_by filers x a.0 n in omega arith)

-- One reply or call more is counted once more.
use Rattle.std.proofs.Common.{◌≡◌, ℕ, ◌+◌, List, [], ◌∷◌, ◌++◌, Bool, true, false, cond, refl, arith}
use Rattle.std.specs.Prelude.{count_by}
use Rattle.std.proofs.lemmas.List.Sums.{sum_by-append, sum_by-cons}
use Rattle.playout.specs.declared.call.Call.{Call}
use Rattle.playout.specs.declared.reply.FileReply.{FileReply}
use Rattle.playout.specs.declared.reply.FileReply.TheVariants.{Accepted, Duplicate, Late, Beyond}
use Rattle.recorder.specs.declared.tally.Tally.{Tally}
use Rattle.recorder.specs.Tallies.{capped, is_accepted, is_duplicate, is_late, is_beyond, reply_tally, reply_counted, is_tick, is_frame, is_erasure, is_idle, is_held, is_retired, play_tally, call_counted, raised}

-- one element more
count-more : {A : Type 0} (p : A → Bool) (xs : List A) (x : A) → count_by p (xs ++ x ∷ []) ≡ count_by p xs + cond (p x) 1 0
count-more {A} p xs x =
    let f : A → ℕ = λ y. cond (p y) 1 0 in
    omega (arith, sum_by-append f xs (x ∷ []), sum_by-cons f x [])

-- a count that goes on, and one that stays
on : (m n : ℕ) → m ≡ n + 1 → capped m ≡ capped (capped n + 1)
on m n is = omega arith

stays : (m n : ℕ) → m ≡ n + 0 → capped m ≡ capped n
stays m n is = omega arith

-- where an element is one of those that are counted, or not
counted-more : {A : Type 0} (p : A → Bool) (xs : List A) (x : A) → capped (count_by p (xs ++ x ∷ [])) ≡ raised (p x) (capped (count_by p xs))
counted-more {A} p xs x = raised_by _ (count_by p xs) (p x) (count-more p xs x)
  where
    raised_by : (m n : ℕ) (b : Bool) → m ≡ n + cond b 1 0 → capped m ≡ raised b (capped n)
    raised_by m n true is = on m n is
    raised_by m n false is = stays m n is

pub play_tally-more : (calls : List Call) (call : Call) → play_tally (calls ++ call ∷ []) ≡ call_counted (play_tally calls) call
play_tally-more calls call = λ i. record {
  ticks = counted-more is_tick calls call i;
  frames = counted-more is_frame calls call i;
  erasures = counted-more is_erasure calls call i;
  idle = counted-more is_idle calls call i;
  held = counted-more is_held calls call i;
  retired = counted-more is_retired calls call i;
}

same_replies : (t u : Tally) → t.datagrams ≡ u.datagrams → t.accepted ≡ u.accepted → t.duplicate ≡ u.duplicate → t.late ≡ u.late → t.beyond ≡ u.beyond
    → t.refused ≡ u.refused → t.stranger ≡ u.stranger → t.rtcp ≡ u.rtcp → t.empty ≡ u.empty → t ≡ u
same_replies t u a b c d e f g h j = λ i. record { datagrams = a i; accepted = b i; duplicate = c i; late = d i; beyond = e i; refused = f i; stranger = g i; rtcp = h i; empty = j i }

pub reply_tally-more : (replies : List FileReply) (reply : FileReply) → reply_tally (replies ++ reply ∷ []) ≡ reply_counted (reply_tally replies) reply
reply_tally-more replies Accepted =
    same_replies _ _ refl (on _ _ (count-more is_accepted replies Accepted)) (stays _ _ (count-more is_duplicate replies Accepted))
    (stays _ _ (count-more is_late replies Accepted)) (stays _ _ (count-more is_beyond replies Accepted)) refl refl refl refl
reply_tally-more replies Duplicate =
    same_replies _ _ refl (stays _ _ (count-more is_accepted replies Duplicate)) (on _ _ (count-more is_duplicate replies Duplicate))
    (stays _ _ (count-more is_late replies Duplicate)) (stays _ _ (count-more is_beyond replies Duplicate)) refl refl refl refl
reply_tally-more replies (Late ahead) =
    same_replies _ _ refl (stays _ _ (count-more is_accepted replies (Late ahead))) (stays _ _ (count-more is_duplicate replies (Late ahead)))
    (on _ _ (count-more is_late replies (Late ahead))) (stays _ _ (count-more is_beyond replies (Late ahead))) refl refl refl refl
reply_tally-more replies (Beyond ahead) =
    same_replies _ _ refl (stays _ _ (count-more is_accepted replies (Beyond ahead))) (stays _ _ (count-more is_duplicate replies (Beyond ahead)))
    (stays _ _ (count-more is_late replies (Beyond ahead))) (on _ _ (count-more is_beyond replies (Beyond ahead))) refl refl refl refl

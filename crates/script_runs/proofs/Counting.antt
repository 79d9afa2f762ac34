-- One datagram, one reply or some calls more, in what is counted.
use Rattle.std.proofs.Common.{◌≡◌, ℕ, ◌+◌, cond, Bool, List, [], ◌∷◌, ◌++◌, length, count_by, fold, refl, sym, ap, ◌∙◌, append_assoc, append-nil, length-append, arith}
use Rattle.std.proofs.lemmas.List.Sums.{sum_by-append, sum_by-cons}
use Rattle.playout.specs.declared.reply.FileReply.{FileReply}
use Rattle.playout.specs.declared.reply.FileReply.TheVariants.{Accepted, Duplicate, Late, Beyond}
use Rattle.playout.specs.declared.call.Call.{Call}
use Rattle.recorder.specs.declared.tally.PlayTally.{PlayTally}
use Rattle.recorder.specs.declared.tally.Tally.{Tally}
use Rattle.recorder.specs.Tallies.{capped, is_accepted, is_duplicate, is_late, is_beyond, play_tally, reply_counted}
use Rattle.recorder.specs.TallyLaws.{play_tally-more}
use Rattle.filer.specs.declared.outcome.OutcomeEnd.{OutcomeEnd}
use Rattle.filer.specs.declared.outcome.OutcomeEnd.TheVariants as end
use Rattle.filer.specs.Takes.{files_told, tallied}
use Rattle.player.specs.Beats.{all_counted}
use Rattle.script_runs.specs.Calls.{Ended}
use Rattle.script_runs.specs.Counts.{is_empty, is_refused, is_rtcp, is_stranger, run_tally}

count-more : {A : Type 0} (p : A → Bool) (xs : List A) (x : A) → count_by p (xs ++ x ∷ []) ≡ count_by p xs + cond (p x) 1 0
count-more {A} p xs x =
    let f : A → ℕ = λ y. cond (p y) 1 0 in
    omega (arith, sum_by-append f xs (x ∷ []), sum_by-cons f x [])

on : (m n : ℕ) → m ≡ n + 1 → capped m ≡ capped (capped n + 1)
on m n is = omega arith

stays : (m n : ℕ) → m ≡ n + 0 → capped m ≡ capped n
stays m n is = omega arith

same : (t u : Tally) → t.datagrams ≡ u.datagrams → t.accepted ≡ u.accepted → t.duplicate ≡ u.duplicate → t.late ≡ u.late → t.beyond ≡ u.beyond
    → t.refused ≡ u.refused → t.stranger ≡ u.stranger → t.rtcp ≡ u.rtcp → t.empty ≡ u.empty → t ≡ u
same t u a b c d e f g h j = λ i. record { datagrams = a i; accepted = b i; duplicate = c i; late = d i; beyond = e i; refused = f i; stranger = g i; rtcp = h i; empty = j i }

pub reply-more : (ends : List Ended) (replies : List FileReply) (reply : FileReply) → run_tally ends (replies ++ reply ∷ []) ≡ reply_counted (run_tally ends replies) reply
reply-more ends replies Accepted =
    same _ _ refl (on _ _ (count-more is_accepted replies Accepted)) (stays _ _ (count-more is_duplicate replies Accepted))
    (stays _ _ (count-more is_late replies Accepted)) (stays _ _ (count-more is_beyond replies Accepted)) refl refl refl refl
reply-more ends replies Duplicate =
    same _ _ refl (stays _ _ (count-more is_accepted replies Duplicate)) (on _ _ (count-more is_duplicate replies Duplicate))
    (stays _ _ (count-more is_late replies Duplicate)) (stays _ _ (count-more is_beyond replies Duplicate)) refl refl refl refl
reply-more ends replies (Late a) =
    same _ _ refl (stays _ _ (count-more is_accepted replies (Late a))) (stays _ _ (count-more is_duplicate replies (Late a)))
    (on _ _ (count-more is_late replies (Late a))) (stays _ _ (count-more is_beyond replies (Late a))) refl refl refl refl
reply-more ends replies (Beyond a) =
    same _ _ refl (stays _ _ (count-more is_accepted replies (Beyond a))) (stays _ _ (count-more is_duplicate replies (Beyond a)))
    (stays _ _ (count-more is_late replies (Beyond a))) (on _ _ (count-more is_beyond replies (Beyond a))) refl refl refl refl

replies-more : (ends : List Ended) (before replies : List FileReply) → fold reply_counted (run_tally ends before) replies ≡ run_tally ends (before ++ replies)
replies-more ends before [] = ap (run_tally ends) (sym (append-nil before))
replies-more ends before (r ∷ rs) =
    ap (λ (t : Tally). fold reply_counted t rs) (sym (reply-more ends before r)) ∙ replies-more ends (before ++ r ∷ []) rs ∙ ap (run_tally ends) (append_assoc before (r ∷ []) rs)

-- the player's calls, some more
pub calls-more : (before more : List Call) → all_counted (play_tally before) more ≡ play_tally (before ++ more)
calls-more before [] = ap play_tally (sym (append-nil before))
calls-more before (c ∷ cs) =
    ap (λ (t : PlayTally). all_counted t cs) (sym (play_tally-more before c)) ∙ calls-more (before ++ c ∷ []) cs ∙ ap play_tally (append_assoc before (c ∷ []) cs)

-- the counts of ends, one more
module _ (ends : List Ended) (d : Ended) where
  abbrev more : List Ended
  more = ends ++ d ∷ []

  longer : capped (length more) ≡ capped (capped (length ends) + 1)
  longer = on _ _ (omega (arith, length-append ends (d ∷ [])))

  refused-more : count_by (λ (e : Ended). is_refused e.end) more ≡ count_by (λ (e : Ended). is_refused e.end) ends + cond (is_refused d.end) 1 0
  refused-more = count-more (λ (e : Ended). is_refused e.end) ends d

  stranger-more : count_by (λ (e : Ended). is_stranger e.end) more ≡ count_by (λ (e : Ended). is_stranger e.end) ends + cond (is_stranger d.end) 1 0
  stranger-more = count-more (λ (e : Ended). is_stranger e.end) ends d

  rtcp-more : count_by (λ (e : Ended). is_rtcp e.end) more ≡ count_by (λ (e : Ended). is_rtcp e.end) ends + cond (is_rtcp d.end) 1 0
  rtcp-more = count-more (λ (e : Ended). is_rtcp e.end) ends d

  empty-more : count_by (λ (e : Ended). is_empty e.end) more ≡ count_by (λ (e : Ended). is_empty e.end) ends + cond (is_empty d.end) 1 0
  empty-more = count-more (λ (e : Ended). is_empty e.end) ends d

abbrev pub ended : ℕ → OutcomeEnd → Ended
ended who e = record { who = who; end = e }

-- a datagram more, before its replies
pub datagram-more : (ends : List Ended) (replies : List FileReply) (who : ℕ) (e : OutcomeEnd) → tallied (run_tally ends replies) e ≡ run_tally (ends ++ ended who e ∷ []) (replies ++ files_told e)
datagram-more ends replies who end.Rtcp =
    let d = ended who end.Rtcp in
    sym (ap (run_tally (ends ++ d ∷ [])) (append-nil replies)
    ∙ same _ _ (longer ends d) refl refl refl refl (stays _ _ (refused-more ends d)) (stays _ _ (stranger-more ends d)) (on _ _ (rtcp-more ends d)) (stays _ _ (empty-more ends d)))
datagram-more ends replies who (end.RtcpRefused f) =
    let d = ended who (end.RtcpRefused f) in
    sym (ap (run_tally (ends ++ d ∷ [])) (append-nil replies)
    ∙ same _ _ (longer ends d) refl refl refl refl (on _ _ (refused-more ends d)) (stays _ _ (stranger-more ends d)) (stays _ _ (rtcp-more ends d)) (stays _ _ (empty-more ends d)))
datagram-more ends replies who (end.RtpRefused f) =
    let d = ended who (end.RtpRefused f) in
    sym (ap (run_tally (ends ++ d ∷ [])) (append-nil replies)
    ∙ same _ _ (longer ends d) refl refl refl refl (on _ _ (refused-more ends d)) (stays _ _ (stranger-more ends d)) (stays _ _ (rtcp-more ends d)) (stays _ _ (empty-more ends d)))
datagram-more ends replies who end.Empty =
    let d = ended who end.Empty in
    sym (ap (run_tally (ends ++ d ∷ [])) (append-nil replies)
    ∙ same _ _ (longer ends d) refl refl refl refl (stays _ _ (refused-more ends d)) (stays _ _ (stranger-more ends d)) (stays _ _ (rtcp-more ends d)) (on _ _ (empty-more ends d)))
datagram-more ends replies who (end.Stranger ssrc held) =
    let d = ended who (end.Stranger ssrc held) in
    sym (ap (run_tally (ends ++ d ∷ [])) (append-nil replies)
    ∙ same _ _ (longer ends d) refl refl refl refl (stays _ _ (refused-more ends d)) (on _ _ (stranger-more ends d)) (stays _ _ (rtcp-more ends d)) (stays _ _ (empty-more ends d)))
datagram-more ends replies who (end.Filed n rs) =
    let d = ended who (end.Filed n rs) in
    let first : run_tally (ends ++ d ∷ []) replies ≡ record (run_tally ends replies) { datagrams = capped (capped (length ends) + 1) }
    = same _ _ (longer ends d) refl refl refl refl (stays _ _ (refused-more ends d)) (stays _ _ (stranger-more ends d)) (stays _ _ (rtcp-more ends d)) (stays _ _ (empty-more ends d)) in
    ap (λ (t : Tally). fold reply_counted t rs) (sym first) ∙ replies-more (ends ++ d ∷ []) replies rs

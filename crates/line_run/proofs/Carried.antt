-- A filer's run over one side is its run over what is seen of that side.
use Rattle.std.proofs.Common.{◌≡◌, inl, inr, ℕ, List, Option, [], ◌∷◌, ◌++◌, sym, ap, ◌∙◌, subst, append_assoc, append-nil}
use Rattle.playout.specs.declared.call.Call.{Call}
use Rattle.playout.specs.History.{Chained}
use Rattle.slot_ring.specs.Seen.{PassView, Grown}
use Rattle.filer.specs.declared.outcome.Outcome.{Outcome}
use Rattle.filer.specs.declared.run.FilerEnd.{FilerEnd}
use Rattle.filer.specs.declared.run.FilerEnd.TheVariants.{Ended, LinkFault, JournalFault}
use Rattle.gate_io.specs.Links.{LinkLog}
use Rattle.filer.specs.Takes.{Known}
use Rattle.filer.specs.Turns.{CutOff, FilerRan, LinkFailed, RanOut, Standing, Unmarked, Worked, standing}
use Rattle.line_run.specs.Filing.{Grows}

module _ {S T : Type 0} (did : S → Call → S → Type 0) (does : T → Call → T → Type 0) (f : S → T) (carries : (a b : S) (x : Call) → did a x b → does (f a) x (f b)) where
  chained_so : (a b : S) (xs : List Call) → Chained did a xs b → Chained does (f a) xs (f b)
  chained_so a b [] p = ap f p
  chained_so a b (x ∷ xs) p = (f p.0, carries a p.0 x p.1, chained_so p.0 b xs p.2)

  abbrev so : Standing S → Standing T
  so s = standing s.known (f s.side) s.log s.given

  worked_so : (a b : Standing S) (ds : List (List ℕ × ℕ)) (os : List Outcome) (n : ℕ) (sent : List (List ℕ)) → Worked did a b ds os n sent → Worked does (so a) (so b) ds os n sent
  worked_so a b ds os n sent w = record { calls = w.calls; taken = w.taken; chained = chained_so a.side b.side w.calls w.chained; link = w.link }

  pub ran_so : (before now : ℕ) (a b : Standing S) (end : FilerEnd) → FilerRan did before now a b end → FilerRan does before now (so a) (so b) end
  ran_so before now a b Ended r =
      let h : RanOut did a b = r in
      record { datagrams = h.datagrams; outcomes = h.outcomes; idles = h.idles; worked = worked_so a b _ _ _ _ h.worked; journal = h.journal }
  ran_so before now a b LinkFault r =
      let h : LinkFailed did before now a b = r in
      record { datagrams = h.datagrams; outcomes = h.outcomes; idles = h.idles; sent = h.sent; last = h.last; worked = worked_so a b _ _ _ _ h.worked; journal = h.journal }
  ran_so before now a b JournalFault (inl r) =
      let h : CutOff did a b r.0 r.1 r.2 = r.3 in
      inl (r.0, r.1, r.2, record { datagram = h.datagram; outcome = h.outcome; worked = worked_so a b _ _ _ _ h.worked; part = h.part; journal = h.journal })
  ran_so before now a b JournalFault (inr r) =
      let h : Unmarked did a b = r in
      inr (record { datagrams = h.datagrams; outcomes = h.outcomes; idles = h.idles; worked = worked_so a b _ _ _ _ h.worked; part = h.part; journal = h.journal })

  -- a run is a chain of calls
  pub is_chain : (before now : ℕ) (a b : Standing S) (end : FilerEnd) → FilerRan did before now a b end → (calls : List Call) × Chained did a.side calls b.side
  is_chain before now a b Ended r = (r.worked.calls, r.worked.chained)
  is_chain before now a b LinkFault r = (r.worked.calls, r.worked.chained)
  is_chain before now a b JournalFault (inl r) = (r.3.worked.calls, r.3.worked.chained)
  is_chain before now a b JournalFault (inr r) = (r.worked.calls, r.worked.chained)

-- a pass that grew is of the same caller and ring, and has the calls behind those that it had
pub all_grown : (a : PassView) (xs : List Call) (b : PassView) → Chained Grown a xs b → (b.ring ≡ a.ring) × (b.who ≡ a.who) × (b.list ≡ a.list ++ xs)
all_grown a [] b p = (ap (λ (x : PassView). x.ring) (sym p), ap (λ (x : PassView). x.who) (sym p), ap (λ (x : PassView). x.list) (sym p) ∙ sym (append-nil a.list))
all_grown a (x ∷ xs) b p =
    let h = all_grown p.0 xs b p.2 in
    (h.0 ∙ p.1.0, h.1 ∙ p.1.1, h.2 ∙ (ap (λ (l : List Call). l ++ xs) p.1.2 ∙ append_assoc a.list (x ∷ []) xs))

-- a run over the side of a pass that had made no call
pub record RanOver (before now : ℕ) (k k2 : Known) (log log2 : Option LinkLog) (given given2 : Option (List ℕ)) (pass result : PassView) (end : FilerEnd) : Type 0 where
  pub same : (result.ring ≡ pass.ring) × (result.who ≡ pass.who)
  pub ran : FilerRan Grows before now (standing k [] log given) (standing k2 result.list log2 given2) end

pub ran_over : (before now : ℕ) (k k2 : Known) (log log2 : Option LinkLog) (given given2 : Option (List ℕ)) (pass side side2 result : PassView) (end : FilerEnd) → side ≡ pass → result ≡ side2 → pass.list ≡ []
    → FilerRan Grown before now (standing k side log given) (standing k2 side2 log2 given2) end → RanOver before now k k2 log log2 given given2 pass result end
ran_over before now k k2 log log2 given given2 pass side side2 result end first last none r =
    let a = standing k pass log given in let b = standing k2 result log2 given2 in
    let h : FilerRan Grown before now a b end = subst (λ (q : PassView × PassView). FilerRan Grown before now (standing k q.0 log given) (standing k2 q.1 log2 given2) end) (λ i. (first i, sym last i)) r in
    let calls = is_chain Grown Grows (λ (x : PassView). x.list) (λ x y call h. h.2) before now a b end h in
    let same = all_grown pass calls.0 result calls.1 in
    record {
      same = (same.0, same.1);
      ran = subst (λ (l : List Call). FilerRan Grows before now (standing k l log given) (standing k2 result.list log2 given2) end) none
          (ran_so Grown Grows (λ (x : PassView). x.list) (λ x y call h. h.2) before now a b end h);
    }

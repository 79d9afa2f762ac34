-- Turns, one after the other.
use Rattle.std.proofs.Common.{◌≡◌, ℕ, ◌+◌, List, [], ◌∷◌, ◌++◌, Option, Some, None, Result, Ok, Err, inl, inr, refl, sym, ap, subst, ◌∙◌, append_assoc, append-nil, arith}
use Rattle.std.specs.Io.KnownBytes.{Appends}
use Rattle.std.proofs.KnownBytes.{Appends-trans}
use Rattle.gate_io.specs.Links.{LinkLog, GoesTo, Sends, with_sent, with_taken}
use Rattle.playout.specs.declared.call.Call.{Call}
use Rattle.playout.specs.History.{Chained}
use Rattle.filer.specs.declared.outcome.Outcome.{Outcome}
use Rattle.filer.specs.declared.turn.Turn.{Turn}
use Rattle.filer.specs.declared.turn.Turn.TheVariants as turn
use Rattle.filer.specs.Takes.{Known, IsTaken, calls_of}
use Rattle.filer.specs.Runs.{AreTaken}
use Rattle.filer.specs.Journals.{datagram_text, events_of, run_events, run_text, text_of}
use Rattle.filer.specs.Turns.{AreSent, CutOff, Passed, SendsDue, Standing, TookIn, Turned, Unsent, WentOn, Worked, after_datagram, due_by, reports_due}
use Rattle.filer.proofs.Chains.{chained-append}
use Rattle.filer.proofs.Texts.{text-append}

-- ---- datagrams

taken-append : (k : Known) (ds : List (List ℕ × ℕ)) (os : List Outcome) (cs : List Call) (m : Known) (ds2 : List (List ℕ × ℕ)) (os2 : List Outcome) (cs2 : List Call) (k2 : Known)
    → AreTaken k ds os cs m → AreTaken m ds2 os2 cs2 k2 → AreTaken k (ds ++ ds2) (os ++ os2) (cs ++ cs2) k2
taken-append k [] [] cs m ds2 os2 cs2 k2 h t =
    let t2 : AreTaken k ds2 os2 cs2 k2 = subst (λ (q : Known). AreTaken q ds2 os2 cs2 k2) h.1 t in
    subst (λ (xs : List Call). AreTaken k ds2 os2 (xs ++ cs2) k2) (sym h.0) t2
taken-append k [] (o ∷ os) cs m ds2 os2 cs2 k2 h t = absurd h
taken-append k (d ∷ ds) [] cs m ds2 os2 cs2 k2 h t = absurd h
taken-append k (d ∷ ds) (o ∷ os) cs m ds2 os2 cs2 k2 h t =
    (h.0, h.1 ++ cs2, h.2, ap (λ (xs : List Call). xs ++ cs2) h.3 ∙ append_assoc (calls_of k d.0 d.1 o) h.1 cs2, taken-append h.0 ds os h.1 m ds2 os2 cs2 k2 h.4 t)

taken-one : (k : Known) (d : List ℕ × ℕ) (o : Outcome) (k2 : Known) → IsTaken k d.0 d.1 o k2 → AreTaken k (d ∷ []) (o ∷ []) (calls_of k d.0 d.1 o) k2
taken-one k d o k2 t = (k2, [], t, sym (append-nil (calls_of k d.0 d.1 o)), (refl, refl))

due-append : (k : Known) (ds : List (List ℕ × ℕ)) (os : List Outcome) (cs : List Call) (m : Known) (ds2 : List (List ℕ × ℕ)) (os2 : List Outcome)
    → AreTaken k ds os cs m → reports_due k (ds ++ ds2) (os ++ os2) ≡ reports_due k ds os ++ reports_due m ds2 os2
due-append k [] [] cs m ds2 os2 h = ap (λ (q : Known). reports_due q ds2 os2) (sym h.1)
due-append k [] (o ∷ os) cs m ds2 os2 h = absurd h
due-append k (d ∷ ds) [] cs m ds2 os2 h = absurd h
due-append k (d ∷ ds) (o ∷ os) cs m ds2 os2 h =
    let t : IsTaken k d.0 d.1 o h.0 = h.2 in
    let e : h.0 ≡ after_datagram k d o = t.after in
    let more : reports_due h.0 (ds ++ ds2) (os ++ os2) ≡ reports_due h.0 ds os ++ reports_due m ds2 os2 = due-append h.0 ds os h.1 m ds2 os2 h.4 in
    let there : reports_due (after_datagram k d o) (ds ++ ds2) (os ++ os2) ≡ reports_due (after_datagram k d o) ds os ++ reports_due m ds2 os2
    = subst (λ (q : Known). reports_due q (ds ++ ds2) (os ++ os2) ≡ reports_due q ds os ++ reports_due m ds2 os2) e more in
    ap (λ (l : List (List ℕ)). due_by (after_datagram k d o) ++ l) there ∙ sym (append_assoc (due_by (after_datagram k d o)) (reports_due (after_datagram k d o) ds os) (reports_due m ds2 os2))

run-append : (k : Known) (ds : List (List ℕ × ℕ)) (os : List Outcome) (cs : List Call) (m : Known) (ds2 : List (List ℕ × ℕ)) (os2 : List Outcome)
    → AreTaken k ds os cs m → run_text (ds ++ ds2) (os ++ os2) ≡ run_text ds os ++ run_text ds2 os2
run-append k [] [] cs m ds2 os2 h = refl
run-append k [] (o ∷ os) cs m ds2 os2 h = absurd h
run-append k (d ∷ ds) [] cs m ds2 os2 h = absurd h
run-append k (d ∷ ds) (o ∷ os) cs m ds2 os2 h =
    text-append (events_of d.0 o) (run_events (ds ++ ds2) (os ++ os2))
    ∙ ap (λ (l : List ℕ). text_of (events_of d.0 o) ++ l) (run-append h.0 ds os h.1 m ds2 os2 h.4)
    ∙ sym (append_assoc (text_of (events_of d.0 o)) (run_text ds os) (run_text ds2 os2))
    ∙ ap (λ (l : List ℕ). l ++ run_text ds2 os2) (sym (text-append (events_of d.0 o) (run_events ds os)))

run-one : (d : List ℕ × ℕ) (o : Outcome) → run_text (d ∷ []) (o ∷ []) ≡ datagram_text d.0 o
run-one d o = text-append (events_of d.0 o) [] ∙ append-nil (text_of (events_of d.0 o))

due-one : (k : Known) (d : List ℕ × ℕ) (o : Outcome) (k2 : Known) → IsTaken k d.0 d.1 o k2 → due_by k2 ≡ reports_due k (d ∷ []) (o ∷ [])
due-one k d o k2 t = ap due_by t.after ∙ sym (append-nil (due_by (after_datagram k d o)))

-- ---- links

pub passed-after : (a b c : Option LinkLog) (ds ds2 : List (List ℕ × ℕ)) (n n2 : ℕ) (s s2 : List (List ℕ)) → GoesTo a b (Passed ds n s) → GoesTo b c (Passed ds2 n2 s2) → GoesTo a c (Passed (ds ++ ds2) (n + n2) (s ++ s2))
passed-after None b c ds ds2 n n2 s s2 p q = tt
passed-after (Some x) None c ds ds2 n n2 s s2 p q = absurd p
passed-after (Some x) (Some y) None ds ds2 n n2 s s2 p q = absurd q
passed-after (Some x) (Some y) (Some z) ds ds2 n n2 s s2 p q =
    let i : y.idles ≡ x.idles + n = p.idles in
    let j : z.idles ≡ y.idles + n2 = q.idles in
    record {
      taken = q.taken ∙ ap (λ (l : List (List ℕ × ℕ)). l ++ ds2) p.taken ∙ append_assoc x.taken ds ds2;
      idles = omega arith;
      sent = q.sent ∙ ap (λ (l : List (List ℕ)). l ++ s2) p.sent ∙ append_assoc x.sent s s2;
    }

passed-taken : (a b : Option LinkLog) (d : List ℕ) (at : ℕ) → GoesTo a b (λ x y. y ≡ with_taken x d at) → GoesTo a b (Passed ((d, at) ∷ []) 0 [])
passed-taken None b d at p = tt
passed-taken (Some x) None d at p = absurd p
passed-taken (Some x) (Some y) d at p =
    let i : y.idles ≡ x.idles = ap (λ (l : LinkLog). l.idles) p in
    record { taken = ap (λ (l : LinkLog). l.taken) p; idles = omega arith; sent = ap (λ (l : LinkLog). l.sent) p ∙ sym (append-nil x.sent) }

sent-after : (front sent due : List (List ℕ)) → AreSent sent due → AreSent (front ++ sent) (front ++ due)
sent-after front sent due (inl e) = inl (ap (λ (l : List (List ℕ)). front ++ l) e)
sent-after front sent due (inr p) = inr (p.0, ap (λ (l : List (List ℕ)). front ++ l) p.1 ∙ sym (append_assoc front sent (p.0 ∷ [])))

passed-same : (l m : Option LinkLog) → m ≡ l → GoesTo l m (Passed [] 0 [])
passed-same l m e = subst (λ (x : Option LinkLog). GoesTo l x (Passed [] 0 [])) (sym e) (same l)
  where
    same : (l : Option LinkLog) → GoesTo l l (Passed [] 0 [])
    same None = tt
    same (Some x) = record { taken = sym (append-nil x.taken); idles = omega arith; sent = sym (append-nil x.sent) }

passed-sent : (a b : LinkLog) (octets : List ℕ) → b ≡ with_sent a octets → Passed [] 0 (octets ∷ []) a b
passed-sent a b octets h =
    let i : b.idles ≡ a.idles = ap (λ (l : LinkLog). l.idles) h in
    record { taken = ap (λ (l : LinkLog). l.taken) h ∙ sym (append-nil a.taken); idles = omega arith; sent = ap (λ (l : LinkLog). l.sent) h }

-- a report that was offered to the link
pub sends-one : {T E : Type 0} (a b : Option LinkLog) (r : Result T E) (octets : List ℕ) → Sends a b r octets → SendsDue a b r (octets ∷ [])
sends-one None b (Ok x) octets h = tt
sends-one (Some p) None (Ok x) octets h = absurd h
sends-one (Some p) (Some q) (Ok x) octets h = passed-sent p q octets h
sends-one None b (Err e) octets h = (octets ∷ [], inl refl, tt)
sends-one (Some p) None (Err e) octets h = absurd h
sends-one (Some p) (Some q) (Err e) octets (inl h) = ([], inr (octets, refl), passed-same (Some p) (Some q) (ap (λ (l : LinkLog). Some l) h))
sends-one (Some p) (Some q) (Err e) octets (inr h) = (octets ∷ [], inl refl, passed-sent p q octets h)

-- ---- turns

worked-after : {S : Type 0} (did : S → Call → S → Type 0) (a b c : Standing S) (ds ds2 : List (List ℕ × ℕ)) (os os2 : List Outcome) (n n2 : ℕ) (s s2 : List (List ℕ))
    → Worked did a b ds os n s → Worked did b c ds2 os2 n2 s2 → Worked did a c (ds ++ ds2) (os ++ os2) (n + n2) (s ++ s2)
worked-after did a b c ds ds2 os os2 n n2 s s2 p q = record {
  calls = p.calls ++ q.calls;
  taken = taken-append a.known ds os p.calls b.known ds2 os2 q.calls c.known p.taken q.taken;
  chained = chained-append did a.side b.side c.side p.calls q.calls p.chained q.chained;
  link = passed-after a.log b.log c.log ds ds2 n n2 s s2 p.link q.link;
}

pub went-after : {S : Type 0} (did : S → Call → S → Type 0) (a b c : Standing S) (ds ds2 : List (List ℕ × ℕ)) (os os2 : List Outcome) (n n2 : ℕ)
    → WentOn did a b ds os n → WentOn did b c ds2 os2 n2 → WentOn did a c (ds ++ ds2) (os ++ os2) (n + n2)
went-after did a b c ds ds2 os os2 n n2 p q =
    let w : Worked did a b ds os n (reports_due a.known ds os) = p.worked in
    let due = due-append a.known ds os w.calls b.known ds2 os2 w.taken in
    let text = run-append a.known ds os w.calls b.known ds2 os2 w.taken in
    record {
      worked = subst (Worked did a c (ds ++ ds2) (os ++ os2) (n + n2)) (sym due) (worked-after did a b c ds ds2 os os2 n n2 _ _ w q.worked);
      journal = subst (Appends a.given c.given) (sym text) (Appends-trans a.given b.given c.given _ _ p.journal q.journal);
    }

pub unsent-after : {S : Type 0} (did : S → Call → S → Type 0) (a b c : Standing S) (ds ds2 : List (List ℕ × ℕ)) (os os2 : List Outcome) (n n2 : ℕ)
    → WentOn did a b ds os n → Unsent did b c ds2 os2 n2 → Unsent did a c (ds ++ ds2) (os ++ os2) (n + n2)
unsent-after did a b c ds ds2 os os2 n n2 p q =
    let w : Worked did a b ds os n (reports_due a.known ds os) = p.worked in
    let due = due-append a.known ds os w.calls b.known ds2 os2 w.taken in
    let text = run-append a.known ds os w.calls b.known ds2 os2 w.taken in
    record {
      sent = reports_due a.known ds os ++ q.sent;
      last = subst (AreSent (reports_due a.known ds os ++ q.sent)) (sym due) (sent-after (reports_due a.known ds os) q.sent (reports_due b.known ds2 os2) q.last);
      worked = worked-after did a b c ds ds2 os os2 n n2 _ _ w q.worked;
      journal = subst (Appends a.given c.given) (sym text) (Appends-trans a.given b.given c.given _ _ p.journal q.journal);
    }

pub cut-after : {S : Type 0} (did : S → Call → S → Type 0) (a b c : Standing S) (ds : List (List ℕ × ℕ)) (os : List Outcome) (n : ℕ)
    → WentOn did a b ds os n → CutOff did b c [] [] 0 → CutOff did a c ds os (n + 0)
cut-after did a b c ds os n p q =
    record {
      datagram = q.datagram;
      outcome = q.outcome;
      worked = subst (Worked did a c (ds ++ q.datagram ∷ []) (os ++ q.outcome ∷ []) (n + 0)) (append-nil (reports_due a.known ds os))
          (worked-after did a b c ds (q.datagram ∷ []) os (q.outcome ∷ []) n 0 _ _ p.worked q.worked);
      part = q.part;
      journal = Appends-trans a.given b.given c.given _ _ p.journal q.journal;
    }

-- nothing, and then what follows
pub went-none : {S : Type 0} (did : S → Call → S → Type 0) (a : Standing S) → WentOn did a a [] [] 0
went-none did a = record {
  worked = record { calls = []; taken = (refl, refl); chained = refl; link = passed-none a.log };
  journal = none a.given;
}
  where
    passed-none : (l : Option LinkLog) → GoesTo l l (Passed [] 0 [])
    passed-none None = tt
    passed-none (Some x) = record { taken = sym (append-nil x.taken); idles = omega arith; sent = sym (append-nil x.sent) }

    none : (g : Option (List ℕ)) → Appends g g []
    none None = tt
    none (Some x) = sym (append-nil x)

pub unsent-of : {S : Type 0} (did : S → Call → S → Type 0) (a b : Standing S) (ds : List (List ℕ × ℕ)) (os : List Outcome) (n : ℕ) → WentOn did a b ds os n → Unsent did a b ds os n
unsent-of did a b ds os n p = record { sent = reports_due a.known ds os; last = inl refl; worked = p.worked; journal = p.journal }

-- a datagram came, and was taken in
took : {S : Type 0} (did : S → Call → S → Type 0) (a c : Standing S) (log : Option LinkLog) (d : List ℕ) (at : ℕ) (o : Outcome) (sent : List (List ℕ))
    → GoesTo a.log log (λ x y. y ≡ with_taken x d at) → IsTaken a.known d at o c.known → Chained did a.side (calls_of a.known d at o) c.side → GoesTo log c.log (Passed [] 0 sent)
    → Worked did a c ((d, at) ∷ []) (o ∷ []) 0 sent
took did a c log d at o sent came taken chained link = record {
  calls = calls_of a.known d at o;
  taken = taken-one a.known (d, at) o c.known taken;
  chained = chained;
  link = passed-after a.log log c.log ((d, at) ∷ []) [] 0 0 [] sent (passed-taken a.log log d at came) link;
}

pub turned-by : {S : Type 0} (did : S → Call → S → Type 0) (a c : Standing S) (log : Option LinkLog) (d : List ℕ) (at : ℕ) (r : Turn)
    → GoesTo a.log log (λ x y. y ≡ with_taken x d at) → TookIn did (record a { log = log }) c d at r → Turned did a c r
turned-by did a c log d at turn.Went came h = (
  (d, at),
  h.0,
  record {
    worked = subst (Worked did a c ((d, at) ∷ []) (h.0 ∷ []) 0) (due-one a.known (d, at) h.0 c.known h.1) (took did a c log d at h.0 (due_by c.known) came h.1 h.2 h.3);
    journal = subst (Appends a.given c.given) (sym (run-one (d, at) h.0)) h.4;
  },
)
turned-by did a c log d at turn.Idle came h = absurd h
turned-by did a c log d at turn.Ended came h = absurd h
turned-by did a c log d at turn.LinkFault came h =
    inr (
      (d, at),
      h.0,
      record {
        sent = h.3.0;
        last = subst (AreSent h.3.0) (due-one a.known (d, at) h.0 c.known h.1) h.3.1;
        worked = took did a c log d at h.0 h.3.0 came h.1 h.2 h.3.2;
        journal = subst (Appends a.given c.given) (sym (run-one (d, at) h.0)) h.4;
      },
    )
turned-by did a c log d at turn.JournalFault came h =
    record {
      datagram = (d, at);
      outcome = h.0;
      worked = took did a c log d at h.0 [] came h.1 h.2 (passed-same log c.log h.3);
      part = h.4.0;
      journal = h.4.1;
    }

-- No reply of the machine is free.
use Rattle.std.proofs.Common.{◌≡◌, ◌↔◌, IsTrue, Bool, ℕ, true, true≢false, ◌+◌, List, [], ◌∷◌, Option, None, is_some, refl, sym, ap, ◌∙◌, subst, arith}
use Rattle.std.specs.FinMap as map
use Rattle.playout.specs.declared.call.Call.{Call}
use Rattle.playout.specs.declared.call.Call.TheVariants.{FileCall, SourceCall, BaseCall, PeekCall, TickCall, LookCall, HoldCall, RetireCall}
use Rattle.playout.specs.declared.reply.FileReply.{FileReply}
use Rattle.playout.specs.declared.reply.FileReply.TheVariants.{Accepted, Duplicate, Late, Beyond}
use Rattle.playout.specs.Machine.{Machine, opening_machine, Replies, FileReplies, after}
use Rattle.playout.specs.History.{Entry, entry, IsLegal}
use Rattle.playout.specs.Plays.{asked, all_asked, RepliesAreOne}
use Rattle.playout.proofs.AheadLaws.{one_ahead}

-- nothing is both there and not there
pub both : (o : Option (List ℕ)) → o ≡ None → is_some o ≡ true → ⊥
both o none some = true≢false (sym some ∙ ap is_some none)

pub one_file_reply : (r : ℕ) (m : Machine) (n : ℕ) (a b : FileReply) → FileReplies r m n a → FileReplies r m n b → a ≡ b
one_file_reply r m n Accepted Accepted p q = refl
one_file_reply r m n Accepted Duplicate p q = absurd (both (map.get m.frames n) p.2 q.2)
one_file_reply r m n Accepted (Late x) p q = absurd (omega (arith, p.0, q.0))
one_file_reply r m n Accepted (Beyond x) p q = absurd (omega (arith, p.1, q.0))
one_file_reply r m n Duplicate Accepted p q = absurd (both (map.get m.frames n) q.2 p.2)
one_file_reply r m n Duplicate Duplicate p q = refl
one_file_reply r m n Duplicate (Late x) p q = absurd (omega (arith, p.0, q.0))
one_file_reply r m n Duplicate (Beyond x) p q = absurd (omega (arith, p.1, q.0))
one_file_reply r m n (Late x) Accepted p q = absurd (omega (arith, p.0, q.0))
one_file_reply r m n (Late x) Duplicate p q = absurd (omega (arith, p.0, q.0))
one_file_reply r m n (Late x) (Late y) p q = ap Late (one_ahead r m.position n x y p.1 q.1)
one_file_reply r m n (Late x) (Beyond y) p q = absurd (omega (arith, p.0, q.0))
one_file_reply r m n (Beyond x) Accepted p q = absurd (omega (arith, p.0, q.1))
one_file_reply r m n (Beyond x) Duplicate p q = absurd (omega (arith, p.0, q.1))
one_file_reply r m n (Beyond x) (Late y) p q = absurd (omega (arith, p.0, q.0))
one_file_reply r m n (Beyond x) (Beyond y) p q = ap Beyond (one_ahead r m.position n x y p.1 q.1)

one_call : (r : ℕ) (m : Machine) (a b : Call) → asked a ≡ asked b → Replies r m a → Replies r m b → a ≡ b
one_call r m (FileCall n f reply) (FileCall k g other) same p q =
    let number : n ≡ k = cc in
    let frame : f ≡ g = cc in
    let is : FileReplies r m n other = subst (λ (z : ℕ). FileReplies r m z other) (sym number) q in
    let one : reply ≡ other = one_file_reply r m n reply other p is in
    λ i. FileCall (number i) (frame i) (one i)
one_call r m (SourceCall x held) (SourceCall y other) same p q =
    let said : x ≡ y = cc in
    let one : held ≡ other = cc in
    λ i. SourceCall (said i) (one i)
one_call r m (BaseCall x held) (BaseCall y other) same p q =
    let said : x ≡ y = cc in
    let one : held ≡ other = cc in
    λ i. BaseCall (said i) (one i)
one_call r m (PeekCall held) (PeekCall other) same p q = ap PeekCall (p ∙ sym q)
one_call r m (TickCall item) (TickCall other) same p q = ap TickCall (p ∙ sym q)
one_call r m (LookCall ahead filled) (LookCall far other) same p q =
    let place : ahead ≡ far = cc in
    let is : other ≡ is_some (map.get m.frames (m.position + ahead)) = subst (λ (z : ℕ). other ≡ is_some (map.get m.frames (m.position + z))) (sym place) q.1 in
    let one : filled ≡ other = p.1 ∙ sym is in
    λ i. LookCall (place i) (one i)
one_call r m (HoldCall held) (HoldCall other) same p q = ap HoldCall (p ∙ sym q)
one_call r m (RetireCall item) (RetireCall other) same p q = ap RetireCall (p ∙ sym q)
one_call r m a b same p q = absurd (cc)

-- the head and the rest of two lists that are one
heads : (a b : Entry) (xs bs : List Entry) → Path (List Entry) (a ∷ xs) (b ∷ bs) → (a ≡ b) × (xs ≡ bs)
heads a b xs bs e = (cc, cc)

one_history : (r : ℕ) (m : Machine) (one two : List Entry) → all_asked one ≡ all_asked two → IsLegal r m one → IsLegal r m two → one ≡ two
one_history r m [] [] same p q = refl
one_history r m [] (y ∷ two) same p q = absurd (cc)
one_history r m (x ∷ one) [] same p q = absurd (cc)
one_history r m (x ∷ one) (y ∷ two) same p q =
    let parts = heads (entry x.who (asked x.call)) (entry y.who (asked y.call)) (all_asked one) (all_asked two) same in
    let who : x.who ≡ y.who = ap (λ (e : Entry). e.who) parts.0 in
    let call : x.call ≡ y.call = one_call r m x.call y.call (ap (λ (e : Entry). e.call) parts.0) p.0 q.0 in
    let head : x ≡ y = λ i. record { who = who i; call = call i } in
    let rest : one ≡ two = one_history r (after m x.call) one two parts.1 p.1 (subst (λ (c : Call). IsLegal r (after m c) two) (sym call) q.1) in
    λ i. head i ∷ rest i

pub replies_are_one : RepliesAreOne
replies_are_one r one two same p q = one_history r opening_machine one two same p q

-- a reply that is compared with the machine's
pub can_file : (r : ℕ) (m : Machine) (call : Call) (n : ℕ) (f : List ℕ) (reply found : FileReply) (b : Bool) → call ≡ FileCall n f reply → FileReplies r m n found → (IsTrue b ↔ (reply ≡ found)) → (IsTrue b ↔ Replies r m call)
can_file r m call n f reply found b is replies same =
    (λ equal. subst (Replies r m) (sym is) (subst (FileReplies r m n) (sym (same.0 equal)) replies), λ h. same.1 (one_file_reply r m n reply found (subst (Replies r m) is h) replies))

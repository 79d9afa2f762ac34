-- Each filing's reply comes for its cause, what is held was said first, and a look and a hold tell what was accepted.
use Rattle.std.proofs.Common.{◌≡◌, inl, inr, ⊎_elim, ℕ, ◌+◌, ◌-◌, ◌%◌, ◌≤◌, ◌<◌, Bool, List, [], ◌∷◌, Option, Some, None, is_some, is_none, MatchBool, true, true≢false, refl, sym, ap, ◌∙◌, subst, arith}
use Rattle.std.proofs.lemmas.Bool.{cases_lt}
use Rattle.std.specs.FinMap as map
use Rattle.playout.specs.declared.reply.FileReply.{FileReply}
use Rattle.playout.specs.declared.reply.FileReply.TheVariants.{Accepted, Duplicate, Late, Beyond}
use Rattle.playout.specs.declared.call.Call.{Call}
use Rattle.playout.specs.declared.call.Call.TheVariants.{FileCall, SourceCall, BaseCall, PeekCall, LookCall, HoldCall}
use Rattle.playout.specs.Machine.{Machine, opening_machine, Replies, FileReplies, IsAhead, after, filed, held_or}
use Rattle.playout.specs.History.{Entry, entry, IsLegal, after_all, next_number}
use Rattle.playout.specs.HistoryLaws.{IsLegal-append}
use Rattle.playout.specs.Plays.{WasAccepted}
use Rattle.playout.specs.Causes.{SomeAccepted, NoneAccepted, IsLeastAhead, IsCause, RepliesHaveCauses, CausesGiveReplies, JustOneCause, source_said, base_said, or_later, first_source, first_base, FirstIsHeld, LooksTellAccepted}
use Rattle.playout.specs.HeldFrames.{none_some, position_is, accepted_there}
use Rattle.playout.proofs.AcceptedLaws.{there_accepted, nothing_yet, reply_at}
use Rattle.playout.proofs.OneReply.{one_file_reply}
use Rattle.playout.proofs.AheadLaws.{least, formula_is_ahead}

least_of : (r p n ahead : ℕ) → IsAhead r p n ahead → IsLeastAhead r p n ahead
least_of r p n ahead is = record { reached = is.reached; congruent = is.congruent; least = λ other low same. least r p n ahead other is low same }

ahead_of : (r p n ahead : ℕ) → 1 ≤ r → IsLeastAhead r p n ahead → IsAhead r p n ahead
ahead_of r p n ahead some is =
    let near = formula_is_ahead r p n some in
    let low : ahead ≤ p + (n % r + r - p % r) % r = is.least (p + (n % r + r - p % r) % r) near.reached near.congruent in
    let high : p + (n % r + r - p % r) % r < p + r = near.near in
    record { reached = is.reached; near = omega (arith, low, high); congruent = is.congruent }

some_of : (o : Option (List ℕ)) → is_some o ≡ true → (f : List ℕ) × (o ≡ Some f)
some_of None e = absurd (true≢false (sym e))
some_of (Some f) e = (f, refl)

module _ (r : ℕ) (before : List Entry) (legal : IsLegal r opening_machine before) where
  abbrev m : Machine
  m = after_all opening_machine before

  was_filed : (n : ℕ) (f : List ℕ) → map.get m.frames n ≡ Some f → WasAccepted n f before
  was_filed n f e = ⊎_elim (λ (t : map.get opening_machine.frames n ≡ Some f). absurd (none_some (sym (nothing_yet n) ∙ t))) (λ (t : WasAccepted n f before). t) (there_accepted opening_machine before n f e)

  cause_of : (n : ℕ) (reply : FileReply) → FileReplies r m n reply → IsCause r m.position before n reply
  cause_of n Accepted a = (a.0, a.1, λ f was. none_some (sym a.2 ∙ accepted_there r opening_machine before n f legal a.0 was))
  cause_of n Duplicate a = let there = some_of (map.get m.frames n) a.2 in (a.0, a.1, (there.0, was_filed n there.0 there.1))
  cause_of n (Late ahead) a = (a.0, least_of r m.position n ahead a.1)
  cause_of n (Beyond ahead) a = (a.0, least_of r m.position n ahead a.1)

  free : (n : ℕ) → NoneAccepted n before → (o : Option (List ℕ)) → map.get m.frames n ≡ o → o ≡ None
  free n none None e = refl
  free n none (Some f) e = absurd (none f (was_filed n f e))

  reply_of : (n : ℕ) (reply : FileReply) → 1 ≤ r → IsCause r m.position before n reply → FileReplies r m n reply
  reply_of n Accepted some c = (c.0, c.1, free n c.2 (map.get m.frames n) refl)
  reply_of n Duplicate some c = (c.0, c.1, ap is_some (accepted_there r opening_machine before n c.2.0 legal c.0 c.2.1))
  reply_of n (Late ahead) some c = (c.0, ahead_of r m.position n ahead some c.1)
  reply_of n (Beyond ahead) some c = (c.0, ahead_of r m.position n ahead some c.1)

  some_reply : (n : ℕ) → 1 ≤ r → (reply : FileReply) × FileReplies r m n reply
  some_reply n some = elim (cases_lt n m.position) [
    | inl past ↦ (Late _, (past, formula_is_ahead r m.position n some))
    | inr come ↦ elim (cases_lt n (m.position + r)) [
      | inl near ↦ within come near (map.get m.frames n) refl
      | inr far ↦ (Beyond _, (far, formula_is_ahead r m.position n some))
    ]
  ]
    where
      within : m.position ≤ n → n < m.position + r → (o : Option (List ℕ)) → map.get m.frames n ≡ o → (reply : FileReply) × FileReplies r m n reply
      within come near None e = (Accepted, (come, near, e))
      within come near (Some f) e = (Duplicate, (come, near, ap is_some e))

  -- whether something waits under a number to come is whether it was accepted
  tells : (n : ℕ) → m.position ≤ n → (o : Option (List ℕ)) → map.get m.frames n ≡ o → MatchBool (is_some o) (SomeAccepted n before) (NoneAccepted n before) × MatchBool (is_none o) (NoneAccepted n before) (SomeAccepted n before)
  tells n le None e = let none : NoneAccepted n before = λ f was. none_some (sym e ∙ accepted_there r opening_machine before n f legal le was) in (none, none)
  tells n le (Some f) e = let some : SomeAccepted n before = (f, was_filed n f e) in (some, some)

  next : m.position ≡ next_number before
  next = position_is opening_machine before

pub have_causes : RepliesHaveCauses
have_causes r who n f reply before rest legal =
    let at = reply_at r opening_machine before (entry who (FileCall n f reply)) rest legal in
    subst (λ (p : ℕ). IsCause r p before n reply) (next r before at.0) (cause_of r before at.0 n reply at.1)

pub give_replies : CausesGiveReplies
give_replies r who n f reply before some legal cause =
    IsLegal-append r opening_machine before (entry who (FileCall n f reply) ∷ []) legal
    (reply_of r before legal n reply some (subst (λ (p : ℕ). IsCause r p before n reply) (sym (next r before legal)) cause), tt)

pub just_one : JustOneCause
just_one r n before some legal =
    let is = some_reply r before legal n some in
    let p : (after_all opening_machine before).position ≡ next_number before = next r before legal in (
      is.0,
      subst (λ (q : ℕ). IsCause r q before n is.0) p (cause_of r before legal n is.0 is.1),
      λ other cause. one_file_reply r (after_all opening_machine before) n other is.0 (reply_of r before legal n other some (subst (λ (q : ℕ). IsCause r q before n other) (sym p) cause)) is.1,
    )

or_none : (o : Option ℕ) → or_later o None ≡ o
or_none None = refl
or_none (Some x) = refl

or_held : (o : Option ℕ) (x held : ℕ) → held ≡ held_or o x → Path (Option ℕ) (Some held) (or_later o (Some x))
or_held None x held e = ap Some e
or_held (Some y) x held e = ap Some e

or_both : (a b c : Option ℕ) → or_later (or_later a b) c ≡ or_later a (or_later b c)
or_both None b c = refl
or_both (Some x) b c = refl

file_keeps : (m : Machine) (n : ℕ) (f : List ℕ) (reply : FileReply) → ((filed m n f reply).source ≡ m.source) × ((filed m n f reply).base ≡ m.base)
file_keeps m n f Accepted = (refl, refl)
file_keeps m n f Duplicate = (refl, refl)
file_keeps m n f (Late a) = (refl, refl)
file_keeps m n f (Beyond a) = (refl, refl)

source_after : (r : ℕ) (m : Machine) (c : Call) → Replies r m c → (after m c).source ≡ or_later m.source (source_said c)
source_after r m (FileCall n f reply) a = (file_keeps m n f reply).0 ∙ sym (or_none m.source)
source_after r m (SourceCall x held) a = or_held m.source x held a
source_after r m _ a = sym (or_none m.source)

base_after : (r : ℕ) (m : Machine) (c : Call) → Replies r m c → (after m c).base ≡ or_later m.base (base_said c)
base_after r m (FileCall n f reply) a = (file_keeps m n f reply).1 ∙ sym (or_none m.base)
base_after r m (BaseCall x held) a = or_held m.base x held a
base_after r m _ a = sym (or_none m.base)

source_is : (r : ℕ) (m : Machine) (h : List Entry) → IsLegal r m h → (after_all m h).source ≡ or_later m.source (first_source h)
source_is r m [] legal = sym (or_none m.source)
source_is r m (e ∷ h) legal = source_is r (after m e.call) h legal.1 ∙ ap (λ (o : Option ℕ). or_later o (first_source h)) (source_after r m e.call legal.0) ∙ or_both m.source (source_said e.call) (first_source h)

base_is : (r : ℕ) (m : Machine) (h : List Entry) → IsLegal r m h → (after_all m h).base ≡ or_later m.base (first_base h)
base_is r m [] legal = sym (or_none m.base)
base_is r m (e ∷ h) legal = base_is r (after m e.call) h legal.1 ∙ ap (λ (o : Option ℕ). or_later o (first_base h)) (base_after r m e.call legal.0) ∙ or_both m.base (base_said e.call) (first_base h)

pub first_held : FirstIsHeld
first_held r who before rest =
    record {
      source = λ x held legal. let at = reply_at r opening_machine before (entry who (SourceCall x held)) rest legal in at.1 ∙ ap (λ (o : Option ℕ). held_or o x) (source_is r opening_machine before at.0);
      base = λ x held legal. let at = reply_at r opening_machine before (entry who (BaseCall x held)) rest legal in at.1 ∙ ap (λ (o : Option ℕ). held_or o x) (base_is r opening_machine before at.0);
      peek = λ held legal. let at = reply_at r opening_machine before (entry who (PeekCall held)) rest legal in at.1 ∙ base_is r opening_machine before at.0;
    }

pub looks_tell : LooksTellAccepted
looks_tell r who before rest =
    record {
      look = λ ahead filled legal.
          let at = reply_at r opening_machine before (entry who (LookCall ahead filled)) rest legal in
          let m : Machine = after_all opening_machine before in
          let there : m.position ≡ next_number before = next r before at.0 in
          let n : ℕ = next_number before + ahead in
          let is : filled ≡ is_some (map.get m.frames n) = at.1.1 ∙ ap (λ (p : ℕ). is_some (map.get m.frames (p + ahead))) there in
          (at.1.0, subst (λ (b : Bool). MatchBool b (SomeAccepted n before) (NoneAccepted n before)) (sym is) (tells r before at.0 n (omega (arith, there)) (map.get m.frames n) refl).0);
      hold = λ held legal.
          let at = reply_at r opening_machine before (entry who (HoldCall held)) rest legal in
          let m : Machine = after_all opening_machine before in
          let n : ℕ = next_number before in
          let there : m.position ≡ n = next r before at.0 in
          let is : held ≡ is_none (map.get m.frames n) = at.1 ∙ ap (λ (p : ℕ). is_none (map.get m.frames p)) there in
          subst (λ (b : Bool). MatchBool b (NoneAccepted n before) (SomeAccepted n before)) (sym is) (tells r before at.0 n (omega (arith, there)) (map.get m.frames n) refl).1;
    }

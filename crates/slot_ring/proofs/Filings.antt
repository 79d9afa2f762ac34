-- A filer's seat over the steps of one file call.
use Rattle.std.proofs.Common.{◌≡◌, inl, inr, ℕ, ◌+◌, ◌%◌, ◌^◌, ◌<◌, ◌≤◌, eqb, cond, List, [], ◌∷◌, ◌++◌, Some, None, Bool, true, false, refl, sym, ap, ◌∙◌, subst, arith}
use Rattle.std.specs.Prelude.{nat_lt}
use Rattle.std.proofs.lemmas.Bool.Decides.{nat_tests}
use Rattle.playout.specs.declared.call.Call.TheVariants.{FileCall}
use Rattle.playout.specs.declared.reply.FileReply.{FileReply}
use Rattle.playout.specs.declared.reply.FileReply.TheVariants.{Accepted, Duplicate, Late, Beyond}
use Rattle.ring_core.specs.declared.words.SlotWord.{SlotWord}
use Rattle.ring_core.specs.declared.views.Shape.{Shape}
use Rattle.ring_core.specs.declared.views.Flight.{Flight}
use Rattle.ring_core.specs.declared.views.Calling.{Calling}
use Rattle.ring_core.specs.declared.views.View.{View}
use Rattle.playout.specs.Machine.{start}
use Rattle.playout.specs.History.{ReplyFits}
use Rattle.ring_core.specs.Ring.{Has}
use Rattle.ring_core.specs.Steps.{caller_view, position_of, free_word, full_word, in_flight, replied, late, loaded, loaded_by, published}
use Rattle.step_table.specs.Packed.{Kept, SeatState, pack_slot, Fits}
use Rattle.step_table.specs.Kinds.{load, publish, told, WordTells, AfterLoad, AfterPublish, MayExchange}
use Rattle.slot_ring.specs.Seen.{known_after, IsLate, IsSettled, IsOfSlot, IsReplyOf}
use Rattle.slot_ring.specs.Kept.{IsFilers, reply_after}
use Rattle.slot_ring.proofs.Grows.{Filed, filed}

late_is : (c : Calling) (w : SlotWord) (n : ℕ) (f : List ℕ) → n < w.number → loaded c w n f ≡ late c n f w.number
late_is c w n f low = let a : eqb w.number n ≡ false = grind (arith, nat_tests) in let b : nat_lt n w.number ≡ true = grind (arith, nat_tests) in λ i. loaded_by (a i) w.filled (b i) c w n f

beyond_is : (c : Calling) (w : SlotWord) (n : ℕ) (f : List ℕ) → w.number < n → loaded c w n f ≡ replied c n f (Beyond w.number)
beyond_is c w n f low = let a : eqb w.number n ≡ false = grind (arith, nat_tests) in let b : nat_lt n w.number ≡ false = grind (arith, nat_tests) in λ i. loaded_by (a i) w.filled (b i) c w n f

full_is : (c : Calling) (w : SlotWord) (n : ℕ) (f : List ℕ) → w.number ≡ n → w.filled ≡ true → loaded c w n f ≡ replied c n f Duplicate
full_is c w n f e b = let a : eqb w.number n ≡ true = grind (arith, nat_tests) in λ i. loaded_by (a i) (b i) (nat_lt n w.number) c w n f

free_is : (c : Calling) (w : SlotWord) (n : ℕ) (f : List ℕ) → w.number ≡ n → w.filled ≡ false → loaded c w n f ≡ in_flight c n w.cell f
free_is c w n f e b = let a : eqb w.number n ≡ true = grind (arith, nat_tests) in λ i. loaded_by (a i) (b i) (nat_lt n w.number) c w n f

module _ (me now : SeatState) (who spare number seen : ℕ) (frame : List ℕ) (is : IsFilers me who spare) (tells : told (load number frame) me seen now) where
  abbrev c : Calling
  c = is.0

  abbrev t : AfterLoad me.0.shape c number frame me.1 seen now
  t = tells c (ap (λ (m : SeatState). m.0.role) is.2)

  abbrev w : SlotWord
  w = t.0

  abbrev knows : WordTells me.0.shape c number w
  knows = t.4

  of_slot : IsOfSlot me.0.shape c.known number w
  of_slot = record { fits = t.2; congruent = knows.congruent; first = knows.first; last = knows.last; reached = knows.reached }

  -- a reply at once
  answers : (d : Calling) (reply : FileReply) → loaded c w number frame ≡ d → d.spare ≡ c.spare → d.flight ≡ None → d.who ≡ c.who → d.list ≡ c.list ++ FileCall number frame reply ∷ [] → d.known ≡ known_after c.known (position_of c) (FileCall number frame reply)
      → ReplyFits number reply → IsReplyOf w number reply → (number < c.known.position → IsLate reply) → ((g : List ℕ) → Has c.known.pairs number g → IsSettled reply) → Filed me now number frame reply who spare
  answers d reply same cell ground mine list known fits says late_known settled =
      let held : me.1 ≡ (spare, is.1) ∷ [] = ap (λ (m : SeatState). m.1) is.2 in
      filed me now number frame reply who spare c d is.1 (ap (λ (m : SeatState). m.0) is.2) (t.3 ∙ (λ i. (caller_view me.0.shape (same i), held i))) (cell ∙ is.3) ground is.5 mine is.6 is.7 list known fits w of_slot says late_known settled

  pub looked_late : (ahead : ℕ) → ((w : SlotWord) → seen ≡ pack_slot w → Fits w → ahead ≡ w.number) → number < ahead → Filed me now number frame (Late ahead) who spare
  looked_late ahead reads above =
      let n : ahead ≡ w.number = reads w t.1 t.2 in
      let a : ℕ = w.number in let b : number < a = omega arith in let small : a < 281474976710656 = t.2.0 in
      subst (λ (x : ℕ). Filed me now number frame (Late x) who spare) (sym n) (answers (late c number frame a) (Late a) (late_is c w number frame b) refl refl refl refl refl (b, omega arith) (b, refl) (λ low. tt) (λ g has. tt))

  pub looked_beyond : (ahead : ℕ) → ((w : SlotWord) → seen ≡ pack_slot w → Fits w → ahead ≡ w.number) → ahead < number → Filed me now number frame (Beyond ahead) who spare
  looked_beyond ahead reads below =
      let n : ahead ≡ w.number = reads w t.1 t.2 in
      let a : ℕ = w.number in let b : a < number = omega arith in let q : ℕ = c.known.position in let reached : q ≤ a = knows.reached in
      subst (λ (x : ℕ). Filed me now number frame (Beyond x) who spare) (sym n)
      (answers (replied c number frame (Beyond a)) (Beyond a) (beyond_is c w number frame b) refl refl refl refl refl b (b, refl) (λ low. absurd (omega arith)) (λ g has. let ahead_of : number ≤ a = (knows.accepted g has).0 in absurd (omega arith)))

  pub looked_full : (ahead : ℕ) (full : Bool) → ((w : SlotWord) → seen ≡ pack_slot w → Fits w → ahead ≡ w.number) → ((w : SlotWord) → seen ≡ pack_slot w → Fits w → full ≡ w.filled) → ahead ≤ number → number ≤ ahead → full ≡ true → Filed me now number frame Duplicate who spare
  looked_full ahead full reads fills le ge yes_full =
      let n : ahead ≡ w.number = reads w t.1 t.2 in let b : w.filled ≡ true = sym (fills w t.1 t.2) ∙ yes_full in
      let a : ℕ = w.number in let same : a ≡ number = omega arith in let q : ℕ = c.known.position in let reached : q ≤ a = knows.reached in
      answers (replied c number frame Duplicate) Duplicate (full_is c w number frame same b) refl refl refl refl refl tt (same, b) (λ low. absurd (omega arith)) (λ g has. tt)

-- a filer's seat between its load and its publish: it was the caller c, and is in flight. It knew no later position, and not that the number was accepted
pub record Flying (before : View) (now : SeatState) (who spare number cell : ℕ) (frame : List ℕ) : Type 0 where
  pub calling : Calling
  pub kept : Kept
  pub was : before ≡ caller_view before.shape calling
  pub is : now ≡ (caller_view before.shape (in_flight calling number cell frame), (spare, kept) ∷ [])
  pub spare_is : calling.spare ≡ spare
  pub mine : calling.who ≡ who
  pub low : who < before.shape.filers
  pub small : spare < 32768
  pub word : Fits (free_word number cell)
  pub first : start ≤ number
  pub last : number < 2 ^ 33 + 1024
  pub reached : calling.known.position ≤ number
  pub unknown : (g : List ℕ) → Has calling.known.pairs number g → ⊥

true_false : Path Bool true false → ⊥
true_false e = cc

pub flies : (me now : SeatState) (who spare number seen cell ahead : ℕ) (full : Bool) (frame : List ℕ) → IsFilers me who spare → told (load number frame) me seen now
    → ((w : SlotWord) → seen ≡ pack_slot w → Fits w → ahead ≡ w.number) → ((w : SlotWord) → seen ≡ pack_slot w → Fits w → cell ≡ w.cell) → ((w : SlotWord) → seen ≡ pack_slot w → Fits w → full ≡ w.filled)
    → ahead ≤ number → number ≤ ahead → full ≡ false → Flying me.0 now who spare number cell frame × (seen ≡ pack_slot (free_word number cell))
flies me now who spare number seen cell ahead full frame is tells reads names fills le ge free =
    let c : Calling = is.0 in let z : Kept = is.1 in
    let t : AfterLoad me.0.shape c number frame me.1 seen now = tells c (ap (λ (m : SeatState). m.0.role) is.2) in
    let w : SlotWord = t.0 in let knows : WordTells me.0.shape c number w = t.4 in
    let n : ahead ≡ w.number = reads w t.1 t.2 in let b : full ≡ w.filled = fills w t.1 t.2 in let x : cell ≡ w.cell = names w t.1 t.2 in
    let a : ℕ = w.number in
    let number_is : a ≡ number = omega arith in
    let open_slot : w.filled ≡ false = sym b ∙ free in
    let same : loaded c w number frame ≡ in_flight c number cell frame = free_is c w number frame number_is open_slot ∙ ap (λ (y : ℕ). in_flight c number y frame) (sym x) in
    let held : me.1 ≡ (spare, z) ∷ [] = ap (λ (m : SeatState). m.1) is.2 in
    let word : w ≡ free_word number cell = λ i. record { number = number_is i; filled = open_slot i; cell = sym x i } in (
      record {
        calling = c;
        kept = z;
        was = ap (λ (m : SeatState). m.0) is.2;
        is = t.3 ∙ (λ i. (caller_view me.0.shape (same i), held i));
        spare_is = is.3;
        mine = is.5;
        low = is.6;
        small = is.7;
        word = subst Fits word t.2;
        first = subst (λ (y : ℕ). start ≤ y) number_is knows.first;
        last = subst (λ (y : ℕ). y < 2 ^ 33 + 1024) number_is knows.last;
        reached = subst (λ (y : ℕ). c.known.position ≤ y) number_is knows.reached;
        unknown = λ g has. true_false (sym ((knows.accepted g has).1 number_is) ∙ open_slot);
      },
      t.1 ∙ ap pack_slot word,
    )

-- what a publish asks
pub may_publish : (before : View) (now ready : SeatState) (who spare number cell word old new : ℕ) (frame : List ℕ) → Flying before now who spare number cell frame → ready ≡ (now.0, (spare, Some frame) ∷ [])
    → word ≡ number % 2 ^ before.shape.g → old ≡ pack_slot (free_word number cell) → new ≡ pack_slot (full_word number spare) → MayExchange publish before.shape ready word old new
may_publish before now ready who spare number cell word old new frame f is at was more =
    let c : Calling = f.calling in (
      in_flight c number cell frame,
      record { number = number; cell = cell; frame = frame },
      is ∙ (λ i. (ap (λ (m : SeatState). m.0) f.is i, (sym f.spare_is i, Some frame) ∷ [])),
      subst (λ (n : ℕ). n < before.shape.filers) (sym f.mine) f.low,
      refl,
      f.word,
      at,
      was,
      more ∙ ap (λ (y : ℕ). pack_slot (full_word number y)) (sym f.spare_is),
    )

-- at a word that is filled or later
pub record Refused (c : Calling) (w : SlotWord) (n : ℕ) (f : List ℕ) : Type 0 where
  pub reply : FileReply
  pub same : reply ≡ reply_after w n
  pub calling : Calling
  pub is : loaded c w n f ≡ calling
  pub list : calling.list ≡ c.list ++ FileCall n f reply ∷ []
  pub known : calling.known ≡ known_after c.known (position_of c) (FileCall n f reply)
  pub who : calling.who ≡ c.who
  pub spare : calling.spare ≡ c.spare
  pub flight : calling.flight ≡ None
  pub fits : ReplyFits n reply
  pub settled : IsSettled reply
  pub says : IsReplyOf w n reply

refused : (c : Calling) (w : SlotWord) (n : ℕ) (f : List ℕ) → n ≤ w.number → (w.number ≡ n → w.filled ≡ true) → Fits w → Refused c w n f
refused c w n f le full small = go (nat_lt n w.number) refl
  where
    go : (greater : Bool) → nat_lt n w.number ≡ greater → Refused c w n f
    go true g =
        let a : ℕ = w.number in let above : n < a = grind (arith, nat_tests) in let top : a < 281474976710656 = small.0 in
        record { reply = Late a; same = ap (λ (b : Bool). cond b (Late w.number) Duplicate) (sym g); calling = late c n f a; is = late_is c w n f above; list = refl; known = refl; who = refl; spare = refl; flight = refl; fits = (above, omega arith); settled = tt; says = (above, refl) }
    go false g =
        let a : ℕ = w.number in let equal : a ≡ n = grind (arith, nat_tests) in
        record { reply = Duplicate; same = ap (λ (b : Bool). cond b (Late w.number) Duplicate) (sym g); calling = replied c n f Duplicate; is = full_is c w n f equal (full equal); list = refl; known = refl; who = refl; spare = refl; flight = refl; fits = tt; settled = tt; says = (equal, full equal) }

pub after_accept : (me now ready last : SeatState) (who spare number cell found : ℕ) (frame : List ℕ) → Flying me.0 now who spare number cell frame → ready ≡ (now.0, (spare, Some frame) ∷ []) → told publish ready found last
    → found ≡ pack_slot (free_word number cell) → Filed me last number frame Accepted who cell
after_accept me now ready last who spare number cell found frame f is tells hit =
    let c : Calling = f.calling in let e : Calling = in_flight c number cell frame in let fl : Flight = record { number = number; cell = cell; frame = frame } in
    let shape = me.0.shape in
    let view : ready.0 ≡ caller_view shape e = ap (λ (m : SeatState). m.0) is ∙ ap (λ (m : SeatState). m.0) f.is in
    let d : Calling = published e number frame cell in
    let t : AfterPublish ready.0.shape e fl ready.1 found last = tells e fl (ap (λ (v : View). v.role) view) refl in
    let same : ready.0.shape ≡ shape = ap (λ (v : View). v.shape) view in
    let done : (y : Kept) × (last ≡ (caller_view ready.0.shape d, (cell, y) ∷ [])) = elim t [ inl a ↦ a.1 | inr b ↦ absurd (b.0 hit) ] in
    let at : last ≡ (caller_view shape d, (cell, done.0) ∷ []) = done.1 ∙ (λ i. (caller_view (same i) d, (cell, done.0) ∷ [])) in
    let q : ℕ = c.known.position in let reached : q ≤ number = f.reached in
    filed me last number frame Accepted who cell c d done.0 f.was at refl refl f.mine refl f.low f.word.1 refl refl (f.first, f.last) (free_word number cell) (record { fits = f.word; congruent = refl; first = f.first; last = f.last; reached = f.reached }) (refl, refl) (λ low. absurd (omega arith)) (λ g has. absurd (f.unknown g has))

pub after_refuse : (me now ready last : SeatState) (who spare number cell found : ℕ) (frame : List ℕ) (reply : FileReply) → Flying me.0 now who spare number cell frame → ready ≡ (now.0, (spare, Some frame) ∷ []) → told publish ready found last
    → (found ≡ pack_slot (free_word number cell) → ⊥) → ((w : SlotWord) → found ≡ pack_slot w → Fits w → number ≤ w.number → reply ≡ reply_after w number) → Filed me last number frame reply who spare
after_refuse me now ready last who spare number cell found frame reply f is tells miss says =
    let c : Calling = f.calling in let e : Calling = in_flight c number cell frame in let fl : Flight = record { number = number; cell = cell; frame = frame } in
    let shape = me.0.shape in
    let view : ready.0 ≡ caller_view shape e = ap (λ (m : SeatState). m.0) is ∙ ap (λ (m : SeatState). m.0) f.is in
    let t : AfterPublish ready.0.shape e fl ready.1 found last = tells e fl (ap (λ (v : View). v.role) view) refl in
    let same : ready.0.shape ≡ shape = ap (λ (v : View). v.shape) view in
    let b = missed t in
    let w : SlotWord = b.0 in
    let r : Refused e w number frame = refused e w number frame b.3 b.4 b.2 in
    let d : Calling = r.calling in
    let held : ready.1 ≡ (spare, Some frame) ∷ [] = ap (λ (m : SeatState). m.1) is in
    let at : last ≡ (caller_view shape d, (spare, Some frame) ∷ []) = b.5 ∙ (λ i. (caller_view (same i) (r.is i), held i)) in
    let q : ℕ = c.known.position in let reached : q ≤ number = f.reached in
    let of_shape : WordTells ready.0.shape e number w → IsOfSlot shape c.known number w = λ knows. subst (λ (k : Shape). IsOfSlot k c.known number w) same (record { fits = b.2; congruent = knows.congruent; first = knows.first; last = knows.last; reached = knows.reached }) in
    subst (λ (x : FileReply). Filed me last number frame x who spare) (r.same ∙ sym (says w b.1 b.2 b.3))
    (filed me last number frame r.reply who spare c d (Some frame) f.was at (r.spare ∙ f.spare_is) r.flight f.mine r.who f.low f.small r.list r.known r.fits w (of_shape b.6) r.says (λ low. absurd (omega arith)) (λ g has. r.settled))
  where
    missed : AfterPublish ready.0.shape (in_flight f.calling number cell frame) (record { number = number; cell = cell; frame = frame }) ready.1 found last
        → (w : SlotWord) × (found ≡ pack_slot w) × Fits w × (number ≤ w.number) × (w.number ≡ number → w.filled ≡ true) × (last ≡ (caller_view ready.0.shape (loaded (in_flight f.calling number cell frame) w number frame), ready.1)) × WordTells ready.0.shape (in_flight f.calling number cell frame) number w
    missed (inl a) = absurd (miss a.0)
    missed (inr b) = b.1

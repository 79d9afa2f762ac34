-- Where a call may go first, the history without it is legal behind it.
use Rattle.std.proofs.Common.{◌≡◌, ◌≢◌, ℕ, ◌+◌, ◌≤◌, List, [], ◌∷◌, Bool, Option, Some, None, is_some, true, false, refl, sym, ap, ◌∙◌, subst, arith}
use native.Mathlib.Decide.{ℕ_discrete}
use Rattle.std.specs.Prelude.{is_none}
use Rattle.std.specs.FinMap as map
use Rattle.frame_codec.specs.declared.item.Item.{Item}
use Rattle.playout.specs.declared.reply.FileReply.TheVariants.{Accepted, Duplicate, Late, Beyond}
use Rattle.playout.specs.declared.call.Call.{Call}
use Rattle.playout.specs.declared.call.Call.TheVariants.{FileCall, SourceCall, BaseCall, PeekCall, TickCall, LookCall, HoldCall, RetireCall}
use Rattle.playout.specs.Machine.{Machine, Frames, Replies, held_or, item_of, after, passed}
use Rattle.playout.specs.History.{Entry, IsLegal, calls_of, move_weight}
use Rattle.playout.specs.HeldFrames.{call-position}
use Rattle.replay_check.specs.Rule.{SaysAbsent}
use Rattle.replay_check.proofs.Frames.{get-insert_here, get-insert_else, get-remove_else, insert-insert, remove-insert}
use Rattle.replay_check.proofs.Removed.{removed, removed-head, removed-skip, calls_of-head, calls_of-skip, same_head, not_empty}

-- a machine from which the call will be possible later
abbrev pub Fits : Call → Machine → Type 0
Fits (FileCall n f Accepted) s = (map.get s.frames n ≡ None) × (s.position ≤ n)
Fits (FileCall n f Duplicate) s = Unit {0}
Fits (FileCall n f (Late a)) s = Unit {0}
Fits (FileCall n f (Beyond a)) s = Unit {0}
Fits (SourceCall x held) s = (z : ℕ) → s.source ≡ Some z → held ≡ z
Fits (BaseCall x held) s = (z : ℕ) → s.base ≡ Some z → held ≡ z
Fits (PeekCall held) s = Unit {0}
Fits (TickCall item) s = Unit {0}
Fits (LookCall ahead filled) s = Unit {0}
Fits (HoldCall held) s = Unit {0}
Fits (RetireCall item) s = Unit {0}

-- the other call, made at position p, is answered alike behind this one
abbrev pub Clear : Call → ℕ → Call → Type 0
Clear (FileCall n f Accepted) p e = SaysAbsent n p e → ⊥
Clear (FileCall n f Duplicate) p e = Unit {0}
Clear (FileCall n f (Late a)) p e = Unit {0}
Clear (FileCall n f (Beyond a)) p e = Unit {0}
Clear (SourceCall x held) p e = Unit {0}
Clear (BaseCall x held) p e = e ≢ PeekCall None
Clear (PeekCall held) p e = Unit {0}
Clear (TickCall item) p e = ⊥
Clear (LookCall ahead filled) p e = Unit {0}
Clear (HoldCall held) p e = Unit {0}
Clear (RetireCall item) p e = ⊥

-- all calls of a history from position p on are
abbrev pub Open : Call → ℕ → List Entry → Type 0
Open c p [] = Unit {0}
Open c p (e ∷ es) = Clear c p e.call × Open c (p + move_weight e.call) es

none_some : {A : Type 0} {f : A} → Path (Option A) None (Some f) → ⊥
none_some e = cc

one_some : {A : Type 0} {f g : A} → Path (Option A) (Some f) (Some g) → f ≡ g
one_some e = cc

held-is : (o : Option ℕ) (x held z : ℕ) → held ≡ held_or o x → o ≡ Some z → held ≡ z
held-is o x held z is some = is ∙ ap (λ p. held_or p x) some

-- a machine that answers the call so is such a machine
fits-now : (r : ℕ) (c : Call) (s : Machine) → Replies r s c → Fits c s
fits-now r (FileCall n f Accepted) s a = (a.2, a.0)
fits-now r (FileCall n f Duplicate) s a = tt
fits-now r (FileCall n f (Late x)) s a = tt
fits-now r (FileCall n f (Beyond x)) s a = tt
fits-now r (SourceCall x held) s a = λ z some. held-is s.source x held z a some
fits-now r (BaseCall x held) s a = λ z some. held-is s.base x held z a some
fits-now r (PeekCall held) s a = tt
fits-now r (TickCall item) s a = tt
fits-now r (LookCall ahead filled) s a = tt
fits-now r (HoldCall held) s a = tt
fits-now r (RetireCall item) s a = tt

-- what is free behind a call was free before it
passed-back : (n : ℕ) (s : Machine) → (map.get (passed s).frames n ≡ None) × ((passed s).position ≤ n) → (map.get s.frames n ≡ None) × (s.position ≤ n)
passed-back n s fit =
    let past : s.position + 1 ≤ n = fit.1 in
    (sym (get-remove_else s.frames s.position n (λ is. omega arith)) ∙ fit.0, omega arith)

accepted-back : (r n : ℕ) (s : Machine) (e : Call) → Replies r s e → (map.get (after s e).frames n ≡ None) × ((after s e).position ≤ n) → (map.get s.frames n ≡ None) × (s.position ≤ n)
accepted-back r n s (FileCall q g Accepted) a fit = (sym (get-insert_else s.frames q n g (λ is. none_some (sym fit.0 ∙ ap (map.get (map.insert s.frames q g)) is ∙ get-insert_here s.frames q g))) ∙ fit.0, fit.1)
accepted-back r n s (FileCall q g Duplicate) a fit = fit
accepted-back r n s (FileCall q g (Late x)) a fit = fit
accepted-back r n s (FileCall q g (Beyond x)) a fit = fit
accepted-back r n s (SourceCall x held) a fit = fit
accepted-back r n s (BaseCall x held) a fit = fit
accepted-back r n s (PeekCall held) a fit = fit
accepted-back r n s (TickCall item) a fit = passed-back n s fit
accepted-back r n s (LookCall ahead filled) a fit = fit
accepted-back r n s (HoldCall held) a fit = fit
accepted-back r n s (RetireCall item) a fit = passed-back n s fit

source-back : (r : ℕ) (s : Machine) (e : Call) (held : ℕ) → Replies r s e → ((z : ℕ) → (after s e).source ≡ Some z → held ≡ z) → (z : ℕ) → s.source ≡ Some z → held ≡ z
source-back r s (FileCall q g Accepted) held a fit z some = fit z some
source-back r s (FileCall q g Duplicate) held a fit z some = fit z some
source-back r s (FileCall q g (Late x)) held a fit z some = fit z some
source-back r s (FileCall q g (Beyond x)) held a fit z some = fit z some
source-back r s (SourceCall x h) held a fit z some = fit h refl ∙ held-is s.source x h z a some
source-back r s (BaseCall x h) held a fit z some = fit z some
source-back r s (PeekCall h) held a fit z some = fit z some
source-back r s (TickCall item) held a fit z some = fit z some
source-back r s (LookCall ahead filled) held a fit z some = fit z some
source-back r s (HoldCall h) held a fit z some = fit z some
source-back r s (RetireCall item) held a fit z some = fit z some

base-back : (r : ℕ) (s : Machine) (e : Call) (held : ℕ) → Replies r s e → ((z : ℕ) → (after s e).base ≡ Some z → held ≡ z) → (z : ℕ) → s.base ≡ Some z → held ≡ z
base-back r s (FileCall q g Accepted) held a fit z some = fit z some
base-back r s (FileCall q g Duplicate) held a fit z some = fit z some
base-back r s (FileCall q g (Late x)) held a fit z some = fit z some
base-back r s (FileCall q g (Beyond x)) held a fit z some = fit z some
base-back r s (SourceCall x h) held a fit z some = fit z some
base-back r s (BaseCall x h) held a fit z some = fit h refl ∙ held-is s.base x h z a some
base-back r s (PeekCall h) held a fit z some = fit z some
base-back r s (TickCall item) held a fit z some = fit z some
base-back r s (LookCall ahead filled) held a fit z some = fit z some
base-back r s (HoldCall h) held a fit z some = fit z some
base-back r s (RetireCall item) held a fit z some = fit z some

fits-back : (r : ℕ) (c : Call) (s : Machine) (e : Call) → Replies r s e → Fits c (after s e) → Fits c s
fits-back r (FileCall n f Accepted) s e a fit = accepted-back r n s e a fit
fits-back r (FileCall n f Duplicate) s e a fit = tt
fits-back r (FileCall n f (Late x)) s e a fit = tt
fits-back r (FileCall n f (Beyond x)) s e a fit = tt
fits-back r (SourceCall x held) s e a fit = source-back r s e held a fit
fits-back r (BaseCall x held) s e a fit = base-back r s e held a fit
fits-back r (PeekCall held) s e a fit = tt
fits-back r (TickCall item) s e a fit = tt
fits-back r (LookCall ahead filled) s e a fit = tt
fits-back r (HoldCall held) s e a fit = tt
fits-back r (RetireCall item) s e a fit = tt

-- and so is one from which it is made later
fits-later : (r who : ℕ) (c : Call) (rest : List Call) (s : Machine) (h : List Entry) → IsLegal r s h → calls_of who h ≡ c ∷ rest → Fits c s
fits-later r who c rest s [] legal is = absurd (not_empty is)
fits-later r who c rest s (e ∷ es) legal is = go (ℕ_discrete e.who who) (fits-later r who c rest (after s e.call) es legal.1)
  where
    go : Dec (e.who ≡ who) → (calls_of who es ≡ c ∷ rest → Fits c (after s e.call)) → Fits c s
    go (yes same) ih = fits-now r c s (subst (Replies r s) (same_head (sym (calls_of-head who e es same) ∙ is)) legal.0)
    go (no other) ih = fits-back r c s e.call legal.0 (ih (sym (calls_of-skip who e es other) ∙ is))

-- two calls that may change places
abbrev Crosses : ℕ → Call → Machine → Call → Type 0
Crosses r c s e = Replies r (after s c) e × (after (after s c) e ≡ after (after s e) c)

-- what waits goes on to wait where a frame comes in
pub still : (q n : ℕ) (f : List ℕ) (m : Frames) → is_some (map.get m q) ≡ true → is_some (map.get (map.insert m n f) q) ≡ true
still q n f m some = go (ℕ_discrete q n)
  where
    go : Dec (q ≡ n) → is_some (map.get (map.insert m n f) q) ≡ true
    go (yes same) = ap is_some (ap (map.get (map.insert m n f)) same ∙ get-insert_here m n f)
    go (no other) = ap is_some (get-insert_else m n q f other) ∙ some

-- a look and a hold are answered alike, unless they say that this number is absent
looks-alike : (q n p ahead : ℕ) (f : List ℕ) (m : Frames) (filled : Bool) → q ≡ p + ahead → filled ≡ is_some (map.get m q) → (SaysAbsent n p (LookCall ahead filled) → ⊥) → filled ≡ is_some (map.get (map.insert m n f) q)
looks-alike q n p ahead f m true at a clear = sym (still q n f m (sym a))
looks-alike q n p ahead f m false at a clear = a ∙ ap is_some (sym (get-insert_else m n q f (λ same. clear (sym at ∙ same))))

some-is : (o : Option (List ℕ)) → is_none o ≡ false → is_some o ≡ true
some-is None some = absurd (let no' : true ≡ false = some in cc)
some-is (Some f) some = refl

is-some : (o : Option (List ℕ)) → is_some o ≡ true → false ≡ is_none o
is-some None some = absurd (let no' : false ≡ true = some in cc)
is-some (Some f) some = refl

holds-alike : (n p : ℕ) (f : List ℕ) (m : Frames) (held : Bool) → held ≡ is_none (map.get m p) → (SaysAbsent n p (HoldCall held) → ⊥) → held ≡ is_none (map.get (map.insert m n f) p)
holds-alike n p f m true a clear = a ∙ ap is_none (sym (get-insert_else m n p f clear))
holds-alike n p f m false a clear = is-some (map.get (map.insert m n f) p) (still p n f m (some-is (map.get m p) (sym a)))

passed-crosses : (n : ℕ) (f : List ℕ) (s : Machine) (item : Item) → item ≡ item_of (map.get s.frames s.position) → s.position + 1 ≤ n
    → (item ≡ item_of (map.get (map.insert s.frames n f) s.position)) × (passed (after s (FileCall n f Accepted)) ≡ after (passed s) (FileCall n f Accepted))
passed-crosses n f s item a past =
    let apart : s.position ≢ n = λ is. omega arith in
    (a ∙ ap item_of (sym (get-insert_else s.frames n s.position f apart)), ap (λ (z : Frames). record s { position = s.position + 1; frames = z }) (remove-insert s.frames n s.position f apart))

accepted-crosses : (r n : ℕ) (f : List ℕ) (s : Machine) (e : Call) → Replies r s e → Fits (FileCall n f Accepted) (after s e) → (SaysAbsent n s.position e → ⊥) → Crosses r (FileCall n f Accepted) s e
accepted-crosses r n f s (FileCall q g Accepted) a fit clear =
    let apart : q ≢ n = λ is. none_some (sym fit.0 ∙ ap (map.get (map.insert s.frames q g)) (sym is) ∙ get-insert_here s.frames q g) in
    ((a.0, a.1, get-insert_else s.frames n q f apart ∙ a.2), ap (λ (z : Frames). record s { frames = z }) (insert-insert s.frames n q f g apart))
accepted-crosses r n f s (FileCall q g Duplicate) a fit clear = ((a.0, a.1, still q n f s.frames a.2), refl)
accepted-crosses r n f s (FileCall q g (Late x)) a fit clear = (a, refl)
accepted-crosses r n f s (FileCall q g (Beyond x)) a fit clear = (a, refl)
accepted-crosses r n f s (SourceCall x held) a fit clear = (a, refl)
accepted-crosses r n f s (BaseCall x held) a fit clear = (a, refl)
accepted-crosses r n f s (PeekCall held) a fit clear = (a, refl)
accepted-crosses r n f s (TickCall item) a fit clear = passed-crosses n f s item a fit.1
accepted-crosses r n f s (LookCall ahead filled) a fit clear = ((a.0, looks-alike (s.position + ahead) n s.position ahead f s.frames filled refl a.1 clear), refl)
accepted-crosses r n f s (HoldCall held) a fit clear = (holds-alike n s.position f s.frames held a clear, refl)
accepted-crosses r n f s (RetireCall item) a fit clear = passed-crosses n f s item a fit.1

source-crosses : (r x held : ℕ) (s : Machine) (e : Call) → Replies r s e → Fits (SourceCall x held) (after s e) → Crosses r (SourceCall x held) s e
source-crosses r x held s (FileCall q g Accepted) a fit = (a, refl)
source-crosses r x held s (FileCall q g Duplicate) a fit = (a, refl)
source-crosses r x held s (FileCall q g (Late y)) a fit = (a, refl)
source-crosses r x held s (FileCall q g (Beyond y)) a fit = (a, refl)
source-crosses r x held s (SourceCall y h) a fit = let same : held ≡ h = fit h refl in (sym same, ap (λ (z : ℕ). record s { source = Some z }) (sym same))
source-crosses r x held s (BaseCall y h) a fit = (a, refl)
source-crosses r x held s (PeekCall h) a fit = (a, refl)
source-crosses r x held s (TickCall item) a fit = (a, refl)
source-crosses r x held s (LookCall ahead filled) a fit = (a, refl)
source-crosses r x held s (HoldCall h) a fit = (a, refl)
source-crosses r x held s (RetireCall item) a fit = (a, refl)

base-crosses : (r x held : ℕ) (s : Machine) (e : Call) → Replies r s e → Fits (BaseCall x held) (after s e) → e ≢ PeekCall None → Crosses r (BaseCall x held) s e
base-crosses r x held s (FileCall q g Accepted) a fit clear = (a, refl)
base-crosses r x held s (FileCall q g Duplicate) a fit clear = (a, refl)
base-crosses r x held s (FileCall q g (Late y)) a fit clear = (a, refl)
base-crosses r x held s (FileCall q g (Beyond y)) a fit clear = (a, refl)
base-crosses r x held s (SourceCall y h) a fit clear = (a, refl)
base-crosses r x held s (BaseCall y h) a fit clear = let same : held ≡ h = fit h refl in (sym same, ap (λ (z : ℕ). record s { base = Some z }) (sym same))
base-crosses r x held s (PeekCall None) a fit clear = absurd (clear refl)
base-crosses r x held s (PeekCall (Some z)) a fit clear = (ap (λ (y : ℕ). Some y) (sym (fit z (sym a))), refl)
base-crosses r x held s (TickCall item) a fit clear = (a, refl)
base-crosses r x held s (LookCall ahead filled) a fit clear = (a, refl)
base-crosses r x held s (HoldCall h) a fit clear = (a, refl)
base-crosses r x held s (RetireCall item) a fit clear = (a, refl)

crosses : (r : ℕ) (c : Call) (s : Machine) (e : Call) → Replies r s e → Fits c (after s e) → Clear c s.position e → Crosses r c s e
crosses r (FileCall n f Accepted) s e a fit clear = accepted-crosses r n f s e a fit clear
crosses r (FileCall n f Duplicate) s e a fit clear = (a, refl)
crosses r (FileCall n f (Late x)) s e a fit clear = (a, refl)
crosses r (FileCall n f (Beyond x)) s e a fit clear = (a, refl)
crosses r (SourceCall x held) s e a fit clear = source-crosses r x held s e a fit
crosses r (BaseCall x held) s e a fit clear = base-crosses r x held s e a fit clear
crosses r (PeekCall held) s e a fit clear = (a, refl)
crosses r (TickCall item) s e a fit clear = absurd clear
crosses r (LookCall ahead filled) s e a fit clear = (a, refl)
crosses r (HoldCall held) s e a fit clear = (a, refl)
crosses r (RetireCall item) s e a fit clear = absurd clear

-- taken out of the history, and put in front of it
pub sooner : (r who : ℕ) (c : Call) (rest : List Call) (s : Machine) (h : List Entry) → IsLegal r s h → calls_of who h ≡ c ∷ rest → Open c s.position h → IsLegal r (after s c) (removed who h)
sooner r who c rest s [] legal is clear = absurd (not_empty is)
sooner r who c rest s (e ∷ es) legal is clear = go (ℕ_discrete e.who who) (λ later. sooner r who c rest (after s e.call) es legal.1 later (subst (λ (p : ℕ). Open c p es) (sym (call-position s e.call)) clear.1))
  where
    go : Dec (e.who ≡ who) → (calls_of who es ≡ c ∷ rest → IsLegal r (after (after s e.call) c) (removed who es)) → IsLegal r (after s c) (removed who (e ∷ es))
    go (yes same) ih =
        let first : e.call ≡ c = same_head (sym (calls_of-head who e es same) ∙ is) in
        subst (IsLegal r (after s c)) (sym (removed-head who e es same)) (subst (λ (x : Call). IsLegal r (after s x) es) first legal.1)
    go (no other) ih =
        let later : calls_of who es ≡ c ∷ rest = sym (calls_of-skip who e es other) ∙ is in
        let crossed = crosses r c s e.call legal.0 (fits-later r who c rest (after s e.call) es legal.1 later) clear.0 in
        let tail = ih later in
        subst (IsLegal r (after s c)) (sym (removed-skip who e es other)) (crossed.0, subst (λ (t : Machine). IsLegal r t (removed who es)) (sym crossed.1) tail)

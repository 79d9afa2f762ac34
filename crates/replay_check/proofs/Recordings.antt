-- The calls of all journals, and where they stand.
use Rattle.std.proofs.Common.{◌≡◌, inl, inr, ℕ, zero, suc, ◌+◌, ◌<◌, ◌≤◌, Bool, true, false, List, [], ◌∷◌, ◌++◌, length, map, take, drop, get_or, Option, Some, None, Result, Ok, Err, IfOk, refl, sym, ap, ◌∙◌, subst, arith}
use Rattle.std.specs.Prelude.{Vec, is_some}
use Rattle.std.specs.List.{AllByRecursion}
use Rattle.std.specs.Global.{Global}
use Rattle.playout.specs.declared.call.Call.{Call}
use Rattle.recorder.specs.declared.events.FilerEvent.{FilerEvent}
use Rattle.recorder.specs.declared.events.FilerEvent.TheVariants.{Source, Base, File, Refused, Rtcp, Stranger, Empty}
use Rattle.recorder.specs.declared.events.PlayEvent.{PlayEvent}
use Rattle.recorder.specs.declared.events.PlayEvent.TheVariants as play
use Rattle.recorder.specs.Filing.{FilerFits}
use Rattle.recorder.specs.Play.{AllPlayFit}
use Rattle.recorder.specs.Journals.{FilerRecord, FilerRecordFits, PlayerRecord, PlayerRecordFits}
use Rattle.replay_check.specs.declared.verdict.Verdict.{Verdict}
use Rattle.replay_check.specs.Journals.{AllRecordsFit, call_of, calls_in, filer_calls, journal_lists, listed, plays_in, play_of}
use Rattle.replay_check.specs.Rule.{AllFilers, AllLater, IsPlayers, AreJournals, IsVerdict}
use Rattle.replay_check.specs.Lists.{AllCallsAt, AreCallsAt, call_at, first_of}

-- ---- where the calls stand

heads : {a b : Option Call} {xs ys : List (Option Call)} → Path (List (Option Call)) (a ∷ xs) (b ∷ ys) → a ≡ b
heads e = cc

tails : {a b : Option Call} {xs ys : List (Option Call)} → Path (List (Option Call)) (a ∷ xs) (b ∷ ys) → xs ≡ ys
tails e = cc

some-more : {a : Option Call} {xs : List (Option Call)} → Path (List (Option Call)) (a ∷ xs) [] → ⊥
some-more e = cc

none-more : {a : Option Call} {xs : List (Option Call)} → Path (List (Option Call)) [] (a ∷ xs) → ⊥
none-more e = cc

-- the call at a place of the places
pub call_at-found : (es : List FilerEvent) (ps : List ℕ) (cs : List Call) (place p : ℕ) → map (call_at es) ps ≡ map (λ c. Some c) cs → place < length ps → p ≡ get_or ps place p → call_at es p ≡ first_of (drop place cs)
call_at-found es [] cs place p are below is = absurd (omega arith)
call_at-found es (q ∷ ps) [] place p are below is = absurd (some-more are)
call_at-found es (q ∷ ps) (c ∷ cs) zero p are below is = ap (call_at es) is ∙ heads are
call_at-found es (q ∷ ps) (c ∷ cs) (suc place) p are below is = call_at-found es ps cs place p (tails are) (omega arith) is

pub as-many : (es : List FilerEvent) (ps : List ℕ) (cs : List Call) → map (call_at es) ps ≡ map (λ c. Some c) cs → length ps ≡ length cs
as-many es [] [] are = refl
as-many es [] (c ∷ cs) are = absurd (none-more are)
as-many es (q ∷ ps) [] are = absurd (some-more are)
as-many es (q ∷ ps) (c ∷ cs) are = let ih = as-many es ps cs (tails are) in omega arith

pub call_at-within : (es : List FilerEvent) (p : ℕ) (c : Call) → call_at es p ≡ Some c → p < length es
call_at-within [] p c is = absurd (let no' : None ≡ Some c = is in cc)
call_at-within (e ∷ es) zero c is = omega arith
call_at-within (e ∷ es) (suc p) c is = let ih = call_at-within es p c is in omega arith

pub call_at-is : (es : List FilerEvent) (p : ℕ) (x : FilerEvent) → p < length es → x ≡ get_or es p x → call_at es p ≡ call_of x
call_at-is [] p x below is = absurd (omega arith)
call_at-is (e ∷ es) zero x below is = ap call_of (sym is)
call_at-is (e ∷ es) (suc p) x below is = call_at-is es p x (omega arith) is

pub first-there : (cs : List Call) (place : ℕ) → place < length cs → (c : Call) × (first_of (drop place cs) ≡ Some c)
first-there [] place below = absurd (omega arith)
first-there (c ∷ cs) zero below = (c, refl)
first-there (c ∷ cs) (suc place) below = first-there cs place (omega arith)

pub place-within : (es : List FilerEvent) (ps : List ℕ) (place p : ℕ) → AreCallsAt es ps → place < length ps → p ≡ get_or ps place p → p < length es
place-within es ps place p are below is =
    let many = as-many es ps (calls_in es) are in
    let there = first-there (calls_in es) place (omega arith) in
    call_at-within es p there.0 (call_at-found es ps (calls_in es) place p are below is ∙ there.1)

pub some-there : (o : Option Call) → is_some o ≡ true → (c : Call) × (o ≡ Some c)
some-there None is = absurd (let no' : false ≡ true = is in cc)
some-there (Some c) is = (c, refl)

pub none-there : (o : Option Call) → is_some o ≡ false → o ≡ None
none-there None is = refl
none-there (Some c) is = absurd (let no' : true ≡ false = is in cc)

-- one event more
calls_in-step : (es : List FilerEvent) (i : ℕ) (x : FilerEvent) → i < length es → x ≡ get_or es i x → calls_in (drop i es) ≡ listed (call_of x) ++ calls_in (drop (i + 1) es)
calls_in-step [] i x below is = absurd (omega arith)
calls_in-step (e ∷ es) zero x below is = ap (λ (y : FilerEvent). listed (call_of y) ++ calls_in es) (sym is)
calls_in-step (e ∷ es) (suc i) x below is =
    calls_in-step es i x (omega arith) is ∙ ap (λ (j : ℕ). listed (call_of x) ++ calls_in (drop j (e ∷ es))) (let e' : suc (i + 1) ≡ suc i + 1 = omega arith in e')

abbrev pub some_calls : List Call → List (Option Call)
some_calls cs = map (λ c. Some c) cs

pub found-none : (es : List FilerEvent) (ps : List ℕ) (i : ℕ) (x : FilerEvent) → i < length es → x ≡ get_or es i x → call_of x ≡ None
    → map (call_at es) ps ++ some_calls (calls_in (drop i es)) ≡ some_calls (calls_in es) → map (call_at es) ps ++ some_calls (calls_in (drop (i + 1) es)) ≡ some_calls (calls_in es)
found-none es ps i x below is none so =
    ap (λ (l : List Call). map (call_at es) ps ++ some_calls l) (sym (calls_in-step es i x below is ∙ ap (λ (o : Option Call). listed o ++ calls_in (drop (i + 1) es)) none)) ∙ so

pub found-some : (es : List FilerEvent) (ps ps' : List ℕ) (i : ℕ) (x : FilerEvent) (c : Call) → i < length es → x ≡ get_or es i x → call_of x ≡ Some c → ps' ≡ ps ++ i ∷ []
    → map (call_at es) ps ++ some_calls (calls_in (drop i es)) ≡ some_calls (calls_in es) → map (call_at es) ps' ++ some_calls (calls_in (drop (i + 1) es)) ≡ some_calls (calls_in es)
found-some es ps ps' i x c below is some longer so =
    ap (λ (l : List ℕ). map (call_at es) l ++ some_calls (calls_in (drop (i + 1) es))) longer ∙ snoc ps
    ∙ ap (λ (o : Option Call). map (call_at es) ps ++ (o ∷ some_calls (calls_in (drop (i + 1) es)))) (call_at-is es i x below is ∙ some)
    ∙ ap (λ (l : List Call). map (call_at es) ps ++ some_calls l) (sym (calls_in-step es i x below is ∙ ap (λ (o : Option Call). listed o ++ calls_in (drop (i + 1) es)) some)) ∙ so
  where
    snoc : (qs : List ℕ) → map (call_at es) (qs ++ i ∷ []) ++ some_calls (calls_in (drop (i + 1) es)) ≡ map (call_at es) qs ++ (call_at es i ∷ some_calls (calls_in (drop (i + 1) es)))
    snoc [] = refl
    snoc (q ∷ qs) = ap (λ (l : List (Option Call)). call_at es q ∷ l) (snoc qs)

pub found-all : (es : List FilerEvent) (ps : List ℕ) (i : ℕ) → length es ≤ i → map (call_at es) ps ++ some_calls (calls_in (drop i es)) ≡ some_calls (calls_in es) → AreCallsAt es ps
found-all es ps i past so = sym (right (map (call_at es) ps)) ∙ ap (λ (l : List FilerEvent). map (call_at es) ps ++ some_calls (calls_in l)) (sym (gone es i past)) ∙ so
  where
    right : (l : List (Option Call)) → l ++ [] ≡ l
    right [] = refl
    right (o ∷ l) = ap (λ (m : List (Option Call)). o ∷ m) (right l)

    gone : (xs : List FilerEvent) (k : ℕ) → length xs ≤ k → drop k xs ≡ []
    gone [] zero le = refl
    gone [] (suc k) le = refl
    gone (x ∷ xs) zero le = absurd (omega arith)
    gone (x ∷ xs) (suc k) le = gone xs k (omega arith)

-- ---- the calls of one filer, and of the player

pub calls_at : (fs : List FilerRecord) (vs : List (Vec ℕ Global)) (k : ℕ) (f : FilerRecord) (v : Vec ℕ Global) → AllCallsAt fs vs → k < length fs → f ≡ get_or fs k f → v ≡ get_or vs k v → AreCallsAt f.events v.items
calls_at [] vs k f v all below f_is v_is = absurd (omega arith)
calls_at (g ∷ fs) [] k f v all below f_is v_is = absurd all
calls_at (g ∷ fs) (w ∷ vs) zero f v all below f_is v_is =
    subst (λ (h : FilerRecord). AreCallsAt h.events v.items) (sym f_is) (subst (λ (u : Vec ℕ Global). AreCallsAt g.events u.items) (sym v_is) all.0)
calls_at (g ∷ fs) (w ∷ vs) (suc k) f v all below f_is v_is = calls_at fs vs k f v all.1 (omega arith) f_is v_is

pub as-long : (fs : List FilerRecord) (vs : List (Vec ℕ Global)) → AllCallsAt fs vs → length vs ≡ length fs
as-long [] [] all = refl
as-long [] (v ∷ vs) all = absurd all
as-long (f ∷ fs) [] all = absurd all
as-long (f ∷ fs) (v ∷ vs) all = let ih = as-long fs vs all.1 in omega arith

pub list-filer : (fs : List FilerRecord) (p : PlayerRecord) (k : ℕ) (f : FilerRecord) → k < length fs → f ≡ get_or fs k f → journal_lists fs p k ≡ filer_calls f
list-filer [] p k f below is = absurd (omega arith)
list-filer (g ∷ fs) p zero f below is = ap filer_calls (sym is)
list-filer (g ∷ fs) p (suc k) f below is = list-filer fs p k f (omega arith) is

pub list-player : (fs : List FilerRecord) (p : PlayerRecord) → journal_lists fs p (length fs) ≡ plays_in p.events
list-player [] p = refl
list-player (f ∷ fs) p = list-player fs p

pub play-found : (es : List PlayEvent) (i : ℕ) (x : PlayEvent) → i < length es → x ≡ get_or es i x → Some (play_of x) ≡ first_of (drop i (plays_in es))
play-found [] i x below is = absurd (omega arith)
play-found (e ∷ es) zero x below is = ap (λ (y : PlayEvent). Some (play_of y)) is
play-found (e ∷ es) (suc i) x below is = play-found es i x (omega arith) is

pub play-past : (es : List PlayEvent) (i : ℕ) → length es ≤ i → None ≡ first_of (drop i (plays_in es))
play-past [] zero past = refl
play-past [] (suc i) past = refl
play-past (e ∷ es) zero past = absurd (omega arith)
play-past (e ∷ es) (suc i) past = play-past es i (omega arith)

-- as many places as calls
pub count-filer : (fs : List FilerRecord) (vs : List (Vec ℕ Global)) (p : PlayerRecord) (k : ℕ) (v : Vec ℕ Global) → AllCallsAt fs vs → k < length fs → v ≡ get_or vs k v → length v.items ≡ length (journal_lists fs p k)
count-filer [] vs p k v all below is = absurd (omega arith)
count-filer (g ∷ fs) [] p k v all below is = absurd all
count-filer (g ∷ fs) (w ∷ vs) p zero v all below is = ap (λ (u : Vec ℕ Global). length u.items) is ∙ as-many g.events w.items (calls_in g.events) all.0
count-filer (g ∷ fs) (w ∷ vs) p (suc k) v all below is = count-filer fs vs p k v all.1 (omega arith) is

-- one journal more
pub calls-step : (fs : List FilerRecord) (i : ℕ) (x : FilerRecord) (vs vs' : List (Vec ℕ Global)) (v : Vec ℕ Global) → i < length fs → x ≡ get_or fs i x → AllCallsAt (take i fs) vs
    → AreCallsAt x.events v.items → vs' ≡ vs ++ v ∷ [] → AllCallsAt (take (i + 1) fs) vs'
calls-step fs i x vs vs' v below is all are longer = subst (λ (ws : List (Vec ℕ Global)). AllCallsAt (take (i + 1) fs) ws) (sym longer) (go fs i vs below is all)
  where
    go : (gs : List FilerRecord) (j : ℕ) (ws : List (Vec ℕ Global)) → j < length gs → x ≡ get_or gs j x → AllCallsAt (take j gs) ws → AllCallsAt (take (j + 1) gs) (ws ++ v ∷ [])
    go [] j ws low same old = absurd (omega arith)
    go (g ∷ gs) zero [] low same old = (subst (λ (h : FilerRecord). AreCallsAt h.events v.items) same are, tt)
    go (g ∷ gs) zero (w ∷ ws) low same old = absurd old
    go (g ∷ gs) (suc j) [] low same old = absurd old
    go (g ∷ gs) (suc j) (w ∷ ws) low same old =
        subst (λ (n : ℕ). AllCallsAt (take n (g ∷ gs)) (w ∷ (ws ++ v ∷ []))) (let e : suc (j + 1) ≡ suc j + 1 = omega arith in e) (old.0, go gs j ws (omega arith) same old.1)

pub taken-all : (fs : List FilerRecord) (i : ℕ) → length fs ≤ i → take i fs ≡ fs
taken-all [] zero past = refl
taken-all [] (suc i) past = refl
taken-all (f ∷ fs) zero past = absurd (omega arith)
taken-all (f ∷ fs) (suc i) past = ap (λ (l : List FilerRecord). f ∷ l) (taken-all fs i (omega arith))

-- ---- what the lists are

filers_in : (es : List FilerEvent) → AllByRecursion FilerFits es → AllFilers (calls_in es)
filers_in [] fits = tt
filers_in (Source asked ∷ es) fits = (tt, filers_in es fits.1)
filers_in (Base asked ∷ es) fits = (tt, filers_in es fits.1)
filers_in (File number frame reply ∷ es) fits = (fits.0.in_number, filers_in es fits.1)
filers_in (Refused code detail ∷ es) fits = filers_in es fits.1
filers_in (Rtcp ∷ es) fits = filers_in es fits.1
filers_in (Stranger ssrc held ∷ es) fits = filers_in es fits.1
filers_in (Empty ∷ es) fits = filers_in es fits.1

shut : (b : Bool) → b ≡ true → b ≡ false → ⊥
shut b yes' no' = let bad : true ≡ false = sym yes' ∙ no' in cc

-- where Idle and Base may not come all are ticks, looks, holds and retires
later_in : (g : ℕ) (opening : Bool) (es : List PlayEvent) → opening ≡ false → AllPlayFit g opening es → AllLater (plays_in es)
later_in g opening [] closed all = tt
later_in g opening (play.Idle ∷ es) closed all = absurd (shut opening all.0 closed)
later_in g opening (play.Base base ∷ es) closed all = absurd (shut opening all.0.0 closed)
later_in g opening (play.Erasure ∷ es) closed all = (tt, later_in g false es refl all.1)
later_in g opening (play.Frame f ∷ es) closed all = (tt, later_in g false es refl all.1)
later_in g opening (play.Held ∷ es) closed all = (tt, later_in g false es refl all.1)
later_in g opening (play.Found ∷ es) closed all = (tt, later_in g false es refl all.1)
later_in g opening (play.LookFree ahead ∷ es) closed all = (tt, later_in g false es refl all.1)
later_in g opening (play.LookFilled ahead ∷ es) closed all = (tt, later_in g false es refl all.1)
later_in g opening (play.RetiredErasure ∷ es) closed all = (tt, later_in g false es refl all.1)
later_in g opening (play.RetiredFrame f ∷ es) closed all = (tt, later_in g false es refl all.1)

players_in : (g : ℕ) (opening : Bool) (es : List PlayEvent) → AllPlayFit g opening es → IsPlayers (plays_in es)
players_in g opening [] all = tt
players_in g opening (play.Idle ∷ es) all = inl (refl, players_in g true es all.1)
players_in g opening (play.Base base ∷ es) all = inr (tt, later_in g false es refl all.1)
players_in g opening (play.Erasure ∷ es) all = inr (tt, later_in g false es refl all.1)
players_in g opening (play.Frame f ∷ es) all = inr (tt, later_in g false es refl all.1)
players_in g opening (play.Held ∷ es) all = inr (tt, later_in g false es refl all.1)
players_in g opening (play.Found ∷ es) all = inr (tt, later_in g false es refl all.1)
players_in g opening (play.LookFree ahead ∷ es) all = inr (tt, later_in g false es refl all.1)
players_in g opening (play.LookFilled ahead ∷ es) all = inr (tt, later_in g false es refl all.1)
players_in g opening (play.RetiredErasure ∷ es) all = inr (tt, later_in g false es refl all.1)
players_in g opening (play.RetiredFrame f ∷ es) all = inr (tt, later_in g false es refl all.1)

-- one journal more is in its ranges
pub fits-step : (fs : List FilerRecord) (i : ℕ) (x : FilerRecord) → i < length fs → x ≡ get_or fs i x → AllRecordsFit (take i fs) → FilerRecordFits x → AllRecordsFit (take (i + 1) fs)
fits-step [] i x below is all fits = absurd (omega arith)
fits-step (f ∷ fs) zero x below is all fits = (subst FilerRecordFits is fits, tt)
fits-step (f ∷ fs) (suc i) x below is all fits =
    subst (λ (j : ℕ). AllRecordsFit (take j (f ∷ fs))) (let e : suc (i + 1) ≡ suc i + 1 = omega arith in e) (all.0, fits-step fs i x (omega arith) is all.1 fits)

pub fits-all : (fs : List FilerRecord) (i : ℕ) → length fs ≤ i → AllRecordsFit (take i fs) → AllRecordsFit fs
fits-all fs i past all = subst AllRecordsFit (taken-all fs i past) all

pub are_journals : (fs : List FilerRecord) (p : PlayerRecord) → AllRecordsFit fs → PlayerRecordFits p → AreJournals (length fs) (journal_lists fs p)
are_journals fs p all fits = record { filer = λ k below. filer fs all k below; player = player fs }
  where
    filer : (fs : List FilerRecord) → AllRecordsFit fs → (k : ℕ) → k < length fs → AllFilers (journal_lists fs p k)
    filer [] all k below = absurd (omega arith)
    filer (f ∷ fs) all zero below = filers_in f.events all.0.events
    filer (f ∷ fs) all (suc k) below = filer fs all.1 k (omega arith)

    player : (fs : List FilerRecord) → IsPlayers (journal_lists fs p (length fs))
    player [] = players_in p.head.g true p.events fits.events
    player (f ∷ fs) = player fs

calls-few : (es : List FilerEvent) → length (calls_in es) ≤ length es
calls-few [] = omega arith
calls-few (Source asked ∷ es) = let ih = calls-few es in omega arith
calls-few (Base asked ∷ es) = let ih = calls-few es in omega arith
calls-few (File number frame reply ∷ es) = let ih = calls-few es in omega arith
calls-few (Refused code detail ∷ es) = let ih = calls-few es in omega arith
calls-few (Rtcp ∷ es) = let ih = calls-few es in omega arith
calls-few (Stranger ssrc held ∷ es) = let ih = calls-few es in omega arith
calls-few (Empty ∷ es) = let ih = calls-few es in omega arith

pub plays-many : (es : List PlayEvent) → length (plays_in es) ≡ length es
plays-many [] = refl
plays-many (e ∷ es) = let ih = plays-many es in omega arith

-- no list is longer than its journal
pub lists-short : (fs : List FilerRecord) (p : PlayerRecord) → AllRecordsFit fs → PlayerRecordFits p → (k : ℕ) → length (journal_lists fs p k) ≤ 16777216
lists-short [] p all fits zero = let same = plays-many p.events in omega (arith, fits.few)
lists-short [] p all fits (suc k) = omega arith
lists-short (f ∷ fs) p all fits zero = let few = calls-few f.events in omega (arith, all.0.few)
lists-short (f ∷ fs) p all fits (suc k) = lists-short fs p all.1 fits k

pub verdict_at : {E : Type 0} (r q : ℕ) (fs : List FilerRecord) (p : PlayerRecord) (result : Result Verdict E) → q ≡ r
    → IfOk result (λ v. IsVerdict q (length fs) (journal_lists fs p) v) → IfOk result (λ v. IsVerdict r (length fs) (journal_lists fs p) v)
verdict_at r q fs p (Ok v) same verdict = subst (λ (k : ℕ). IsVerdict k (length fs) (journal_lists fs p) v) same verdict
verdict_at r q fs p (Err e) same verdict = tt

-- From the callers' lists to the one history of a line.
use Rattle.std.proofs.Common.{◌≡◌, ℕ, suc, zero, ◌+◌, ◌^◌, ◌<◌, ◌≤◌, List, [], ◌∷◌, length, map, Option, Some, refl, sym, ap, ◌∙◌, subst, arith}
use mathlib.Core.Option.{some, some-ne-none, some-injective}
use lib.ListN.{get_elem?}
use Rattle.playout.specs.declared.call.Call.{Call}
use Rattle.playout.specs.Machine.{opening_machine}
use Rattle.playout.specs.History.{AllMayCall, IsLegal, calls_of}
use Rattle.step_table.specs.Packed.{Where}
use Rattle.slot_ring.specs.Seen.{PassView}
use Rattle.slot_ring.specs.Remains.{Ended, LeftView}
use Rattle.recorder.specs.declared.tally.PlayTally.{PlayTally}
use Rattle.recorder.specs.declared.tally.Tally.{Tally}
use Rattle.filer.specs.declared.run.FilerEnd.{FilerEnd}
use Rattle.player.specs.declared.run.PlayerEnd.{PlayerEnd}
use Rattle.line_run.specs.declared.caller.Caller.{Caller}
use Rattle.line_run.specs.declared.player_caller.PlayerCaller.{PlayerCaller}
use Rattle.line_run.specs.Callers.{AllRan, AreLists, AreNew, AreNumbered, CallerRan, told}
use Rattle.line_run.specs.Fan.{AreKin}
use Rattle.line_run.specs.Filing.{FilerCame}
use Rattle.line_run.specs.Line.{LineRan}
use Rattle.line_run.specs.Opening.{LineSeen}
use Rattle.line_run.specs.Playing.{PlayerCame}
use Rattle.line_run.specs.Seen.{LinkSeen, PlayerSeen, SinkSeen}
use Rattle.line_run.proofs.Places.{at_below, at_exists}

same_list : (x y : List Call) → Path (Option (Option (List Call))) (Some (Some x)) (Some (Some y)) → x ≡ y
same_list x y f = cc

-- the journals behind the first
behind : {J : Type 0} (first : J) (rest js : List J) (i : ℕ) → js ≡ first ∷ rest → get_elem? js (1 + i) ≡ get_elem? rest i
behind {J} first rest js i e = ap (λ (l : List J). get_elem? l (1 + i)) e ∙ ap (get_elem? (first ∷ rest)) (let h : 1 + i ≡ suc i = omega arith in h)

map_at : {A B : Type 0} (f : A → B) (xs : List A) (i : ℕ) (a : A) → get_elem? xs i ≡ some a → get_elem? (map f xs) i ≡ some (f a)
map_at f [] i a e = absurd (some-ne-none a (sym e))
map_at f (x ∷ xs) zero a e = ap (λ y. some (f y)) (some-injective x a e)
map_at f (x ∷ xs) (suc i) a e = map_at f xs i a e

many_mapped : {A B : Type 0} (f : A → B) (xs : List A) → length (map f xs) ≡ length xs
many_mapped f [] = refl
many_mapped f (x ∷ xs) = let h = many_mapped f xs in omega arith

module _ {P J : Type 0} (l : LineSeen) (ring : Where) (link : P → LinkSeen) (sink : J → SinkSeen) (kin : J → J → Type 0) (cs : List Caller) (ps : List P) (js : List J) (a : PlayerSeen) (cs' : List Caller) (ps' : List P) (js' : List J) (b : PlayerSeen) (player : PlayerCaller)
    (new : AreNew l ring cs) (many : length cs ≡ l.filers) (links : length ps ≡ l.filers) (journals : length js ≡ 1 + l.filers) (ran : AllRan l ring link sink kin cs ps js a cs' ps' js' b player) where
  rest_many : length ran.rest ≡ l.filers
  rest_many = let e : length js ≡ length (ran.first ∷ ran.rest) = ap length ran.split in omega (arith, journals)

  -- what a filer at its place came to
  record RanAt (i : ℕ) (p : P) (j : J) : Type 0 where
    caller : Caller
    link' : P
    sink' : J
    there : get_elem? cs' i ≡ some caller
    at_link : get_elem? ps' i ≡ some link'
    at_sink : get_elem? ran.rest' i ≡ some sink'
    pass : PassView
    has : caller.pass ≡ Some pass
    of_ring : pass.ring ≡ ring
    who : pass.who ≡ i
    came : FilerCame l.filers l.options i (link p) (sink j) (link link') (sink sink') pass.list caller.end caller.tally
    journal : kin j sink'

  ran_at : (i : ℕ) (p : P) (j : J) → i < l.filers → get_elem? ps i ≡ some p → get_elem? ran.rest i ≡ some j → RanAt i p j
  ran_at i p j low ep ej =
      let d = at_exists cs i (subst (λ (n : ℕ). i < n) (sym many) low) in
      let h = ran.filers.each i d.0 p j d.1 ep ej in
      let one : CallerRan l ring link sink kin d.0 p j h.0 h.1 h.2 = h.6 in
      let number : d.0.number ≡ i = (new i d.0 d.1).1 in
      record {
        caller = h.0;
        link' = h.1;
        sink' = h.2;
        there = h.3;
        at_link = h.4;
        at_sink = h.5;
        pass = one.pass;
        has = one.has;
        of_ring = one.of_ring;
        who = one.who ∙ number;
        came = subst (λ (n : ℕ). FilerCame l.filers l.options n (link p) (sink j) (link h.1) (sink h.2) one.pass.list h.0.end h.0.tally) number one.came;
        journal = one.journal;
      }

  -- the filers have their numbers still
  pub still_numbered : AreNumbered ring cs'
  still_numbered i c at =
      let low : i < l.filers = subst (λ (n : ℕ). i < n) (ran.filers.callers ∙ many) (at_below cs' i c at) in
      let p = at_exists ps i (subst (λ (n : ℕ). i < n) (sym links) low) in
      let j = at_exists ran.rest i (subst (λ (n : ℕ). i < n) (sym rest_many) low) in
      let h = ran_at i p.0 j.0 low p.1 j.1 in
      let same : h.caller ≡ c = some-injective h.caller c (sym h.there ∙ at) in
      (h.pass, ap (λ (d : Caller). d.pass) (sym same) ∙ h.has, h.of_ring, h.who)

  -- each journal is kin to what it was
  pub all_kin : AreKin kin js js'
  all_kin zero j at =
      let same : ran.first ≡ j = some-injective ran.first j (sym (ap (λ (x : List J). get_elem? x 0) ran.split) ∙ at) in
      (ran.first', ap (λ (x : List J). get_elem? x 0) ran.split', subst (λ (x : J). kin x ran.first') same ran.journal)
  all_kin (suc i) j at =
      let there : get_elem? ran.rest i ≡ some j = sym (ap (λ (x : List J). get_elem? x (suc i)) ran.split) ∙ at in
      let low : i < l.filers = subst (λ (n : ℕ). i < n) rest_many (at_below ran.rest i j there) in
      let p = at_exists ps i (subst (λ (n : ℕ). i < n) (sym links) low) in
      let h = ran_at i p.0 j low p.1 there in
      (h.sink', ap (λ (x : List J). get_elem? x (suc i)) ran.split' ∙ h.at_sink, h.journal)

  line_ran : (filers : List (FilerEnd × Tally)) (left : LeftView) → ring.shape.filers ≡ l.filers → ring.shape.g ≡ l.options.g → filers ≡ map told cs' → AreLists ring.shape.filers cs' player left.lists → Ended ring.shape left.lists left.frames
      → LineRan l link sink ps js ps' js' a b player.end player.tally filers left
  line_ran filers left number size ends lists ended =
      record {
        h = ended.0;
        legal = subst (λ (n : ℕ). IsLegal (2 ^ n) opening_machine ended.0) size ended.1;
        callers = subst (λ (n : ℕ). AllMayCall n ended.0) number ended.2;
        links = ran.filers.links;
        journals = ap length ran.split' ∙ (ap (λ (n : ℕ). suc n) ran.filers.journals ∙ sym (ap length ran.split));
        ends = ap length ends ∙ (many_mapped told cs' ∙ (ran.filers.callers ∙ many));
        filed = λ i p j low ep ej.
            let h = ran_at i p j low ep (sym (behind ran.first ran.rest js i ran.split) ∙ ej) in
            let within : i ≤ ring.shape.filers = subst (λ (n : ℕ). i ≤ n) (sym number) (let e : i < l.filers = low in omega arith) in
            let calls : h.pass.list ≡ calls_of i ended.0 = same_list h.pass.list (calls_of i ended.0) (sym (lists.of_filers i h.caller h.pass h.there h.has) ∙ ended.3 i within) in (
              h.link',
              h.sink',
              h.caller.end,
              h.caller.tally,
              h.at_link,
              behind ran.first' ran.rest' js' i ran.split' ∙ h.at_sink,
              ap (λ (e : List (FilerEnd × Tally)). get_elem? e i) ends ∙ map_at told cs' i h.caller h.there,
              subst (λ (x : List Call). FilerCame l.filers l.options i (link p) (sink j) (link h.link') (sink h.sink') x h.caller.end h.caller.tally) calls h.came,
            );
        played_so =
            let one = ran.playing in let n : ℕ = ring.shape.filers in
            let calls : one.pass.list ≡ calls_of l.filers ended.0 = same_list one.pass.list (calls_of n ended.0) (sym (lists.of_player one.pass one.has) ∙ ended.3 n (omega arith)) ∙ ap (λ (m : ℕ). calls_of m ended.0) number in (
              ran.first,
              ran.first',
              ap (λ (x : List J). get_elem? x 0) ran.split,
              ap (λ (x : List J). get_elem? x 0) ran.split',
              subst (λ (x : List Call). PlayerCame l.filers l.options a (sink ran.first) b (sink ran.first') x player.end player.tally) calls one.came,
            );
        lists = λ who low. ended.3 who (subst (λ (n : ℕ). who ≤ n) (sym number) low);
        frames = ended.4;
      }

  -- the same, where these are the line, the player's end and its counts
  pub line_told : (line : LineSeen) (end : PlayerEnd) (tally : PlayTally) (filers : List (FilerEnd × Tally)) (left : LeftView) → l ≡ line → (end ≡ player.end) × (tally ≡ player.tally)
      → ring.shape.filers ≡ l.filers → ring.shape.g ≡ l.options.g → filers ≡ map told cs' → AreLists ring.shape.filers cs' player left.lists → Ended ring.shape left.lists left.frames
      → LineRan line link sink ps js ps' js' a b end tally filers left
  line_told line end tally filers left same come number size ends lists ended =
      subst (λ (q : LineSeen × PlayerEnd × PlayTally). LineRan q.0 link sink ps js ps' js' a b q.1 q.2 filers left) (λ i. (same i, sym come.0 i, sym come.1 i))
      (line_ran filers left number size ends lists ended)

-- A step that changes nothing puts back the view that it took.
use Rattle.std.proofs.Common.{◌≡◌, ◌≢◌, ℕ, zero, suc, List, [], ◌∷◌, ◌++◌, ◌+◌, set, get_or, Option, Some, None, is_some, Bool, true, false, true≢false, cond, refl, sym, ap, ◌∙◌, arith}
use Rattle.std.specs.Prelude.{slice_get}
use mathlib.Core.Option as maybe
use lib.ListN.{get_elem?}
use Rattle.ring_core.specs.declared.words.SlotWord.{SlotWord}
use Rattle.ring_core.specs.declared.words.Berth.{Berth}
use Rattle.ring_core.specs.declared.words.Berth.TheVariants.{Fresh, Out, Home}
use Rattle.ring_core.specs.declared.words.Cell.{Cell}
use Rattle.ring_core.specs.declared.views.Shape.{Shape}
use Rattle.ring_core.specs.declared.views.Flight.{Flight}
use Rattle.ring_core.specs.declared.views.Known.{Known}
use Rattle.ring_core.specs.declared.views.Pooling.{Pooling}
use Rattle.ring_core.specs.declared.views.Calling.{Calling}
use Rattle.ring_core.specs.declared.views.Role.{Role}
use Rattle.ring_core.specs.declared.views.Role.TheVariants.{Pool, Caller}
use Rattle.ring_core.specs.declared.views.View.{View}
use Rattle.ring_core.specs.Ring.{Ring}
use Rattle.ring_core.specs.Steps.{free_word, leave_at, note_at, note_view, spent_view}
use Rattle.playout.specs.Machine.{start}
use Rattle.ring_core.specs.Opening.{slots_from, berths_from}
use Rattle.ring_core.specs.Core.{on_ground, no_lists, has_right, enlist_berth, enlist_right, enlist_role, leave_role, split_right, split_role, role_at, view_role}
use Rattle.ring_core.specs.CoreState.{Sees}

module _ {A : Type 0} where
  pub set_back : (l : List A) (i : ℕ) (d : A) → set l i (get_or l i d) ≡ l
  set_back [] i d = refl
  set_back (x ∷ l) zero d = refl
  set_back (x ∷ l) (suc i) d = ap (λ (t : List A). x ∷ t) (set_back l i d)

  pub nil_after : (l : List A) → l ++ [] ≡ l
  nil_after [] = refl
  nil_after (x ∷ l) = ap (λ (t : List A). x ∷ t) (nil_after l)

put_back : (s : Ring) (seat : ℕ) (v w : View) (r : Role) → Sees s seat v → v.role ≡ r → w ≡ record { shape = v.shape; role = r } → set s.views seat w ≡ s.views
put_back s seat v w r sees is made =
    let same : w ≡ v = made ∙ (λ i. record { shape = v.shape; role = sym is i }) in
    ap (λ (x : View). set s.views seat x) (same ∙ sym sees) ∙ set_back s.views seat _

-- nothing has changed
pub kept : (s : Ring) (seat : ℕ) (v w : View) (r : Role) (f : Role → Ring) (slots : List SlotWord) (berths : List Berth) (cells : List Cell) → s.slots ≡ slots → s.berths ≡ berths → s.cells ≡ cells
    → Sees s seat v → v.role ≡ r → w ≡ record { shape = v.shape; role = r } → f r ≡ s
    → Path Ring (record { slots = slots; berths = berths; source = s.source; base = s.base; cells = cells; views = set s.views seat w }) (f v.role)
kept s seat v w r f slots berths cells a b c sees is made still =
    let back = put_back s seat v w r sees is made in
    let whole : Path Ring (record { slots = slots; berths = berths; source = s.source; base = s.base; cells = cells; views = set s.views seat w }) s = λ i. record { slots = sym a i; berths = sym b i; source = s.source; base = s.base; cells = sym c i; views = back i } in
    whole ∙ (sym still ∙ ap f (sym is))

pub kept_short : (s : Ring) (seat : ℕ) (v w : View) (r : Role) (f : Role → Ring) → Sees s seat v → v.role ≡ r → w ≡ record { shape = v.shape; role = r } → f r ≡ s → Path Ring (record s { views = set s.views seat w ++ [] }) (f v.role)
kept_short s seat v w r f sees is made still =
    let back : set s.views seat w ++ [] ≡ s.views = nil_after (set s.views seat w) ∙ put_back s seat v w r sees is made in
    let whole : Path Ring (record s { views = set s.views seat w ++ [] }) s = λ i. record { slots = s.slots; berths = s.berths; source = s.source; base = s.base; cells = s.cells; views = back i } in
    whole ∙ (sym still ∙ ap f (sym is))

barred : (b : Bool) (t s : Ring) → b ≡ false → cond b t s ≡ s
barred true t s is = absurd (true≢false is)
barred false t s is = refl

pub flying : (o : Option Flight) → is_some o ≡ true → on_ground o ≡ false
flying None is = absurd (true≢false (sym is))
flying (Some f) is = refl

pub grounded : (o : Option Flight) → is_some o ≡ false → on_ground o ≡ true
grounded None is = refl
grounded (Some f) is = absurd (true≢false is)

pub leave_barred : (k : Shape) (s : Ring) (seat : ℕ) (c : Calling) → is_some c.flight ≡ true → leave_role k s seat (Caller c) ≡ s
leave_barred k s seat c is = barred (on_ground c.flight) (leave_at k s seat c None) s (flying c.flight is)

pub enlist_listed : (k : Shape) (s : Ring) (seat who : ℕ) (p : Pooling) → no_lists p.lists ≡ false → enlist_role k s seat who (Pool p) ≡ s
enlist_listed k s seat who p is = barred (no_lists p.lists) (enlist_right k s seat who (slice_get p.rights who)) s is

either_way : (b : Bool) (s t : Ring) → t ≡ s → cond b t s ≡ s
either_way true s t e = e
either_way false s t e = refl

without_right : (k : Shape) (s : Ring) (seat who : ℕ) (o : Option Bool) → has_right o ≡ false → enlist_right k s seat who o ≡ s
without_right k s seat who None is = refl
without_right k s seat who (Some true) is = absurd (true≢false is)
without_right k s seat who (Some false) is = refl

pub enlist_no_right : (k : Shape) (s : Ring) (seat who : ℕ) (p : Pooling) → has_right (slice_get p.rights who) ≡ false → enlist_role k s seat who (Pool p) ≡ s
enlist_no_right k s seat who p is = either_way (no_lists p.lists) s (enlist_right k s seat who (slice_get p.rights who)) (without_right k s seat who (slice_get p.rights who) is)

not_fresh : (k : Shape) (s : Ring) (seat who : ℕ) (o : maybe.Option Berth) → ((cell : ℕ) → o ≢ maybe.some (Fresh cell)) → enlist_berth k s seat who o ≡ s
not_fresh k s seat who maybe.none not = refl
not_fresh k s seat who (maybe.some (Fresh cell)) not = absurd (not cell refl)
not_fresh k s seat who (maybe.some Out) not = refl
not_fresh k s seat who (maybe.some (Home cell)) not = refl

pub enlist_not_fresh : (k : Shape) (s : Ring) (seat who : ℕ) (p : Pooling) → ((cell : ℕ) → get_elem? s.berths who ≢ maybe.some (Fresh cell)) → enlist_role k s seat who (Pool p) ≡ s
enlist_not_fresh k s seat who p not = either_way (no_lists p.lists) s (enlist_right k s seat who (slice_get p.rights who)) (go (slice_get p.rights who))
  where
    go : (o : Option Bool) → enlist_right k s seat who o ≡ s
    go None = refl
    go (Some true) = not_fresh k s seat who (get_elem? s.berths who) not
    go (Some false) = refl

pub split_no_right : (k : Shape) (s : Ring) (seat who : ℕ) (p : Pooling) → has_right (slice_get p.rights who) ≡ false → split_role k s seat who (Pool p) ≡ s
split_no_right k s seat who p is = go (slice_get p.rights who) is
  where
    go : (o : Option Bool) → has_right o ≡ false → split_right k s seat p who o ≡ s
    go None is = refl
    go (Some true) is = absurd (true≢false is)
    go (Some false) is = refl

pub split_flying : (k : Shape) (s : Ring) (seat who : ℕ) (c : Calling) → is_some c.flight ≡ true → split_role k s seat who (Caller c) ≡ s
split_flying k s seat who c is = barred (on_ground c.flight) (note_at k s c) s (flying c.flight is)

-- a note was written
pub noted : (k : Shape) (s : Ring) (seat who : ℕ) (v w : View) (c : Calling) (n : Known) → Sees s seat v → v.role ≡ Caller c → w ≡ record { shape = v.shape; role = Caller c } → is_some c.flight ≡ false → n ≡ c.known
    → Path Ring (record s { views = set s.views seat w ++ note_view k n ∷ [] }) (split_role k s seat who v.role)
noted k s seat who v w c n sees is made still same =
    let back : set s.views seat w ++ note_view k n ∷ [] ≡ s.views ++ note_view k c.known ∷ [] = ap (λ (l : List View). l ++ note_view k n ∷ []) (put_back s seat v w (Caller c) sees is made) ∙ ap (λ (m : Known). s.views ++ note_view k m ∷ []) same in
    let whole : Path Ring (record s { views = set s.views seat w ++ note_view k n ∷ [] }) (note_at k s c) = λ i. record { slots = s.slots; berths = s.berths; source = s.source; base = s.base; cells = s.cells; views = back i } in
    whole ∙ (sym (ap (λ (b : Bool). cond b (note_at k s c) s) (grounded c.flight still)) ∙ ap (split_role k s seat who) (sym is))

-- the view that is taken is the role that the events look up
role_seen : (l : List View) (seat : ℕ) → (get_or l seat spent_view).role ≡ view_role (get_elem? l seat)
role_seen [] seat = refl
role_seen (x ∷ l) zero = refl
role_seen (x ∷ l) (suc seat) = role_seen l seat

pub role_of : (s : Ring) (seat : ℕ) (v : View) → Sees s seat v → v.role ≡ role_at s seat
role_of s seat v sees = ap (λ (x : View). x.role) (sym sees) ∙ role_seen s.views seat

module _ {A : Type 0} where
  set_twice : (l : List A) (i : ℕ) (a b : A) → set (set l i a) i b ≡ set l i b
  set_twice [] i a b = refl
  set_twice (x ∷ l) zero a b = refl
  set_twice (x ∷ l) (suc i) a b = ap (λ (t : List A). x ∷ t) (set_twice l i a b)

  set_swap : (l : List A) (i j : ℕ) (a b : A) → i ≢ j → set (set l i a) j b ≡ set (set l j b) i a
  set_swap [] i j a b apart = refl
  set_swap (x ∷ l) zero zero a b apart = absurd (apart refl)
  set_swap (x ∷ l) zero (suc j) a b apart = refl
  set_swap (x ∷ l) (suc i) zero a b apart = refl
  set_swap (x ∷ l) (suc i) (suc j) a b apart = ap (λ (t : List A). x ∷ t) (set_swap l i j a b (λ e. apart (ap suc e)))

  get_else : (l : List A) (i j : ℕ) (a d : A) → j ≢ i → get_or (set l i a) j d ≡ get_or l j d
  get_else [] i j a d apart = refl
  get_else (x ∷ l) zero zero a d apart = absurd (apart refl)
  get_else (x ∷ l) zero (suc j) a d apart = refl
  get_else (x ∷ l) (suc i) zero a d apart = refl
  get_else (x ∷ l) (suc i) (suc j) a d apart = get_else l i j a d (λ e. apart (ap suc e))

  -- two are taken away, and two put back
  set_both : (l : List A) (i j : ℕ) (a b c : A) → j ≢ i → set (set (set (set l i a) j a) i b) j c ≡ set (set l i b) j c
  set_both l i j a b c apart =
      ap (λ (t : List A). set t j c) (set_swap (set l i a) j i a b apart ∙ ap (λ (t : List A). set t j a) (set_twice l i a b)) ∙ set_twice (set l i b) j a c

-- one view was taken and another put in its place
pub put_on : (s now : Ring) (seat : ℕ) (v w : View) (less more : List View) (f : Role → Ring) → Sees s seat v → less ≡ set s.views seat spent_view → more ≡ set less seat w → record now { views = set s.views seat w } ≡ f v.role → record now { views = more } ≡ f (role_at s seat)
put_on s now seat v w less more f sees taken put is =
    let views : more ≡ set s.views seat w = put ∙ (ap (λ (l : List View). set l seat w) taken ∙ set_twice s.views seat spent_view w) in
    ap (λ (l : List View). record now { views = l }) views ∙ (is ∙ ap f (role_of s seat v sees))

-- and perhaps one more came behind
pub put_more : (s : Ring) (seat : ℕ) (v w : View) (less more most new : List View) (f : Role → Ring) → Sees s seat v → less ≡ set s.views seat spent_view → more ≡ set less seat w → most ≡ more ++ new → record s { views = set s.views seat w ++ new } ≡ f v.role → record s { views = most } ≡ f (role_at s seat)
put_more s seat v w less more most new f sees taken put longer is =
    let views : most ≡ set s.views seat w ++ new = longer ∙ ap (λ (l : List View). l ++ new) (put ∙ (ap (λ (l : List View). set l seat w) taken ∙ set_twice s.views seat spent_view w)) in
    ap (λ (l : List View). record s { views = l }) views ∙ (is ∙ ap f (role_of s seat v sees))

pub sees_other : (s : Ring) (seat other : ℕ) (v : View) (less : List View) → other ≢ seat → less ≡ set s.views seat spent_view → get_or less other spent_view ≡ v → Sees s other v
sees_other s seat other v less apart taken sees = sym (get_else s.views seat other spent_view spent_view apart) ∙ (ap (λ (l : List View). get_or l other spent_view) (sym taken) ∙ sees)

-- two views were taken and others put in their places
pub put_both : (s : Ring) (seat other : ℕ) (v u w x : View) (one two three four : List View) (f : Role → Role → Ring) → other ≢ seat → Sees s seat v → Sees s other u
    → one ≡ set s.views seat spent_view → two ≡ set one other spent_view → three ≡ set two seat w → four ≡ set three other x
    → record s { views = set (set s.views seat w) other x } ≡ f v.role u.role → record s { views = four } ≡ f (role_at s seat) (role_at s other)
put_both s seat other v u w x one two three four f apart sees there a b c d is =
    let views : four ≡ set (set s.views seat w) other x = d ∙ (ap (λ (l : List View). set l other x) (c ∙ ap (λ (l : List View). set l seat w) (b ∙ ap (λ (l : List View). set l other spent_view) a)) ∙ set_both s.views seat other spent_view w x apart) in
    ap (λ (l : List View). record s { views = l }) views ∙ (is ∙ (ap (λ (r : Role). f r u.role) (role_of s seat v sees) ∙ ap (f (role_at s seat)) (role_of s other u there)))

slots_next : (i n : ℕ) → slots_from i (suc n) ≡ slots_from i n ++ free_word (start + (i + n)) (i + n) ∷ []
slots_next i zero = ap (λ (k : ℕ). free_word (start + k) k ∷ []) (let e : i ≡ i + 0 = omega arith in e)
slots_next i (suc n) = ap (λ (l : List SlotWord). free_word (start + i) i ∷ l) (slots_next (suc i) n ∙ ap (λ (k : ℕ). slots_from (suc i) n ++ free_word (start + k) k ∷ []) (let e : suc i + n ≡ i + suc n = omega arith in e))

pub slots_more : (n : ℕ) (w : SlotWord) → w.number ≡ start + n → w.filled ≡ false → w.cell ≡ n → slots_from 0 (n + 1) ≡ slots_from 0 n ++ w ∷ []
slots_more n w number free cell =
    let up : n + 1 ≡ suc n = omega arith in
    let same : 0 + n ≡ n = omega arith in
    ap (slots_from 0) up ∙ (slots_next 0 n ∙ (ap (λ (k : ℕ). slots_from 0 n ++ free_word (start + k) k ∷ []) same ∙ (λ i. slots_from 0 n ++ record { number = sym number i; filled = sym free i; cell = sym cell i } ∷ [])))

berths_next : (i n : ℕ) → berths_from i (suc n) ≡ berths_from i n ++ Fresh (i + n) ∷ []
berths_next i zero = ap (λ (k : ℕ). Fresh k ∷ []) (let e : i ≡ i + 0 = omega arith in e)
berths_next i (suc n) = ap (λ (l : List Berth). Fresh i ∷ l) (berths_next (suc i) n ∙ ap (λ (k : ℕ). berths_from (suc i) n ++ Fresh k ∷ []) (let e : suc i + n ≡ i + suc n = omega arith in e))

pub berths_more : (i n : ℕ) → berths_from i (n + 1) ≡ berths_from i n ++ Fresh (i + n) ∷ []
berths_more i n = ap (berths_from i) (let up : n + 1 ≡ suc n = omega arith in up) ∙ berths_next i n

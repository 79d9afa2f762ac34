-- What of the rule stays at a call, in general.
use Rattle.std.proofs.Common.{◌≡◌, ◌≢◌, ℕ, ◌≤◌, List, [], ◌∷◌, ◌++◌, set, false, refl, sym, ap, ◌∙◌, subst}
use native.Mathlib.Decide.{ℕ_discrete}
use mathlib.Core.Option.{some}
use lib.ListN.{get_elem?}
use Rattle.playout.specs.declared.call.Call.{Call}
use Rattle.ring_core.specs.declared.views.Shape.{Shape}
use Rattle.ring_core.specs.declared.views.Calling.{Calling}
use Rattle.ring_core.specs.declared.views.Role.{Role}
use Rattle.ring_core.specs.declared.views.Role.TheVariants.{Pool, Caller, Departed, Note, Spent}
use Rattle.ring_core.specs.declared.views.View.{View}
use Rattle.playout.specs.Machine.{Machine}
use Rattle.playout.specs.History.{Entry, entry, calls_of}
use Rattle.ring_core.specs.declared.words.SlotWord.{SlotWord}
use Rattle.ring_core.specs.declared.words.Berth.{Berth}
use Rattle.ring_core.specs.Ring.{Ring, CallerStands, KnownFits, FlightFits, RoleFits}
use Rattle.ring_core.specs.Steps.{caller_view}
use Rattle.playout.specs.LongerHistory.{calls_of-same, calls_of-other}
use Rattle.ring_core.proofs.Seats.{Same, stands_kept, calling_kept, known_kept, flight_kept}

-- two callers with one number say the same of every other number
pub same_callers : (who : ℕ) (c d : Calling) → d.who ≡ c.who → who ≢ c.who → Same who (Caller c) (Caller d)
same_callers who c d is other =
    record {
      right = λ x. x;
      calling = λ l x. absurd (other (sym x.0 ∙ is));
      calling_back = λ l x. absurd (other (sym x.0));
      left = λ l x. x;
      left_back = λ l x. x;
    }

-- the clause on callers, after a call of the caller c
pub callers_after : (k : Shape) (views : List View) (berths : List Berth) (id : ℕ) (c d : Calling) (call : Call) (h : List Entry) → get_elem? views id ≡ some (caller_view k c) → d.who ≡ c.who → d.list ≡ c.list ++ call ∷ []
    → ((who : ℕ) (b : Berth) → get_elem? berths who ≡ some b → CallerStands views who (calls_of who h) b)
    → (who : ℕ) (b : Berth) → get_elem? berths who ≡ some b → CallerStands (set views id (caller_view k d)) who (calls_of who (h ++ entry c.who call ∷ [])) b
callers_after k views berths id c d call h at is longer stands who b e = go (ℕ_discrete who c.who)
  where
    go : Dec (who ≡ c.who) → CallerStands (set views id (caller_view k d)) who (calls_of who (h ++ entry c.who call ∷ [])) b
    go (yes same) =
        let s : CallerStands views c.who (calls_of c.who h) b = subst (λ (z : ℕ). CallerStands views z (calls_of z h) b) same (stands who b e) in
        let mine : c.list ≡ calls_of c.who h = (calling_kept views id (caller_view k c) (caller_view k d) c d (calls_of c.who h) (c.list ++ call ∷ []) b at refl refl is longer s).0 in
        let grown : calls_of c.who (h ++ entry c.who call ∷ []) ≡ c.list ++ call ∷ [] = calls_of-same c.who h (entry c.who call) refl ∙ ap (λ (l : List Call). l ++ call ∷ []) (sym mine) in
        subst (λ (z : ℕ). CallerStands (set views id (caller_view k d)) z (calls_of z (h ++ entry c.who call ∷ [])) b) (sym same)
        (calling_kept views id (caller_view k c) (caller_view k d) c d (calls_of c.who h) (calls_of c.who (h ++ entry c.who call ∷ [])) b at refl refl is (longer ∙ sym grown) s).1
    go (no other) =
        subst (λ (l : List Call). CallerStands (set views id (caller_view k d)) who l b) (sym (calls_of-other who h (entry c.who call) (λ z. other (sym z))))
        (stands_kept views id (caller_view k c) (caller_view k d) at who (calls_of who h) b (same_callers who c d is other) (stands who b e))

-- what a view other than the one that steps says stays so
pub role_kept : (s t : Ring) (r : ℕ) (m n : Machine) (h : List Entry) (e : Entry) (filers i : ℕ) (w x : SlotWord) (role : Role) → t.source ≡ s.source → t.base ≡ s.base → t.slots ≡ set s.slots i x
    → m.position ≤ n.position → get_elem? s.slots i ≡ some w → w.number ≤ x.number → ((n : ℕ) → n ≤ w.number → x.number ≡ n → x.filled ≡ false → ⊥)
    → RoleFits s r m h filers role → RoleFits t r n (h ++ e ∷ []) filers role
role_kept s t r m n h e filers i w x (Pool p) so ba sl le at up never f = f
role_kept s t r m n h e filers i w x (Caller c) so ba sl le at up never f =
    (f.0, known_now, subst (λ (l : List SlotWord). FlightFits r l c.flight) (sym sl) (flight_kept r s.slots i w x c.flight at up never f.2))
  where
    known_now : KnownFits t.source t.base n (h ++ e ∷ []) c.known
    known_now = subst (λ (z : ℕ × ℕ). KnownFits z.0 z.1 n (h ++ e ∷ []) c.known) (λ q. (sym so q, sym ba q)) (known_kept s.source s.base m n h e c.known le f.1)
role_kept s t r m n h e filers i w x (Departed d) so ba sl le at up never f = f
role_kept s t r m n h e filers i w x (Note k) so ba sl le at up never f = subst (λ (z : ℕ × ℕ). KnownFits z.0 z.1 n (h ++ e ∷ []) k) (λ q. (sym so q, sym ba q)) (known_kept s.source s.base m n h e k le f)
role_kept s t r m n h e filers i w x Spent so ba sl le at up never f = tt

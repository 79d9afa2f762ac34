-- The frames of the machine: what a change leaves, and the window that they lie in.
use Rattle.std.proofs.Common.{◌≡◌, ◌≢◌, ℕ, ◌+◌, ◌<◌, ◌≤◌, eq-eqb, ne_eqb, Bool, true, false, cond, List, [], ◌∷◌, Option, Some, None, refl, sym, ap, ◌∙◌, arith}
use native.Mathlib.Decide.{ℕ_discrete}
use Rattle.std.specs.FinMap as map
use Rattle.std.specs.Ordering.{nat_cmp, eq_by_cmp}
use Rattle.std.specs.Cmp.{nat_cmp_total, unsigned_tied}
use Rattle.playout.specs.declared.call.Call.{Call}
use Rattle.playout.specs.declared.call.Call.TheVariants.{FileCall, TickCall, RetireCall}
use Rattle.playout.specs.declared.reply.FileReply.{FileReply}
use Rattle.playout.specs.declared.reply.FileReply.TheVariants.{Accepted, Duplicate, Late, Beyond}
use Rattle.playout.specs.Machine.{Frames, Machine, Replies, FileReplies, after, filed, passed, opening_machine}
use Rattle.playout.specs.History.{Entry, IsLegal, after_all}

tied : (n : ℕ) → eq_by_cmp nat_cmp n n ≡ true
tied n = unsigned_tied n n ∙ eq-eqb n n refl

untied : (q n : ℕ) → q ≢ n → eq_by_cmp nat_cmp q n ≡ false
untied q n other = unsigned_tied q n ∙ ne_eqb q n other

-- what was put under a number is there
pub get-insert_here : (m : Frames) (n : ℕ) (f : List ℕ) → map.get (map.insert m n f) n ≡ Some f
get-insert_here m n f = map.get-insert nat_cmp_total m n f n ∙ ap (λ (b : Bool). cond b (Some f) (map.get m n)) (tied n)

-- and what is under another number stays
pub get-insert_else : (m : Frames) (n q : ℕ) (f : List ℕ) → q ≢ n → map.get (map.insert m n f) q ≡ map.get m q
get-insert_else m n q f other = map.get-insert nat_cmp_total m n f q ∙ ap (λ (b : Bool). cond b (Some f) (map.get m q)) (untied q n other)

-- what was taken is there no more
pub get-remove_here : (m : Frames) (n : ℕ) → map.get (map.remove m n) n ≡ None
get-remove_here m n = map.get-remove nat_cmp_total m n n ∙ ap (λ (b : Bool). cond b None (map.get m n)) (tied n)

-- and what is under another number stays
pub get-remove_else : (m : Frames) (n q : ℕ) → q ≢ n → map.get (map.remove m n) q ≡ map.get m q
get-remove_else m n q other = map.get-remove nat_cmp_total m n q ∙ ap (λ (b : Bool). cond b None (map.get m q)) (untied q n other)

-- the frames lie in the window
abbrev pub AreInWindow : ℕ → Machine → Type 0
AreInWindow r m = (n : ℕ) (f : List ℕ) → map.get m.frames n ≡ Some f → (m.position ≤ n) × (n < m.position + r)

none_some : {f : List ℕ} → Path (Option (List ℕ)) None (Some f) → ⊥
none_some e = cc

window-file : (r : ℕ) (m : Machine) (n : ℕ) (f : List ℕ) (reply : FileReply) → AreInWindow r m → FileReplies r m n reply → AreInWindow r (filed m n f reply)
window-file r m n f Accepted w a q g e = go (ℕ_discrete q n)
  where
    go : Dec (q ≡ n) → (m.position ≤ q) × (q < m.position + r)
    go (yes is) = let lo : m.position ≤ n = a.0 in let hi : n < m.position + r = a.1 in (omega arith, omega arith)
    go (no other) = w q g (sym (get-insert_else m.frames n q f other) ∙ e)
window-file r m n f Duplicate w a q g e = w q g e
window-file r m n f (Late x) w a q g e = w q g e
window-file r m n f (Beyond x) w a q g e = w q g e

-- a tick or a retire leaves the frames in the window
window-passed : (r : ℕ) (m : Machine) → AreInWindow r m → AreInWindow r (passed m)
window-passed r m w q g e = go (ℕ_discrete q m.position)
  where
    go : Dec (q ≡ m.position) → (m.position + 1 ≤ q) × (q < m.position + 1 + r)
    go (yes is) = absurd (none_some (sym (get-remove_here m.frames m.position) ∙ ap (λ (z : ℕ). map.get (map.remove m.frames m.position) z) (sym is) ∙ e))
    go (no other) = let k = w q g (sym (get-remove_else m.frames m.position q other) ∙ e) in let lo : m.position ≤ q = k.0 in let hi : q < m.position + r = k.1 in (omega arith, omega arith)

-- and so does each other call
pub window-after : (r : ℕ) (m : Machine) (c : Call) → AreInWindow r m → Replies r m c → AreInWindow r (after m c)
window-after r m (FileCall n f reply) w a q g e = window-file r m n f reply w a q g e
window-after r m (TickCall x) w a q g e = window-passed r m w q g e
window-after r m (RetireCall x) w a q g e = window-passed r m w q g e
window-after r m _ w a q g e = w q g e

window-all : (r : ℕ) (m : Machine) (h : List Entry) → AreInWindow r m → IsLegal r m h → AreInWindow r (after_all m h)
window-all r m [] w l = w
window-all r m (e ∷ h) w l = window-all r (after m e.call) h (window-after r m e.call w l.0) l.1

-- and so does a legal history
pub window_holds : (r : ℕ) (h : List Entry) → IsLegal r opening_machine h → AreInWindow r (after_all opening_machine h)
window_holds r h l = window-all r opening_machine h (λ n f e. absurd (none_some (sym (map.get-empty nat_cmp n) ∙ e))) l

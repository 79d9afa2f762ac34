-- Lists of calls, and of gathered lists, read from the front.
use Rattle.std.proofs.Common.{◌≡◌, ℕ, zero, suc, ◌+◌, ◌<◌, List, [], ◌∷◌, ◌++◌, length, get_or, take, true, false, true≢false, Option, Some, None, is_some, refl, sym, ap, ◌∙◌, arith}
use Rattle.std.proofs.lemmas.List.{take_more}
use Rattle.playout.specs.declared.call.Call.{Call}
use Rattle.playout.specs.History.{moves, move_weight}
use Rattle.ring_core.specs.Core.{no_lists}
use Rattle.playout.specs.LongerHistory.{moves-snoc}

pub moves_more : (l : List Call) (i : ℕ) (c : Call) → i < length l → c ≡ get_or l i c → moves (take (i + 1) l) ≡ moves (take i l) + move_weight c
moves_more l i c below is = ap moves (take_more l i c below) ∙ (ap (λ (x : Call). moves (take i l ++ x ∷ [])) (sym is) ∙ moves-snoc (take i l) c)

abbrev Lists : Type 0
Lists = List (Option (List Call))

no_lists-snoc : (l : Lists) (o : Option (List Call)) → no_lists l ≡ true → is_some o ≡ false → no_lists (l ++ o ∷ []) ≡ true
no_lists-snoc [] None none is = refl
no_lists-snoc [] (Some x) none is = absurd (true≢false is)
no_lists-snoc (None ∷ l) o none is = no_lists-snoc l o none is
no_lists-snoc (Some x ∷ l) o none is = absurd (true≢false (sym none))

pub no_lists_more : (l : Lists) (i : ℕ) (o : Option (List Call)) → i < length l → o ≡ get_or l i o → no_lists (take i l) ≡ true → is_some o ≡ false → no_lists (take (i + 1) l) ≡ true
no_lists_more l i o below is none off = ap no_lists (take_more l i o below ∙ ap (λ (x : Option (List Call)). take i l ++ x ∷ []) (sym is)) ∙ no_lists-snoc (take i l) o none off

pub listed : (l : Lists) (i : ℕ) (o : Option (List Call)) → i < length l → o ≡ get_or l i o → is_some o ≡ true → no_lists l ≡ false
listed [] i o below is some = absurd (omega arith)
listed (None ∷ l) zero o below is some = absurd (true≢false (sym some ∙ ap is_some is))
listed (Some x ∷ l) zero o below is some = refl
listed (None ∷ l) (suc i) o below is some = listed l i o (omega arith) is some
listed (Some x ∷ l) (suc i) o below is some = refl

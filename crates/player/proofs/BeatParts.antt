-- The parts of a beat, one behind the other.
use Rattle.std.proofs.Common.{◌≡◌, ℕ, ◌+◌, ◌^◌, ◌<◌, Bool, true, false, List, [], ◌∷◌, ◌++◌, refl, ap, subst, ◌∙◌, append_assoc, inr, arith}
use Rattle.std.specs.List.{AllByRecursion}
use Rattle.playout.specs.declared.call.Call.{Call}
use Rattle.playout.specs.declared.call.Call.TheVariants.{LookCall}
use Rattle.playout.specs.declared.side.PlayerSide as player_side
use Rattle.playout.specs.History.{moves}
use Rattle.player.specs.Beats.{CanBeTold}
use Rattle.player.specs.Parts.{Asks, LeavesOut, Retires}
use Rattle.player.proofs.CallLists.{Chained-append, moves-more, told-more}

module _ {S : Type 0} (s : player_side.Ghosts S) where
  -- by another rule
  pub Asks-as : (P R : List Call → Type 0) (a b : S) (old new : List Call) → ((part : List Call) → P part → R part) → Asks s P a b old new → Asks s R a b old new
  Asks-as P R a b old new change x = record { part = x.part; by_rule = change x.part x.by_rule; told = x.told; side = x.side; position = x.position; slots = x.slots; follow = x.follow }

  -- two parts
  pub Asks-after : (P Q R : List Call → Type 0) (a m b : S) (old mid new : List Call) → ((p q : List Call) → P p → Q q → R (p ++ q))
      → Asks s P a m old mid → Asks s Q m b mid new → Asks s R a b old new
  Asks-after P Q R a m b old mid new both x y = record {
    part = x.part ++ y.part;
    by_rule = both x.part y.part x.by_rule y.by_rule;
    told = told-more (s.g a) x.part y.part x.told (subst (λ (g : ℕ). AllByRecursion (CanBeTold g) y.part) x.slots y.told);
    side = Chained-append s.did a m b x.part y.part x.side y.side;
    position = moves-more (s.position a) (s.position m) (s.position b) x.part y.part x.position y.position;
    slots = y.slots ∙ x.slots;
    follow = y.follow ∙ ap (λ (l : List Call). l ++ y.part) x.follow ∙ append_assoc old x.part y.part;
  }

  -- one call, which moves the side as its kind says
  pub Asks-one : (c d : Call) (a b : S) (old new : List Call) → c ≡ d → CanBeTold (s.g a) d → s.did a c b → s.position b ≡ s.position a + moves (d ∷ []) → s.g b ≡ s.g a → new ≡ old ++ c ∷ []
      → Asks s (λ part. part ≡ d ∷ []) a b old new
  Asks-one c d a b old new is told did moved slots follow = record {
    part = d ∷ [];
    by_rule = refl;
    told = (told, tt);
    side = (b, subst (λ (e : Call). s.did a e b) is did, refl);
    position = moved;
    slots = slots;
    follow = follow ∙ ap (λ (e : Call). old ++ e ∷ []) is;
  }

  -- a look that answers so
  pub looked : (ahead : ℕ) (filled answer : Bool) (a b : S) (old new : List Call) → filled ≡ answer → ahead < 2 ^ s.g a → s.did a (LookCall ahead filled) b → s.position b ≡ s.position a → s.g b ≡ s.g a
      → new ≡ old ++ LookCall ahead filled ∷ [] → Asks s (λ part. part ≡ LookCall ahead answer ∷ []) a b old new
  looked ahead filled answer a b old new is low did stays slots follow =
      Asks-one (LookCall ahead filled) (LookCall ahead answer) a b old new (ap (LookCall ahead) is) low did (omega (arith, stays)) slots follow

  -- no frame waits for the next number, and this is answered for the one after it
  pub looked-twice : (answer : Bool) (a m b : S) (old mid new : List Call) → Asks s (λ part. part ≡ LookCall 0 false ∷ []) a m old mid → Asks s (λ part. part ≡ LookCall 1 answer ∷ []) m b mid new
      → Asks s (λ part. part ≡ LookCall 0 false ∷ LookCall 1 answer ∷ []) a b old new
  looked-twice answer a m b old mid new =
      Asks-after (λ part. part ≡ LookCall 0 false ∷ []) (λ part. part ≡ LookCall 1 answer ∷ []) (λ part. part ≡ LookCall 0 false ∷ LookCall 1 answer ∷ []) a m b old mid new (λ p q e f. λ i. e i ++ f i)

  -- and a number was retired
  pub left-out : (a m b : S) (old mid new : List Call) → Asks s (λ part. part ≡ LookCall 0 false ∷ LookCall 1 true ∷ []) a m old mid → Asks s Retires m b mid new → Asks s LeavesOut a b old new
  left-out a m b old mid new =
      Asks-after (λ part. part ≡ LookCall 0 false ∷ LookCall 1 true ∷ []) Retires LeavesOut a m b old mid new (λ p q e f. inr (inr (f.0, f.1, λ i. e i ++ f.2 i)))

-- The lists of all callers of a line.
use Rattle.std.proofs.Common.{◌≡◌, ◌⊎◌, inl, inr, ℕ, suc, zero, ◌+◌, ◌<◌, ◌≤◌, List, length, set, Some, None, refl, sym, ap, ◌∙◌, arith}
use Rattle.std.specs.Prelude.{slice_get, replicate}
use Rattle.playout.specs.declared.call.Call.{Call}
use Rattle.step_table.specs.Packed.{Where}
use Rattle.slot_ring.specs.Seen.{PassView, no_lists}
use Rattle.slot_ring.specs.Remains.{AllGathered}
use Rattle.line_run.specs.declared.caller.Caller.{Caller}
use Rattle.line_run.specs.declared.player_caller.PlayerCaller.{PlayerCaller}
use Rattle.line_run.specs.Callers.{AreLists, AreNumbered, HasLists, Lists, PlayerThere}
use Rattle.line_run.proofs.Leaving.{same_pass}
use Rattle.line_run.proofs.Places.{at_below, at_exists, else_as_before, here_set}

abbrev nones : ℕ → Lists
nones n = replicate n None

length-none : (n : ℕ) → length (nones n) ≡ n
length-none zero = refl
length-none (suc n) = let h = length-none n in omega arith

pub many_lists : (filers : ℕ) → length (no_lists filers) ≡ filers + 1
many_lists filers = length-none (filers + 1)

-- the player's list was put behind those of the filers
pub put_last : (ring : Where) (a : PlayerCaller) (y gone : PassView) (mid last : Lists) → PlayerThere ring a → a.pass ≡ Some y → gone.who ≡ y.who → gone.list ≡ y.list → last ≡ set mid gone.who (Some gone.list)
    → last ≡ set mid ring.shape.filers (Some y.list)
put_last ring a y gone mid last there is who list put =
    let same : there.0 ≡ y = same_pass there.0 y (sym there.1 ∙ is) in
    let number : gone.who ≡ ring.shape.filers = who ∙ (ap (λ (x : PassView). x.who) (sym same) ∙ there.3) in
    put ∙ (λ i. set mid (number i) (Some (list i)))

pub are_lists : (filers : ℕ) (cs : List Caller) (a : PlayerCaller) (y : PassView) (first mid last : Lists) → length cs ≡ filers → a.pass ≡ Some y → first ≡ no_lists filers → HasLists cs first mid → last ≡ set mid filers (Some y.list)
    → AreLists filers cs a last
are_lists filers cs a y first mid last many is none h put =
    let room : length mid ≡ filers + 1 = h.long ∙ (ap length none ∙ many_lists filers) in
    record {
      of_filers = λ i c x at pass. ap (λ (l : Lists). slice_get l i) put ∙ (else_as_before mid filers i (Some y.list) (λ e. let low : i < length cs = at_below cs i c at in absurd (omega arith)) ∙ h.has i c x at pass);
      of_player = λ x pass. ap (λ (l : Lists). slice_get l filers) put ∙ (here_set mid filers (Some y.list) (omega arith) ∙ ap (λ (z : PassView). Some (Some z.list)) (same_pass y x (sym is ∙ pass)));
    }

pub all_gathered : (ring : Where) (filers : ℕ) (cs : List Caller) (a : PlayerCaller) (y : PassView) (last : Lists) → length cs ≡ filers → a.pass ≡ Some y → AreNumbered ring cs → AreLists filers cs a last → AllGathered filers last
all_gathered ring filers cs a y last many is numbered lists who low = go (near low)
  where
    near : who ≤ filers → (who < filers) ⊎ (who ≡ filers)
    near h = grind arith

    go : (who < filers) ⊎ (who ≡ filers) → (l : List Call) × (slice_get last who ≡ Some (Some l))
    go (inl below) = let c = at_exists cs who (let m : length cs ≡ filers = many in omega arith) in let x = numbered who c.0 c.1 in (x.0.list, lists.of_filers who c.0 x.0 c.1 x.1)
    go (inr e) = (y.list, ap (slice_get last) e ∙ lists.of_player y is)

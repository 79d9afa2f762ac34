-- What is given of a page.
use Rattle.std.specs.Prelude.{ℕ, ◌≡◌, List, ◌++◌, Option, Result, IfOk}
use Rattle.gate_io.specs.Flow.{Gives}

-- a prefix of the page was given, and the page has the rest
pub record GivesFront {T E : Type 0} (before now : Option (List ℕ)) (result : Result T E) (page page_now : List ℕ) : Type 0 where
  pub text : List ℕ
  pub rest : List ℕ
  pub parts : page ≡ text ++ rest
  pub given : Gives before now result text
  pub left : IfOk result (λ _. page_now ≡ rest)

-- A machine with its number of filers and of slots, as one thread holds it.
use Rattle.std.specs.Prelude.{◌≡◌, ℕ, ◌^◌, refl}
use Rattle.std.specs.Coded.{Coded, code_by, coded×, coded_ℕ}
use Rattle.playout.specs.declared.call.Call.{Call}
use Rattle.playout.specs.Machine.{Machine, machine_code, Replies, after}

-- the number of filers, g where there are 2 ^ g slots, and the machine
pub record Line : Type 0 where
  pub filers : ℕ
  pub g : ℕ
  pub machine : Machine

abbrev pub line_code : Coded Line
line_code = code_by (ℕ × (ℕ × Machine)) (coded× coded_ℕ (coded× coded_ℕ machine_code)) (λ l. (l.filers, (l.g, l.machine))) (λ p. record { filers = p.0; g = p.1.0; machine = p.1.1 }) (λ _. refl)

-- the line went on by this call, with the machine's reply
abbrev pub Steps : Line → Call → Line → Type 0
Steps old call new = Replies (2 ^ old.g) old.machine call × (new ≡ record old { machine = after old.machine call })

-- the same of a filer's side, whose caller stays
abbrev pub FilerSteps : Line × ℕ → Call → Line × ℕ → Type 0
FilerSteps old call new = Steps old.0 call new.0 × (new.1 ≡ old.1)

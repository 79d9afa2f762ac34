-- The program's command is a simple one, and what it refuses has a fault.
use Rattle.std.proofs.Common.{◌≡◌, cond, Bool, Option, None, List, true, false, [], ◌∷◌, inl, inr, refl, sym, ap, ◌∙◌}
use Rattle.command_line.specs.Lines.{is_none, is_taken, line_in, line_of}
use Rattle.clap.specs.Walk.{Row, Text}
use Rattle.clap.specs.Simple.{is_simple, subcommand_of}
use Rattle.clap.specs.Faults.{is_simple_and_free}
use Rattle.clap.specs.Kinds.{Kinds, HasKind}
use Rattle.clap.specs.Values.{kind_of}
use Rattle.clap.specs.declared.error.Error.{Error}
use Rattle.clap.specs.declared.error.kind.ErrorKind.TheVariants as kind
use Rattle.command_line.specs.Table.{gate_app}

pub gate_simple : is_simple gate_app ≡ true
gate_simple = refl

pub gate_free : is_simple_and_free gate_app ≡ true
gate_free = refl

pub refused : (kinds : Kinds) (e : Error) → HasKind kinds e → (kind_of e ≡ kind.OutOfMemory → ⊥) → is_none kinds ≡ false
refused [] e (inl memory) other = absurd (other memory)
refused [] e (inr among) other = absurd among
refused (k ∷ ks) e has other = refl

pub line_taken : (words : List Text) (found : Option (Text × List Row)) → is_taken words ≡ true → found ≡ subcommand_of gate_app words → line_of words ≡ line_in found
unfolding line_of
line_taken words found taken is = ap (λ (b : Bool). cond b (line_in (subcommand_of gate_app words)) None) taken ∙ ap line_in (sym is)

pub line_refused : (words : List Text) → is_taken words ≡ false → line_of words ≡ None
unfolding line_of
line_refused words refused = ap (λ (b : Bool). cond b (line_in (subcommand_of gate_app words)) None) refused

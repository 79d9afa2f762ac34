-- The places of a line.
use Rattle.std.specs.Prelude.{◌≡◌, ℕ, zero, suc, ◌+◌, List, [], ◌∷◌, ◌++◌, length, true, false, map, codes, decimal}
use Rattle.std.specs.String.{string_bytes}
use Rattle.command_line.specs.Said.{FilesSaid, ServeSaid, Text}
use Rattle.command_line.specs.Lines.{Said}
use Rattle.command_line.specs.declared.line.Line.TheVariants.{Files, Serve}
use Rattle.gsmgate.specs.declared.places.Places.{Places}

-- the places of a command over files
pub record AreFilePlaces (said : FilesSaid) (p : Places) : Type 0 where
  pub serve : p.serve ≡ false
  pub inputs : map string_bytes p.inputs.items ≡ said.inputs
  pub output : string_bytes p.output ≡ said.output
  pub links : map string_bytes p.links.items ≡ []
  pub reply : string_bytes p.reply ≡ []
  pub microphone : string_bytes p.microphone ≡ []
  pub speaker : string_bytes p.speaker ≡ []
  pub journals : map string_bytes p.journals.items ≡ []
  pub ticks : p.ticks ≡ 0

-- the names of this many filers' journals, from filer k on: the prefix, a dot and the filer's number
abbrev pub journals_from : Text → ℕ → ℕ → List Text
journals_from prefix k zero = []
journals_from prefix k (suc n) = (prefix ++ (codes "." ++ decimal k)) ∷ journals_from prefix (k + 1) n

-- the names of a line's journals: the player's, and one for each of this many filers
abbrev pub journals_of : Text → ℕ → List Text
journals_of prefix filers = (prefix ++ codes ".player") ∷ journals_from prefix 0 filers

-- the places of a line of serve
pub record AreServePlaces (said : ServeSaid) (p : Places) : Type 0 where
  pub serve : p.serve ≡ true
  pub inputs : map string_bytes p.inputs.items ≡ []
  pub output : string_bytes p.output ≡ []
  pub links : map string_bytes p.links.items ≡ said.listen
  pub reply : string_bytes p.reply ≡ said.reply
  pub microphone : string_bytes p.microphone ≡ said.microphone
  pub speaker : string_bytes p.speaker ≡ said.speaker
  pub journals : map string_bytes p.journals.items ≡ journals_of said.journals (length said.listen)
  pub ticks : p.ticks ≡ said.options.ticks

-- the places of a line
abbrev pub ArePlaces : Said → Places → Type 0
ArePlaces (Files said) p = AreFilePlaces said p
ArePlaces (Serve said) p = AreServePlaces said p

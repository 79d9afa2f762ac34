-- What lines of the program say.
use Rattle.std.specs.Prelude.{ℕ, List}
use Rattle.command_line.specs.declared.line.Command.{Command}
use Rattle.command_line.specs.declared.line.ServeOptions.{ServeOptions}

abbrev pub Text : Type 0
Text = List ℕ

-- a line over files: its command, and the words of its places
pub record FilesSaid : Type 0 where
  pub command : Command
  pub inputs : List Text
  pub output : Text

-- a line of serve: its options, and the words of its places
pub record ServeSaid : Type 0 where
  pub options : ServeOptions
  pub listen : List Text
  pub reply : Text
  pub speaker : Text
  pub microphone : Text
  pub journals : Text

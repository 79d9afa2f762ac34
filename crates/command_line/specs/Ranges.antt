-- The ranges of what a line says.
use Rattle.std.specs.Prelude.{◌≡◌, ℕ, ◌-◌, ◌^◌, ◌≤◌, ◌⊎◌, length}
use Rattle.command_line.specs.Said.{ServeSaid}
use Rattle.command_line.specs.Lines.{Said}
use Rattle.command_line.specs.declared.line.Command.{Command}
use Rattle.command_line.specs.declared.line.Command.TheVariants.{Simulate, Decode, Encode, Render, Verify, Make}
use Rattle.command_line.specs.declared.line.ServeOptions.{ServeOptions}
use Rattle.command_line.specs.declared.line.Line.TheVariants.{Files, Serve}

pub record IsMade (count filers inputs : ℕ) : Type 0 where
  pub has_count : 1 ≤ count
  pub count_fits : count ≤ 1000000
  pub has_filers : 1 ≤ filers
  pub filers_fit : filers ≤ 64
  pub no_input : inputs ≡ 0

-- a command with as many inputs as it reads, and its numbers in their ranges
abbrev pub IsCommand : Command → ℕ → Type 0
IsCommand (Simulate voice) inputs = inputs ≡ 1
IsCommand Decode inputs = inputs ≡ 1
IsCommand Encode inputs = inputs ≡ 1
IsCommand (Render seed) inputs = inputs ≡ 1
IsCommand Verify inputs = 2 ≤ inputs
IsCommand (Make seed count filers) inputs = IsMade count filers inputs

-- the options of serve in their ranges
pub record AreOptions (options : ServeOptions) : Type 0 where
  pub ring_fits : options.ring ≤ 10
  pub delay_fits : options.delay ≤ 2 ^ options.ring - 1
  pub has_ticks : 1 ≤ options.ticks
  pub ticks_fit : options.ticks ≤ 16000000
  pub has_report : 1 ≤ options.report
  pub report_fits : options.report ≤ 65535
  pub elastic_fits : options.elastic ≤ 15
  pub elastic_slots : (options.elastic ≡ 0) ⊎ (1 ≤ options.ring)

pub record IsServed (said : ServeSaid) : Type 0 where
  pub options_fit : AreOptions said.options
  pub has_links : 1 ≤ length said.listen
  pub links_fit : length said.listen ≤ 64

-- what a line says is in its ranges
abbrev pub IsWithin : Said → Type 0
IsWithin (Files said) = IsCommand said.command (length said.inputs)
IsWithin (Serve said) = IsServed said

-- The exit statuses of the program.
use Rattle.std.specs.Prelude.{ℕ}
use Rattle.gate_notes.specs.declared.status.Status.{Status}
use Rattle.gate_notes.specs.declared.status.Status.TheVariants.{Done, Illegal, Usage, Input, ReadFault, WriteFault, LinkFault, OutOfMemory}

abbrev pub exit_number : Status → ℕ
exit_number Done = 0
exit_number Illegal = 1
exit_number Usage = 2
exit_number Input = 3
exit_number ReadFault = 4
exit_number WriteFault = 5
exit_number LinkFault = 6
exit_number OutOfMemory = 7

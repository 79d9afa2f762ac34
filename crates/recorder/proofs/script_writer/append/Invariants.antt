use Rattle.std.proofs.Common.{◌≡◌, ◌++◌, take}
use Rattle.recorder.proofs.script_writer.append.Given as goal

abbrev pub invariant-loop-octet : goal.invariant-loop-octet
invariant-loop-octet l = l.whole.items ≡ l.fn.whole.items ++ take l.octet-index l.octets

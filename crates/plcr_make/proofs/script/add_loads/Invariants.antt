use Rattle.std.proofs.Common.{◌≡◌, ◌++◌, string_bytes}
use Rattle.plcr_make.specs.Numbers.{joined}
use Rattle.plcr_make.specs.Scripts.{load_line}
use Rattle.plcr_make.proofs.script.add_loads.Given as goal

abbrev pub invariant-loop-k : goal.invariant-loop-k
invariant-loop-k l = string_bytes l.text ≡ string_bytes l.initial.text ++ joined load_line l.k

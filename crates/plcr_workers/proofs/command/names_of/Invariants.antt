use Rattle.std.proofs.Common.{◌≡◌, ◌≤◌, length, map, take, vec_len, vec_capacity}
use Rattle.std.specs.Prelude.{string_bytes}
use Rattle.plcr_command.specs.Jobs.{texts}
use Rattle.plcr_workers.proofs.command.names_of.Given as goal

abbrev pub invariant-loop-word : goal.invariant-loop-word
invariant-loop-word l = (texts l.names.items ≡ map string_bytes (take l.word-index l.words)) × (vec_len l.names ≡ l.word-index) × (length l.words ≤ vec_capacity l.names)

use Rattle.std.proofs.Common.{◌≡◌, ◌+◌, ◌*◌, ◌≤◌, ◌-◌, length, map}
use Rattle.std.specs.List.{range_with_len}
use Rattle.plcr_wire.specs.Message.{spelling}
use Rattle.plcr_report.specs.Messages.{register_message}
use Rattle.plcr_regs.specs.Names.{register_count}
use Rattle.plcr_encode.specs.declared.limits.TheConstants.{FIELD_BYTES, REGISTER_BYTES}
use Rattle.plcr_encode.specs.inner.Rows.{message_fields}
use Rattle.plcr_encode.specs.Values.{register_at, registers_of}
use Rattle.plcr_encode.proofs.threads.registers_len.Given as goal

-- what is counted and what is left make up the whole
abbrev pub invariant-loop-i : goal.invariant-loop-i
invariant-loop-i l = record {
  size : l.length + length (spelling (message_fields 4 register_message (map (register_at l.state) (range_with_len l.i (register_count l.state.arch - l.i))))) ≡ length (spelling (message_fields 4 register_message (registers_of l.state)));
  short : l.length ≤ (FIELD_BYTES + REGISTER_BYTES) * l.i;
}

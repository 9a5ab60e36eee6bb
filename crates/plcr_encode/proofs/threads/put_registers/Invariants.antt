use Rattle.std.proofs.Common.{◌-◌, map}
use Rattle.std.specs.List.{range_with_len}
use Rattle.plcr_wire.specs.Message.{spelling}
use Rattle.plcr_report.specs.Messages.{register_message}
use Rattle.plcr_regs.specs.Names.{register_count}
use Rattle.plcr_encode.specs.inner.Rows.{message_fields}
use Rattle.plcr_encode.specs.Values.{register_at, registers_of}
use Rattle.plcr_encode.proofs.Rows.{WroteUpTo}
use Rattle.plcr_encode.proofs.threads.put_registers.Given as goal

-- the registers before i are written, and those from i on are left
abbrev pub invariant-loop-i : goal.invariant-loop-i
invariant-loop-i g l =
    WroteUpTo (g.W.Put.pen l.initial.ink) (g.W.Put.pen l.ink)
    (spelling (message_fields 4 register_message (registers_of l.state)))
    (spelling (message_fields 4 register_message (map (register_at l.state) (range_with_len l.i (register_count l.state.arch - l.i)))))

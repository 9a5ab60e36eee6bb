use Rattle.std.proofs.Common.{arith}
use Rattle.plcr_wire.specs.Pen.{Wrote}
use Rattle.plcr_wire.specs.Message.{field_spelling}
use Rattle.plcr_report.specs.Messages.{register_message}
use Rattle.plcr_regs.specs.Names.{register_count}
use Rattle.plcr_encode.specs.Values.{register_at}
use Rattle.plcr_encode.proofs.Rows.{up_to_more, ranged_left}
use Rattle.plcr_encode.proofs.threads.put_registers.Goals as goal
use Rattle.plcr_encode.specs.inner.Rows.{message_field}

pub loop-i-preserved : goal.loop-i-preserved
loop-i-preserved g c =
    let state = c.args.state.now in
    let i = c.loop-i.i in
    let wrote : Wrote (g.W.Put.pen c.loop-i.ink) (g.W.Put.pen c.put_message.new.ink) (field_spelling (message_field 4 (register_message (register_at state i)))) = rw (← c.register.ensures.name, ← c.register.ensures.value) c.put_message.ensures.wrote in
    up_to_more _ _ _ _ _ _ _ (ranged_left 4 register_message (register_at state) i (register_count state.arch) (omega arith)) c.loop-i.invariant wrote

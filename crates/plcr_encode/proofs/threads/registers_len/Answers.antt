use Rattle.std.proofs.Common.{◌≡◌, ◌≤◌, ◌+◌, ◌*◌, length, arith}
use Rattle.plcr_wire.specs.Message.{field_spelling}
use Rattle.plcr_report.specs.Messages.{register_message}
use Rattle.plcr_regs.specs.Names.{register_count}
use Rattle.plcr_encode.specs.declared.limits.TheConstants.{FIELD_BYTES, REGISTER_BYTES}
use Rattle.plcr_encode.specs.Values.{register_at}
use Rattle.plcr_encode.proofs.Rows.{ranged_left, sized_more}
use Rattle.plcr_encode.proofs.threads.registers_len.Goals as goal
use Rattle.plcr_encode.specs.inner.Rows.{message_field}

pub loop-i-preserved : goal.loop-i-preserved
loop-i-preserved c =
    let state = c.args.state.now in
    let i = c.loop-i.i in
    let size : c.message_len-length.result ≡ length (field_spelling (message_field 4 (register_message (register_at state i)))) = rw (← c.register.ensures.name, ← c.register.ensures.value) c.message_len-length.ensures.size in
    record {
      size = sized_more _ _ _ _ _ _ c.loop-i.invariant.size (ranged_left 4 register_message (register_at state) i (register_count state.arch) (omega arith)) size;
      short = let before : c.loop-i.length ≤ (FIELD_BYTES + REGISTER_BYTES) * i = c.loop-i.invariant.short in let short : c.message_len-length.result ≤ FIELD_BYTES + REGISTER_BYTES = c.message_len-length.ensures.short in omega arith;
    }

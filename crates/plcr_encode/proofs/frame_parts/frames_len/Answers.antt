use Rattle.std.proofs.Common.{◌<◌, ◌≤◌, ◌+◌, ◌*◌, length, arith}
use Rattle.plcr_report.specs.Messages.{frame_message}
use Rattle.plcr_encode.specs.declared.limits.TheConstants.{FIELD_BYTES, FRAME_BYTES}
use Rattle.plcr_encode.specs.inner.FrameRows.{frame_in}
use Rattle.plcr_encode.proofs.Told.{no_row}
use Rattle.plcr_encode.proofs.Rows.{items_left, sized_more}
use Rattle.plcr_encode.proofs.frame_parts.frames_len.Goals as goal

pub loop-row-preserved : goal.loop-row-preserved
loop-row-preserved c =
    let i = c.loop-row.row-index in
    let rows = c.args.rows.now in
    let inside : i < length rows = omega arith in
    record {
      size = sized_more _ _ _ _ _ _ c.loop-row.invariant.size (items_left 2 frame_message (frame_in c.args.memory.now) rows i no_row inside) c.message_len-length.ensures.size;
      short = let before : c.loop-row.length ≤ (FIELD_BYTES + FRAME_BYTES) * i = c.loop-row.invariant.short in let short : c.message_len-length.result ≤ FIELD_BYTES + FRAME_BYTES = c.message_len-length.ensures.short in omega arith;
    }

use Rattle.std.proofs.Common.{◌<◌, length, arith}
use Rattle.plcr_report.specs.Messages.{frame_message}
use Rattle.plcr_encode.specs.inner.FrameRows.{frame_in}
use Rattle.plcr_encode.proofs.Told.{no_row}
use Rattle.plcr_encode.proofs.Rows.{up_to_more, items_left}
use Rattle.plcr_encode.proofs.frame_parts.put_frames.Goals as goal

pub loop-row-preserved : goal.loop-row-preserved
loop-row-preserved g c =
    let i = c.loop-row.row-index in
    let rows = c.args.rows.now in
    let inside : i < length rows = omega arith in
    up_to_more _ _ _ _ _ _ _ (items_left 2 frame_message (frame_in c.args.memory.now) rows i no_row inside) c.loop-row.invariant c.put_message.ensures.wrote

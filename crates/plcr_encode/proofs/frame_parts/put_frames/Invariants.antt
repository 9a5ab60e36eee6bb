use Rattle.std.proofs.Common.{map, drop}
use Rattle.plcr_wire.specs.Message.{spelling}
use Rattle.plcr_report.specs.Messages.{frame_message}
use Rattle.plcr_encode.specs.inner.FrameRows.{frame_in}
use Rattle.plcr_encode.specs.inner.Rows.{message_fields}
use Rattle.plcr_encode.proofs.Rows.{WroteUpTo}
use Rattle.plcr_encode.proofs.frame_parts.put_frames.Given as goal

-- the frames before the index are written, and those from it on are left
abbrev pub invariant-loop-row : goal.invariant-loop-row
invariant-loop-row g l =
    WroteUpTo (g.W.Put.pen l.initial.ink) (g.W.Put.pen l.ink)
    (spelling (message_fields 2 frame_message (map (frame_in l.memory) l.rows)))
    (spelling (message_fields 2 frame_message (map (frame_in l.memory) (drop l.row-index l.rows))))

use Rattle.std.proofs.Common.{◌≡◌, ◌+◌, ◌*◌, ◌≤◌, length, map, drop}
use Rattle.plcr_wire.specs.Message.{spelling}
use Rattle.plcr_report.specs.Messages.{frame_message}
use Rattle.plcr_encode.specs.declared.limits.TheConstants.{FIELD_BYTES, FRAME_BYTES}
use Rattle.plcr_encode.specs.inner.FrameRows.{frame_in}
use Rattle.plcr_encode.specs.inner.Rows.{message_fields}
use Rattle.plcr_encode.proofs.frame_parts.frames_len.Given as goal

-- what is counted and what is left make up the whole
abbrev pub invariant-loop-row : goal.invariant-loop-row
invariant-loop-row l = record {
  size : l.length + length (spelling (message_fields 2 frame_message (map (frame_in l.memory) (drop l.row-index l.rows)))) ≡ length (spelling (message_fields 2 frame_message (map (frame_in l.memory) l.rows)));
  short : l.length ≤ (FIELD_BYTES + FRAME_BYTES) * l.row-index;
}

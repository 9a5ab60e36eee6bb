use Rattle.std.proofs.Common.{◌≡◌, ◌++◌, length, map}
use Rattle.plcr_cursor.specs.Walks.{IsIndex, arch_of, coming, located_last}
use Rattle.plcr_encode.specs.inner.FrameRows.{row_of}
use Rattle.plcr_encode.specs.inner.Groups.{walked}
use Rattle.plcr_encode.proofs.frames.walk_frames.Given as goal

-- the rows that are kept and the frames to come make up all frames
abbrev pub invariant-loop-pc : goal.invariant-loop-pc
invariant-loop-pc g l =
    let listed = g.I.Images.images l.fn.images in
    let row = row_of l.fn.known l.state.arch listed in
    record {
      kept : l.rows.items ++ map row (coming l.fn.known listed l.cursor) ≡ l.initial.rows.items ++ walked l.fn.known listed l.bits l.state;
      over : l.over ≡ located_last l.fn.known listed l.cursor;
      index : IsIndex l.fn.known (arch_of l.cursor) (g.I.Images.images l.images) (g.I.Images.extents l.images);
      arch : arch_of l.cursor ≡ l.state.arch;
      same : g.I.Images.images l.images ≡ listed;
      still : g.I.Images.extents l.images ≡ g.I.Images.extents l.fn.images;
      follows : g.I.Images.follows l.fn.images l.images;
      memory : l.known ≡ l.fn.known;
    }

abbrev pub decreases-loop-pc : goal.decreases-loop-pc
decreases-loop-pc g l = length (coming l.fn.known (g.I.Images.images l.fn.images) l.cursor)

use Rattle.std.proofs.Common.{◌≡◌, ◌+◌, ◌*◌, ◌≤◌, length, map, drop}
use Rattle.plcr_wire.specs.Message.{spelling}
use Rattle.plcr_report.specs.Messages.{image_message}
use Rattle.plcr_encode.specs.declared.limits.TheConstants.{FIELD_BYTES, IMAGE_BYTES}
use Rattle.plcr_encode.specs.Images.{image_of, images_of}
use Rattle.plcr_encode.specs.inner.Rows.{message_fields}
use Rattle.plcr_encode.proofs.Rows.{WroteUpTo}
use Rattle.plcr_encode.proofs.images.put_images.Given as goal

-- the images before i are written, those from it on are left, and length is that of what is written
abbrev pub invariant-loop-i : goal.invariant-loop-i
invariant-loop-i g l =
    let listed = g.I.Images.images l.fn.images in
    let left = spelling (message_fields 4 image_message (map (image_of l.memory l.arch) (drop l.i listed))) in
    let all = spelling (message_fields 4 image_message (images_of l.memory l.arch listed)) in
    record {
      wrote : WroteUpTo (g.W.Put.pen l.initial.ink) (g.W.Put.pen l.ink) all left;
      size : l.length + length left ≡ length all;
      short : l.length ≤ (FIELD_BYTES + IMAGE_BYTES) * l.i;
      same : g.I.Images.images l.images ≡ listed;
      follows : g.I.Images.follows l.fn.images l.images;
    }

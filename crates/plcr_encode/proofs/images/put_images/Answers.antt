use Rattle.std.proofs.Common.{◌+◌, ◌*◌, ◌<◌, ◌≤◌, [], length, ◌∙◌, arith}
use Rattle.plcr_report.specs.Messages.{image_message}
use Rattle.plcr_encode.specs.declared.limits.TheConstants.{FIELD_BYTES, IMAGE_BYTES}
use Rattle.plcr_encode.specs.Images.{image_of}
use Rattle.plcr_encode.proofs.Rows.{up_to_more, items_left, sized_more}
use Rattle.plcr_encode.proofs.images.put_images.Goals as goal

pub loop-i-preserved : goal.loop-i-preserved
loop-i-preserved g c =
    let i = c.loop-i.i in
    let listed = g.I.Images.images c.args.images.now in
    let count = c.count-i-end.ensures in
    let before = c.loop-i-test.true in
    let inside : i < length listed = omega (arith, count, before) in
    let image = image_of c.args.memory.now c.args.arch in
    let left = items_left 4 image_message image listed i (record { header = 0; name = [] }) inside in
    let wrote = rw c.loop-i.invariant.same at c.put_image-length.ensures.wrote in
    let size = rw c.loop-i.invariant.same at c.put_image-length.ensures.size in
    let short : c.put_image-length.result ≤ FIELD_BYTES + IMAGE_BYTES = c.put_image-length.ensures.short in
    record {
      wrote = up_to_more _ _ _ _ _ _ _ left c.loop-i.invariant.wrote wrote;
      size = sized_more _ _ _ _ _ _ c.loop-i.invariant.size left size;
      short = let earlier : c.loop-i.length ≤ (FIELD_BYTES + IMAGE_BYTES) * i = c.loop-i.invariant.short in omega arith;
      same = c.put_image-length.ensures.same ∙ c.loop-i.invariant.same;
      follows = g.met.I.Images.follows_on _ _ _ c.loop-i.invariant.follows c.put_image-length.ensures.follows;
    }

use Rattle.std.proofs.Common.{◌∙◌}
use Rattle.plcr_encode.proofs.Parsed.{image_is}
use Rattle.plcr_encode.proofs.images.put_image.Goals as goal

pub returns-clause-wrote : goal.returns-clause-wrote
returns-clause-wrote g c =
    let named = c.as_slice.ensures.value ∙ c.read_name.ensures.name in
    let is = image_is _ _ _ _ _ _ _ _ c.header-header.ensures.header c.header-header.ensures.same named c.parse-found.ensures in
    rw is at c.put_message.ensures.wrote

pub returns-clause-size : goal.returns-clause-size
returns-clause-size g c =
    let named = c.as_slice.ensures.value ∙ c.read_name.ensures.name in
    let is = image_is _ _ _ _ _ _ _ _ c.header-header.ensures.header c.header-header.ensures.same named c.parse-found.ensures in
    rw is at c.put_message.ensures.size

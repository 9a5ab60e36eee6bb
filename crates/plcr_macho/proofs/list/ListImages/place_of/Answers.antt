use Rattle.std.proofs.Common.{◌∙◌, length, ap}
use Rattle.plcr_macho.specs.Index.{located}
use Rattle.plcr_macho.specs.Plain.{PlainList}
use Rattle.plcr_macho.proofs.Indexing.{located_in}
use Rattle.plcr_macho.proofs.list.ListImages.place_of.Goals as goal

pub returns-in-Some : goal.returns-in-Some
returns-in-Some c =
    let l = c.self.inside in
    c.locate_in.ensures ∙ located_in (length l.images.now) l.room.now l.filled c.in-Some.filled c.args.address c.in-Some.is c.self.invariant.1 ∙ ap (λ (x : PlainList). located x.extents c.args.address) c.self.view_is

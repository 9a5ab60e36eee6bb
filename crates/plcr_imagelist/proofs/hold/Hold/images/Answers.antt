use Rattle.std.proofs.Common.{All, length, ◌≤◌, subst, arith}
use Rattle.plcr_base.specs.Limits.{IsImageName}
use Rattle.plcr_machine.specs.declared.limits.TheConstants.{MOST_NODES}
use Rattle.plcr_macho.specs.Images.{Listed}
use Rattle.plcr_imagelist.specs.Holds.{HoldState}
use Rattle.plcr_imagelist.specs.Walk.{images_of}
use Rattle.plcr_imagelist.proofs.Meeting.{length-images_on}
use Rattle.plcr_imagelist.proofs.Reread.{length-named, named_short}
use Rattle.plcr_imagelist.proofs.hold.Hold.images.Goals as goal

pub returns-clause-short : goal.returns-clause-short
returns-clause-short c =
    let h = c.self.inside in
    subst (λ (s : HoldState). All (λ (x : Listed). IsImageName x.name) (images_of s)) c.self.view_is (named_short h.pass.names c.self.invariant.0.walking.short h.met.items h.pass.history)

pub returns-clause-few : goal.returns-clause-few
returns-clause-few c =
    let h = c.self.inside in
    let walking = c.self.invariant.0.walking in
    let size = length-named h.pass.names h.met.items h.pass.history in
    let met = length-images_on h.met.items h.pass.history in
    let few = walking.few in let nodes = walking.known.few_nodes in
    subst (λ (s : HoldState). length (images_of s) ≤ MOST_NODES) c.self.view_is (omega arith)

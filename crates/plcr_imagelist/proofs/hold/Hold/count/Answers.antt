use Rattle.std.proofs.Common.{◌≡◌, length, subst, arith}
use Rattle.plcr_imagelist.specs.Holds.{HoldState}
use Rattle.plcr_imagelist.specs.Walk.{images_of}
use Rattle.plcr_imagelist.proofs.Reread.{length-named}
use Rattle.plcr_imagelist.proofs.hold.Hold.count.Goals as goal

pub returns : goal.returns
returns c =
    let h = c.self.inside in
    let size = length-named h.pass.names h.met.items h.pass.history in let whole = h.met.ok.0 in let is = c.len.ensures in
    subst (λ (s : HoldState). c.len.result ≡ length (images_of s)) c.self.view_is (omega arith)

use Rattle.std.proofs.Common.{◌≡◌, length, subst, arith}
use Rattle.plcr_imagelist.specs.Holds.{HoldState}
use Rattle.plcr_imagelist.proofs.Meeting.{length-images_on}
use Rattle.plcr_imagelist.proofs.hold.Hold.met.Goals as goal

pub overflow_cast-result : goal.overflow_cast-result
overflow_cast-result c =
    let h = c.self.inside in let w = c.self.invariant.0.walking in
    let few = w.few in let most = w.known.few_nodes in let size = length-images_on h.met.items h.pass.history in let whole = h.met.ok.0 in let is = c.len.ensures in omega arith

pub returns : goal.returns
returns c =
    let h = c.self.inside in
    let size = length-images_on h.met.items h.pass.history in let whole = h.met.ok.0 in let is = c.len.ensures in
    subst (λ (s : HoldState). c.len.result ≡ length s.met) c.self.view_is (omega arith)

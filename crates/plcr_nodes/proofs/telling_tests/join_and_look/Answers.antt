use Rattle.std.proofs.Common.{sym, subst}
use Rattle.plcr_nodes.specs.Owning.{IsLooked}
use Rattle.plcr_nodes.proofs.Joining.{joined_quiet}
use Rattle.plcr_nodes.proofs.telling_tests.join_and_look.Goals as goal

pub returns : goal.returns
returns c =
    let pass = c.requires.pass in
    record { none = joined_quiet _ _ _ _ _ c.join.ensures.joined (subst (λ n. IsLooked c.join.new.self n c.look.result c.look.new.self) (sym pass.1) c.look.ensures.looked) pass.0.1 }

use Rattle.std.proofs.Common.{rules, tests}
use Rattle.std.proofs.lemmas.Slice.Eq.{slice_eq-Decides}
use Rattle.plcr_machine.proofs.plain.walks.is_same.Goals as goal

pub returns : goal.returns
returns c = slice_eq-Decides (λ a b. search (rules, tests)) c.args.met.now c.args.list.now _ c.eq.ensures

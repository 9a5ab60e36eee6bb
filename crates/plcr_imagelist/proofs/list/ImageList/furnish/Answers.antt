use Rattle.std.proofs.Common.{◌∙◌, All, List, map, sym, ap, subst}
use Rattle.plcr_nodes.specs.Tokens.{PassState}
use Rattle.plcr_imagelist.specs.States.{WriterState}
use Rattle.plcr_imagelist.specs.Opening.{StartsEmpty}
use Rattle.plcr_imagelist.specs.inner.Keeping.{writer_state}
use Rattle.plcr_imagelist.specs.inner.Holding.{walker_state, IsReady}
use Rattle.plcr_imagelist.proofs.Opened.{opened_ready, opened_empty, walkers-opened}
use Rattle.plcr_imagelist.proofs.list.ImageList.furnish.Goals as goal

pub open_all-requires : goal.open_all-requires
open_all-requires c =
    subst (λ (xs : List PassState). All (IsReady c.args.nodes) xs) (sym c.requires.opened.numbered) (opened_ready c.args.table c.args.nodes c.args.passes c.requires.sized c.args.passes)

pub returns-clause-first : goal.returns-clause-first
returns-clause-first c =
    subst (λ (s : WriterState). StartsEmpty s) (sym (c.in_ok-writer.ensures ∙ ap writer_state c.requires.opened.owning)) (opened_empty c.args.table c.args.nodes c.args.passes c.requires.sized)

pub returns-clause-opened : goal.returns-clause-opened
returns-clause-opened c = record {
  writing = c.in_ok-writer.ensures ∙ ap writer_state c.requires.opened.owning;
  numbered = c.in_ok-all.ensures ∙ ap (map walker_state) c.requires.opened.numbered ∙ walkers-opened c.args.table c.args.nodes c.args.passes c.args.passes;
}

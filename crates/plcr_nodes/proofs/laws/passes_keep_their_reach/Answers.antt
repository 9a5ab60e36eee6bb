use Rattle.plcr_nodes.proofs.Seeing.{own_of}
use Rattle.plcr_nodes.proofs.Known.{stands_as_before}
use Rattle.plcr_nodes.proofs.Staying.{reach_stays, image_stays, name_stays}
use Rattle.plcr_nodes.proofs.laws.passes_keep_their_reach.Goals as goal

pub returns : goal.returns
returns c nodes passes p old all old_names names g named = (
  stands_as_before p old all (own_of p old all g.added),
  λ n r. record {
    reach = reach_stays nodes passes p n old all old_names names g r;
    image = image_stays nodes passes p n old all old_names names g r;
    name = name_stays nodes passes p n old all old_names names g r named;
  },
)

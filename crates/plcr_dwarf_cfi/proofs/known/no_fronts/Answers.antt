use Rattle.std.proofs.Common.{subst, sym}
use Rattle.std.proofs.lemmas.List.{get_or-replicate}
use Rattle.plcr_dwarf_cfi.specs.declared.known.KnownFront.{KnownFront}
use Rattle.plcr_dwarf_cfi.specs.declared.known.TheConstants.{KNOWN_FRONTS}
use Rattle.plcr_dwarf_cfi.specs.inner.Keeping.{FrontHolds}
use Rattle.plcr_dwarf_cfi.proofs.known.no_fronts.Goals as goal

pub returns : goal.returns
returns c k d within =
    subst (λ (known : KnownFront). FrontHolds c.args.memory.now known) (sym (get_or-replicate KNOWN_FRONTS k c.no_front.result d within)) c.no_front.ensures

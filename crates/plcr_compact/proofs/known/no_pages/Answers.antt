use Rattle.std.proofs.Common.{Option, None, subst, sym}
use Rattle.std.proofs.lemmas.List.{get_or-replicate}
use Rattle.plcr_compact.specs.declared.known.KnownPage.{KnownPage}
use Rattle.plcr_compact.specs.declared.known.TheConstants.{KNOWN_PAGES}
use Rattle.plcr_compact.specs.inner.Keeping.{PageHolds}
use Rattle.plcr_compact.proofs.known.no_pages.Goals as goal

pub returns : goal.returns
returns c k d within = subst (λ (known : Option KnownPage). PageHolds c.args.memory.now known) (sym (get_or-replicate KNOWN_PAGES k None d within)) tt

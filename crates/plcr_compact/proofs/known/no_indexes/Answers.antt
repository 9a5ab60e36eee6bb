use Rattle.std.proofs.Common.{Option, None, subst, sym}
use Rattle.std.proofs.lemmas.List.{get_or-replicate}
use Rattle.plcr_compact.specs.declared.known.KnownIndex.{KnownIndex}
use Rattle.plcr_compact.specs.declared.known.TheConstants.{KNOWN_INDEXES}
use Rattle.plcr_compact.specs.inner.Keeping.{IndexHolds}
use Rattle.plcr_compact.proofs.known.no_indexes.Goals as goal

pub returns : goal.returns
returns c k d within = subst (λ (known : Option KnownIndex). IndexHolds c.args.memory.now known) (sym (get_or-replicate KNOWN_INDEXES k None d within)) tt

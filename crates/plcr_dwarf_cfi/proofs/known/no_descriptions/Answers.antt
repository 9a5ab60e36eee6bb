use Rattle.std.proofs.Common.{Option, None, subst, sym}
use Rattle.std.proofs.lemmas.List.{get_or-replicate}
use Rattle.plcr_dwarf_cfi.specs.declared.known.KnownDescription.{KnownDescription}
use Rattle.plcr_dwarf_cfi.specs.declared.known.TheConstants.{KNOWN_DESCRIPTIONS}
use Rattle.plcr_dwarf_cfi.specs.inner.Keeping.{Holds}
use Rattle.plcr_dwarf_cfi.proofs.known.no_descriptions.Goals as goal

pub returns : goal.returns
returns c k d within = subst (λ (known : Option KnownDescription). Holds c.args.memory.now known) (sym (get_or-replicate KNOWN_DESCRIPTIONS k None d within)) tt

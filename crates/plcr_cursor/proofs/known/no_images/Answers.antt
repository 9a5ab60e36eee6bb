use Rattle.std.proofs.Common.{Option, None, subst, sym}
use Rattle.std.proofs.lemmas.List.{get_or-replicate}
use Rattle.plcr_cursor.specs.declared.known.KnownImage.{KnownImage}
use Rattle.plcr_cursor.specs.declared.known.TheConstants.{KNOWN_IMAGES}
use Rattle.plcr_cursor.specs.inner.Keeping.{Holds}
use Rattle.plcr_cursor.proofs.known.no_images.Goals as goal

pub returns : goal.returns
returns c k d within =
    subst (λ (known : Option KnownImage). Holds c.args.memory.now known) (sym (get_or-replicate KNOWN_IMAGES k None d within)) tt

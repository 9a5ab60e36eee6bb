use Rattle.std.proofs.Common.{◌≡◌, ◌+◌}
use Rattle.plcr_imagelist.specs.inner.Making.{stores_after}
use Rattle.plcr_imagelist.proofs.words.store_image.Given as goal

abbrev pub invariant-loop-word : goal.invariant-loop-word
invariant-loop-word l = l.owner ≡ record l.fn.owner { filled = stores_after l.node l.header l.name (l.word + 2) l.fn.owner.filled }

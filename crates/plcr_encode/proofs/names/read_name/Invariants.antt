use Rattle.std.proofs.Common.{◌≡◌, ◌*◌, take}
use Rattle.plcr_macho.specs.Images.{listed_at}
use Rattle.plcr_encode.proofs.names.read_name.Given as goal

-- the words before j are read
abbrev pub invariant-loop-j : goal.invariant-loop-j
invariant-loop-j g l = record {
  read : l.name.items ≡ take (8 * l.j) (listed_at (g.I.Images.images l.fn.images) l.i).name;
  same : g.I.Images.images l.images ≡ g.I.Images.images l.fn.images;
  follows : g.I.Images.follows l.fn.images l.images;
}

use Rattle.std.specs.Prelude.{◌≡◌, ◌≤◌, take}
use Rattle.plcr_macho.specs.Spots.{extents_of}
use Rattle.plcr_macho.proofs.Indexing.{IsFront}
use Rattle.plcr_imagelist.specs.inner.Indexing.{met_on, StaysHeld}
use Rattle.plcr_imagelist.proofs.index.index_met.Given as goal

abbrev pub invariant-loop-at : goal.invariant-loop-at
invariant-loop-at l = record {
  front : IsFront l.fn.memory l.fn.arch (met_on l.fn.pass l.fn.met) l.at (extents_of (take l.filled l.room));
  few : l.filled ≤ l.at;
  held : StaysHeld l.fn.pass l.fn.met l.pass;
  table : l.pass.table ≡ l.fn.pass.table;
  nodes : l.pass.nodes ≡ l.fn.pass.nodes;
}

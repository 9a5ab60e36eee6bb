use Rattle.std.proofs.Common.{◌≡◌, ◌-◌, ◌≤◌, length, map, take}
use Rattle.std.specs.List.{flat_map}
use Rattle.plcr_encode.specs.inner.Groups.{count_of, walked}
use Rattle.plcr_encode.proofs.frames.walk_threads.Given as goal

-- the frames of the first threads are walked over
abbrev pub invariant-loop-taken : goal.invariant-loop-taken
invariant-loop-taken g l =
    let listed = g.I.Images.images l.fn.images in
    record {
      within : l.taken ≤ length l.states;
      rows : l.rows.items ≡ flat_map (walked l.fn.known listed l.bits) (take l.taken l.states);
      counts : l.counts.items ≡ map (count_of (walked l.fn.known listed l.bits)) (take l.taken l.states);
      same : g.I.Images.images l.images ≡ listed;
      still : g.I.Images.extents l.images ≡ g.I.Images.extents l.fn.images;
      follows : g.I.Images.follows l.fn.images l.images;
      memory : l.known ≡ l.fn.known;
    }

abbrev pub decreases-loop-taken : goal.decreases-loop-taken
decreases-loop-taken g l = length l.states - l.taken

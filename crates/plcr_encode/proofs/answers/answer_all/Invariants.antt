use Rattle.std.proofs.Common.{◌≡◌, ◌-◌, ◌≤◌, length, map, take}
use Rattle.plcr_encode.specs.inner.FrameRows.{symbol_by}
use Rattle.plcr_encode.specs.inner.Lookups.{answer}
use Rattle.plcr_encode.proofs.answers.answer_all.Given as goal

-- the first lookups are answered
abbrev pub invariant-loop-done : goal.invariant-loop-done
invariant-loop-done g l =
    let listed = g.I.Images.images l.fn.images in
    record {
      within : l.done ≤ length l.lookups;
      room : length l.found ≡ length l.lookups;
      answers : take l.done l.found ≡ map (answer (symbol_by l.memory l.arch listed)) (take l.done l.lookups);
      same : g.I.Images.images l.images ≡ listed;
      still : g.I.Images.extents l.images ≡ g.I.Images.extents l.fn.images;
      follows : g.I.Images.follows l.fn.images l.images;
    }

abbrev pub decreases-loop-done : goal.decreases-loop-done
decreases-loop-done g l = length l.lookups - l.done

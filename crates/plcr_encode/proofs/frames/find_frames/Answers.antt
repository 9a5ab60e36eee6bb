use Rattle.std.proofs.Common.{List, map, take, sym, ap, subst, ◌∙◌}
use Rattle.std.specs.Prelude.{All}
use Rattle.std.proofs.lemmas.List.Elements.{All-take}
use Rattle.plcr_regs.specs.States.{IsWhole}
use Rattle.plcr_encode.specs.declared.frame_rows.FrameRow.{FrameRow}
use Rattle.plcr_encode.specs.inner.FrameRows.{IsNamedIn, IsPlaced, frame_in}
use Rattle.plcr_encode.proofs.Groups.{counts_same, few_told, threads_hold, threads_placed}
use Rattle.plcr_encode.proofs.Placed.{rows_named}
use Rattle.plcr_encode.proofs.frames.find_frames.Goals as goal

pub find_symbols-requires : goal.find_symbols-requires
find_symbols-requires g c =
    let memory = c.args.known.now in
    let listed = g.I.Images.images c.args.images.now in
    let states = take c.walk_threads-count.result c.args.states.now in
    rw c.walk_threads-count.ensures.same
    (subst (λ (rows : List FrameRow). All (IsPlaced listed) rows) (sym c.walk_threads-count.ensures.rows) (threads_placed memory listed c.args.bits states))

pub returns-clause-rows : goal.returns-clause-rows
returns-clause-rows g c =
    let memory = c.args.memory.now in
    let listed = g.I.Images.images c.args.images.now in
    let states = take c.walk_threads-count.result c.args.states.now in
    let whole = All-take (IsWhole c.args.arch) c.walk_threads-count.result c.args.states.now c.requires.whole in
    let walked = rw c.requires.memory at c.walk_threads-count.ensures.rows in
    let counted = rw c.requires.memory at c.walk_threads-count.ensures.counts in
    let found = rw (c.walk_threads-count.ensures.same, walked) at c.find_symbols.ensures.found in
    record {
      told = ap (map (frame_in memory)) found ∙ threads_hold memory listed c.args.bits c.args.arch states whole;
      split = c.find_symbols.ensures.counts ∙ counted ∙ counts_same memory listed c.args.bits states;
      few = few_told memory listed c.args.bits;
    }

pub returns-clause-named : goal.returns-clause-named
returns-clause-named g c =
    let memory = c.args.memory.now in
    let found = c.find_symbols.ensures.found in
    subst (λ (rows : List FrameRow). All (IsNamedIn memory) rows) (sym found) (rows_named memory c.args.arch (g.I.Images.images c.walk_threads-count.new.images) c.walk_threads-count.new.rows.items)

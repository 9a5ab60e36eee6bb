use Rattle.std.proofs.Common.{◌≡◌, ◌+◌, ◌-◌, ◌<◌, ◌≤◌, ◌++◌, List, [], length, get_or, take, Some, ap, sym, ◌∙◌, length-append, arith}
use Rattle.std.proofs.lemmas.List.{length-map, length-take-le}
use Rattle.plcr_regs.specs.declared.arch.Arch.TheVariants.{X86_64}
use Rattle.plcr_regs.specs.declared.limits.TheConstants.{MOST_REGISTERS}
use Rattle.plcr_regs.specs.declared.registers.Registers.{Registers}
use Rattle.plcr_regs.specs.States.{IsWhole}
use Rattle.plcr_regs.proofs.KnownRegisters.{pc_known}
use Rattle.plcr_macho.specs.Index.{index_of}
use Rattle.plcr_encode.specs.declared.frame_rows.FrameRow.{FrameRow}
use Rattle.plcr_encode.specs.inner.Groups.{count_of, walked}
use Rattle.plcr_encode.proofs.Groups.{counts_more, flat_more}
use Rattle.plcr_encode.proofs.frames.walk_threads.Goals as goal

pub walk_frames-requires : goal.walk_frames-requires
walk_frames-requires g c =
    let i = c.loop-taken.taken in
    let none : Registers = record { arch = X86_64; value = [] } in
    let state = get_or c.args.states.now i none in
    let most = c.min-most.ensures in
    let inside : i < length c.args.states.now = omega (arith, most, c.loop-taken-test.true) in
    let whole : IsWhole c.requires.index.0 state = c.requires.index.1 i none inside in
    let long : MOST_REGISTERS ≤ length state.value = omega arith in
    let arch = sym whole.same in
    let images = sym c.loop-taken.invariant.same in
    let memory = sym c.loop-taken.invariant.memory in
    record {
      known = pc_known c.requires.index.0 state whole long;
      bits = c.requires.bits;
      room = let some = c.len.ensures.value in omega (arith, some, c.if-len-le-MOST_FRAMES.true);
      index = c.loop-taken.invariant.still ∙ (c.requires.index.2 ∙ (λ k. Some (index_of (memory k) (arch k) (images k))));
    }

pub push-requires : goal.push-requires
push-requires g c =
    let states = c.args.states.now in
    let i = c.loop-taken.taken in
    let of = walked c.args.known.now (g.I.Images.images c.args.images.now) c.args.bits in
    let most = c.min-most.ensures in
    let count : length c.loop-taken.counts.items ≡ i =
    ap length c.loop-taken.invariant.counts ∙ length-map (take i states) (count_of of) ∙ length-take-le i states c.loop-taken.invariant.within in
    (omega arith, omega (arith, most, count, c.loop-taken-test.true))

pub loop-taken-preserved : goal.loop-taken-preserved
loop-taken-preserved g c =
    let states = c.args.states.now in
    let i = c.loop-taken.taken in
    let none : Registers = record { arch = X86_64; value = [] } in
    let of = walked c.args.known.now (g.I.Images.images c.args.images.now) c.args.bits in
    let most = c.min-most.ensures in
    let inside : i < length states = omega (arith, most, c.loop-taken-test.true) in
    let found = rw (c.loop-taken.invariant.memory, c.loop-taken.invariant.same) at c.walk_frames.ensures.found in
    let sum : length c.walk_frames.new.rows.items ≡ length c.loop-taken.rows.items + length (of (get_or states i none)) =
    ap length found ∙ length-append c.loop-taken.rows.items (of (get_or states i none)) in
    let count : c.len-in-loop-taken.result - c.len-before.result ≡ length (of (get_or states i none)) = let before = c.len-before.ensures.value in let after = c.len-in-loop-taken.ensures.value in omega (arith, sum, before, after) in
    record {
      within = omega (arith, inside);
      rows = found ∙ ap (λ (rows : List FrameRow). rows ++ of (get_or states i none)) c.loop-taken.invariant.rows ∙ sym (flat_more of states i none inside);
      counts = counts_more of states i (c.len-in-loop-taken.result - c.len-before.result) c.loop-taken.counts.items c.push.new.self.items none inside count c.loop-taken.invariant.counts c.push.ensures.items;
      same = c.walk_frames.ensures.same ∙ c.loop-taken.invariant.same;
      still = c.walk_frames.ensures.index ∙ c.loop-taken.invariant.still;
      follows = g.met.I.Images.follows_on _ _ _ c.loop-taken.invariant.follows c.walk_frames.ensures.follows;
      memory = c.walk_frames.ensures.memory ∙ c.loop-taken.invariant.memory;
    }

use Rattle.std.proofs.Common.{◌≡◌, ◌+◌, ◌-◌, ◌*◌, ◌≤◌, ℕ, List, length, map, take, drop, sym, ap, subst, ◌∙◌, arith}
use Rattle.std.specs.List.{enumerate_from}
use Rattle.std.proofs.lemmas.List.{length-drop, length-take-le, take_rest}
use Rattle.plcr_wire.specs.Pen.{Wrote}
use Rattle.plcr_wire.specs.Message.{spelling}
use Rattle.plcr_regs.specs.declared.registers.Registers.{Registers}
use Rattle.plcr_report.specs.Messages.{thread_message}
use Rattle.plcr_encode.specs.declared.frame_rows.FrameRow.{FrameRow}
use Rattle.plcr_encode.specs.declared.limits.TheConstants.{FIELD_BYTES, THREAD_BYTES}
use Rattle.plcr_encode.specs.Frames.{thread_frames}
use Rattle.plcr_encode.specs.Values.{thread_of}
use Rattle.plcr_encode.specs.inner.Groups.{AreRowsOf}
use Rattle.plcr_encode.specs.inner.Rows.{message_fields}
use Rattle.plcr_encode.proofs.Groups.{group_left}
use Rattle.plcr_encode.proofs.Rows.{sized_more, up_to_more}
use Rattle.plcr_encode.proofs.threads.put_threads.Goals as goal

pub loop-done-preserved : goal.loop-done-preserved
loop-done-preserved g c =
    let memory = c.args.memory.now in
    let states = c.args.states.now in
    let context = c.args.context.now in
    let listed = g.I.Images.images c.args.images.now in
    let done = c.loop-done.done in
    let n = c.find_frames-count.result in
    let rest : List Registers = take (length states - done) (drop done states) in
    let frames = thread_frames memory listed context.bits in
    let thread = thread_of memory listed context in
    let whole : length rest ≡ length states - done = ap length (take_rest states done) ∙ length-drop done states in
    let inside : done + n ≤ length states = omega (arith, whole, c.find_frames-count.ensures.within, c.loop-done.invariant.within) in
    let told = rw c.loop-done.invariant.same at c.find_frames-count.ensures.rows in
    let are : AreRowsOf frames memory c.rows.result.now c.counts.result.now (take n rest) =
    subst (λ (rows : List FrameRow). AreRowsOf frames memory rows c.counts.result.now (take n rest)) (sym c.rows.ensures)
    (subst (λ (counts : List ℕ). AreRowsOf frames memory c.find_frames-count.new.room.rows.items counts (take n rest)) (sym c.counts.ensures) told) in
    let bytes = λ (ss : List Registers). spelling (message_fields 3 thread_message (map thread (enumerate_from done (take n ss)))) in
    let mid = g.W.Put.pen c.loop-done.ink in
    let new = g.W.Put.pen c.put_group-length.new.ink in
    let wrote : Wrote mid new (bytes (drop done states)) = subst (λ (ss : List Registers). Wrote mid new (bytes ss)) (take_rest states done) (c.put_group-length.ensures.wrote frames are) in
    let size : c.put_group-length.result ≡ length (bytes (drop done states)) = c.put_group-length.ensures.size frames are ∙ ap (λ (ss : List Registers). length (bytes ss)) (take_rest states done) in
    let left = group_left thread states done n inside in
    let count : length (take n rest) ≡ n = length-take-le n rest c.find_frames-count.ensures.within in
    let short : c.put_group-length.result ≤ (FIELD_BYTES + THREAD_BYTES) * length (take n rest) = c.put_group-length.ensures.short in
    record {
      within = inside;
      wrote = up_to_more _ _ _ _ _ _ _ left c.loop-done.invariant.wrote wrote;
      size = sized_more _ _ _ _ _ _ c.loop-done.invariant.size left size;
      short = let before : c.loop-done.length ≤ (FIELD_BYTES + THREAD_BYTES) * done = c.loop-done.invariant.short in omega (arith, before, short, count);
      same = c.find_frames-count.ensures.same ∙ c.loop-done.invariant.same;
      still = c.find_frames-count.ensures.index ∙ c.loop-done.invariant.still;
      follows = g.met.I.Images.follows_on _ _ _ c.loop-done.invariant.follows c.find_frames-count.ensures.follows;
      memory = c.find_frames-count.ensures.memory ∙ c.loop-done.invariant.memory;
    }

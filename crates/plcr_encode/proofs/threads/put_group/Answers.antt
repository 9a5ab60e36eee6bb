use Rattle.std.proofs.Common.{◌+◌, ◌*◌, ◌≤◌, List, [], get_or, sym, subst, arith}
use Rattle.std.specs.Prelude.{All}
use Rattle.std.proofs.lemmas.List.Elements.{All-drop, All-take}
use Rattle.plcr_regs.specs.declared.arch.Arch.TheVariants.{X86_64}
use Rattle.plcr_regs.specs.declared.registers.Registers.{Registers}
use Rattle.plcr_encode.specs.declared.frame_rows.FrameRow.{FrameRow}
use Rattle.plcr_encode.specs.declared.limits.TheConstants.{FIELD_BYTES, THREAD_BYTES}
use Rattle.plcr_encode.specs.inner.FrameRows.{IsNamedIn}
use Rattle.plcr_encode.proofs.Groups.{WrittenUpTo, count_few, count_fits, counts_length, written_end, written_more}
use Rattle.plcr_encode.proofs.threads.put_group.Goals as goal

pub bounds-counts-k : goal.bounds-counts-k
bounds-counts-k g c =
    let size = counts_length c.requires.rows.0 c.args.memory.now c.args.rows.now c.args.counts.now c.args.states.now c.requires.rows.1 in
    omega (arith, size, c.loop-k-test.true)

pub split_at-requires : goal.split_at-requires
split_at-requires g c =
    let none : Registers = record { arch = X86_64; value = [] } in
    let frames = c.requires.rows.0 in
    let are = c.requires.rows.1 in
    count_fits frames c.args.memory.now c.args.rows.now c.args.counts.now c.args.states.now are c.loop-k.rest.now c.loop-k.k none c.loop-k-test.true (c.loop-k.invariant.given frames are).left

pub put_message-length-requires-clause-fits : goal.put_message-length-requires-clause-fits
put_message-length-requires-clause-fits g c =
    let none : Registers = record { arch = X86_64; value = [] } in
    let few = count_few c.requires.rows.0 c.args.memory.now c.args.rows.now c.args.counts.now c.args.states.now c.requires.rows.1 c.loop-k.k none c.loop-k-test.true in
    record {
      few = omega (arith, few, c.split_at.ensures.front_len);
      named = subst (λ (rows : List FrameRow). All (IsNamedIn c.args.memory.now) rows) (sym c.split_at.ensures.front)
          (All-take (IsNamedIn c.args.memory.now) (get_or c.args.counts.now c.loop-k.k 0) c.loop-k.rest.now c.loop-k.invariant.named);
    }

pub loop-k-preserved : goal.loop-k-preserved
loop-k-preserved g c =
    let none : Registers = record { arch = X86_64; value = [] } in
    let memory = c.args.memory.now in
    let states = c.args.states.now in
    let counts = c.args.counts.now in
    let k = c.loop-k.k in
    let wrote = rw c.split_at.ensures.front at c.put_message-length.ensures.wrote in
    let size = rw c.split_at.ensures.front at c.put_message-length.ensures.size in
    let old = g.W.Put.pen c.args.ink.now in
    let mid = g.W.Put.pen c.loop-k.ink in
    let new = g.W.Put.pen c.put_message-length.new.ink in
    record {
      given = λ frames are.
          subst (λ (rest : List FrameRow). WrittenUpTo old new memory frames c.args.crashed c.args.first states rest (c.loop-k.length + c.put_message-length.result) (k + 1)) (sym c.split_at.ensures.back)
          (written_more old mid new memory frames c.args.crashed c.args.first c.args.rows.now counts states c.loop-k.rest.now c.loop-k.length c.put_message-length.result k none are c.loop-k-test.true
          (c.loop-k.invariant.given frames are) wrote size);
      named = subst (λ (rows : List FrameRow). All (IsNamedIn memory) rows) (sym c.split_at.ensures.back)
          (All-drop (IsNamedIn memory) (get_or counts k 0) c.loop-k.rest.now c.loop-k.invariant.named);
      short = let before : c.loop-k.length ≤ (FIELD_BYTES + THREAD_BYTES) * k = c.loop-k.invariant.short in let one : c.put_message-length.result ≤ FIELD_BYTES + THREAD_BYTES = c.put_message-length.ensures.short in omega arith;
    }

pub returns-clause-wrote : goal.returns-clause-wrote
returns-clause-wrote g c = λ frames are.
    (written_end (g.W.Put.pen c.args.ink.now) (g.W.Put.pen c.loop-k.ink) c.args.memory.now frames c.args.crashed c.args.first c.args.states.now c.loop-k.rest.now c.loop-k.length c.loop-k.k c.loop-k-test.false (c.loop-k.invariant.given frames are)).0

pub returns-clause-size : goal.returns-clause-size
returns-clause-size g c = λ frames are.
    (written_end (g.W.Put.pen c.args.ink.now) (g.W.Put.pen c.loop-k.ink) c.args.memory.now frames c.args.crashed c.args.first c.args.states.now c.loop-k.rest.now c.loop-k.length c.loop-k.k c.loop-k-test.false (c.loop-k.invariant.given frames are)).1

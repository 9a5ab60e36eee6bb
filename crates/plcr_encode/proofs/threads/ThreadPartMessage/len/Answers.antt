use Rattle.std.proofs.Common.{length-append, map, arith}
use Rattle.plcr_encode.specs.inner.FrameRows.{frame_in}
use Rattle.plcr_encode.specs.Values.{thread_with}
use Rattle.plcr_encode.proofs.Rows.{spelling-thread}
use Rattle.plcr_encode.proofs.threads.ThreadPartMessage.len.Goals as goal

pub returns-clause-size : goal.returns-clause-size
returns-clause-size c =
    rw (spelling-thread (thread_with c.args.self.now.crashed c.args.self.now.number (map (frame_in c.args.self.now.memory.now) c.args.self.now.rows.now) c.args.self.now.state.now))
    (let number = c.number_len.ensures.size in let frames = c.frames_len.ensures.size in let flag = c.flag_len.ensures.size in let registers = c.registers_len.ensures.size in
    simp length-append (omega (arith, number, frames, flag, registers)))

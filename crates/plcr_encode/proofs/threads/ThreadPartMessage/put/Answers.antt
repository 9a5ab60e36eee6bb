use Rattle.std.proofs.Common.{map}
use Rattle.plcr_wire.proofs.Writing.{wrote_twice}
use Rattle.plcr_encode.specs.inner.FrameRows.{frame_in}
use Rattle.plcr_encode.specs.Values.{thread_with}
use Rattle.plcr_encode.proofs.Rows.{spelling-thread}
use Rattle.plcr_encode.proofs.threads.ThreadPartMessage.put.Goals as goal

pub returns : goal.returns
returns g c =
    rw (spelling-thread (thread_with c.args.self.now.crashed c.args.self.now.number (map (frame_in c.args.self.now.memory.now) c.args.self.now.rows.now) c.args.self.now.state.now))
    (wrote_twice _ _ _ _ _ c.put_number.ensures (wrote_twice _ _ _ _ _ c.put_frames.ensures (wrote_twice _ _ _ _ _ c.put_flag.ensures c.put_registers.ensures)))

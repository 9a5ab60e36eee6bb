use Rattle.std.proofs.Common.{◌≡◌, ◌+◌, ◌-◌, ◌*◌, ◌≤◌, length, map, drop}
use Rattle.std.specs.List.{enumerate_from}
use Rattle.plcr_wire.specs.Message.{spelling}
use Rattle.plcr_report.specs.Messages.{thread_message}
use Rattle.plcr_encode.specs.declared.limits.TheConstants.{FIELD_BYTES, THREAD_BYTES}
use Rattle.plcr_encode.specs.inner.Rows.{message_fields}
use Rattle.plcr_encode.specs.Values.{thread_of, threads_of}
use Rattle.plcr_encode.proofs.Rows.{WroteUpTo}
use Rattle.plcr_encode.proofs.threads.put_threads.Given as goal

-- the threads before this number are written, those from it on are left, and length is that of what is written
abbrev pub invariant-loop-done : goal.invariant-loop-done
invariant-loop-done g l =
    let listed = g.I.Images.images l.fn.images in
    let left = spelling (message_fields 3 thread_message (map (thread_of l.memory listed l.context) (enumerate_from l.done (drop l.done l.states)))) in
    let all = spelling (message_fields 3 thread_message (threads_of l.memory listed l.context l.states)) in
    record {
      within : l.done ≤ length l.states;
      wrote : WroteUpTo (g.W.Put.pen l.initial.ink) (g.W.Put.pen l.ink) all left;
      size : l.length + length left ≡ length all;
      short : l.length ≤ (FIELD_BYTES + THREAD_BYTES) * l.done;
      same : g.I.Images.images l.images ≡ listed;
      still : g.I.Images.extents l.images ≡ g.I.Images.extents l.fn.images;
      follows : g.I.Images.follows l.fn.images l.images;
      memory : l.known ≡ l.memory;
    }

abbrev pub decreases-loop-done : goal.decreases-loop-done
decreases-loop-done g l = length l.states - l.done

use Rattle.std.proofs.Common.{◌≡◌, ◌≤◌, ◌<◌, [], All, length, take, vec_len, vec_capacity}
use Rattle.crossbeam_queue.specs.Passes.{view}
use Rattle.plcr_script.specs.Meanings.{meanings}
use Rattle.plcr_script.specs.Reading.{files_of}
use Rattle.plcr_turns.specs.Lines.{lines_of}
use Rattle.plcr_workers.specs.declared.lines.PassLine.{PassLine}
use Rattle.plcr_workers.specs.inner.Own.{AreOwn}
use Rattle.plcr_workers.specs.inner.Places.{IsAt, PassGoes, walker_of}
use Rattle.plcr_workers.specs.inner.Hired.{SoFar}
use Rattle.plcr_workers.specs.inner.Traces.{HasTraced}
use Rattle.plcr_workers.proofs.Outputs.{AreNext}
use Rattle.plcr_workers.proofs.Reported.{AreReported}
use Rattle.plcr_workers.proofs.worker.Worker.take_statements.Given as goal

abbrev pub invariant-loop-at : goal.invariant-loop-at
invariant-loop-at g l = record {
  number : l.self.script ≡ l.fn.self.script;
  pass : (l.self.turns.table_id ≡ l.queue.table.shared.table_id) × (l.self.turns.me.1 ≡ []);
  so_far : SoFar l.self.script l.list l.script.statements l.at (view l.self.turns);
  place : IsAt l.list l.place;
  goes : PassGoes (walker_of l.fn.place) (walker_of l.place);
  own : AreOwn (meanings (g.P.Process.image_fault l.process) (g.P.Process.report l.process l.context)) l.script.statements (walker_of l.place).names (lines_of l.self.script (view l.self.turns).journal);
  lines : All (λ (x : PassLine). x.at < length l.script.statements) l.self.lines.items;
  fits : vec_len l.self.lines ≤ l.at;
  room : length l.script.statements ≤ vec_capacity l.self.lines;
  all : length l.self.drafts.items ≡ length (files_of l.script.statements);
  reported : AreReported g.K.Sink.written (g.P.Process.report l.process l.context) (walker_of l.place) l.next l.fn.self.drafts.items l.self.drafts.items;
  traced : HasTraced g.K.Sink.written (g.P.Process.report l.process l.context) l.self.script (take l.at l.script.statements) l.fn.place (view l.fn.self.turns) l.place (view l.self.turns) l.self.lines.items l.next l.fn.self.drafts.items l.self.drafts.items;
  outputs : AreNext g.K.Sink.faults l.script.statements l.at l.next l.fn.self.drafts.items l.self.drafts.items;
}

-- What is still held is what is lost.
use Rattle.std.proofs.lemmas.Result.{on_err_weaker, on_ok_weaker}
use Rattle.plcr_wire.proofs.Gathered.{lost_end, ended_end}
use Rattle.plcr_wire.proofs.buffered.Pieces.finish.Goals as goal

pub returns-clause-ok : goal.returns-clause-ok
returns-clause-ok g c =
    let sink = c.args.self.sink in
    on_ok_weaker c.end_held.result (λ h. ended_end sink.ghost_name _ _ (g.K.Sink.faults sink.now) (g.K.Sink.mark sink.now) _ _ _ h c.end_held.ensures.parts) c.end_held.ensures.ok

pub returns-clause-err : goal.returns-clause-err
returns-clause-err g c =
    let sink = c.args.self.sink in
    on_err_weaker c.end_held.result (λ h. lost_end sink.ghost_name _ _ (g.K.Sink.faults sink.now) (g.K.Sink.mark sink.now) _ _ _ h c.end_held.ensures.parts c.end_held.ensures.kept) c.end_held.ensures.err

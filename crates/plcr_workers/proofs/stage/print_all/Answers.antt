use Rattle.plcr_base.proofs.Appended.{proper_first, proper_second}
use Rattle.plcr_workers.specs.Log.{journal_text, scripts_text}
use Rattle.plcr_workers.specs.inner.Stages.{items_of}
use Rattle.plcr_workers.proofs.Made.{on_err_map}
use Rattle.plcr_workers.proofs.stage.print_all.Goals as goal

pub returns-in-Ok-clause-err : goal.returns-in-Ok-clause-err
returns-in-Ok-clause-err g c =
    on_err_map c.print_others.result
    (proper_second (g.L.Sink.written c.args.lines.now) (g.L.Sink.written c.print_journal.new.lines) (g.L.Sink.written c.print_others.new.lines) (journal_text c.args.journal.now) (scripts_text 1 c.args.scripts.now (items_of c.args.others.now)) c.in-Ok.ensures.ok)
    c.print_others.ensures.err

pub returns-in-Err-clause-err : goal.returns-in-Err-clause-err
returns-in-Err-clause-err g c =
    proper_first (g.L.Sink.written c.args.lines.now) (g.L.Sink.written c.print_journal.new.lines) (journal_text c.args.journal.now) (scripts_text 1 c.args.scripts.now (items_of c.args.others.now)) c.in-Err.ensures.err

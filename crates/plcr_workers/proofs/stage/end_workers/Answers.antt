use Rattle.std.proofs.Common.{◌<◌, All, List, length, ap, sym, ◌∙◌, subst}
use Rattle.crossbeam_queue.specs.Passes.{view}
use Rattle.plcr_imagelist.specs.States.{WriterState, IsAtRest}
use Rattle.plcr_turns.specs.declared.lines.ChangeLine.{ChangeLine}
use Rattle.plcr_workers.specs.Command.{IsJournalOf}
use Rattle.plcr_workers.specs.inner.Hired.{views_of, AreSizesOf}
use Rattle.std.specs.Prelude.{Vec}
use Rattle.std.specs.declared.alloc.Global.{Global}
use Rattle.plcr_workers.specs.declared.lines.PassLine.{PassLine}
use Rattle.plcr_workers.specs.inner.Outputs.{outputs_of}
use Rattle.plcr_workers.specs.inner.Stages.{AppliesAll, AreLinesOf, HasMetThese, HaveRun, items_of}
use Rattle.plcr_workers.proofs.Whole.{scripts_ran}
use Rattle.plcr_workers.proofs.Worked.{few_lines, journal_applies, journal_is, lines_are, same_table, sizes_taken, writer_is}
use Rattle.plcr_workers.proofs.Told.{told_by}
use Rattle.plcr_workers.proofs.stage.end_workers.Goals as goal

pub take_last-requires-clause-chief : goal.take_last-requires-clause-chief
take_last-requires-clause-chief g c = (c.gather-left.ensures.chief.role, c.gather-left.ensures.chief.turn)

pub meet_all-writer-requires-clause-list : goal.meet_all-writer-requires-clause-list
meet_all-writer-requires-clause-list g c =
    ap (λ (w : WriterState). w.table) c.end-writer.ensures.writer
    ∙ same_table (length c.args.scripts.now) c.args.list.now (views_of c.args.workers.items) (view c.gather-left.new.chief) c.take_last.result c.gather-left.ensures.chief c.take_last.ensures.taken

pub meet_all-writer-requires-clause-rest : goal.meet_all-writer-requires-clause-rest
meet_all-writer-requires-clause-rest g c = subst IsAtRest (sym c.end-writer.ensures.writer) c.take_last.ensures.turn.rest

pub meet_all-writer-requires-clause-images : goal.meet_all-writer-requires-clause-images
meet_all-writer-requires-clause-images g c = λ place other less. (c.gather-left.ensures.images place other less).0

pub returns-clause-writer : goal.returns-clause-writer
returns-clause-writer g c =
    writer_is c.args.list.now c.args.scripts.now c.gather-left.result.images.items c.end-writer.result.0 c.meet_all-writer.result (sym c.gather-left.result.images.ok.0 ∙ c.gather-left.ensures.met) c.gather-left.ensures.images c.meet_all-writer.ensures.met
    (subst (λ (x : WriterState). AreSizesOf c.args.scripts.now x.nodes x.passes) (sym c.end-writer.ensures.writer)
    (sizes_taken c.args.scripts.now (view c.args.chief.now) (view c.gather-left.new.chief) c.take_last.result c.requires.sizes c.gather-left.ensures.sizes c.take_last.ensures.taken.sizes)) c.meet_all-writer.ensures.rest

pub returns-clause-tells : goal.returns-clause-tells
returns-clause-tells g c = λ process own.
    let queue = c.args.queue.now.table.shared.table_id in
    let list = c.args.list.now in
    let scripts = c.args.scripts.now in
    let workers = c.args.workers.items in
    let chief = view c.gather-left.new.chief in
    let t = c.take_last.result in
    let images = c.gather-left.result.images.items in
    let w = c.meet_all-writer.result in
    let count = sym c.args.workers.ok.0 ∙ c.requires.count in
    let met = subst (λ (x : WriterState). HasMetThese images x w) c.end-writer.ensures.writer c.meet_all-writer.ensures.met in
    let left = c.gather-left.ensures in
    subst (λ (j : List ChangeLine). IsJournalOf process scripts j w × AppliesAll scripts workers j) (sym c.end-writer.ensures.journal) (
      journal_is process queue list scripts workers chief t images w count c.requires.numbers left.chief left.working c.requires.gone own c.take_last.ensures.taken c.take_last.ensures.turn left.passes met,
      journal_applies process queue list scripts workers chief t images w count c.requires.numbers left.chief left.working c.requires.gone own c.take_last.ensures.taken c.take_last.ensures.turn left.passes met,
    )

pub returns-clause-journal : goal.returns-clause-journal
returns-clause-journal g c =
    subst (All (λ (l : ChangeLine). l.script < length c.args.scripts.now)) (sym c.end-writer.ensures.journal)
    (few_lines (length c.args.scripts.now) c.args.list.now (views_of c.args.workers.items) (view c.gather-left.new.chief) c.take_last.result c.gather-left.ensures.chief c.take_last.ensures.taken c.take_last.ensures.turn)

pub returns-clause-others : goal.returns-clause-others
returns-clause-others g c =
    subst (AreLinesOf c.args.scripts.now) (sym c.gather-left.ensures.others)
    (lines_are c.args.queue.now.table.shared.table_id c.args.list.now c.args.scripts.now c.args.workers.items (sym c.args.workers.ok.0 ∙ c.requires.count) c.requires.numbers c.requires.gone)

pub returns-clause-runs : goal.returns-clause-runs
returns-clause-runs g c = λ process may acted names whole.
    let scripts = c.args.scripts.now in
    let workers = c.args.workers.items in
    let left = c.gather-left.ensures in
    let w = c.meet_all-writer.result in
    let images = c.gather-left.result.images.items in
    let count = sym c.args.workers.ok.0 ∙ c.requires.count in
    let r = scripts_ran g.K.Sink.written process c.args.list.now scripts workers (view c.gather-left.new.chief) c.take_last.result images w count
    (record {
      gathered = left.chief;
      working = left.working;
      numbers = c.requires.numbers;
      taken = c.take_last.ensures.taken;
      turn = c.take_last.ensures.turn;
      passes = left.passes;
      met = subst (λ (x : WriterState). HasMetThese images x w) c.end-writer.ensures.writer c.meet_all-writer.ensures.met;
      rest = c.meet_all-writer.ensures.rest;
    })
    may acted names whole in
    subst (λ (j : List ChangeLine). HaveRun g.K.Sink.written process scripts w j (outputs_of workers) (items_of c.gather-left.result.others.items)) (sym c.end-writer.ensures.journal)
    (subst (λ (l : List (Vec PassLine Global)). HaveRun g.K.Sink.written process scripts w c.take_last.result.journal (outputs_of workers) (items_of l)) (sym left.others) r)

pub returns-clause-reported : goal.returns-clause-reported
returns-clause-reported g c = λ process h.
    told_by g.K.Sink.written g.K.Sink.faults process c.args.queue.now.table.shared.table_id c.args.list.now c.args.scripts.now c.args.workers.items c.gather-left.result.images.items c.end-writer.result.0 c.meet_all-writer.result
    c.requires.gone c.gather-left.ensures.passes c.meet_all-writer.ensures.met c.meet_all-writer.ensures.rest h

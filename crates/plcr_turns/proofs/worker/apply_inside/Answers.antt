use Rattle.std.proofs.Common.{sym, subst}
use Rattle.crossbeam_queue.specs.Passes.{view}
use Rattle.plcr_imagelist.specs.Holds.{WalkerState}
use Rattle.plcr_nodes.specs.Tokens.{NoteState}
use Rattle.plcr_turns.specs.Working.{AppliesLine}
use Rattle.plcr_turns.proofs.Working.{told_line}
use Rattle.plcr_turns.proofs.worker.apply_inside.Goals as goal

pub returns-clause-applies : goal.returns-clause-applies
returns-clause-applies g c =
    let t = c.told.ensures.told.walker in
    let known = c.apply_line-known.result in
    let w = view c.apply_line-known.new.pass in
    subst (λ (s : WalkerState). AppliesLine c.args.line.now (view c.args.pass.now) c.args.hold.now.walker.history w s.history s.names) (sym t.now)
    (subst (λ (n : NoteState). AppliesLine c.args.line.now (view c.args.pass.now) n.history w t.past t.names) c.note-note.ensures.note
    (told_line c.args.line.now (view c.args.pass.now) c.note-note.result.history w known.history t.past known.names t.names c.apply_line-known.ensures.applies t.told t.named))

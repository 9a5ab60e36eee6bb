use Rattle.std.proofs.Common.{refl, [], ◌∷◌, subst}
use Rattle.plcr_machine.specs.Lists.{live}
use Rattle.plcr_imagelist.specs.Finding.{first_with}
use Rattle.plcr_imagelist.proofs.Whole.{unloads, unloads_first, unload_refused, made_again, finished_made}
use Rattle.plcr_machine.specs.declared.change.Change.{Change}
use Rattle.plcr_imagelist.specs.Listing.{AddsChanges, change_of}
use Rattle.plcr_imagelist.proofs.Changed.{adds_more, finished_adds, has_lists}
use Rattle.plcr_imagelist.proofs.writer.Writer.unload.Goals as goal

pub returns-in-Ok-clause-unloads : goal.returns-in-Ok-clause-unloads
returns-in-Ok-clause-unloads c = λ fresh.
    unloads c.args.self c.args.header (first_with c.args.header (live c.args.self.history)) c.in-Ok.change c.load-load.result c.finish.result (c.in-Ok.ensures.begins fresh) c.finish.ensures.finished c.load-load.ensures

pub returns-in-Ok-clause-first : goal.returns-in-Ok-clause-first
returns-in-Ok-clause-first c = λ fresh.
    unloads_first c.args.self c.args.header (first_with c.args.header (live c.args.self.history)) c.load-load.result c.finish.result refl
    (unloads c.args.self c.args.header (first_with c.args.header (live c.args.self.history)) c.in-Ok.change c.load-load.result c.finish.result (c.in-Ok.ensures.begins fresh) c.finish.ensures.finished c.load-load.ensures)

pub returns-in-Err-clause-unloads : goal.returns-in-Err-clause-unloads
returns-in-Err-clause-unloads c = λ fresh. unload_refused c.args.self c.args.header (first_with c.args.header (live c.args.self.history)) (c.in-Err.writer, c.in-Err.refused) (c.in-Err.ensures.begins fresh)

pub returns-in-Ok-clause-made : goal.returns-in-Ok-clause-made
returns-in-Ok-clause-made c = made_again c.args.self c.in-Ok.change.writer c.finish.result 0 1 c.in-Ok.ensures.made (finished_made c.in-Ok.change c.finish.result c.finish.ensures.finished)

pub returns-in-Ok-clause-changes : goal.returns-in-Ok-clause-changes
returns-in-Ok-clause-changes c =
    let change = c.in-Ok.change in
    let is = c.in-Ok.ensures.change in
    let whole = adds_more c.args.self change.writer c.finish.result [] (change_of change.doing change.load ∷ []) c.in-Ok.ensures.changes (finished_adds change c.finish.result c.in-Ok.ensures.lists.known c.finish.ensures.finished) in
    subst (λ (x : Change). AddsChanges c.args.self (x ∷ []) c.finish.result) is whole

pub returns-in-Ok-clause-lists : goal.returns-in-Ok-clause-lists
returns-in-Ok-clause-lists c = let rest = c.finish.ensures.finished.rest in has_lists c.finish.result rest.known rest.first

pub returns-in-Err-clause-lists : goal.returns-in-Err-clause-lists
returns-in-Err-clause-lists c = let rest = c.in-Err.ensures.back.1 in has_lists c.in-Err.writer rest.known rest.first

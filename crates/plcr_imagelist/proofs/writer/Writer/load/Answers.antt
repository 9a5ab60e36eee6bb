use Rattle.std.proofs.Common.{sym, subst, [], ◌∷◌, ap, ◌∙◌}
use Rattle.plcr_imagelist.specs.Loading.{IsLoaded}
use Rattle.plcr_imagelist.proofs.Whole.{finished_load, made_again, finished_made}
use Rattle.plcr_machine.specs.declared.change.Change.{Change}
use Rattle.plcr_machine.specs.declared.change.Change.TheVariants.{Loads}
use Rattle.plcr_imagelist.specs.Listing.{AddsChanges, change_of}
use Rattle.plcr_imagelist.proofs.Changed.{adds_more, finished_adds, has_lists}
use Rattle.plcr_imagelist.proofs.writer.Writer.load.Goals as goal

pub returns-in-Ok-clause-loads : goal.returns-in-Ok-clause-loads
returns-in-Ok-clause-loads c = λ fresh short.
    subst (λ n. IsLoaded c.args.self c.args.header c.args.name.now n c.finish.result) (sym c.load-load.ensures)
    (finished_load c.args.self c.args.header c.args.name.now c.in-Ok.change c.finish.result (c.in-Ok.ensures.begins fresh short) c.finish.ensures.finished)

pub returns-in-Ok-clause-made : goal.returns-in-Ok-clause-made
returns-in-Ok-clause-made c = made_again c.args.self c.in-Ok.change.writer c.finish.result 0 1 c.in-Ok.ensures.made (finished_made c.in-Ok.change c.finish.result c.finish.ensures.finished)

pub returns-in-Ok-clause-changes : goal.returns-in-Ok-clause-changes
returns-in-Ok-clause-changes c =
    let change = c.in-Ok.change in
    let is = c.in-Ok.ensures.change ∙ ap (λ n. Loads (record { load = n; header = c.args.header; name = c.args.name.now })) (sym c.load-load.ensures) in
    let whole = adds_more c.args.self change.writer c.finish.result [] (change_of change.doing change.load ∷ []) c.in-Ok.ensures.changes (finished_adds change c.finish.result c.in-Ok.ensures.lists.known c.finish.ensures.finished) in
    subst (λ (x : Change). AddsChanges c.args.self (x ∷ []) c.finish.result) is whole

pub returns-in-Ok-clause-lists : goal.returns-in-Ok-clause-lists
returns-in-Ok-clause-lists c = let rest = c.finish.ensures.finished.rest in has_lists c.finish.result rest.known rest.first

pub returns-in-Err-clause-lists : goal.returns-in-Err-clause-lists
returns-in-Err-clause-lists c = let rest = c.in-Err.ensures.back.1 in has_lists c.in-Err.writer rest.known rest.first

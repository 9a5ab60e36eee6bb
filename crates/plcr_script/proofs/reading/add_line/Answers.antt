use Rattle.std.proofs.Common.{sym, ◌∙◌}
use Rattle.plcr_script.specs.inner.Wording.{said}
use Rattle.plcr_script.proofs.Steps.{nothing, unworded, displaced, placed}
use Rattle.plcr_script.proofs.Lawfulness.{lawful_with}
use Rattle.plcr_script.proofs.reading.add_line.Goals as goal

pub returns-then-says_nothing-clause-added : goal.returns-then-says_nothing-clause-added
returns-then-says_nothing-clause-added c = nothing c.args.draft.now c.args.number c.args.line.now (sym c.says_nothing.ensures ∙ c.if-says_nothing.true)

pub returns-in-Err-clause-refused : goal.returns-in-Err-clause-refused
returns-in-Err-clause-refused c =
    rw c.refused.ensures (unworded c.args.draft.now c.args.number c.args.line.now c.in-Err.kind (sym c.says_nothing.ensures ∙ c.if-says_nothing.false) (rw c.passes.ensures at c.in-Err.ensures.worded))

pub returns-then-branch-clause-refused : goal.returns-then-branch-clause-refused
returns-then-branch-clause-refused c =
    rw c.refused-then-branch.ensures (displaced c.args.draft.now c.args.number c.args.line.now (said c.in-Ok.wording) (sym c.says_nothing.ensures ∙ c.if-says_nothing.false) (rw c.passes.ensures at c.in-Ok.ensures.worded) (sym c.in_ok-is_out_of_place.ensures.out ∙ c.if-branch.true))

pub returns-clause-added : goal.returns-clause-added
returns-clause-added c =
    rw c.in_ok-add.ensures (placed c.args.draft.now c.args.number c.args.line.now (said c.in-Ok.wording) (sym c.says_nothing.ensures ∙ c.if-says_nothing.false) (rw c.passes.ensures at c.in-Ok.ensures.worded) (sym c.in_ok-is_out_of_place.ensures.out ∙ c.if-branch.false))

pub returns-clause-lawful : goal.returns-clause-lawful
returns-clause-lawful c =
    rw c.in_ok-add.ensures (lawful_with c.args.draft.now c.args.number (said c.in-Ok.wording) c.requires.lawful (rw c.passes.ensures at c.in-Ok.ensures.fits) (sym c.in_ok-is_out_of_place.ensures.out ∙ c.if-branch.false))

pub returns-clause-index : goal.returns-clause-index
returns-clause-index c = rw c.in_ok-add.ensures (c.in_ok-is_out_of_place.ensures.index c.if-branch.false c.args.number)

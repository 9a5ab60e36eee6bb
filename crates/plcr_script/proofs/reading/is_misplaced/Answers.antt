use Rattle.std.proofs.Common.{Bool, true, false, refl, ap, ◌∙◌, Vec, Global}
use Rattle.plcr_script.proofs.Indexing.{few_passes, quiet_index, moved_index, written_index}
use Rattle.plcr_script.proofs.reading.is_misplaced.Goals as goal

pub returns-in-Load-clause-index : goal.returns-in-Load-clause-index
returns-in-Load-clause-index c = λ h line. rw c.in-Load.is (quiet_index c.args.index.now c.args.draft.now line _ c.requires.index (λ pass was. refl) refl)

pub returns-in-Unload-clause-index : goal.returns-in-Unload-clause-index
returns-in-Unload-clause-index c = λ h line. rw c.in-Unload.is (quiet_index c.args.index.now c.args.draft.now line _ c.requires.index (λ pass was. refl) refl)

pub returns-in-BeginLoad-clause-index : goal.returns-in-BeginLoad-clause-index
returns-in-BeginLoad-clause-index c = λ h line. rw c.in-BeginLoad.is (quiet_index c.args.index.now c.args.draft.now line _ c.requires.index (λ pass was. refl) refl)

pub returns-in-BeginUnload-clause-index : goal.returns-in-BeginUnload-clause-index
returns-in-BeginUnload-clause-index c = λ h line. rw c.in-BeginUnload.is (quiet_index c.args.index.now c.args.draft.now line _ c.requires.index (λ pass was. refl) refl)

pub returns-in-Step-clause-index : goal.returns-in-Step-clause-index
returns-in-Step-clause-index c = λ h line. rw c.in-Step.is (quiet_index c.args.index.now c.args.draft.now line _ c.requires.index (λ pass was. refl) refl)

pub returns-in-End-clause-index : goal.returns-in-End-clause-index
returns-in-End-clause-index c = λ h line. rw c.in-End.is (quiet_index c.args.index.now c.args.draft.now line _ c.requires.index (λ pass was. refl) refl)

pub returns-in-Enter-clause-index : goal.returns-in-Enter-clause-index
returns-in-Enter-clause-index c = λ h line.
    let draft = c.args.draft.now in
    rw c.in-Enter.is (moved_index c.args.index.now draft line _ c.requires.index c.replace.new.self c.in-Enter.pass true (few_passes draft.mode draft.script.nodes draft.script.passes c.in-Enter.pass c.requires.lawful.sizes (rw c.in-Enter.is at c.requires.fits))
    (λ pass was. refl) refl c.replace.ensures.inside c.replace.ensures.names)

pub returns-in-Walk-clause-index : goal.returns-in-Walk-clause-index
returns-in-Walk-clause-index c = λ h line. rw c.in-Walk.is (quiet_index c.args.index.now c.args.draft.now line _ c.requires.index (λ pass was. refl) refl)

pub returns-in-Leave-clause-index : goal.returns-in-Leave-clause-index
returns-in-Leave-clause-index c = λ h line.
    let draft = c.args.draft.now in
    rw c.in-Leave.is (moved_index c.args.index.now draft line _ c.requires.index c.replace-in-Leave.new.self c.in-Leave.pass false (few_passes draft.mode draft.script.nodes draft.script.passes c.in-Leave.pass c.requires.lawful.sizes (rw c.in-Leave.is at c.requires.fits))
    (λ pass was. refl) refl c.replace-in-Leave.ensures.inside c.replace-in-Leave.ensures.names)

pub returns-in_ok-add-in-Report-clause-index : goal.returns-in_ok-add-in-Report-clause-index
returns-in_ok-add-in-Report-clause-index c = λ h line.
    let draft = c.args.draft.now in
    rw c.in-Report.is (written_index c.args.index.now draft line _ c.requires.index c.add.new.self c.in-Report.pass false c.in-Report.file.now (few_passes draft.mode draft.script.nodes draft.script.passes c.in-Report.pass c.requires.lawful.sizes (rw c.in-Report.is at c.requires.fits))
    (λ pass was. refl) refl (ap (λ (inside : Vec Bool Global). inside.items) c.in_ok-add-in-Report.ensures.inside ∙ c.replace-in-Report.ensures.inside) (rw c.replace-in-Report.ensures.names at c.in_ok-add-in-Report.ensures.added))

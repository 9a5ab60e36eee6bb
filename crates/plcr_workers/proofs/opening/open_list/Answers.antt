use Rattle.std.proofs.Common.{◌∙◌, ap}
use Rattle.plcr_imagelist.specs.States.{WriterState}
use Rattle.plcr_script.specs.Scripts.{ScriptValue}
use Rattle.plcr_workers.proofs.Meetings.{first_is, opened_in_order, opened_count, opened_untouched}
use Rattle.plcr_workers.proofs.opening.open_list.Goals as goal

pub returns-in-Ok-clause-images : goal.returns-in-Ok-clause-images
returns-in-Ok-clause-images c = opened_in_order c.in-Ok.opened.0 _ _ c.in-Ok.opened.1 c.in-Ok.opened.2.items c.in-Ok.ensures.opened.1

pub returns-in-Ok-clause-count : goal.returns-in-Ok-clause-count
returns-in-Ok-clause-count c = c.in-Ok.opened.2.ok.0 ∙ opened_count c.in-Ok.opened.0 _ _ c.in-Ok.opened.1 c.in-Ok.opened.2.items c.in-Ok.ensures.opened.1

pub returns-in-Ok-clause-untouched : goal.returns-in-Ok-clause-untouched
returns-in-Ok-clause-untouched c = opened_untouched c.in-Ok.opened.0 _ _ c.in-Ok.opened.1 c.in-Ok.opened.2.items c.in-Ok.ensures.opened.1

pub returns-in-Ok-clause-sizes : goal.returns-in-Ok-clause-sizes
returns-in-Ok-clause-sizes c =
    let is = c.in-Ok.ensures.opened.1.writing in (
      λ script first. ap (λ (w : WriterState). w.nodes) is ∙ c.nodes-nodes.ensures.nodes ∙ ap (λ (s : ScriptValue). s.nodes) (first_is c.args.scripts.now c.index-scripts-0.result script c.index-scripts-0.is first),
      ap (λ (w : WriterState). w.passes) is,
    )

use Rattle.std.proofs.Common.{refl, sym, ap, ◌∙◌, arith}
use Rattle.std.specs.Prelude.{Vec}
use Rattle.std.specs.declared.alloc.Global.{Global}
use Rattle.plcr_base.proofs.Appended.{append_nothing}
use Rattle.plcr_workers.specs.declared.lines.PassLine.{PassLine}
use Rattle.plcr_workers.proofs.Made.{stands_in}
use Rattle.plcr_workers.proofs.Printing.{text_at, text_cut, text_more}
use Rattle.plcr_workers.proofs.stage.print_others.Goals as goal

pub loop-script-init : goal.loop-script-init
loop-script-init g c = (sym (append_nothing (g.L.Sink.written c.args.lines.now)), omega arith, refl)

pub returns-in-Err-clause-err : goal.returns-in-Err-clause-err
returns-in-Err-clause-err g c =
    let t = text_at 1 c.args.scripts.now c.args.others.now c.loop-script.script c.index-scripts-script.result c.as_slice-told.result.now c.index-others-script.result c.requires.others.count
    (stands_in c.args.scripts.now c.loop-script.script c.index-scripts-script.result c.loop-script-test.true c.index-scripts-script.is)
    (ap (λ (v : Vec PassLine Global). v.items) (sym c.index-others-script.is) ∙ sym c.as_slice-told.ensures.value) in
    text_cut 1 c.args.scripts.now c.args.others.now c.loop-script.script _ c.index-scripts-script.result c.as_slice-told.result.now (g.L.Sink.written c.args.lines.now) (g.L.Sink.written c.loop-script.lines) (g.L.Sink.written c.print_script.new.lines) t (omega arith) c.loop-script.invariant.0 c.in-Err.ensures.err

pub loop-script-preserved : goal.loop-script-preserved
loop-script-preserved g c =
    let t = text_at 1 c.args.scripts.now c.args.others.now c.loop-script.script c.index-scripts-script.result c.as_slice-told.result.now c.index-others-script.result c.requires.others.count
    (stands_in c.args.scripts.now c.loop-script.script c.index-scripts-script.result c.loop-script-test.true c.index-scripts-script.is)
    (ap (λ (v : Vec PassLine Global). v.items) (sym c.index-others-script.is) ∙ sym c.as_slice-told.ensures.value) in
    let now = c.print_script.ensures.later in let before = c.loop-script.invariant.1 in (
      text_more 1 c.args.scripts.now c.args.others.now c.loop-script.script _ c.index-scripts-script.result c.as_slice-told.result.now (g.L.Sink.written c.args.lines.now) (g.L.Sink.written c.loop-script.lines) (g.L.Sink.written c.print_script.new.lines) t (omega arith) c.loop-script.invariant.0 c.in_default.ensures.ok,
      omega (arith, now, before),
      c.print_script.ensures.mark ∙ c.loop-script.invariant.2,
    )

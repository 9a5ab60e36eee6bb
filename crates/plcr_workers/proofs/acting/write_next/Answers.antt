use Rattle.std.proofs.Common.{◌∙◌, refl, subst, sym}
use Rattle.plcr_workers.specs.declared.drafts.Draft.{Draft}
use Rattle.plcr_workers.specs.inner.Drafts.{IsOutput}
use Rattle.plcr_workers.specs.inner.Reports.{HasReport}
use Rattle.plcr_workers.proofs.Moved.{next_gains}
use Rattle.plcr_workers.proofs.Reported.{get_or_any}
use Rattle.plcr_workers.proofs.acting.write_next.Goals as goal

pub returns-clause-outputs : goal.returns-clause-outputs
returns-clause-outputs g c =
    let tells = HasReport g.K.Sink.written (g.P.Process.report c.args.process.now c.args.context.now) c.report-pass.result.0 in
    record {
      is = c.report-pass.new.draft;
      new_is = refl;
      did = λ other. subst (λ (d : Draft _). IsOutput g.K.Sink.faults tells c.report-pass.result.1 d c.report-pass.new.draft)
          (c.index_mut-draft.ensures.value ∙ get_or_any c.args.drafts.now.items c.args.next c.index_mut-draft.result.now other c.requires.next) c.report-pass.ensures.output;
    }

pub returns-clause-reports : goal.returns-clause-reports
returns-clause-reports g c =
    let r = c.report-pass.ensures.reports in
    record {
      wrote = r.wrote;
      reports = r.reports;
      gains = next_gains g.K.Sink.written r.wrote c.args.next c.args.drafts.now.items c.index_mut-draft.result.now c.report-pass.new.draft c.requires.next (sym c.index_mut-draft.ensures.value) r.gains;
    }

use Rattle.std.proofs.Common.{◌∙◌, refl, subst, sym}
use Rattle.crossbeam_queue.specs.Passes.{view}
use Rattle.plcr_script.specs.Meanings.{meanings}
use Rattle.plcr_turns.specs.Lines.{lines_of}
use Rattle.plcr_workers.specs.inner.Places.{PassGoes, walker_of}
use Rattle.plcr_workers.proofs.Hires.{some_value}
use Rattle.plcr_workers.proofs.Owned.{own_later}
use Rattle.plcr_workers.proofs.Reported.{reports_later}
use Rattle.plcr_workers.proofs.worker.Worker.run.Goals as goal

pub returns-clause-reports : goal.returns-clause-reports
returns-clause-reports g c = λ image e.
    reports_later g.K.Sink.written (g.P.Process.report c.args.process.now c.args.context.now) (walker_of c.take_statements-place.result) image c.args.self.now.drafts.items c.take_statements-place.new.self.drafts.items
    (subst (PassGoes (walker_of c.take_statements-place.result)) (some_value e) c.come_out.ensures.goes) c.take_statements-place.ensures.reports

pub returns-clause-own : goal.returns-clause-own
returns-clause-own g c =
    let worker = c.take_statements-place.new.self in
    record {
      image = c.come_out.result;
      held = refl;
      own = own_later (meanings (g.P.Process.image_fault c.args.process.now) (g.P.Process.report c.args.process.now c.args.context.now)) c.args.script.now.statements (walker_of c.take_statements-place.result).names c.come_out.result.names
          (lines_of worker.script (view worker.turns).journal) c.come_out.ensures.goes.went c.take_statements-place.ensures.own;
    }

pub returns-clause-acted : goal.returns-clause-acted
returns-clause-acted g c = λ all.
    let t = c.take_statements-place.ensures.traced all in
    record {
      first = c.in-Some.pass;
      was = sym c.take.ensures.value ∙ c.in-Some.is;
      last = c.come_out.result;
      is = refl;
      place = c.take_statements-place.result;
      out = c.come_out.ensures.comes;
      wrote = t.1.wrote;
      ran = t.1.ran;
      gained = t.1.gained;
    }

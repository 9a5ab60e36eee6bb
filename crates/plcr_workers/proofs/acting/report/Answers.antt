use Rattle.std.proofs.Common.{[], ◌∷◌, length, refl, sym, ap, ◌∙◌}
use Rattle.std.specs.Io.KnownBytes.{append_known}
use Rattle.plcr_workers.specs.declared.acting.Took.TheVariants.{Said, Unwritten}
use Rattle.plcr_workers.specs.declared.lines.PassSaid.TheVariants.{Reported}
use Rattle.plcr_imagelist.specs.Walk.{images_of}
use Rattle.plcr_workers.specs.inner.Places.{walker_of}
use Rattle.plcr_workers.proofs.Passing.{again, sees, same_walk, released}
use Rattle.plcr_workers.proofs.Reported.{held_now, held_later}
use Rattle.plcr_workers.proofs.Moved.{reports_moved}
use Rattle.plcr_workers.proofs.acting.report.Goals as goal

pub returns-in-Ok-clause-goes : goal.returns-in-Ok-clause-goes
returns-in-Ok-clause-goes g c =
    let came = c.come_in-hold.result in
    let walked = c.walk_to_end.new.hold in
    let written = c.write_walk-captured.new.hold in
    again (walker_of c.args.place) came.walker c.leave-pass.result.0 c.come_in-hold.ensures.goes
    (again came.walker walked.walker c.leave-pass.result.0 (sees came.walker walked.walker c.walk_to_end.ensures.sees)
    (again walked.walker written.walker c.leave-pass.result.0 (same_walk walked written c.write_walk-captured.ensures.same)
    (released written c.leave-pass.result.0 c.leave-pass.result.1.low c.leave-pass.result.1.high c.leave-pass.ensures.released)))

pub returns-in-Err-clause-goes : goal.returns-in-Err-clause-goes
returns-in-Err-clause-goes g c =
    let came = c.come_in-hold.result in
    let walked = c.walk_to_end.new.hold in
    let written = c.write_walk-captured.new.hold in
    again (walker_of c.args.place) came.walker c.leave-pass.result.0 c.come_in-hold.ensures.goes
    (again came.walker walked.walker c.leave-pass.result.0 (sees came.walker walked.walker c.walk_to_end.ensures.sees)
    (again walked.walker written.walker c.leave-pass.result.0 (same_walk walked written c.write_walk-captured.ensures.same)
    (released written c.leave-pass.result.0 c.leave-pass.result.1.low c.leave-pass.result.1.high c.leave-pass.ensures.released)))

pub returns-in-Ok-clause-output : goal.returns-in-Ok-clause-output
returns-in-Ok-clause-output g c =
    let walked = c.walk_to_end.new.hold in
    let written = c.write_walk-captured.new.hold in
    let report = g.P.Process.report c.args.process.now c.args.context.now in
    let goes = again walked.walker written.walker c.leave-pass.result.0 (same_walk walked written c.write_walk-captured.ensures.same)
    (released written c.leave-pass.result.0 c.leave-pass.result.1.low c.leave-pass.result.1.high c.leave-pass.ensures.released) in
    record {
      script = c.write_walk-captured.ensures.place.0;
      at = c.write_walk-captured.ensures.place.1;
      written = (
        c.in-Ok.ensures.ok,
        record {
          bytes = report (images_of walked);
          tells = held_later report walked.walker c.leave-pass.result.0 (report (images_of walked)) goes (held_now report walked c.walk_to_end.ensures.walking c.walk_to_end.ensures.ended);
          gains = c.in-Ok.ensures.written;
        },
      );
    }

pub returns-in-Ok-clause-reports : goal.returns-in-Ok-clause-reports
returns-in-Ok-clause-reports g c =
    let report = g.P.Process.report c.args.process.now c.args.context.now in
    let same = c.write_walk-captured.ensures.same in
    record {
      wrote = report (images_of c.write_walk-captured.new.hold) ∷ [];
      reports = reports_moved report c.args.place c.come_in-hold.result c.walk_to_end.new.hold c.write_walk-captured.new.hold c.leave-pass.result.0 (Said (Reported c.in-Ok.bytes c.met-images.result c.leave-pass.result.1.low c.leave-pass.result.1.high)) (report (images_of c.write_walk-captured.new.hold) ∷ [])
          c.leave-pass.result.1.low c.leave-pass.result.1.high c.come_in-hold.ensures.comes c.come_in-hold.ensures.walking c.walk_to_end.ensures.to_end c.walk_to_end.ensures.ended c.walk_to_end.ensures.sees c.walk_to_end.ensures.walking same c.leave-pass.ensures.released
          (c.met-images.ensures, refl, refl, c.in-Ok.ensures.length ∙ ap (λ l. length (report l)) (sym same.named), refl);
      gains = c.in-Ok.ensures.written ∙ ap (λ l. append_known (g.K.Sink.written c.args.draft.now.out) (report l)) (sym same.named);
    }

pub returns-in-Err-clause-reports : goal.returns-in-Err-clause-reports
returns-in-Err-clause-reports g c =
    let report = g.P.Process.report c.args.process.now c.args.context.now in
    record {
      wrote = [];
      reports = reports_moved report c.args.place c.come_in-hold.result c.walk_to_end.new.hold c.write_walk-captured.new.hold c.leave-pass.result.0 Unwritten [] c.leave-pass.result.1.low c.leave-pass.result.1.high
          c.come_in-hold.ensures.comes c.come_in-hold.ensures.walking c.walk_to_end.ensures.to_end c.walk_to_end.ensures.ended c.walk_to_end.ensures.sees c.walk_to_end.ensures.walking c.write_walk-captured.ensures.same c.leave-pass.ensures.released refl;
      gains = tt;
    }

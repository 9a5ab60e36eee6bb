use Rattle.std.proofs.Common.{◌≡◌, Some, slice_get, sym, ap, ◌∙◌}
use Rattle.std.proofs.lemmas.Option.{get_or_from_slice_get}
use Rattle.plcr_workers.proofs.crew.fn.run_all.for_each_mut.Goals as goal

pub returns : goal.returns
returns g c =
    let scripts = c.captures.scripts.now in
    let old = c.args.worker.now in
    let new = c.run.new.self in
    let script = c.index-scripts-worker.result in
    let ready = c.requires.2 in
    let run = c.run.ensures.run in
    let same = sym (get_or_from_slice_get scripts old.script ready.script script ready.stands) ∙ sym c.index-scripts-worker.is in
    let stands : slice_get scripts new.script ≡ Some script = ap (slice_get scripts) run.goes.number ∙ ready.stands ∙ ap Some same in (
      record {
        script = script;
        stands = stands;
        pass = run.goes.pass;
        count = run.goes.count;
        so_far = run.goes.so_far;
        image = run.image;
        lines = run.goes.lines;
      },
      c.run.ensures.taken,
      c.run.ensures.reports,
      record { script = script; stands = stands; knows = c.run.ensures.own },
      record { script = script; stands = stands; whole = c.run.ensures.whole },
      record { script = script; stands = ready.stands ∙ ap Some same; acts = c.run.ensures.acted },
    )

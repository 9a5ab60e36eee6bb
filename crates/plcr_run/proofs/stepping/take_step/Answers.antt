use Rattle.std.proofs.Common.{rules, refl, arith}
use Rattle.plcr_script.specs.Meanings.{Meanings, meanings}
use Rattle.plcr_script.specs.RunTurns.{turn_of}
use Rattle.plcr_run.specs.inner.Tokens.{writer_of}
use Rattle.plcr_run.specs.inner.Stepping.{IsChange, IsMove, MovesOnly}
use Rattle.plcr_run.proofs.Kept.{change_kept, move_kept, is_change, change_moves, always}
use Rattle.plcr_run.proofs.Taken.{told_takes}
use Rattle.plcr_run.proofs.stepping.take_step.Goals as goal

pub returns-in-Report-clause-steps : goal.returns-in-Report-clause-steps
unfolding turn_of
returns-in-Report-clause-steps g c = rw c.in-Report.is (rw c.as_slice.ensures at c.report-told.ensures.ends)

pub returns-in_default : goal.returns-in_default
returns-in_default g c =
    let process : Meanings = meanings (g.P.Process.image_fault c.args.process.now) (g.P.Process.report c.args.process.now c.args.context.now) in
    let changes : IsChange c.args.statement.now = is_change c.args.statement.now c.in_default.not-Enter c.in_default.not-Walk c.in_default.not-Leave c.in_default.not-Report in
    let t = c.change_list-writing.ensures.turns (g.P.Process.report c.args.process.now c.args.context.now) c.args.slots.now c.requires.tokens in
    record {
      tokens = t.0;
      steps = told_takes _ c.args.number c.args.writing c.args.slots.now _ _ c.change_list-writing.result.0 c.args.slots.now c.tell.result c.change_list-writing.result.1 (λ state. change_kept process (writer_of c.args.writing).nodes (writer_of c.args.writing).passes c.args.statement.now state changes) t.1 (c.tell.ensures.ends (g.D.Desk.told c.args.desk.now));
      moves = always c.tell.result (MovesOnly c.args.statement.now c.args.slots.now c.args.slots.now) (λ k. change_moves c.args.statement.now k _ changes);
      count = refl;
      goes_on = record { desk = record { files = refl; taken = refl; take_faults = refl; out_faults = omega arith }; line_faults = c.tell.ensures.later };
      mark = c.tell.ensures.mark;
    }

pub returns-in-Enter-clause-steps : goal.returns-in-Enter-clause-steps
returns-in-Enter-clause-steps g c =
    let process : Meanings = meanings (g.P.Process.image_fault c.args.process.now) (g.P.Process.report c.args.process.now c.args.context.now) in
    let moves : IsMove c.args.statement.now = search rules in
    told_takes _ c.args.number c.args.writing c.args.slots.now _ _ c.move_pass-outcome.new.writing c.move_pass-outcome.new.slots c.tell-in-Enter.result c.move_pass-outcome.result (λ state. move_kept process (writer_of c.args.writing).nodes (writer_of c.args.writing).passes c.args.statement.now state moves)
    (c.move_pass-outcome.ensures.turns (g.P.Process.image_fault c.args.process.now) (g.P.Process.report c.args.process.now c.args.context.now)) (c.tell-in-Enter.ensures.ends (g.D.Desk.told c.args.desk.now))

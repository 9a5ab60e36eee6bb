use Rattle.std.proofs.Common.{◌≡◌, List, sym, subst, ap, ◌∙◌}
use Rattle.crossbeam_queue.specs.Passes.{view}
use Rattle.plcr_nodes.specs.Tokens.{NoteState}
use Rattle.plcr_turns.specs.declared.view.View.{View}
use Rattle.plcr_turns.specs.Turns.{TurnState}
use Rattle.plcr_turns.specs.Views.{MayGive, given_view, taken_view}
use Rattle.plcr_turns.specs.Working.{IsWorking, AppliesLine}
use Rattle.plcr_turns.proofs.Working.{may_give, line_applied, still_working, share_in}
use Rattle.plcr_turns.proofs.worker.apply_line.Goals as goal

pub give-requires-clause-may : goal.give-requires-clause-may
give-requires-clause-may g c =
    subst (λ (v : View). MayGive v c.note-known.new.self) (sym c.take-turn.ensures.view)
    (subst (λ (t : TurnState). MayGive (taken_view (view c.args.pass.now) c.take-turn.result) t) (sym c.note-known.ensures.same)
    (may_give c.args.line.now.script c.args.line.now.line c.args.line.now.request c.args.list.now (view c.args.pass.now) c.take-turn.result c.tell.new.self c.apply-turn.result c.args.note
    c.requires.working c.take-turn.ensures.taken c.take-turn.ensures.turn c.tell.ensures.told c.tell.ensures.turn c.apply-turn.ensures.applied c.apply-turn.ensures.turn))

-- the view after the turn was given back
view_after : (g : _) (c : goal.After-give g) → given_view (taken_view (view c.args.pass.now) c.take-turn.result) c.apply-turn.result ≡ view c.give.new.pass
view_after g c = (λ i. given_view (sym c.take-turn.ensures.view i) (sym c.note-known.ensures.same i)) ∙ sym c.give.ensures.view

pub returns-clause-applies : goal.returns-clause-applies
returns-clause-applies g c =
    subst (λ (y : View × NoteState). AppliesLine c.args.line.now (view c.args.pass.now) c.args.note.history y.0 y.1.history y.1.names) (λ i. (view_after g c i, sym c.note-known.ensures.note i))
    (line_applied c.args.line.now.script c.args.line.now.line c.args.line.now.request c.args.list.now (view c.args.pass.now) c.take-turn.result c.tell.new.self c.apply-turn.result c.args.note
    c.requires.working c.take-turn.ensures.taken c.take-turn.ensures.turn c.tell.ensures.told c.tell.ensures.turn c.apply-turn.ensures.applied c.apply-turn.ensures.turn)

pub returns-clause-working : goal.returns-clause-working
returns-clause-working g c =
    subst (λ (w : View). IsWorking c.args.line.now.script c.args.list.now w) (view_after g c)
    (still_working c.args.line.now.script c.args.line.now.line c.args.line.now.request c.args.list.now (view c.args.pass.now) c.take-turn.result c.tell.new.self c.apply-turn.result c.args.note
    c.requires.working c.take-turn.ensures.taken c.take-turn.ensures.turn c.tell.ensures.told c.tell.ensures.turn c.apply-turn.ensures.applied c.apply-turn.ensures.turn
    (share_in (view c.args.pass.now).shares c.args.line.now.script c.requires.working.part c.requires.left c.requires.working.shares))

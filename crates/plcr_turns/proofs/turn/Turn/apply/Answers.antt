use Rattle.std.proofs.Common.{◌≡◌, ◌+◌, ◌<◌, ◌≤◌, suc, slice_get, Some, refl, sym, ap, ◌∙◌, subst, vec_len, vec_capacity, ◌++◌, ◌∷◌, [], set, length, List, arith}
use Rattle.std.proofs.lemmas.Option.{slice_get_within, get_or_from_slice_get}
use Rattle.plcr_turns.specs.declared.turn.Part.{Part}
use Rattle.plcr_turns.specs.declared.lines.Asked.{Asked}
use Rattle.plcr_turns.specs.declared.lines.ChangeLine.{ChangeLine}
use Rattle.plcr_turns.specs.Lines.{asked_by}
use Rattle.plcr_turns.specs.Turns.{TurnState, IsTurn, HasLeft, turn_state, line_of, name_in, one_more, room_wanted, HasApplied}
use Rattle.plcr_turns.proofs.Turned.{applied_turn, room_used, set_part}
use Rattle.plcr_turns.proofs.turn.Turn.apply.Goals as goal

pub push_reserved-requires : goal.push_reserved-requires
push_reserved-requires c =
    let left : HasLeft c.self.inside.parts.items c.args.script = subst (λ (t : TurnState). HasLeft t.parts c.args.script) (sym c.self.view_is) c.requires.left in
    let used = room_used c.args.script c.self.inside.parts.items left.0 left.1 left.2 in
    let room = c.self.invariant.1 in
    omega arith

pub index_mut-part-requires : goal.index_mut-part-requires
index_mut-part-requires c =
    let left : HasLeft c.self.inside.parts.items c.args.script = subst (λ (t : TurnState). HasLeft t.parts c.args.script) (sym c.self.view_is) c.requires.left in
    let within = slice_get_within c.self.inside.parts.items c.args.script left.0 left.1 in
    let ok = c.self.inside.parts.ok.0 in
    omega arith

-- the part of the script as the code reads it
read_part : (c : goal.After-index_mut-part) → (left : HasLeft c.self.inside.parts.items c.args.script) → c.index_mut-part.result.now ≡ left.0
read_part c left = c.index_mut-part.ensures.value ∙ get_or_from_slice_get c.self.inside.parts.items c.args.script left.0 c.index_mut-part.result.now left.1

pub overflow_add-part : goal.overflow_add-part
overflow_add-part c =
    let left : HasLeft c.self.inside.parts.items c.args.script = subst (λ (t : TurnState). HasLeft t.parts c.args.script) (sym c.self.view_is) c.requires.left in
    let was : c.index_mut-part.result.now.applied ≡ left.0.applied = ap (λ (p : Part). p.applied) (read_part c left) in
    let word = (c.self.invariant.0.progress c.args.script left.0 left.1).word in
    let less = left.2 in
    omega arith

-- the journal and the parts as the code puts them together
journal_is : (c : goal.After-parts-2-1) → c.push_reserved.new.self.items ≡ c.self.inside.journal.items ++ line_of c.args.script c.args.line (asked_by c.args.request.now) c.answer-writer.result.1 ∷ []
journal_is c = c.push_reserved.ensures.items ∙ ap (λ (a : Asked). c.self.inside.journal.items ++ line_of c.args.script c.args.line a c.answer-writer.result.1 ∷ []) c.asked-asked.ensures

parts_are : (c : goal.After-parts-2-1) → (left : HasLeft c.self.inside.parts.items c.args.script)
    → set c.self.inside.parts.items c.args.script (record { applied = c.index_mut-part.result.now.applied + 1; total = c.index_mut-part.result.now.total }) ≡ one_more c.args.script c.self.inside.parts.items
parts_are c left =
    set_part c.args.script c.self.inside.parts.items left.0 c.index_mut-part.result.now left.1
    (c.index_mut-part.ensures.value ∙ get_or_from_slice_get c.self.inside.parts.items c.args.script left.0 c.index_mut-part.result.now left.1)

turn_applied : (c : goal.After-parts-2-1) → (left : HasLeft c.self.inside.parts.items c.args.script)
    → IsTurn (turn_state c.answer-writer.result.0 c.push_reserved.new.self.items
    (set c.self.inside.parts.items c.args.script (record { applied = c.index_mut-part.result.now.applied + 1; total = c.index_mut-part.result.now.total })))
turn_applied c left =
    subst (λ (y : List ChangeLine × List Part). IsTurn (turn_state c.answer-writer.result.0 y.0 y.1)) (λ i. (sym (journal_is c) i, sym (parts_are c left) i))
    (applied_turn (turn_state c.self.inside.writer c.self.inside.journal.items c.self.inside.parts.items) c.args.script c.args.line (asked_by c.args.request.now) (name_in c.args.request.now) c.answer-writer.result.1
    c.answer-writer.result.0 c.self.invariant.0 left c.answer-writer.ensures.come)

pub invariant_of-result : goal.invariant_of-result
invariant_of-result c =
    let left : HasLeft c.self.inside.parts.items c.args.script = subst (λ (t : TurnState). HasLeft t.parts c.args.script) (sym c.self.view_is) c.requires.left in (
      turn_applied c left,
      (let used = room_used c.args.script c.self.inside.parts.items left.0 left.1 left.2 in
          let is = ap room_wanted (parts_are c left) in
          let room = c.self.invariant.1 in
          let len = c.push_reserved.ensures.len in
          let cap = c.push_reserved.ensures.capacity in
          omega arith),
    )

pub returns-clause-applied : goal.returns-clause-applied
returns-clause-applied c =
    let left : HasLeft c.self.inside.parts.items c.args.script = subst (λ (t : TurnState). HasLeft t.parts c.args.script) (sym c.self.view_is) c.requires.left in
    subst (λ (t : TurnState). HasApplied t c.args.script c.args.line c.args.request.now (turn_state c.answer-writer.result.0 c.push_reserved.new.self.items
    (set c.self.inside.parts.items c.args.script (record { applied = c.index_mut-part.result.now.applied + 1; total = c.index_mut-part.result.now.total }))))
    c.self.view_is
    (record { said = c.answer-writer.result.1; answered = c.answer-writer.ensures; journal = journal_is c; parts = parts_are c left })

pub returns-clause-turn : goal.returns-clause-turn
returns-clause-turn c =
    let left : HasLeft c.self.inside.parts.items c.args.script = subst (λ (t : TurnState). HasLeft t.parts c.args.script) (sym c.self.view_is) c.requires.left in
    turn_applied c left

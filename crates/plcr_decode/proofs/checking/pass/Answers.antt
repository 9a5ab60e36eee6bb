-- A message that may stand in parts holds none: its faults are those of its fields.
use Rattle.std.proofs.Common.{◌≡◌, ◌<◌, [], true, cond, sym, ap, ◌∙◌, length, arith}
use Rattle.std.proofs.lemmas.List.{nil_from_length}
use Rattle.std.proofs.lemmas.Result.{err_from_is_err_and}
use Rattle.plcr_wire.specs.Reading.{field_slice, value_slice}
use Rattle.plcr_decode.specs.Fields.{fields_of, has}
use Rattle.plcr_decode.specs.Scan as spec
use Rattle.plcr_decode.specs.inner.Marks.{seen}
use Rattle.plcr_decode.proofs.Listed.{fields_none}
use Rattle.plcr_decode.proofs.Scans.{scan_fault, scan_none}
use Rattle.plcr_decode.proofs.Marked.{leaf_more, sees_next, or_none}
use Rattle.plcr_decode.proofs.checking.pass.Goals as goal

pub returns-in_err-step-clause-fault : goal.returns-in_err-step-clause-fault
returns-in_err-step-clause-fault c =
    let p = err_from_is_err_and c.from_residual.result c.from_residual.ensures.1 in
    let some : 0 < length c.loop-rest.rest.now = omega arith in
    rw (p.1, p.2) (sym c.loop-rest.invariant.same ∙ scan_fault c.args.kind c.args.end c.loop-rest.rest.now _ some c.in_err-step.ensures.reads)

pub loop-rest-preserved : goal.loop-rest-preserved
loop-rest-preserved c =
    let some : 0 < length c.loop-rest.rest.now = omega arith in
    let step = c.in_ok-step.step in
    record {
      short =
          let less = c.in_ok-step.ensures.shorter in
          omega arith;
      same =
          sym (leaf_more c.args.kind c.args.end c.loop-rest.rest.now step.holds step.field.number (value_slice step.field.value) step.field.rest.now
          c.requires.joined some c.in_ok-step.ensures.known c.in_ok-step.ensures.reads) ∙ c.loop-rest.invariant.same;
      sees = λ m less.
          sees_next c.loop-rest.seen c.note.new.self (field_slice step.field).0 m (fields_of step.field.rest.now) (c.note.ensures m less)
          ∙ ap (λ gs. cond (seen c.loop-rest.seen m) true (has m gs)) (sym c.in_ok-step.ensures.field) ∙ c.loop-rest.invariant.sees m less;
    }

pub returns-clause-none : goal.returns-clause-none
returns-clause-none c =
    let none : c.loop-rest.rest.now ≡ [] = nil_from_length c.loop-rest.rest.now (omega arith) in
    sym c.loop-rest.invariant.same ∙ (ap (spec.scan c.args.kind c.args.end) none ∙ scan_none c.args.kind c.args.end)

pub returns-clause-seen : goal.returns-clause-seen
returns-clause-seen c = λ m less.
    let none : c.loop-rest.rest.now ≡ [] = nil_from_length c.loop-rest.rest.now (omega arith) in
    sym (or_none (seen c.loop-rest.seen m))
    ∙ ap (λ gs. cond (seen c.loop-rest.seen m) true (has m gs)) (sym (ap fields_of none ∙ fields_none)) ∙ c.loop-rest.invariant.sees m less

-- The first fault is that of a field or of the message in it; where there is none, what is known of all fields tells.
use Rattle.std.proofs.Common.{◌≡◌, [], rules, sym, ap, ◌∙◌, Some, None, arith}
use Rattle.std.proofs.lemmas.List.{nil_from_length}
use Rattle.std.proofs.lemmas.Result.{err_from_is_err_and}
use Rattle.plcr_report.specs.declared.kinds.Holds.TheVariants as holds
use Rattle.plcr_wire.specs.Reading.{field_slice, value_slice}
use Rattle.plcr_decode.specs.Fields.{fields_of}
use Rattle.plcr_decode.specs.Scan as spec
use Rattle.plcr_decode.proofs.Listed.{fields_none}
use Rattle.plcr_decode.proofs.Scans.{scan_fault, scan_none}
use Rattle.plcr_decode.proofs.Marked.{field_fault, field_more, held_is, known_small, marks_more, marks_tell}
use Rattle.plcr_decode.proofs.checking.+checking.Goals as goal

pub pass_field-returns-in_err-step-clause-fault : goal.pass_field-returns-in_err-step-clause-fault
pass_field-returns-in_err-step-clause-fault t c =
    let p = err_from_is_err_and c.from_residual.result c.from_residual.ensures.1 in
    rw (p.1, p.2) (scan_fault c.args.kind c.args.end c.args.bytes.now _ c.requires.some c.in_err-step.ensures.reads)

pub pass_field-returns-in_err-take-clause-fault : goal.pass_field-returns-in_err-take-clause-fault
pass_field-returns-in_err-take-clause-fault t c =
    let p = err_from_is_err_and c.from_residual-in_err-take.result c.from_residual-in_err-take.ensures.1 in
    let step = c.in_ok-step.step in
    rw (p.1, p.2) (field_fault c.args.kind c.args.end c.args.bytes.now step.holds (value_slice step.field.value) step.field.rest.now _
    c.requires.some c.in_ok-step.ensures.reads (sym c.in_err-take.ensures.exact))

pub pass_field-returns-clause-more : goal.pass_field-returns-clause-more
pass_field-returns-clause-more t c =
    let step = c.in_ok-step.step in
    field_more c.args.kind c.args.end c.args.bytes.now step.holds (value_slice step.field.value) step.field.rest.now
    c.requires.some c.in_ok-step.ensures.reads (sym c.in_ok-take.ensures.exact)

pub check-loop-rest-preserved : goal.check-loop-rest-preserved
check-loop-rest-preserved t c =
    let field = c.in_ok-field.field in
    let passed = c.in_ok-field.ensures in
    record {
      short = let less = passed.shorter in omega arith;
      same = sym passed.more ∙ c.loop-rest.invariant.same;
      marks =
          marks_more c.args.kind (field_slice field).0 c.loop-rest.marks c.pass_field.new.marks (fields_of c.args.bytes.now) (fields_of field.rest.now) (fields_of c.loop-rest.rest.now)
          passed.field passed.marks c.loop-rest.invariant.marks;
    }

pub check-returns-clause-none : goal.check-returns-clause-none
check-returns-clause-none t c =
    let none : c.loop-rest.rest.now ≡ [] = nil_from_length c.loop-rest.rest.now (omega arith) in
    sym c.loop-rest.invariant.same ∙ (ap (spec.scan c.args.kind c.args.end) none ∙ scan_none c.args.kind c.args.end)

pub check-returns-clause-lack : goal.check-returns-clause-lack
check-returns-clause-lack t c =
    let none : c.loop-rest.rest.now ≡ [] = nil_from_length c.loop-rest.rest.now (omega arith) in
    c.lack.ensures
    ∙ marks_tell c.args.kind c.loop-rest.marks (fields_of c.args.bytes.now) (fields_of c.loop-rest.rest.now) (ap fields_of none ∙ fields_none) c.loop-rest.invariant.marks

pub take-take_message-requires : goal.take-take_message-requires
take-take_message-requires t c =
    let some : c.args.step.holds ≡ Some c.in-Some-Message.field-0 = c.in-Some-Message.is in
    (search rules, (omega arith, known_small c.args.kind c.args.step.field.number c.in-Some-Message.field-0 (sym c.requires.known ∙ some)))

pub take-returns-in-None-clause-exact : goal.take-returns-in-None-clause-exact
take-returns-in-None-clause-exact t c =
    held_is c.args.kind c.args.end c.args.step.holds None (value_slice c.args.step.field.value) c.args.step.field.rest.now c.in-None.is (scan_none c.args.kind c.args.end)

pub take-returns-in-Some-Number-clause-exact : goal.take-returns-in-Some-Number-clause-exact
take-returns-in-Some-Number-clause-exact t c =
    let some : c.args.step.holds ≡ Some c.in-Some-Number.field-0 = c.in-Some-Number.is in
    let number : c.in-Some-Number.field-0 ≡ holds.Number = rw some at c.in-Some-Number.field-0-is in
    held_is c.args.kind c.args.end c.args.step.holds (Some holds.Number) (value_slice c.args.step.field.value) c.args.step.field.rest.now
    (some ∙ ap Some number) (scan_none c.args.kind c.args.end)

pub take-returns-in-Some-Text-clause-exact : goal.take-returns-in-Some-Text-clause-exact
take-returns-in-Some-Text-clause-exact t c =
    let some : c.args.step.holds ≡ Some c.in-Some-Text.field-0 = c.in-Some-Text.is in
    let text : c.in-Some-Text.field-0 ≡ holds.Text = rw some at c.in-Some-Text.field-0-is in
    held_is c.args.kind c.args.end c.args.step.holds (Some holds.Text) (value_slice c.args.step.field.value) c.args.step.field.rest.now
    (some ∙ ap Some text) (scan_none c.args.kind c.args.end)

-- The root message is checked as every message is; what is kept of the fields passed, and the fields left, tell all.
use Rattle.std.proofs.Common.{◌≡◌, ◌<◌, [], refl, sym, ap, ◌∙◌, length, Err, arith}
use Rattle.std.proofs.lemmas.List.{nil_from_length}
use Rattle.plcr_report.specs.declared.kinds.Kind.TheVariants as kinds
use Rattle.plcr_wire.specs.Reading.{field_slice}
use Rattle.plcr_decode.specs.Fields.{fields_of}
use Rattle.plcr_decode.specs.Required.{whole}
use Rattle.plcr_decode.specs.Scan as spec
use Rattle.plcr_decode.specs.inner.Marks.{before}
use Rattle.plcr_decode.proofs.Kept.{keeps_more, keeps_all, few_more}
use Rattle.plcr_decode.proofs.Listed.{fields_none}
use Rattle.plcr_decode.proofs.Scans.{scan_none}
use Rattle.plcr_decode.proofs.Marked.{marks_more, marks_tell}
use Rattle.plcr_decode.proofs.checking.check_root.Goals as goal

pub loop-rest-preserved : goal.loop-rest-preserved
loop-rest-preserved c =
    let field = c.in_ok-field.field in
    let passed = c.in_ok-field.ensures in
    let all = fields_of c.args.bytes.now in
    let fs = fields_of field.rest.now in
    let gs = fields_of c.loop-rest.rest.now in
    let less : length field.rest.now < length c.loop-rest.rest.now = passed.shorter in
    record {
      short = omega arith;
      same = sym passed.more ∙ c.loop-rest.invariant.same;
      marks = marks_more kinds.Root (field_slice field).0 c.loop-rest.marks c.pass_field.new.marks all fs gs passed.field passed.marks c.loop-rest.invariant.marks;
      keeps = keeps_more c.loop-rest.kept c.keep.new.kept field.value (field_slice field).0 all fs gs refl c.keep.ensures passed.field c.loop-rest.invariant.keeps;
      few = few_more c.loop-rest.kept c.keep.new.kept field.value field.number _ _ c.keep.ensures (omega arith) c.loop-rest.invariant.few;
    }

pub gathered-requires : goal.gathered-requires
gathered-requires c =
    let none : c.loop-rest.rest.now ≡ [] = nil_from_length c.loop-rest.rest.now (omega arith) in
    keeps_all c.loop-rest.kept (fields_of c.args.bytes.now) (fields_of c.loop-rest.rest.now) (ap fields_of none ∙ fields_none) c.loop-rest.invariant.keeps

pub returns-in-None-clause-none : goal.returns-in-None-clause-none
returns-in-None-clause-none c =
    let none : c.loop-rest.rest.now ≡ [] = nil_from_length c.loop-rest.rest.now (omega arith) in
    sym c.loop-rest.invariant.same ∙ (ap (spec.scan kinds.Root c.args.end) none ∙ scan_none kinds.Root c.args.end)

pub returns-in-None-clause-whole : goal.returns-in-None-clause-whole
returns-in-None-clause-whole c =
    let none : c.loop-rest.rest.now ≡ [] = nil_from_length c.loop-rest.rest.now (omega arith) in
    sym (c.in-None.ensures
    ∙ marks_tell kinds.Root c.loop-rest.marks (fields_of c.args.bytes.now) (fields_of c.loop-rest.rest.now) (ap fields_of none ∙ fields_none) c.loop-rest.invariant.marks)

pub returns-in-Some-clause-fault : goal.returns-in-Some-clause-fault
returns-in-Some-clause-fault c =
    let none : c.loop-rest.rest.now ≡ [] = nil_from_length c.loop-rest.rest.now (omega arith) in
    let scanned = sym c.loop-rest.invariant.same ∙ (ap (spec.scan kinds.Root c.args.end) none ∙ scan_none kinds.Root c.args.end) in
    ap (λ r. before r (whole kinds.Root (fields_of c.args.bytes.now))) scanned
    ∙ sym (marks_tell kinds.Root c.loop-rest.marks (fields_of c.args.bytes.now) (fields_of c.loop-rest.rest.now) (ap fields_of none ∙ fields_none) c.loop-rest.invariant.marks)
    ∙ sym c.in-Some.ensures ∙ ap Err (sym c.fault.ensures)

use Rattle.std.proofs.Common.{◌≡◌, length, sym, refl, ◌∙◌, subst, arith, rules, Result}
use Rattle.std.proofs.lemmas.Result.{err_from_is_err_and}
use Rattle.plcr_script.specs.Refusals.{Refusal}
use Rattle.plcr_script.specs.Reading.{DraftValue, written_by, Tells}
use Rattle.plcr_script.proofs.Steps.{goes_on, stops, ends}
use Rattle.plcr_script.proofs.Lawfulness.{lawful_at_first}
use Rattle.plcr_script.proofs.Naming.{index_same}
use Rattle.plcr_script.proofs.reading.read_lines.Goals as goal

pub loop-rest-init : goal.loop-rest-init
loop-rest-init c = record {
  read = rw c.in_ok-draft.ensures refl;
  index = rw c.in_ok-draft.ensures (record {
    names = index_same c.in_ok-index.index.names (written_by c.args.before.now) c.in_ok-index.ensures.names;
    inside = c.in_ok-index.ensures.inside;
  });
  lawful = rw c.in_ok-draft.ensures (lawful_at_first c.args.mode c.args.before.now);
  first = omega arith;
  count = omega arith;
}

pub loop-rest-preserved : goal.loop-rest-preserved
loop-rest-preserved c = record {
  read = sym (goes_on c.loop-rest.draft c.add_line.new.draft c.loop-rest.number c.loop-rest.rest.now c.first_line.result.0.now c.first_line.result.1.now c.first_line.ensures.lines c.in_ok-add_line.ensures.added) ∙ c.loop-rest.invariant.read;
  index = c.in_ok-add_line.ensures.index;
  lawful = c.in_ok-add_line.ensures.lawful;
  first = omega (arith, c.loop-rest.invariant.first);
  count = omega (arith, c.first_line.ensures.shorter, c.loop-rest.invariant.count);
}

pub returns-in_err-add_line-clause-refused : goal.returns-in_err-add_line-clause-refused
returns-in_err-add_line-clause-refused c =
    let p = err_from_is_err_and c.from_residual-in_err-add_line.result c.from_residual-in_err-add_line.ensures.1 in
    let refused = stops c.loop-rest.draft c.loop-rest.number c.loop-rest.rest.now c.first_line.result.0.now c.first_line.result.1.now c.in_err-add_line.field-0.0 c.first_line.ensures.lines c.in_err-add_line.ensures.refused in
    rw (p.1, p.2) (subst (λ (read : Result DraftValue Refusal). Tells c.in_err-add_line.field-0.0 read) c.loop-rest.invariant.read refused)

pub returns-clause-read : goal.returns-clause-read
returns-clause-read c =
    let empty : length c.loop-rest.rest.now ≡ 0 = search rules in
    sym c.loop-rest.invariant.read ∙ ends c.loop-rest.draft c.loop-rest.number c.loop-rest.rest.now empty

pub add_line-requires-clause-short : goal.add_line-requires-clause-short
add_line-requires-clause-short c = omega (arith, c.first_line.ensures.within, c.loop-rest.invariant.first, c.loop-rest.invariant.count, c.requires)

use Rattle.std.proofs.Common.{◌<◌, length, None, Some, sym, ◌∙◌, arith, rules}
use Rattle.plcr_maker.proofs.Digits.{count_read, makable}
use Rattle.plcr_maker.proofs.numerals.images_of.Goals as goal

pub returns-in_err-number-clause-number : goal.returns-in_err-number-clause-number
returns-in_err-number-clause-number c =
    let some : 0 < length c.as_bytes-text.result.now = search rules in
    rw c.as_bytes-text.ensures.value at (c.from_residual.ensures ∙ count_read c.as_bytes-text.result.now None some (omega arith) c.in_err-number.ensures)

pub returns-then-number-le-MOST_IMAGES-clause-number : goal.returns-then-number-le-MOST_IMAGES-clause-number
returns-then-number-le-MOST_IMAGES-clause-number c =
    let some : 0 < length c.as_bytes-text.result.now = search rules in
    let number = c.in_ok-number.number in
    rw c.as_bytes-text.ensures.value at (sym (makable number (omega arith) (omega arith)) ∙ count_read c.as_bytes-text.result.now (Some number) some (omega arith) c.in_ok-number.ensures)

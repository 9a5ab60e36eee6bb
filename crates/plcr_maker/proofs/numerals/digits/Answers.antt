use Rattle.std.proofs.Common.{◌<◌, length, arith}
use Rattle.std.proofs.lemmas.Int.Digits.{digits_more, digits_value_more}
use Rattle.plcr_script.proofs.Digits.{digit_below}
use Rattle.plcr_maker.proofs.Digits.{few_digits}
use Rattle.plcr_maker.proofs.numerals.digits.Goals as goal

pub returns-in_err-digit : goal.returns-in_err-digit
returns-in_err-digit c =
    rw c.from_residual.ensures (λ all.
    let low = digit_below 10 c.args.text.now c.loop-byte.byte-index all (omega arith) in
    c.in_err-digit.ensures.value (rw c.from.ensures low))

pub overflow_mul-value : goal.overflow_mul-value
overflow_mul-value c =
    let small = few_digits c.args.text.now c.loop-byte.byte-index c.loop-byte.invariant.digits (omega arith) c.requires in
    omega (arith, small, c.loop-byte.invariant.value)

pub overflow_add-value : goal.overflow_add-value
overflow_add-value c =
    let digit = c.in_ok-digit.ensures.value in
    let small = few_digits c.args.text.now c.loop-byte.byte-index c.loop-byte.invariant.digits (omega arith) c.requires in
    omega (arith, small, c.loop-byte.invariant.value, digit.0, digit.1)

pub loop-byte-preserved : goal.loop-byte-preserved
loop-byte-preserved c =
    let digit = c.in_ok-digit.ensures.value in
    let here : c.loop-byte.byte-index < length c.args.text.now = omega arith in
    let more = digits_value_more 10 c.args.text.now c.loop-byte.byte-index here in
    record {
      digits = digits_more 10 c.args.text.now c.loop-byte.byte-index here c.loop-byte.invariant.digits (rw c.from.ensures at digit.0);
      value = cc (digit.1, more, c.from.ensures);
    }

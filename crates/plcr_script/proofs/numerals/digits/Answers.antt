use Rattle.std.proofs.Common.{◌<◌, length, arith, add-one}
use Rattle.std.specs.Char.{digit_value}
use Rattle.std.proofs.Math.Nat.{pow-suc}
use Rattle.std.proofs.lemmas.Int.Digits.{digits_more, digits_value_more}
use Rattle.plcr_script.proofs.Digits.{digit_below, one_more, value_small}
use Rattle.plcr_script.proofs.numerals.digits.Goals as goal

pub returns-in_err-digit : goal.returns-in_err-digit
returns-in_err-digit c =
    rw c.from_residual.ensures (λ all.
    let low = digit_below c.args.base c.args.text.now c.loop-byte.byte-index all (omega arith) in
    c.in_err-digit.ensures.value (rw c.from.ensures low))

pub overflow_mul-value : goal.overflow_mul-value
overflow_mul-value c =
    let digit = c.in_ok-digit.ensures.value in
    let small = value_small c.args.base c.loop-byte.value (digit_value c.from.result) c.loop-byte.byte-index (omega arith) digit.0 c.loop-byte.invariant.small (omega arith) in
    rw c.from-in-loop-byte.ensures (omega (arith, small))

pub overflow_add-value : goal.overflow_add-value
overflow_add-value c =
    let digit = c.in_ok-digit.ensures.value in
    let small = value_small c.args.base c.loop-byte.value (digit_value c.from.result) c.loop-byte.byte-index (omega arith) digit.0 c.loop-byte.invariant.small (omega arith) in
    rw (c.from-in-loop-byte.ensures, c.from-in-loop-byte-2.ensures, digit.1) (omega (arith, small))

pub loop-byte-preserved : goal.loop-byte-preserved
loop-byte-preserved c =
    let digit = c.in_ok-digit.ensures.value in
    let here : c.loop-byte.byte-index < length c.args.text.now = omega arith in
    let more = digits_value_more c.args.base c.args.text.now c.loop-byte.byte-index here in
    record {
      digits = digits_more c.args.base c.args.text.now c.loop-byte.byte-index here c.loop-byte.invariant.digits (rw c.from.ensures at digit.0);
      value = cc (digit.1, more, c.from.ensures, c.from-in-loop-byte.ensures, c.from-in-loop-byte-2.ensures);
      small = rw (c.from-in-loop-byte.ensures, c.from-in-loop-byte-2.ensures, digit.1, add-one, pow-suc) (one_more _ _ _ _ (omega arith) digit.0 c.loop-byte.invariant.small);
    }

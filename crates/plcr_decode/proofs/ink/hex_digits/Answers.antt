-- Each digit stands before those that are there.
use Rattle.std.proofs.Common.{◌+◌, ◌-◌, rules, arith}
use Rattle.plcr_decode.proofs.Lines.{digits_more, digits_all}
use Rattle.plcr_decode.proofs.ink.hex_digits.Goals as goal

pub loop-i-preserved : goal.loop-i-preserved
loop-i-preserved c =
    let i = c.loop-i.i in
    let before = c.loop-i-test.true in
    let room = c.loop-i.invariant.room in
    record {
      whole = digits_more (16 - i) (16 - (i + 1)) (16 - 1 - i) c.loop-i.rest c.hex_digit.result c.loop-i.digits _ (omega (arith, before)) (omega (arith, before)) (omega (arith, before, room)) c.hex_digit.ensures c.loop-i.invariant.whole;
      room = search rules;
    }

pub returns : goal.returns
returns c = let i = c.loop-i.i in let past = c.loop-i-test.false in digits_all (16 - i) c.loop-i.rest c.loop-i.digits _ (omega (arith, past)) c.loop-i.invariant.whole

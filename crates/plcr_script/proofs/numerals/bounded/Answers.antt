use Rattle.std.proofs.Common.{◌<◌, length, arith, rules}
use Rattle.plcr_script.proofs.Digits.{numeral_read}
use Rattle.plcr_script.proofs.numerals.bounded.Goals as goal

pub returns : goal.returns
returns c =
    let some : 0 < length c.args.text.now = search rules in
    numeral_read c.args.base c.args.most c.args.text.now c.digits.result some (omega arith) c.digits.ensures

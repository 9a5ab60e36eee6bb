use Rattle.std.proofs.Common.{◌≡◌, ◌^◌, ◌<◌, take}
use Rattle.std.specs.Str.Parse.{AllDigits, digits_value}
use Rattle.plcr_script.proofs.numerals.digits.Given as goal

-- the value of the digits so far
abbrev pub invariant-loop-byte : goal.invariant-loop-byte
invariant-loop-byte l = record {
  digits : AllDigits l.base (take l.byte-index l.text);
  value : l.value ≡ digits_value l.base (take l.byte-index l.text);
  small : l.value < 16 ^ l.byte-index;
}

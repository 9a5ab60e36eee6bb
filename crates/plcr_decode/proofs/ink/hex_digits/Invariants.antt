use Rattle.std.proofs.Common.{◌≡◌, ◌-◌, ◌++◌, length, drop}
use Rattle.plcr_decode.specs.Text.{hex}
use Rattle.plcr_decode.specs.declared.ink.TheConstants.{ADDRESS_DIGITS}
use Rattle.plcr_decode.proofs.ink.hex_digits.Given as goal

-- the digits so far stand behind those of what is left
abbrev pub invariant-loop-i : goal.invariant-loop-i
invariant-loop-i l = record {
  whole : hex (ADDRESS_DIGITS - l.i) l.rest ++ drop (ADDRESS_DIGITS - l.i) l.digits ≡ hex ADDRESS_DIGITS l.number;
  room : length l.digits ≡ ADDRESS_DIGITS;
}

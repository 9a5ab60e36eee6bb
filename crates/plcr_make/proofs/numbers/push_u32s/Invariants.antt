use Rattle.std.proofs.Common.{◌≡◌, ◌+◌, ◌*◌, ◌++◌, take}
use Rattle.arrayvec.specs.ArrayVec.{array_vec_len}
use Rattle.plcr_make.specs.Numbers.{u32s}
use Rattle.plcr_make.proofs.numbers.push_u32s.Given as goal

abbrev pub invariant-loop-number : goal.invariant-loop-number
invariant-loop-number g l = record {
  items : l.piece.items ≡ l.initial.piece.items ++ u32s (take l.number-index l.numbers);
  len : array_vec_len l.piece ≡ array_vec_len l.initial.piece + 4 * l.number-index;
}

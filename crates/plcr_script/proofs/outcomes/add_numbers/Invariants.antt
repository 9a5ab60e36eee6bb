use Rattle.std.proofs.Common.{◌≡◌, ◌+◌, ◌*◌, ◌≤◌, ◌++◌, take}
use Rattle.arrayvec.specs.ArrayVec.{array_vec_len}
use Rattle.plcr_script.specs.Log.{numbers}
use Rattle.plcr_script.proofs.outcomes.add_numbers.Given as goal

-- the numbers so far, each of at most 21 bytes
abbrev pub invariant-loop-count : goal.invariant-loop-count
invariant-loop-count l = record {
  items : l.text.items ≡ l.initial.text.items ++ numbers (take l.count-index l.counts);
  len : array_vec_len l.text ≤ array_vec_len l.initial.text + 21 * l.count-index;
}

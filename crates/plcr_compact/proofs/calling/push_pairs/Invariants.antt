use Rattle.std.proofs.Common.{◌≡◌, ◌≤◌, ◌+◌, ◌*◌, ◌++◌, length, drop}
use Rattle.std.specs.Prelude.{pos, ◌-ℤ◌, int_le, IsTrue}
use Rattle.plcr_compact.specs.Callers.{pair_places, pair_words}
use Rattle.plcr_compact.proofs.calling.push_pairs.Given as goal

abbrev pub invariant-loop-pair : goal.invariant-loop-pair
invariant-loop-pair l = record {
  words : l.words.items ++ pair_words l.top (drop l.pair l.pairs) (drop l.pair pair_places) ≡ l.fn.words.items ++ pair_words l.fn.top l.pairs pair_places;
  top : IsTrue (int_le (l.fn.top -ℤ pos (16 * l.pair)) l.top);
  size : length l.words.items ≤ length l.fn.words.items + 2 * l.pair;
}

-- The values built, and those of the messages left, are all; there is room for them.
use Rattle.std.proofs.Common.{◌≡◌, ◌+◌, ◌≤◌, ◌++◌, length, map, vec_len, vec_capacity}
use Rattle.plcr_decode.specs.Fields.{fields_of, messages_in}
use Rattle.plcr_decode.proofs.messages.build_each.Given as goal

abbrev pub invariant-loop-field : goal.invariant-loop-field
invariant-loop-field g l = record {
  ones : l.ones.items ++ map g.A.Row.value (messages_in l.numbers.0 (fields_of l.rest)) ≡ map g.A.Row.value (messages_in l.numbers.0 (fields_of l.fn.bytes));
  others : l.others.items ++ map g.B.Row.value (messages_in l.numbers.1 (fields_of l.rest)) ≡ map g.B.Row.value (messages_in l.numbers.1 (fields_of l.fn.bytes));
  room : vec_len l.ones + length (messages_in l.numbers.0 (fields_of l.rest)) ≤ vec_capacity l.ones;
  other_room : vec_len l.others + length (messages_in l.numbers.1 (fields_of l.rest)) ≤ vec_capacity l.others;
}

abbrev pub decreases-loop-field : goal.decreases-loop-field
decreases-loop-field g l = length l.rest

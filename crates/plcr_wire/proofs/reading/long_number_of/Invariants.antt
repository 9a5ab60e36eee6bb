use Rattle.std.proofs.Common.{◌≡◌, ◌-◌, ◌^◌, ◌<◌, ◌≤◌, length}
use Rattle.plcr_wire.specs.Reading.{varint_at}
use Rattle.plcr_wire.specs.declared.varint.TheConstants.{VARINT_BYTES}
use Rattle.plcr_wire.proofs.Groups.{plus}
use Rattle.plcr_wire.proofs.reading.long_number_of.Given as goal

-- the groups so far are read, and what is left stands for the rest
abbrev pub invariant-loop-group : goal.invariant-loop-group
invariant-loop-group l =
    let first = l.end - length l.bytes in
    record {
      scale : l.scale ≡ 128 ^ l._group;
      small : l.value < l.scale;
      shorter : length l.rest ≤ length l.bytes;
      read : plus l.value l.scale (varint_at l.end first (VARINT_BYTES - 1 - l._group) l.rest) ≡ varint_at l.end first (VARINT_BYTES - 1) l.bytes;
    }

-- The wire types in use and their numbers (Protocol Buffers documentation, "Encoding").
use Rattle.std.specs.Prelude.{ℕ}
use Rattle.plcr_wire.specs.declared.wires.Wire.{Wire}
use Rattle.plcr_wire.specs.declared.wires.Wire.TheVariants.{Number, Fixed64, Bytes, Fixed32}

-- the number of a wire type in a tag
abbrev pub wire_number : Wire → ℕ
wire_number Number = 0
wire_number Fixed64 = 1
wire_number Bytes = 2
wire_number Fixed32 = 5

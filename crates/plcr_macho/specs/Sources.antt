-- The memory of a process as what load commands are read from. Addresses are counted modulo 2^64.
use Rattle.std.specs.Prelude.{ℕ, ◌+◌, ◌-◌, ◌^◌, ◌%◌}
use Rattle.plcr_memory.specs.Regions.{Contents, bytes_at}
use Rattle.plcr_loader.specs.Commands.{Bytes}

-- the address so many bytes behind another
abbrev pub plus : ℕ → ℕ → ℕ
plus a b = (a + b) % 2 ^ 64

-- the address so many bytes before another
abbrev pub minus : ℕ → ℕ → ℕ
minus a b = (a + (2 ^ 64 - b)) % 2 ^ 64

-- the bytes of a memory, at places counted from an address
unfoldable pub memory_bytes : Contents → ℕ → Bytes
memory_bytes memory start place n = bytes_at memory (plus start place) n

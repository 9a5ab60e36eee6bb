use Rattle.std.proofs.Common.{arith}
use Rattle.plcr_encode.specs.Frames.{name_of}
use Rattle.plcr_encode.proofs.Named.{mapped_length, symbol_length}
use Rattle.plcr_encode.proofs.frame_parts.SymbolPartMessage.len.Goals as goal

pub returns-clause-size : goal.returns-clause-size
returns-clause-size c =
    let memory = c.args.self.now.memory.now in
    let symbol = c.args.self.now.symbol.now in
    let count = mapped_length memory symbol.name_at symbol.name_len c.requires.mapped in
    let name = c.bytes_len.ensures.size (name_of memory symbol) (omega (arith, count, c.from-name.ensures)) in
    let start = c.number_len.ensures.size in
    rw (symbol_length (name_of memory symbol) symbol.value) (omega (arith, name, start))

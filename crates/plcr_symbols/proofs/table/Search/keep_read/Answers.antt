use Rattle.std.proofs.Common.{◌≡◌, length, ◌∙◌, ap, arith}
use Rattle.plcr_memory.specs.Regions.{bytes_at}
use Rattle.plcr_symbols.proofs.Pieces.{gathers_read, row_missing}
use Rattle.plcr_symbols.proofs.table.Search.keep_read.Goals as goal

pub returns-then-not-copy-clause-missing : goal.returns-then-not-copy-clause-missing
returns-then-not-copy-clause-missing c one =
    row_missing c.args.self.now.memory.now c.args.self.now.table.rows_at c.row_address.result c.args.index c.args.size (length c.args.buffer.now) c.row_address.ensures c.requires.whole one
    c.if-not-copy.ensures.mapped

pub returns-clause-gathers : goal.returns-clause-gathers
returns-clause-gathers c =
    let s = c.args.self.now in
    let same : length c.copy.new.into ≡ length c.args.buffer.now = c.copy.auto.into in
    gathers_read s.memory.now s.image.now s.table s.addresses.now c.row_address.result c.args.index c.args.size c.copy.new.into c.args.found.now c.keep_rows.new.found c.row_address.ensures
    (same ∙ c.requires.whole)
    (ap (bytes_at s.memory.now c.row_address.result) same ∙ c.if-not-copy.ensures.copied)
    (omega (arith, c.if-not-copy.ensures.within, same))
    c.keep_rows.ensures.gains

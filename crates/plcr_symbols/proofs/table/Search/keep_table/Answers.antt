use Rattle.std.proofs.Common.{◌≡◌, ◌-◌, subst, sym, List, Option, arith}
use Rattle.plcr_symbols.specs.declared.symbol.SymbolAt.{SymbolAt}
use Rattle.plcr_symbols.specs.inner.Gaps.{Gathers, gathered}
use Rattle.plcr_symbols.proofs.Pieces.{gathers_missing}
use Rattle.plcr_symbols.proofs.table.Search.keep_table.Goals as goal

pub returns-else-size-gt1-clause-gains : goal.returns-else-size-gt1-clause-gains
returns-else-size-gt1-clause-gains c =
    let s = c.args.self.now in
    let left = c.from-rows.result - c.loop-index.index in
    let all = gathered s.memory.now s.image.now s.table s.addresses.now s.table.rows 0 in
    let one : c.min-size.result ≡ 1 = omega (arith, c.if-size-gt1.false, c.min-size.ensures, c.loop-index-test.true, c.loop-index.invariant.2) in
    gathers_missing s.memory.now s.image.now s.table s.addresses.now left c.loop-index.index all c.args.found.now c.keep_piece.new.found
    (subst (λ (found : List (Option SymbolAt)). Gathers s.addresses.now c.args.found.now all found (gathered s.memory.now s.image.now s.table s.addresses.now left c.loop-index.index)) (sym c.if-keep_piece.ensures.same) c.loop-index.invariant.0)
    (c.if-keep_piece.ensures.missing one)

use Rattle.std.proofs.Common.{◌≡◌, ℕ, length, map, Option}
use Rattle.plcr_symbols.specs.declared.symbol.SymbolAt.{SymbolAt}
use Rattle.plcr_encode.specs.inner.Lookups.{answer}
use Rattle.plcr_encode.proofs.Spread.{SpreadUpTo}
use Rattle.plcr_encode.proofs.answers.give_symbols.Given as goal

-- whatever answers, the answers before i are given
abbrev pub invariant-loop-i : goal.invariant-loop-i
invariant-loop-i l = record {
  size : length l.rows ≡ length l.initial.rows;
  given : (symbol : Option ℕ → ℕ → Option SymbolAt) → l.found ≡ map (answer symbol) l.lookups → SpreadUpTo symbol l.lookups l.initial.rows l.rows l.i;
}

use Rattle.plcr_symbols.proofs.Lawful.{rows_of_table, symbol_found, symbol_named, symbol_only}
use Rattle.plcr_symbols.proofs.laws.symbols_lie.Goals as goal

pub returns : goal.returns
returns c = record {
  found = symbol_found;
  only = symbol_only;
  rows = rows_of_table;
  name = λ m image address s h. (symbol_named m image address s h).0;
  short = λ m image address s h. (symbol_named m image address s h).1;
}

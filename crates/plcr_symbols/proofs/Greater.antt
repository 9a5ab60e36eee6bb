-- The greater of two symbols.
use Rattle.std.proofs.Common.{◌≡◌, Option, Some, None, refl, arith}
use Rattle.std.proofs.lemmas.Bool.Decides.{nat_tests}
use Rattle.plcr_symbols.specs.declared.symbol.SymbolAt.{SymbolAt}
use Rattle.plcr_symbols.specs.Symbols.{greater}

-- beside none
pub greater_none : (a : Option SymbolAt) → greater a None ≡ a
greater_none None = refl
greater_none (Some s) = refl

-- of three the pair that is compared first doesn't matter
pub greater_thrice : (a b c : Option SymbolAt) → greater (greater a b) c ≡ greater a (greater b c)
greater_thrice None b c = refl
greater_thrice (Some s) None c = refl
greater_thrice (Some s) (Some t) None = greater_none (greater (Some s) (Some t))
greater_thrice (Some s) (Some t) (Some u) = grind (arith, nat_tests)

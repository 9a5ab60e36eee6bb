use Rattle.std.proofs.Common.{◌≡◌, length, None, Option, List, subst, ap, ◌∙◌, arith, rules, ℕ}
use Rattle.std.specs.Prelude.{replicate}
use Rattle.plcr_symbols.specs.declared.symbol.SymbolAt.{SymbolAt}
use Rattle.plcr_symbols.specs.inner.Gaps.{Gains, gathered}
use Rattle.plcr_symbols.proofs.Settled.{symbols_none, symbols_settled}
use Rattle.plcr_symbols.proofs.finding.find_all.Goals as goal

pub returns-in_default : goal.returns-in_default
returns-in_default c =
    let cleared : c.fill.new.self ≡ replicate {A = Option SymbolAt} (length c.args.found.now) None = c.fill.ensures.after (λ y q. search rules) in
    symbols_none c.args.memory.now c.args.image.now c.args.addresses.now c.fill.new.self c.in_default.is
    (cleared ∙ ap (λ (n : ℕ). replicate {A = Option SymbolAt} n None) c.requires.room)

pub returns : goal.returns
returns c =
    let image = c.args.image.now in
    let addresses = c.args.addresses.now in
    let table = c.in-Some.table in
    let cleared : c.fill.new.self ≡ replicate {A = Option SymbolAt} (length c.args.found.now) None = c.fill.ensures.after (λ y q. search rules) in
    let fresh = cleared ∙ ap (λ (n : ℕ). replicate {A = Option SymbolAt} n None) c.requires.room in
    symbols_settled c.args.memory.now image table addresses c.keep_table.new.found c.settle.new.found c.in-Some.is c.requires.rising
    (omega (arith, c.settle.ensures.size, c.keep_table.ensures.size, c.fill.ensures.len, c.requires.room))
    (subst (λ (old : List (Option SymbolAt)). Gains addresses (gathered c.args.memory.now image table addresses table.rows 0) old c.keep_table.new.found) fresh c.keep_table.ensures.gains)
    (λ k lt. c.settle.ensures.settled k (omega (arith, lt, c.keep_table.ensures.size, c.fill.ensures.len, c.requires.room)))

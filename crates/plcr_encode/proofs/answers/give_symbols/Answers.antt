use Rattle.std.proofs.Common.{◌≡◌, ◌<◌, List, Option, length, get_or, None, ap, ◌∙◌, arith}
use Rattle.std.proofs.lemmas.List.{length-set, get_or-map}
use Rattle.std.proofs.lemmas.List.Elements.{All-get_or}
use Rattle.plcr_symbols.specs.declared.symbol.SymbolAt.{SymbolAt}
use Rattle.plcr_encode.specs.inner.Lookups.{answer}
use Rattle.plcr_encode.proofs.Runs.{no_lookup}
use Rattle.plcr_encode.proofs.Spread.{IsFor, sorted_for, spread_more, spread_end}
use Rattle.plcr_encode.proofs.answers.give_symbols.Goals as goal

pub offset_bounds-rows-lookup : goal.offset_bounds-rows-lookup
offset_bounds-rows-lookup c =
    let own = All-get_or (IsFor c.args.rows.now) c.args.lookups.now c.loop-i.i no_lookup c.loop-i-test.true (sorted_for c.args.rows.now c.args.lookups.now c.requires.lookups) in
    let inside : (get_or c.args.lookups.now c.loop-i.i no_lookup).frame < length c.args.rows.now = own.inside in
    omega arith

pub bounds-rows-lookup : goal.bounds-rows-lookup
bounds-rows-lookup c =
    let own = All-get_or (IsFor c.args.rows.now) c.args.lookups.now c.loop-i.i no_lookup c.loop-i-test.true (sorted_for c.args.rows.now c.args.lookups.now c.requires.lookups) in
    let inside : (get_or c.args.lookups.now c.loop-i.i no_lookup).frame < length c.args.rows.now = own.inside in
    omega arith

pub loop-i-preserved : goal.loop-i-preserved
loop-i-preserved c = record {
  size = length-set c.loop-i.rows _ _ ∙ c.loop-i.invariant.size;
  given = λ symbol found.
      let here : get_or c.args.found.now c.loop-i.i None ≡ answer symbol (get_or c.args.lookups.now c.loop-i.i no_lookup) =
      ap (λ (xs : List (Option SymbolAt)). get_or xs c.loop-i.i None) found ∙ get_or-map (answer symbol) c.args.lookups.now c.loop-i.i no_lookup None c.loop-i-test.true in
      spread_more symbol c.args.lookups.now c.args.rows.now c.loop-i.rows c.loop-i.i (get_or c.args.found.now c.loop-i.i None) c.requires.lookups c.loop-i-test.true (c.loop-i.invariant.given symbol found) here;
}

pub returns : goal.returns
returns c = λ symbol found. spread_end symbol c.args.lookups.now c.args.rows.now c.loop-i.rows c.loop-i.i c.requires.lookups c.loop-i-test.false (c.loop-i.invariant.given symbol found)

use Rattle.std.proofs.Common.{◌<◌, false, length, get_or, arith, rules}
use Rattle.std.proofs.lemmas.Int.{to_z-of_z}
use Rattle.plcr_compact.specs.Callers.{pair_places}
use Rattle.plcr_compact.proofs.Pairs.{lower, pair_more, table_long}
use Rattle.plcr_compact.proofs.calling.push_pairs.Goals as goal

pub loop-pair-preserved : goal.loop-pair-preserved
loop-pair-preserved c =
    let l = c.loop-pair in
    let inside : l.pair < length pair_places = omega (arith, table_long, c.loop-pair-test.true) in
    let within : l.pair < length c.args.pairs.now = omega (arith, c.loop-pair-test.true) in
    let saved = get_or c.args.pairs.now l.pair false in
    let more = pair_more l.words.items l.top c.args.pairs.now pair_places l.pair (0, 0) within inside in
    record {
      words = search (rules, to_z-of_z, more, c.push_pair-top.ensures.words, c.push_pair-top.ensures.top, c.pair_places.ensures, l.invariant.words, l.top-is);
      top = grind (arith, to_z-of_z, lower);
      size = omega (arith, c.push_pair-top.ensures.size, l.invariant.size);
    }

use Rattle.std.proofs.Common.{◌≤◌, ◌<◌, ◌-◌, length, sym, arith}
use Rattle.plcr_memory.proofs.Passes.{region_of, start_is}
use Rattle.plcr_memory.proofs.Searches.{one_holds, none_holds, order_rises}
use Rattle.plcr_memory.proofs.search.region_holding.Goals as goal

pub starts_by-after-requires : goal.starts_by-after-requires
starts_by-after-requires c = order_rises c.args.regions.now c.args.order.now c.requires.order

pub returns-then-after-eq0 : goal.returns-then-after-eq0
returns-then-after-eq0 c =
    let found = c.starts_by-after.ensures in
    sym (none_holds c.args.regions.now c.args.order.now c.starts_by-after.result c.args.at c.requires.sized c.requires.apart c.requires.order
    found.inside found.before found.past (λ h. absurd (omega (arith, h))))

pub returns-then-at-region : goal.returns-then-at-region
returns-then-at-region c =
    let rs = c.args.regions.now in
    let os = c.args.order.now in
    let found = c.starts_by-after.ensures in
    let last = c.starts_by-after.result - 1 in
    let before : last < c.starts_by-after.result = omega arith in
    let inside : last < length os = omega (arith, found.inside) in
    let begins : (region_of rs os last).start ≤ c.args.at = omega (arith, found.before last before, start_is rs os c.requires.order last inside) in
    sym (one_holds rs os last c.args.at c.requires.apart c.requires.order inside begins c.if-at-region.true)

pub returns-else-at-region : goal.returns-else-at-region
returns-else-at-region c =
    let found = c.starts_by-after.ensures in
    sym (none_holds c.args.regions.now c.args.order.now c.starts_by-after.result c.args.at c.requires.sized c.requires.apart c.requires.order
    found.inside found.before found.past (λ h. c.if-at-region.false))

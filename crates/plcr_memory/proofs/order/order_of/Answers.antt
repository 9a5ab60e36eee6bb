use Rattle.std.proofs.Common.{◌≡◌, length, subst, rules, arith}
use Rattle.std.proofs.lemmas.List.Sorted.{IsNonDecreasingBy-from_sort_by_key}
use Rattle.plcr_memory.proofs.Orders.{Listed, order_from_sort}
use Rattle.plcr_memory.proofs.order.order_of.Goals as goal

pub returns : goal.returns
returns c =
    let whole : c.loop-index.index ≡ length c.args.regions.now = omega arith in
    let listed = subst (Listed c.args.regions.now c.loop-index.order.items) whole c.loop-index.invariant in
    let sorted = c.sort_unstable_by_key.ensures in
    order_from_sort c.args.regions.now c.loop-index.order.items c.sort_unstable_by_key.new.self.items listed sorted.permutation
    (IsNonDecreasingBy-from_sort_by_key (λ o. o.start) _ sorted.sorted (λ a r q k. search rules))

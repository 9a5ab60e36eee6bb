use Rattle.std.proofs.Common.{◌≡◌, ◌≤◌, ◌∙◌, ◌+◌, ◌^◌, ap, sym, List, arith}
use Rattle.plcr_memory.specs.declared.region.Region.{Region}
use Rattle.plcr_memory.specs.Regions.{Contents, region_over}
use Rattle.plcr_memory.proofs.Searches.{answer_found, answer_none, none_past}
use Rattle.plcr_memory.proofs.memory.Memory.holder.Goals as goal

pub returns-in-Some-clause-found : goal.returns-in-Some-clause-found
returns-in-Some-clause-found c =
    let m : Contents = record { file = c.self.inside.file.items; regions = c.self.inside.regions.items } in
    let at : c.args.at + c.args.by ≡ c.in-Some.at = sym c.in-Some.ensures.1 in
    let found : c.region_holding.result ≡ region_over m.regions (c.args.at + c.args.by) =
    c.region_holding.ensures ∙ ap (λ (rs : List Region). region_over rs c.in-Some.at) c.as_slice.ensures.value ∙ ap (region_over m.regions) (sym at) in
    rw (← c.self.view_is) (answer_found m (c.args.at + c.args.by) c.region_holding.result c.self.invariant.backed c.self.invariant.ends c.self.invariant.apart found)

pub returns-in-Some-clause-none : goal.returns-in-Some-clause-none
returns-in-Some-clause-none c =
    let m : Contents = record { file = c.self.inside.file.items; regions = c.self.inside.regions.items } in
    let at : c.args.at + c.args.by ≡ c.in-Some.at = sym c.in-Some.ensures.1 in
    let found : c.region_holding.result ≡ region_over m.regions (c.args.at + c.args.by) =
    c.region_holding.ensures ∙ ap (λ (rs : List Region). region_over rs c.in-Some.at) c.as_slice.ensures.value ∙ ap (region_over m.regions) (sym at) in
    rw (← c.self.view_is) (answer_none m (c.args.at + c.args.by) c.region_holding.result found)

pub returns-in-None-clause-none : goal.returns-in-None-clause-none
returns-in-None-clause-none c =
    let m : Contents = record { file = c.self.inside.file.items; regions = c.self.inside.regions.items } in
    let past : 2 ^ 64 ≤ c.args.at + c.args.by = omega (arith, c.in-None.ensures) in
    rw (← c.self.view_is) (none_past m (c.args.at + c.args.by) c.self.invariant.ends past)

use Rattle.std.proofs.Common.{◌≡◌, ◌∙◌, ◌-◌, ℕ, List, ap, sym, take, drop}
use Rattle.plcr_memory.specs.Regions.{Contents}
use Rattle.plcr_memory.proofs.Ranges.{none_stored, stored_run}
use Rattle.plcr_memory.proofs.memory.Memory.stored.Goals as goal

pub returns-in_default-clause-held : goal.returns-in_default-clause-held
returns-in_default-clause-held c = sym (none_stored c.args.self.now c.args.at c.args.size c.in_default.ensures.none)

pub returns-clause-bytes : goal.returns-clause-bytes
returns-clause-bytes c =
    let m = c.args.self.now in
    let r = c.in-Some.region in
    let file_is : c.as_slice.result.now ≡ m.file = c.as_slice.ensures.value ∙ ap (λ (x : Contents). x.file) c.self.view_is in
    stored_run m c.args.at c.args.size r c.stored.result.now c.in-Some.ensures.found (sym c.if-not-stores.ensures)
    (c.stored.ensures.bytes ∙ ap (λ (f : List ℕ). take c.args.size (drop (c.args.at - r.start) (take r.len (drop r.from f)))) file_is)

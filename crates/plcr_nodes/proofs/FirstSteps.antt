-- What first steps on a table find that was just opened.
use Rattle.std.proofs.Common.{◌≡◌, ℕ, [], false, refl, sym, ap, ◌∙◌}
use Rattle.atomic_table.specs.Seated.{TableId}
use Rattle.plcr_machine.specs.Passes.{counts, is_announced}
use Rattle.plcr_machine.specs.Parts.{own_entries}
use Rattle.plcr_nodes.specs.Tokens.{OwnerState}
use Rattle.plcr_nodes.specs.Opening.{opened_owner, FindsNothing}
use Rattle.plcr_nodes.proofs.Known.{counts_same, announced_same}

pub finds_nothing : (z : TableId) (nodes passes : ℕ) (owner : OwnerState) → owner ≡ opened_owner z nodes passes → FindsNothing owner
finds_nothing z nodes passes owner opened = record {
  count = λ found new c. c.gate ∙ (counts_same c.entry.past owner.history (c.entry.sees.added.owner refl) ∙ ap (λ (s : OwnerState). counts s.history) opened);
  look = λ pass found new l none.
      let before : own_entries pass l.entry.past ≡ [] = sym (ap (λ (s : OwnerState). own_entries pass s.history) l.entry.now) ∙ none in
      let quiet : is_announced pass l.entry.past ≡ false = announced_same pass l.entry.past [] before in
      l.stamp ∙ rw quiet refl;
}

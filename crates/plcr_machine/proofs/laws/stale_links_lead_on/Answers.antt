use Rattle.std.proofs.Common.{⊎_elim, ◌≡◌}
use Rattle.plcr_machine.specs.Links.{link_of}
use Rattle.plcr_machine.proofs.Leads.{IsLater, leads_later, leads_busy}
use Rattle.plcr_machine.proofs.laws.stale_links_lead_on.Goals as goal

pub returns : goal.returns
returns c = λ nodes passes n h l r b some.
    (leads_busy nodes passes n h l r b some, ⊎_elim (λ (z : link_of n h ≡ 0). absurd (some z)) (λ (t : IsLater n (link_of n h) h). t) (leads_later nodes passes n h l r b))

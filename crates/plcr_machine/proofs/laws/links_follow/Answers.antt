use Rattle.std.proofs.Common.{⊎_elim, ◌≡◌, true, sym, subst}
use Rattle.plcr_machine.specs.Passes.{is_inside}
use Rattle.plcr_machine.specs.Holds.{may_reach}
use Rattle.plcr_machine.specs.Links.{link_of}
use Rattle.plcr_machine.proofs.Leads.{link_reach, head_reach}
use Rattle.plcr_machine.proofs.Follows.{link-follow, head-follow}
use Rattle.plcr_machine.proofs.laws.links_follow.Goals as goal

pub returns-clause-reach : goal.returns-clause-reach
returns-clause-reach c = λ p n h from some.
    ⊎_elim (λ (r : may_reach p n h ≡ true). link_reach p n h r some)
    (λ (i : (is_inside p h ≡ true) × (n ≡ 0)).
    subst (λ k. may_reach p (link_of k h) h ≡ true) (sym i.1) (head_reach p h i.0 (λ z. some (subst (λ k. link_of k h ≡ 0) (sym i.1) z)))) from

pub returns-clause-follow : goal.returns-clause-follow
returns-clause-follow c = λ nodes passes h l. ((λ n b. link-follow nodes passes n h l b), head-follow nodes passes h l)

use Rattle.std.proofs.Common.{ne_eqb, sym}
use Rattle.plcr_machine.proofs.Leads.{link-load, link-loaded, link_over, link_else}
use Rattle.plcr_machine.proofs.laws.one_link_changes.Goals as goal

pub returns-clause-load : goal.returns-clause-load
returns-clause-load c = λ nodes passes k i a past l. (link-loaded nodes passes k i a past l, λ n other. link-load nodes passes n k i a past l (ne_eqb k n (λ e. other (sym e))))

pub returns-clause-unload : goal.returns-clause-unload
returns-clause-unload c = λ nodes passes k m past l place to. (link_over nodes passes m k past l place to, λ n other. link_else nodes passes n m k past l place to other)

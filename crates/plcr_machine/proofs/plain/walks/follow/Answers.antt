use Rattle.std.proofs.Common.{◌∙◌, sym, ap, List}
use Rattle.std.specs.Option.{option_map}
use Rattle.plcr_machine.specs.declared.change.Named.{Named}
use Rattle.plcr_machine.specs.Walks.{first_of_list, next_in}
use Rattle.plcr_machine.specs.Changes.{load_of, lists_at}
use Rattle.plcr_machine.proofs.Judging.{follow-first, follow-later}
use Rattle.plcr_machine.proofs.plain.walks.follow.Goals as goal

pub returns-then-load-eq0 : goal.returns-then-load-eq0
returns-then-load-eq0 c =
    c.first_in.ensures
    ∙ ap (λ (l : List Named). option_map load_of (first_of_list load_of l)) c.list_at.ensures
    ∙ ap (option_map load_of) (sym (follow-first (lists_at c.args.lists.now) c.args.load c.args.changes c.if-load-eq0.true))

pub returns-else-load-eq0 : goal.returns-else-load-eq0
returns-else-load-eq0 c =
    c.next_in.ensures
    ∙ ap (λ (l : List Named). option_map load_of (next_in load_of c.args.load l)) (c.list_at-else-load-eq0.ensures ∙ ap (lists_at c.args.lists.now) c.last_with.ensures.last)
    ∙ ap (option_map load_of) (sym (follow-later (lists_at c.args.lists.now) c.args.load c.args.changes c.if-load-eq0.false))

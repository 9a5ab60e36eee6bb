use Rattle.std.proofs.Common.{sym, ap, ◌∙◌}
use Rattle.plcr_cursor.specs.Walks.{Walk, located_last}
use Rattle.plcr_cursor.proofs.Locating.{below_last}
use Rattle.plcr_cursor.proofs.cursor.Cursor.advance.Goals as goal

pub turn-requires : goal.turn-requires
turn-requires g c =
    let memory = g.A.Asked.memory c.args.asked.now in
    let images = c.requires.0 in
    let over = c.requires.1 ∙ ap (λ (walk : Walk). located_last memory images walk) (sym c.self.view_is) in
    below_last memory images c.self.inside.last c.self.inside.by c.self.inside.given c.self.inside.left c.args.over.now c.if-not-self.false over

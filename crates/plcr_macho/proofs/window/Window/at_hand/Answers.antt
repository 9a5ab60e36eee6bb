use Rattle.std.proofs.Common.{sym, ap, ◌∙◌, arith}
use Rattle.plcr_memory.specs.Regions.{Contents, bytes_at}
use Rattle.plcr_macho.proofs.Windowed.{piece_at_hand}
use Rattle.plcr_macho.proofs.window.Window.at_hand.Goals as goal

pub returns-then-size-left-clause-bytes : goal.returns-then-size-left-clause-bytes
returns-then-size-left-clause-bytes c =
    ap (λ (m : Contents). bytes_at m c.args.at c.args.size) (sym c.self.view_is)
    ∙ piece_at_hand c.self.inside.memory.now c.self.inside.start c.self.inside.stored.now c.args.at c.in_ok-place.place c.args.size c.self.invariant (omega (arith, c.in_ok-place.ensures)) (omega (arith, c.in_ok-left.ensures, c.if-size-left.true))

use Rattle.plcr_macho.proofs.Windowed.{stored_at_hand, none_at_hand}
use Rattle.plcr_macho.proofs.window.Window.new.Goals as goal

pub invariant_of-t-6 : goal.invariant_of-t-6
invariant_of-t-6 c =
    stored_at_hand c.args.memory.now c.args.start c.args.size c.in-Some.stored.now c.in-Some.ensures.bytes c.in-Some.ensures.within

pub invariant_of-result : goal.invariant_of-result
invariant_of-result c = none_at_hand c.args.memory.now c.args.start c.ranges.start.fits

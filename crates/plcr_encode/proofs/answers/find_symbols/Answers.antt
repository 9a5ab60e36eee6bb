use Rattle.std.proofs.Common.{List, sym, subst, rules}
use Rattle.std.specs.Prelude.{All}
use Rattle.plcr_encode.specs.declared.frame_rows.FrameRow.{FrameRow}
use Rattle.plcr_encode.specs.inner.FrameRows.{IsBare}
use Rattle.plcr_encode.proofs.Placed.{bare_answered}
use Rattle.plcr_encode.proofs.answers.find_symbols.Goals as goal

pub returns-then-are_bare-clause-found : goal.returns-then-are_bare-clause-found
returns-then-are_bare-clause-found g c =
    let listed = g.I.Images.images c.args.images.now in
    let bare = subst (λ (rows : List FrameRow). All IsBare rows) c.rows.ensures (c.if-are_bare.ensures (search rules)) in
    sym (bare_answered c.args.memory.now c.args.arch listed c.args.room.now.rows.items bare)

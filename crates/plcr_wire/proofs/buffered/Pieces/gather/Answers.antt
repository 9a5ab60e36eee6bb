-- Each time what had room was held, and then passed on.
use Rattle.std.proofs.Common.{◌≡◌, ◌<◌, ◌++◌, length, take, refl, sym, ap, ◌∙◌, take-append-drop, arith}
use Rattle.std.proofs.lemmas.Result.{err_from_is_err_and}
use Rattle.plcr_wire.proofs.Puttings.{puts_start, piece_more, piece_cut}
use Rattle.plcr_wire.proofs.buffered.Pieces.gather.Goals as goal

pub loop-room-init : goal.loop-room-init
loop-room-init g c = record { put = puts_start _ _; room = c.remaining_capacity-room.ensures; same_sink = refl }

pub returns-in_err-pass_on-clause-err : goal.returns-in_err-pass_on-clause-err
returns-in_err-pass_on-clause-err g c =
    let p = err_from_is_err_and c.from_residual.result c.from_residual.ensures.1 in
    let parts : c.loop-room.rest.now ≡ c.split_at.result.0.now ++ c.split_at.result.1.now =
    sym (ap (λ l. l ++ c.split_at.result.1.now) c.split_at.ensures.front ∙ ap (λ l. take c.loop-room.room c.loop-room.rest.now ++ l) c.split_at.ensures.back ∙ take-append-drop c.loop-room.room c.loop-room.rest.now) in
    let some : 0 < length c.split_at.result.1.now = let b = c.split_at.ensures.back_len in omega (arith, b) in
    rw (p.1) (piece_cut _ _ _ _ _ _ _ _ c.loop-room.invariant.put parts some c.hold.ensures.given c.pass_on.ensures.given)

pub loop-room-preserved : goal.loop-room-preserved
loop-room-preserved g c =
    let parts : c.loop-room.rest.now ≡ c.split_at.result.0.now ++ c.split_at.result.1.now =
    sym (ap (λ l. l ++ c.split_at.result.1.now) c.split_at.ensures.front ∙ ap (λ l. take c.loop-room.room c.loop-room.rest.now ++ l) c.split_at.ensures.back ∙ take-append-drop c.loop-room.room c.loop-room.rest.now) in
    record {
      put = piece_more _ _ _ _ _ _ _ _ c.loop-room.invariant.put parts c.hold.ensures.given c.pass_on.ensures.given;
      room = c.remaining_capacity-room-in-loop-room.ensures;
      same_sink = c.pass_on.ensures.same_sink ∙ c.hold.ensures.same_sink ∙ c.loop-room.invariant.same_sink;
    }

use Rattle.std.proofs.Common.{◌≡◌, ◌<◌, sym, ap, ◌∙◌, subst, length, List}
use Rattle.plcr_run.specs.declared.slots.Slot.{Slot}
use Rattle.plcr_run.specs.inner.Tokens.{Goes}
use Rattle.plcr_run.specs.inner.Ending.{left_below, HasMet}
use Rattle.plcr_run.proofs.Meetings.{ends_in, take_front}
use Rattle.plcr_run.proofs.ending.end_script.Goals as goal

pub returns-clause-ends : goal.returns-clause-ends
returns-clause-ends c =
    let start : c.as_mut_slice.result.now ≡ c.args.slots.items = c.as_mut_slice.ensures.value in
    let count : length c.leave_all.new.slots ≡ length c.args.slots.items = c.leave_all.ensures.count ∙ ap (λ (l : List Slot). length l) start in
    let front = take_front c.args.slots.len c.leave_all.new.slots c.args.slots.items count (sym c.args.slots.ok.0) in
    let leaves : Goes c.args.writing c.args.slots.items (left_below (length c.args.slots.items)) c.leave_all.new.writing c.leave_all.new.slots = subst (λ (l : List Slot). Goes c.args.writing l (left_below (length l)) c.leave_all.new.writing c.leave_all.new.slots) start c.leave_all.ensures.goes in
    let met : HasMet c.finish_open-writer.result c.leave_all.new.slots (λ k. k < length c.leave_all.new.slots) c.meet_all.result = subst (λ (l : List Slot). HasMet c.finish_open-writer.result l (λ k. k < length l) c.meet_all.result) front c.meet_all.ensures.met in
    let f = c.finish_open-writer.ensures.finished c.leave_all.new.slots c.leave_all.ensures.tokens in
    ends_in c.args.list.now c.args.writing c.args.slots.items c.leave_all.new.writing c.leave_all.new.slots c.finish_open-writer.result c.meet_all.result c.requires.tokens leaves f.1 f.0 met count

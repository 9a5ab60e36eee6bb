use Rattle.std.proofs.Common.{◌∙◌, ◌+◌, ◌%◌, ◌^◌, ap, sym}
use Rattle.plcr_base.specs.Chains.{result_map}
use Rattle.plcr_compact.specs.inner.Carrying.{caller_of}
use Rattle.plcr_compact.proofs.Standing.{words_stand}
use Rattle.plcr_compact.proofs.compact.caller_from.Goals as goal

pub read_caller-requires : goal.read_caller-requires
read_caller-requires c =
    let frame = c.args.frame.now in
    let words = c.caller_by.new.words.items in
    rw c.as_slice.ensures.value
    (words_stand c.args.memory.now ((c.args.image.now.header + c.args.found.now.function) % 2 ^ 64) frame c.in_ok-encoding.encoding (caller_of frame words c.in_ok-caller.caller)
    (sym c.caller_by.ensures ∙ ap (result_map (caller_of frame words)) c.in_ok-caller.was))

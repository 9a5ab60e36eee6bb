use Rattle.std.proofs.Common.{◌<◌, arith}
use Rattle.plcr_script.specs.Meanings.{Meanings, meanings}
use Rattle.plcr_run.specs.inner.Tokens.{writer_of}
use Rattle.plcr_run.proofs.Taken.{Saves, saves, report_unwritten, report_done, report_unprinted}
use Rattle.plcr_run.proofs.stepping.report.Goals as goal

pub returns-in-Err-clause-ends : goal.returns-in-Err-clause-ends
returns-in-Err-clause-ends g c =
    let process : Meanings = meanings (g.P.Process.image_fault c.args.process.now) (g.P.Process.report c.args.process.now c.args.context.now) in
    let below : c.args.pass < (writer_of c.save.new.writing).passes = let t = c.in-Err.ensures.tokens.count in let a = c.in-Err.ensures.count in let b = c.enter_if_out.ensures.count in let p = c.requires.place in omega arith in
    let s : Saves c.args.pass c.args.writing.now c.args.slots.now c.save.new.writing c.save.new.slots = saves c.args.pass c.args.writing.now c.args.slots.now c.enter_if_out.new.writing c.enter_if_out.new.slots c.save.new.writing c.save.new.slots c.enter_if_out.ensures.goes c.in-Err.ensures.goes below in
    report_unwritten process c.args.number c.args.pass c.args.file.now c.file_name.result.now _ _ _ _ _ _ _ _ _ _ s c.in-Err.ensures.unsaved c.file_name.ensures c.print_unwritten.ensures.printed

pub returns-in-Ok-write_outcome-clause-ends : goal.returns-in-Ok-write_outcome-clause-ends
returns-in-Ok-write_outcome-clause-ends g c =
    let process : Meanings = meanings (g.P.Process.image_fault c.args.process.now) (g.P.Process.report c.args.process.now c.args.context.now) in
    let below : c.args.pass < (writer_of c.save.new.writing).passes = let t = c.in-Ok.ensures.tokens.count in let a = c.in-Ok.ensures.count in let b = c.enter_if_out.ensures.count in let p = c.requires.place in omega arith in
    let s : Saves c.args.pass c.args.writing.now c.args.slots.now c.save.new.writing c.save.new.slots = saves c.args.pass c.args.writing.now c.args.slots.now c.enter_if_out.new.writing c.enter_if_out.new.slots c.save.new.writing c.save.new.slots c.enter_if_out.ensures.goes c.in-Ok.ensures.goes below in
    report_done process c.args.number c.args.pass c.args.file c.file_name.result.now c.in-Ok.bytes c.leave-images.result.0 c.leave-images.result.1.low c.leave-images.result.1.high _ _ _ _ _ _ _ _ _ _ _ _
    (record { saved = s; goes = c.leave-images.ensures.goes; told = c.leave-images.ensures.told; length_is = c.in-Ok.ensures.length }) c.in-Ok.ensures.saved c.file_name.ensures c.in-Ok-write_outcome.ensures.ok

pub returns-in-Err-write_outcome-clause-ends : goal.returns-in-Err-write_outcome-clause-ends
returns-in-Err-write_outcome-clause-ends g c =
    let process : Meanings = meanings (g.P.Process.image_fault c.args.process.now) (g.P.Process.report c.args.process.now c.args.context.now) in
    let below : c.args.pass < (writer_of c.save.new.writing).passes = let t = c.in-Ok.ensures.tokens.count in let a = c.in-Ok.ensures.count in let b = c.enter_if_out.ensures.count in let p = c.requires.place in omega arith in
    let s : Saves c.args.pass c.args.writing.now c.args.slots.now c.save.new.writing c.save.new.slots = saves c.args.pass c.args.writing.now c.args.slots.now c.enter_if_out.new.writing c.enter_if_out.new.slots c.save.new.writing c.save.new.slots c.enter_if_out.ensures.goes c.in-Ok.ensures.goes below in
    report_unprinted process c.args.number c.args.pass c.args.file c.file_name.result.now c.in-Ok.bytes c.leave-images.result.0 c.leave-images.result.1.low c.leave-images.result.1.high _ _ _ _ _ _ _ _ _ _ _ _
    (record { saved = s; goes = c.leave-images.ensures.goes; told = c.leave-images.ensures.told; length_is = c.in-Ok.ensures.length }) c.in-Ok.ensures.saved c.file_name.ensures c.in-Err-write_outcome.ensures.err c.in-Err-write_outcome.ensures.cause

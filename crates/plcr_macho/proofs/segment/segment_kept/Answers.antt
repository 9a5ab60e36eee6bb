use Rattle.std.proofs.Common.{◌≡◌, ap, ◌∙◌, arith}
use Rattle.plcr_base.specs.Chains.{result_map}
use Rattle.plcr_loader.specs.declared.segment_command_64.TheConstants.{NSECTS}
use Rattle.plcr_loader.specs.Fields.{number}
use Rattle.plcr_macho.specs.inner.Keeping.{command_of, first_kept, segment_in}
use Rattle.plcr_macho.proofs.Fronts.{segment_front, sections_are}
use Rattle.plcr_macho.proofs.Segments.{segment_bad, segment_behind}
use Rattle.plcr_macho.proofs.segment.segment_kept.Goals as goal

pub returns-then-size-from : goal.returns-then-size-from
returns-then-size-from c =
    let command = command_of c.args.command.now in
    let segment = c.segment_of-segment.result in
    let count : segment.sections ≡ number NSECTS command.bytes =
    sections_are segment command.bytes (c.segment_of-segment.ensures ∙ ap segment_in c.front-front.ensures ∙ segment_front command.bytes) in
    ap (result_map (first_kept c.args.before.now)) (segment_bad c.args.index command c.requires.cmd (omega (arith, c.from-size.ensures, c.from.ensures, count, c.if-size-from.true)))

pub text_from-requires-clause-segment : goal.text_from-requires-clause-segment
text_from-requires-clause-segment c =
    c.segment_of-segment.ensures ∙ ap segment_in c.front-front.ensures ∙ segment_front (command_of c.args.command.now).bytes

pub returns : goal.returns
returns c =
    let command = command_of c.args.command.now in
    segment_behind c.args.index command c.args.before.now c.or.result c.front-front.result c.segment_of-segment.result c.is_some-seen.result c.text_from.result c.linkedit_of.result
    c.requires.cmd c.front-front.ensures c.segment_of-segment.ensures (omega arith) c.is_some-seen.ensures c.text_from.ensures c.linkedit_of.ensures c.or.ensures

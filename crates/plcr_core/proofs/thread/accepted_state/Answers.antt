use Rattle.std.proofs.Common.{◌≡◌, ◌+◌, ◌*◌, ◌<◌, ◌≤◌, length, option_map, take, drop, arith, sym, ap, ◌∙◌}
use Rattle.std.specs.Option.{option_or}
use Rattle.std.proofs.lemmas.List.{length-drop, drop-drop}
use Rattle.plcr_loader.specs.declared.thread_group.TheConstants.{LENGTH, FLAVOR, COUNT, WORD}
use Rattle.plcr_loader.specs.Fields.{number}
use Rattle.plcr_regs.specs.States.{state_in}
use Rattle.plcr_core.proofs.GroupSteps.{accepted_past, turn, done}
use Rattle.plcr_core.proofs.thread.accepted_state.Goals as goal

pub returns-then-words-size : goal.returns-then-words-size
returns-then-words-size c =
    let rest = c.loop-rest.rest.now in
    let size = length-drop LENGTH rest in
    let words = ap length c.split_at.ensures.back in
    let past : length rest < LENGTH + WORD * number COUNT rest = omega arith in
    ap (option_map (option_or c.loop-rest.accepted)) (sym (accepted_past c.args.arch rest c.loop-rest-test.true past)) ∙ c.loop-rest.invariant

pub loop-rest-preserved : goal.loop-rest-preserved
loop-rest-preserved c =
    let rest = c.loop-rest.rest.now in
    let size = length-drop LENGTH rest in
    let words = ap length c.split_at.ensures.back in
    let long : LENGTH + WORD * number COUNT rest ≤ length rest = omega arith in
    let after_words : c.split_at-in-loop-rest.result.1.now ≡ drop (LENGTH + WORD * number COUNT rest) rest =
    c.split_at-in-loop-rest.ensures.back ∙ rw (c.split_at.ensures.back, c.read_u32.ensures) (drop-drop (WORD * number COUNT rest) LENGTH rest) in
    let found : c.read_state.result ≡ state_in c.args.arch (number FLAVOR rest) (take (WORD * number COUNT rest) (drop LENGTH rest)) =
    c.read_state.ensures.state ∙ rw (c.split_at-in-loop-rest.ensures.front, c.split_at.ensures.back, c.read_u32.ensures, c.read_u32-flavor.ensures) in
    turn c.args.arch c.args.groups.now rest _ c.loop-rest.accepted c.read_state.result _ c.loop-rest.invariant long found after_words c.or-accepted.ensures

pub returns : goal.returns
returns c = done c.args.arch c.args.groups.now c.loop-rest.rest.now c.loop-rest.accepted c.loop-rest.invariant c.loop-rest-test.false

use Rattle.std.proofs.Common.{◌≡◌, ◌+◌, get_or, set, ap, ◌∙◌, subst, arith}
use Rattle.plcr_nodes.specs.Tokens.{OwnerState}
use Rattle.plcr_imagelist.specs.Changes.{Looks}
use Rattle.plcr_imagelist.specs.inner.Keeping.{writer_state, higher}
use Rattle.plcr_imagelist.proofs.Looking.{looks_begin, looks_more}
use Rattle.plcr_imagelist.proofs.bounds.look_at_all.Goals as goal

pub loop-pass-init : goal.loop-pass-init
loop-pass-init c = looks_begin c.args.owner.now c.args.bounds.now.items c.requires.rest c.requires.bounds

pub look-stamp-requires-clause-table : goal.look-stamp-requires-clause-table
look-stamp-requires-clause-table c = ap (λ (s : OwnerState). s.table) c.loop-pass.invariant.same ∙ c.requires.table

pub look-stamp-requires-clause-pass : goal.look-stamp-requires-clause-pass
look-stamp-requires-clause-pass c = let e = ap (λ (s : OwnerState). s.passes) c.loop-pass.invariant.same in let n = c.requires.passes in omega arith

pub overflow_add-announced : goal.overflow_add-announced
overflow_add-announced c = let few = c.loop-pass.invariant.few in let one = c.announced_in-announced.ensures.most in let n = c.ranges.passes in let end = c.loop-pass-test.true in omega arith

pub loop-pass-preserved : goal.loop-pass-preserved
loop-pass-preserved c =
    let n = c.requires.passes in
    looks_more c.args.owner.now c.loop-pass.owner c.look-stamp.new.self c.loop-pass.pass c.loop-pass.announced c.look-stamp.result c.args.counted _ _ c.loop-pass.bounds.items c.raise.new.bounds.items
    c.loop-pass.invariant (omega arith) c.look-stamp.ensures.looked c.requires.counted (omega arith) (ap (λ m. c.loop-pass.announced + m) c.announced_in-announced.ensures.announced)
    (c.raise.ensures ∙ ap (λ b. set c.loop-pass.bounds.items c.loop-pass.pass (higher (get_or c.loop-pass.bounds.items c.loop-pass.pass 0) b)) c.bound_of.ensures)

pub returns-clause-looks : goal.returns-clause-looks
returns-clause-looks c =
    let end = c.loop-pass-test.false in let most = c.loop-pass.auto.pass-end in let n = c.requires.passes in
    let all : c.loop-pass.pass ≡ c.args.owner.now.passes = omega arith in
    subst (λ k. Looks k (writer_state c.args.owner.now) c.loop-pass.announced (writer_state c.loop-pass.owner)) all c.loop-pass.invariant.looks

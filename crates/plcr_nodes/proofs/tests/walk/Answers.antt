use Rattle.std.proofs.Common.{◌∙◌, ap, inr}
use Rattle.plcr_nodes.specs.Tokens.{PassState}
use Rattle.plcr_nodes.proofs.Going.{followed_inside, followed_given, read_inside}
use Rattle.plcr_nodes.proofs.tests.walk.Goals as goal

pub loop-turn-init : goal.loop-turn-init
loop-turn-init c =
    let link = c.next_link-node.ensures.link in (
      ap (λ (s : PassState). s.table) link.now ∙ (c.go_in.ensures.table.0 ∙ c.requires.fresh.0),
      followed_inside _ _ _ _ link c.go_in.ensures.inside,
      inr (followed_given _ _ _ _ link),
    )

pub next_link-node-requires-in-loop-turn-clause-inside : goal.next_link-node-requires-in-loop-turn-clause-inside
next_link-node-requires-in-loop-turn-clause-inside c = read_inside _ _ _ _ _ c.payload-header.ensures.word c.loop-turn.invariant.1

pub loop-turn-preserved : goal.loop-turn-preserved
loop-turn-preserved c =
    let link = c.next_link-node-in-loop-turn.ensures.link in
    let word = c.payload-header.ensures.word in (
      ap (λ (s : PassState). s.table) link.now ∙ (ap (λ (s : PassState). s.table) word.now ∙ c.loop-turn.invariant.0),
      followed_inside _ _ _ _ link (read_inside _ _ _ _ _ word c.loop-turn.invariant.1),
      inr (followed_given _ _ _ _ link),
    )

use Rattle.plcr_nodes.proofs.Going.{followed_inside, read_inside}
use Rattle.plcr_nodes.proofs.tests.unlinks_beside_a_pass.Goals as goal

pub next_link-requires-clause-inside : goal.next_link-requires-clause-inside
next_link-requires-clause-inside g c =
    read_inside _ _ _ _ _ c.payload.ensures.word (followed_inside _ _ _ _ c.next_link-first.ensures.link c.go_in-first.ensures.inside)

pub come_out-requires-clause-inside : goal.come_out-requires-clause-inside
come_out-requires-clause-inside g c =
    followed_inside _ _ _ _ c.next_link.ensures.link
    (read_inside _ _ _ _ _ c.payload.ensures.word (followed_inside _ _ _ _ c.next_link-first.ensures.link c.go_in-first.ensures.inside))

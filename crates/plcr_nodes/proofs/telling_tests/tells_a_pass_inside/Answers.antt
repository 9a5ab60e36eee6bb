use Rattle.std.proofs.Common.{◌≡◌, true, sym, subst}
use Rattle.plcr_machine.specs.Passes.{is_inside}
use Rattle.plcr_nodes.specs.Tokens.{PassState}
use Rattle.plcr_nodes.proofs.Going.{followed_inside, read_inside}
use Rattle.plcr_nodes.proofs.Joining.{told_inside, told_follows}
use Rattle.plcr_nodes.proofs.telling_tests.tells_a_pass_inside.Goals as goal

pub unlink-requires-clause-follows : goal.unlink-requires-clause-follows
unlink-requires-clause-follows g c = c.look_at.ensures.follows 0 1 (told_follows 0 1 _ _ _ c.told.ensures.told c.put_first.ensures.follows)

pub next_link-requires-clause-inside : goal.next_link-requires-clause-inside
next_link-requires-clause-inside g c =
    let given = followed_inside _ _ _ _ c.next_link-first.ensures.link c.go_in-first.ensures.inside in
    let noted = subst (λ (s : PassState). is_inside s.number s.history ≡ true) (sym c.note-seen.ensures.same) given in
    read_inside _ _ _ _ _ c.payload.ensures.word (told_inside _ _ _ c.told-2.ensures.told noted)

pub come_out-requires-clause-inside : goal.come_out-requires-clause-inside
come_out-requires-clause-inside g c =
    let given = followed_inside _ _ _ _ c.next_link-first.ensures.link c.go_in-first.ensures.inside in
    let noted = subst (λ (s : PassState). is_inside s.number s.history ≡ true) (sym c.note-seen.ensures.same) given in
    followed_inside _ _ _ _ c.next_link.ensures.link (read_inside _ _ _ _ _ c.payload.ensures.word (told_inside _ _ _ c.told-2.ensures.told noted))

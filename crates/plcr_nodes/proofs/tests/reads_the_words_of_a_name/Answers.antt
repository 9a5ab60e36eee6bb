use Rattle.std.proofs.Common.{◌+◌, ◌<◌, ℕ, List, length, arith, sym, subst}
use Rattle.plcr_nodes.specs.Names.{words_of}
use Rattle.plcr_nodes.proofs.Going.{followed_reaches, read_reaches, read_length}
use Rattle.plcr_nodes.proofs.tests.reads_the_words_of_a_name.Goals as goal

pub payload-rest-requires-clause-word : goal.payload-rest-requires-clause-word
payload-rest-requires-clause-word g c =
    let given = followed_reaches _ _ _ _ c.next_link-first.ensures.link (omega arith) in
    let read = read_reaches _ _ _ _ _ c.payload-length.ensures.word given in
    let front = read_reaches _ _ _ _ _ c.payload-front.ensures.word read.0 in
    let long = read_length _ _ _ _ c.payload-length.ensures.word in
    subst (λ (l : List ℕ). 3 < 2 + words_of (length l)) (sym front.1) (omega (arith, long))

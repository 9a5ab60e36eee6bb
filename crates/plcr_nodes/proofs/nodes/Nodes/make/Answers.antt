use Rattle.std.proofs.Common.{ap, ◌∙◌, length, refl, replicate}
use Rattle.std.proofs.lemmas.List.{length-replicate}
use Rattle.plcr_nodes.proofs.Opening.{opens}
use Rattle.plcr_nodes.proofs.nodes.Nodes.make.Goals as goal

pub of_words-requires : goal.of_words-requires
of_words-requires c =
    let v = c.in_ok-words.ensures in
    let w = c.as_slice.ensures in
    let many = c.stamp_word.ensures c.args.nodes refl in
    opens c.args.nodes c.args.passes c.as_slice.result.now c.requires.0.1 c.requires.1.1 (w.value ∙ (v.items_if_clones_equal (λ y e. e) ∙ ap (λ n. replicate n 0) many))

pub returns : goal.returns
returns c =
    let v = c.in_ok-words.ensures in
    let w = c.as_slice.ensures in
    let many = c.stamp_word.ensures c.args.nodes refl in
    let made = c.in_ok-table.ensures in
    (made.2, record { wide = made.0 ∙ (ap length (w.value ∙ v.items_if_clones_equal (λ y e. e)) ∙ (length-replicate c.stamp_word.result 0 ∙ many)); me_is = made.4 })

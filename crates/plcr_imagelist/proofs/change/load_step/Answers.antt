use Rattle.std.proofs.Common.{◌≡◌, ◌+◌, length, arith}
use Rattle.plcr_nodes.specs.Names.{words_of}
use Rattle.plcr_imagelist.specs.declared.change.Task.TheVariants.{Load}
use Rattle.plcr_imagelist.proofs.Stepping.{making_rest, making_whole, making_linked}
use Rattle.plcr_imagelist.proofs.change.load_step.Goals as goal

pub link-requires-clause-filled : goal.link-requires-clause-filled
link-requires-clause-filled c =
    let words = c.words_of.ensures in let late = c.if-made-words_of.false in let early = c.requires.early in
    let e : c.args.made ≡ 3 + words_of (length c.args.name.now) = omega arith in
    let full = making_whole c.args.books.now c.args.header c.args.name.now c.args.load c.args.made c.requires.making e in
    (full.filled, full.ended)

pub link-requires-clause-header : goal.link-requires-clause-header
link-requires-clause-header c =
    let words = c.words_of.ensures in let late = c.if-made-words_of.false in let early = c.requires.early in
    let e : c.args.made ≡ 3 + words_of (length c.args.name.now) = omega arith in
    (making_whole c.args.books.now c.args.header c.args.name.now c.args.load c.args.made c.requires.making e).header_is

pub link-requires-clause-paced : goal.link-requires-clause-paced
link-requires-clause-paced c = making_rest c.args.books.now (Load c.args.header) c.args.name.now c.args.load c.args.made c.requires.making c.requires.early

pub returns-else-made-words_of : goal.returns-else-made-words_of
returns-else-made-words_of c =
    let words = c.words_of.ensures in let late = c.if-made-words_of.false in let early = c.requires.early in
    let e : c.args.made ≡ 3 + words_of (length c.args.name.now) = omega arith in
    making_linked c.args.books.now c.link.new.self c.args.header c.args.name.now c.args.load c.args.made c.requires.making e c.link.ensures

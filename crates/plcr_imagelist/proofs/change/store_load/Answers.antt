use Rattle.std.proofs.Common.{◌≡◌, ◌+◌, length, ap, arith}
use Rattle.plcr_nodes.specs.Names.{words_of}
use Rattle.plcr_imagelist.specs.inner.Keeping.{BooksState}
use Rattle.plcr_imagelist.proofs.Stepping.{making_filled, filled_only}
use Rattle.plcr_imagelist.proofs.change.store_load.Goals as goal

pub returns-clause-making : goal.returns-clause-making
returns-clause-making c =
    let words = c.words_of.ensures in
    let made : 3 + c.words_of.result ≡ 3 + words_of (length c.args.name.now) = omega arith in
    making_filled c.args.books.now c.fill_whole.new.self c.args.header c.args.name.now c.args.load (3 + c.words_of.result) c.requires.making made c.fill_whole.ensures

pub returns-clause-spare : goal.returns-clause-spare
returns-clause-spare c = ap (λ (s : BooksState). s.spare) c.fill_whole.ensures

pub returns-clause-stores : goal.returns-clause-stores
returns-clause-stores c = filled_only c.args.books.now c.fill_whole.new.self c.args.header c.args.name.now (3 + words_of (length c.args.name.now)) c.fill_whole.ensures

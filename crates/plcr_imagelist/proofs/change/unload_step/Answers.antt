use Rattle.plcr_imagelist.specs.declared.change.Task.TheVariants.{Unload}
use Rattle.plcr_imagelist.proofs.Stepping.{making_rest, making_unlinked}
use Rattle.plcr_imagelist.proofs.change.unload_step.Goals as goal

pub unlink-requires-clause-paced : goal.unlink-requires-clause-paced
unlink-requires-clause-paced c = making_rest c.args.books.now (Unload c.args.at c.args.image) c.args.name.now c.args.load c.args.made c.requires.making c.requires.early

pub returns : goal.returns
returns c = making_unlinked c.args.books.now c.unlink.new.self c.args.at c.args.image c.args.name.now c.args.load c.args.made c.requires.making c.requires.early c.unlink.ensures

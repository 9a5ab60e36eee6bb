use Rattle.std.proofs.Common.{ap, ◌∙◌}
use Rattle.plcr_macho.specs.inner.Keeping.{command_of, tables_in}
use Rattle.plcr_macho.proofs.Fronts.{tables_front}
use Rattle.plcr_macho.proofs.Segments.{symtab_kept_is}
use Rattle.plcr_macho.proofs.tables.symtab_kept.Goals as goal

pub returns : goal.returns
returns c =
    let command = command_of c.args.command.now in
    symtab_kept_is c.args.index command c.tables_of-tables.result c.requires.cmd c.if-command.false
    (c.tables_of-tables.ensures ∙ ap tables_in c.front.ensures ∙ tables_front command.bytes)

use Rattle.std.proofs.Common.{◌∙◌, sym}
use Rattle.plcr_compact.proofs.Founded.{found_bad, found_none, found_some, page_opened, picked}
use Rattle.plcr_compact.proofs.finding.entry_of.Goals as goal

pub returns-in_default : goal.returns-in_default
returns-in_default g c =
    let section = g.C.Cells.cells c.args.section.now in
    let entry = c.args.entry.now in
    let header = c.args.header.now in
    let o = page_opened section entry header c.requires.lawful in
    let pick = picked section entry header o c.kind-kind.result c.table-table.result c.args.offset c.entry_for.result c.kind-kind.ensures c.table-table.ensures c.entry_for.ensures.entry in
    sym (found_none section c.args.common.now entry header c.args.offset o (sym c.in_default.is ∙ pick))

pub returns-in-Ok : goal.returns-in-Ok
returns-in-Ok g c =
    let section = g.C.Cells.cells c.args.section.now in
    let entry = c.args.entry.now in
    let header = c.args.header.now in
    let o = page_opened section entry header c.requires.lawful in
    let pick = picked section entry header o c.kind-kind.result c.table-table.result c.args.offset c.entry_for.result c.kind-kind.ensures c.table-table.ensures c.entry_for.ensures.entry in
    sym (found_some section c.args.common.now entry header c.args.offset o c.in-Some.chosen c.in-Ok.encoding (sym c.in-Some.is ∙ pick) (sym c.encoding_in.ensures ∙ c.in-Ok.is))

pub returns-in-Err : goal.returns-in-Err
returns-in-Err g c =
    let section = g.C.Cells.cells c.args.section.now in
    let entry = c.args.entry.now in
    let header = c.args.header.now in
    let o = page_opened section entry header c.requires.lawful in
    let pick = picked section entry header o c.kind-kind.result c.table-table.result c.args.offset c.entry_for.result c.kind-kind.ensures c.table-table.ensures c.entry_for.ensures.entry in
    sym (found_bad section c.args.common.now entry header c.args.offset o c.in-Some.chosen c.in-Err.bad (sym c.in-Some.is ∙ pick) (sym c.encoding_in.ensures ∙ c.in-Err.is))

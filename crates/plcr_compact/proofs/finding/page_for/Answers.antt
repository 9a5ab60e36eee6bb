use Rattle.std.proofs.Common.{◌∙◌, ◌-◌, refl, sym}
use Rattle.plcr_compact.proofs.Founded.{index_empty, index_last, index_opened, index_picked, page_low, page_none, page_past, page_some, page_whole, page_zero}
use Rattle.plcr_compact.proofs.finding.page_for.Goals as goal

pub returns-then-count-eq0-clause-entry : goal.returns-then-count-eq0-clause-entry
returns-then-count-eq0-clause-entry g c =
    let section = g.C.Cells.cells c.args.section.now in
    let header = c.args.header.now in
    let offset = c.args.offset in
    let o = index_opened section header c.requires.lawful in
    sym (page_whole section header offset o ∙ page_past offset o.entries (index_empty section header o c.if-count-eq0.true))

pub returns-then-sentinel-offset-clause-entry : goal.returns-then-sentinel-offset-clause-entry
returns-then-sentinel-offset-clause-entry g c =
    let section = g.C.Cells.cells c.args.section.now in
    let header = c.args.header.now in
    let offset = c.args.offset in
    let o = index_opened section header c.requires.lawful in
    let last = index_last section header o (header.index.count - 1) c.entry_at-sentinel.result refl c.entry_at-sentinel.ensures.entry in
    sym (page_whole section header offset o ∙ page_low offset o.entries c.entry_at-sentinel.result last c.if-sentinel-offset.true)

pub returns-in-Some-clause-entry : goal.returns-in-Some-clause-entry
returns-in-Some-clause-entry g c =
    let section = g.C.Cells.cells c.args.section.now in
    let header = c.args.header.now in
    let offset = c.args.offset in
    let o = index_opened section header c.requires.lawful in
    let last = index_last section header o (header.index.count - 1) c.entry_at-sentinel.result refl c.entry_at-sentinel.ensures.entry in
    let pick = index_picked section header o (header.index.count - 1) offset c.entry_for.result refl c.entry_for.ensures.entry in
    sym (page_whole section header offset o ∙ page_some offset o.entries c.entry_at-sentinel.result c.in-Some.entry last c.if-sentinel-offset.false (pick ∙ c.in-Some.is) c.if-entry-ne0.true)

pub returns-in_default-clause-entry : goal.returns-in_default-clause-entry
returns-in_default-clause-entry g c =
    let section = g.C.Cells.cells c.args.section.now in
    let header = c.args.header.now in
    let offset = c.args.offset in
    let o = index_opened section header c.requires.lawful in
    let last = index_last section header o (header.index.count - 1) c.entry_at-sentinel.result refl c.entry_at-sentinel.ensures.entry in
    let pick = index_picked section header o (header.index.count - 1) offset c.entry_for.result refl c.entry_for.ensures.entry in
    sym (page_whole section header offset o ∙ page_zero offset o.entries c.entry_at-sentinel.result c.in-Some.entry last c.if-sentinel-offset.false (pick ∙ c.in-Some.is) c.if-entry-ne0.false)

pub returns-in_default-2-clause-entry : goal.returns-in_default-2-clause-entry
returns-in_default-2-clause-entry g c =
    let section = g.C.Cells.cells c.args.section.now in
    let header = c.args.header.now in
    let offset = c.args.offset in
    let o = index_opened section header c.requires.lawful in
    let last = index_last section header o (header.index.count - 1) c.entry_at-sentinel.result refl c.entry_at-sentinel.ensures.entry in
    let pick = index_picked section header o (header.index.count - 1) offset c.entry_for.result refl c.entry_for.ensures.entry in
    sym (page_whole section header offset o ∙ page_none offset o.entries c.entry_at-sentinel.result last c.if-sentinel-offset.false (pick ∙ c.in_default.is))

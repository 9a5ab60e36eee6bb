use Rattle.std.proofs.Common.{◌+◌, ◌-◌, ◌/◌, arith}
use Rattle.plcr_compact.proofs.Searched.{halved_down, halved_end, halved_up, lawful_rises}
use Rattle.plcr_compact.proofs.search.entry_for.Goals as goal

pub loop-low-preserved-then-entry-offset : goal.loop-low-preserved-then-entry-offset
loop-low-preserved-then-entry-offset g c =
    let l = c.loop-low in
    let middle = l.low + (l.high - l.low) / 2 in
    record {
      ordered = omega arith;
      within = l.invariant.within;
      halved = λ es h.
          halved_up c.args.offset c.args.count es l.low l.high middle l.best c.entry_at-entry.result
          (lawful_rises (g.C.Cells.cells c.args.section.now) c.args.kind c.args.table.now es h) (l.invariant.halved es h) (c.entry_at-entry.ensures.entry es h) c.if-entry-offset.true;
      small = c.entry_at-entry.ensures.small;
    }

pub loop-low-preserved : goal.loop-low-preserved
loop-low-preserved g c =
    let l = c.loop-low in
    let middle = l.low + (l.high - l.low) / 2 in
    record {
      ordered = omega arith;
      within = omega (arith, l.invariant.within);
      halved = λ es h.
          halved_down c.args.offset c.args.count es l.low l.high middle l.best c.entry_at-entry.result
          (lawful_rises (g.C.Cells.cells c.args.section.now) c.args.kind c.args.table.now es h) (l.invariant.halved es h) (c.entry_at-entry.ensures.entry es h) c.if-entry-offset.false;
      small = l.invariant.small;
    }

pub returns-clause-entry : goal.returns-clause-entry
returns-clause-entry g c es h =
    let l = c.loop-low in
    halved_end c.args.offset c.args.count es l.low l.high l.best (l.invariant.halved es h) c.loop-low-test.false (omega (arith, l.invariant.ordered, l.invariant.within))

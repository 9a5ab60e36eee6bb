use Rattle.std.proofs.Common.{◌≡◌, ◌≤◌, ◌<◌, ◌+◌, refl, arith}
use Rattle.std.proofs.lemmas.Bool.{false≢true}
use Rattle.plcr_memory.specs.inner.Order.{placed_at}
use Rattle.plcr_memory.proofs.Passes.{passed_over, passed_more, clash, passed_end}
use Rattle.plcr_memory.proofs.checks.are_apart.Goals as goal
use Rattle.plcr_memory.proofs.checks.are_apart.Goals.{then-index-count+else-from-free, else-index-count}

pub returns-then-from-free : goal.returns-then-from-free
returns-then-from-free c =
    let rs = c.args.regions.now in
    let os = c.args.order.now in
    let i = c.loop-placed.placed-index in
    let below : (placed_at os i).start < c.loop-placed.free = omega arith in (
      λ t. absurd (false≢true t),
      λ apart. absurd (clash rs os c.args.count i c.loop-placed.free c.requires.sized c.requires.order c.loop-placed-test.true c.if-index-count.true below c.loop-placed.invariant apart),
    )

pub returns : goal.returns
returns c = (
  λ t. passed_end c.args.regions.now c.args.order.now c.args.count c.loop-placed.placed-index c.loop-placed.free c.requires.order c.requires.inside c.loop-placed-test.false c.loop-placed.invariant,
  λ apart. refl,
)

pub loop-placed-preserved : goal.loop-placed-preserved
loop-placed-preserved c =
    let rs = c.args.regions.now in
    let os = c.args.order.now in
    let n = c.args.count in
    let i = c.loop-placed.placed-index in
    elim c.if-index-count.branch [
      | then-index-count+else-from-free w ↦
          let above : c.loop-placed.free ≤ (placed_at os i).start = omega arith in
          let is_free : c.if-index-count.free ≡ (placed_at os i).start + (placed_at os i).size = omega arith in
          rw is_free (passed_more rs os n i c.loop-placed.free (placed_at os i).size c.requires.order c.loop-placed-test.true w.if-index-count.true above (c.requires.order.each i c.loop-placed-test.true).sizes c.loop-placed.invariant)
      | else-index-count w ↦
          rw w.free-is (passed_over rs os n i c.loop-placed.free w.if-index-count.false c.loop-placed.invariant)
    ]

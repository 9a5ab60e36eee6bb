use Rattle.std.proofs.Common.{◌+◌, ℕ, sym, ap, subst, ◌∙◌, arith}
use Rattle.plcr_base.specs.Chains.{result_map}
use Rattle.plcr_loader.specs.Commands.{commands_at}
use Rattle.plcr_macho.specs.Sources.{memory_bytes}
use Rattle.plcr_macho.specs.Loading.{image_trouble}
use Rattle.plcr_macho.specs.inner.Keeping.{kept_of}
use Rattle.plcr_macho.proofs.Gathered.{SoFar, starts, moves, ends}
use Rattle.plcr_macho.proofs.parsing.kept_behind.Goals as goal

pub loop-index-init : goal.loop-index-init
loop-index-init c =
    (starts (memory_bytes c.args.source.now.memory.now c.args.source.now.start) c.from-end.result c.args.header.now.commands c.nothing-kept.result c.nothing-kept.ensures, omega arith)

pub loop-index-preserved : goal.loop-index-preserved
loop-index-preserved c =
    let source = memory_bytes c.args.source.now.memory.now c.args.source.now.start in (
      subst (λ (n : ℕ). SoFar source c.from-end.result c.args.header.now.commands (c.loop-index.index + 1) (c.loop-index.at + n) c.in_ok-gain.gain.kept) (sym c.from-at.ensures)
          (moves source c.from-end.result c.args.header.now.commands c.loop-index.index c.loop-index.at c.loop-index.kept c.in_ok-gain.gain
          c.loop-index.invariant.0 c.loop-index-test.true c.in_ok-gain.ensures.gain),
      omega (arith, c.from-at.ensures, c.in_ok-gain.ensures.within),
    )

pub returns : goal.returns
returns c =
    let source = memory_bytes c.args.source.now.memory.now c.args.source.now.start in
    ends source c.from-end.result c.args.header.now.commands c.loop-index.index c.loop-index.at c.loop-index.kept c.loop-index.invariant.0 c.loop-index-test.false
    ∙ ap (λ (n : ℕ). result_map kept_of (commands_at source image_trouble n c.args.header.now.commands 0 0)) c.from-end.ensures

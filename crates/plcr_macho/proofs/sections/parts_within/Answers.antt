use Rattle.std.proofs.Common.{ℕ, List, drop, IsSome, sym, ap, subst, ◌∙◌, arith}
use Rattle.plcr_memory.specs.Regions.{bytes_at}
use Rattle.plcr_loader.specs.declared.segment_command_64.TheConstants.{LENGTH}
use Rattle.plcr_macho.specs.Loading.{sections_in}
use Rattle.plcr_macho.specs.inner.Keeping.{bytes_there, parts_in}
use Rattle.plcr_macho.proofs.Reading.{rest_mapped, rest_there}
use Rattle.plcr_macho.proofs.Sectioned.{parts_zero}
use Rattle.plcr_macho.proofs.sections.parts_within.Goals as goal

pub returns-then-count-eq0 : goal.returns-then-count-eq0
returns-then-count-eq0 c = parts_zero c.args.count _ c.if-count-eq0.true

pub parts_at-requires-clause-there : goal.parts_at-requires-clause-there
parts_at-requires-clause-there c =
    let memory = c.args.command.now.memory.now in
    let address = c.args.command.now.address in
    let there : IsSome (bytes_at memory address c.from-size.result) = subst (λ (n : ℕ). IsSome (bytes_at memory address n)) (sym c.from-size.ensures) c.requires.stands in
    rest_mapped memory address LENGTH c.from-size.result (omega (arith, c.from-size.ensures, c.requires.within)) there

pub returns : goal.returns
returns c =
    let memory = c.args.command.now.memory.now in
    let address = c.args.command.now.address in
    let there : IsSome (bytes_at memory address c.from-size.result) = subst (λ (n : ℕ). IsSome (bytes_at memory address n)) (sym c.from-size.ensures) c.requires.stands in
    c.parts_at.ensures
    ∙ ap (λ (xs : List ℕ). parts_in (sections_in c.args.count xs)) (rest_there memory address LENGTH c.from-size.result (omega (arith, c.from-size.ensures, c.requires.within)) there)
    ∙ ap (λ (n : ℕ). parts_in (sections_in c.args.count (drop LENGTH (bytes_there memory address n)))) c.from-size.ensures

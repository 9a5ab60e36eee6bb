use Rattle.std.proofs.Common.{◌≡◌, ◌≤◌, ◌<◌, ◌+◌, ◌*◌, ℕ, refl, ap, subst, ◌∙◌, arith, Some}
use Rattle.plcr_memory.specs.Regions.{byte_at}
use Rattle.plcr_loader.specs.declared.section_64.TheConstants.{LENGTH}
use Rattle.plcr_macho.specs.inner.Keeping.{bytes_there, first_parts, parts_in}
use Rattle.plcr_macho.specs.Loading.{sections_in}
use Rattle.plcr_macho.proofs.Reading.{byte_is, piece_mapped, piece_is}
use Rattle.plcr_macho.proofs.Sectioned.{parts_start, parts_move, parts_skip, parts_end}
use Rattle.plcr_macho.proofs.sections.parts_at.Goals as goal

pub loop-index-init : goal.loop-index-init
loop-index-init c = (parts_start c.from-count.result (bytes_there c.args.memory.now c.args.at c.args.size) _ refl, omega arith)

pub mapped_bytes-requires : goal.mapped_bytes-requires
mapped_bytes-requires c =
    (omega arith, piece_mapped c.args.memory.now c.args.at (LENGTH * c.loop-index.index) LENGTH c.args.size (omega (arith, c.from-count.ensures, c.loop-index-test.true, c.requires.within)) c.requires.there)

pub loop-index-preserved-then-passed-eq0 : goal.loop-index-preserved-then-passed-eq0
loop-index-preserved-then-passed-eq0 c =
    let bytes = bytes_there c.args.memory.now c.args.at c.args.size in (
      parts_move c.from-count.result c.loop-index.index bytes c.mapped_bytes.result c.loop-index.found c.or-found.result c.loop-index.invariant.0 c.loop-index-test.true
          (piece_is c.args.memory.now c.args.at (LENGTH * c.loop-index.index) LENGTH c.args.size c.mapped_bytes.result (omega (arith, c.from-count.ensures, c.loop-index-test.true, c.requires.within)) c.requires.there c.mapped_bytes.ensures)
          (c.or-found.ensures ∙ ap (first_parts c.loop-index.found) c.parts_of.ensures),
      omega (arith, c.loop-index-test.true),
    )

pub loop-index-preserved : goal.loop-index-preserved
loop-index-preserved c =
    let m = c.args.memory.now in
    let at = c.args.at in
    let index = c.loop-index.index in
    let skipped = c.min-index.result in
    let bytes = bytes_there m at c.args.size in
    let within : index + skipped ≤ c.from-count.result = omega (arith, c.min-index.ensures, c.loop-index-test.true) in
    let few : skipped ≤ c.nameless-passed.result = omega (arith, c.min-index.ensures) in
    let zeroed = λ (k : ℕ) (lt : k < skipped).
    let place : (at + LENGTH * index) + LENGTH * k ≡ at + LENGTH * (index + k) = omega arith in
    let here : byte_at m (at + LENGTH * (index + k)) ≡ Some 0 = subst (λ (a : ℕ). byte_at m a ≡ Some 0) place (c.nameless-passed.ensures k (omega (arith, lt, few))) in
    byte_is m at (LENGTH * (index + k)) c.args.size 0 (omega (arith, lt, within, c.from-count.ensures, c.requires.within)) c.requires.there here in
    (parts_skip c.from-count.result index skipped bytes c.loop-index.found c.loop-index.invariant.0 within zeroed, within)

pub returns : goal.returns
returns c =
    let bytes = bytes_there c.args.memory.now c.args.at c.args.size in
    parts_end c.from-count.result c.loop-index.index bytes c.loop-index.found c.loop-index.invariant.0 c.loop-index-test.false
    ∙ ap (λ (n : ℕ). parts_in (sections_in n bytes)) c.from-count.ensures

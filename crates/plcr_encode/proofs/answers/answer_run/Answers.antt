use Rattle.std.proofs.Common.{◌≡◌, ℕ, length, None, Option, ap, sym, ◌∙◌, rules}
use Rattle.std.specs.Prelude.{replicate, Result, Err}
use Rattle.plcr_macho.specs.declared.image.Image.{Image}
use Rattle.plcr_macho.specs.declared.image.ImageFault.{ImageFault}
use Rattle.plcr_macho.specs.Images.{listed_at}
use Rattle.plcr_macho.specs.Loading.{image_at}
use Rattle.plcr_symbols.specs.declared.symbol.SymbolAt.{SymbolAt}
use Rattle.plcr_encode.specs.inner.FrameRows.{symbol_by, symbol_within}
use Rattle.plcr_encode.proofs.Runs.{none_answered}
use Rattle.plcr_encode.proofs.answers.answer_run.Goals as goal

pub returns-in_default-parse-clause-found : goal.returns-in_default-parse-clause-found
returns-in_default-parse-clause-found g c =
    let memory = c.args.memory.now in
    let arch = c.args.arch in
    let listed = g.I.Images.images c.args.images.now in
    let addresses = c.args.addresses.now in
    let cleared : c.fill.new.self ≡ replicate {A = Option SymbolAt} (length c.args.found.now) None = c.fill.ensures.after (λ y q. search rules) in
    let fault : image_at memory arch (listed_at listed c.in-Some.i).header ≡ Err c.in_default-parse.field-0 =
    ap (image_at memory arch) (sym c.header-header.ensures.header) ∙ sym c.parse.ensures ∙ c.in_default-parse.is in
    none_answered (symbol_by memory arch listed c.args.position) addresses c.fill.new.self
    (λ a. ap (λ (p : Option ℕ). symbol_by memory arch listed p a) c.in-Some.is ∙ ap (λ (r : Result Image ImageFault). symbol_within memory r a) fault)
    (cleared ∙ ap (λ (n : ℕ). replicate {A = Option SymbolAt} n None) c.requires.room)

pub returns-in_default-clause-found : goal.returns-in_default-clause-found
returns-in_default-clause-found g c =
    let memory = c.args.memory.now in
    let arch = c.args.arch in
    let listed = g.I.Images.images c.args.images.now in
    let addresses = c.args.addresses.now in
    let cleared : c.fill.new.self ≡ replicate {A = Option SymbolAt} (length c.args.found.now) None = c.fill.ensures.after (λ y q. search rules) in
    none_answered (symbol_by memory arch listed c.args.position) addresses c.fill.new.self
    (λ a. ap (λ (p : Option ℕ). symbol_by memory arch listed p a) c.in_default.is)
    (cleared ∙ ap (λ (n : ℕ). replicate {A = Option SymbolAt} n None) c.requires.room)

use Rattle.std.proofs.Common.{◌≡◌, Result, Ok, Err, sym, ap, ◌∙◌}
use Rattle.std.proofs.lemmas.Result.{err_from_is_err_and}
use Rattle.plcr_base.specs.Chains.{◌>>=◌}
use Rattle.plcr_core.specs.declared.fault.CoreFault.{CoreFault}
use Rattle.plcr_core.specs.Heads.{header_in}
use Rattle.plcr_core.specs.Cores.{parts_in}
use Rattle.plcr_core.specs.inner.Gathering.{Gains, gains, gains_in, parts, parts_from}
use Rattle.plcr_core.proofs.Parts.{no_header, by_header, fails_by, fails_on, gives_by}
use Rattle.plcr_core.proofs.read.found_in.Goals as goal

pub returns-in_err-header-clause-exact : goal.returns-in_err-header-clause-exact
returns-in_err-header-clause-exact c =
    let p = err_from_is_err_and c.from_residual.result c.from_residual.ensures.1 in
    let e = c.in_err-header.field-0.0 in
    let read : header_in c.args.file.now ≡ Err e = sym c.header_of.ensures ∙ c.in_err-header.was in
    rw (p.1, p.2) (fails_by e (parts_in c.args.file.now) (no_header c.args.file.now e read))

pub returns-in_err-gathered-clause-exact : goal.returns-in_err-gathered-clause-exact
returns-in_err-gathered-clause-exact c =
    let p = err_from_is_err_and c.from_residual-in_err-gathered.result c.from_residual-in_err-gathered.ensures.1 in
    let file = c.args.file.now in
    let header = c.in_ok-header.header in
    let read : header_in file ≡ Ok header = sym c.header_of.ensures ∙ c.in_ok-header.was in
    let on = λ (f : CoreFault) (h : gains_in file header ≡ Err f).
    by_header file header read ∙ ap (λ (r : Result Gains CoreFault). r >>= λ (g : Gains). parts_from header.arch g) h in
    rw (p.1, p.2) (fails_on c.in_err-gathered.field-0.0 (gains_in file header) (parts_in file) on c.in_err-gathered.ensures.exact)

pub returns-clause-exact : goal.returns-clause-exact
returns-clause-exact c =
    let file = c.args.file.now in
    let header = c.in_ok-header.header in
    let read : header_in file ≡ Ok header = sym c.header_of.ensures ∙ c.in_ok-header.was in
    let found : gains_in file header ≡ Ok (gains c.in_ok-gathered.gathered) = c.in_ok-gathered.ensures.exact in
    gives_by parts c.counted.result (parts_in file)
    (by_header file header read ∙ ap (λ (r : Result Gains CoreFault). r >>= λ (g : Gains). parts_from header.arch g) found ∙ sym c.counted.ensures.exact)

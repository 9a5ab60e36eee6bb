use Rattle.std.proofs.Common.{subst, [], ◌∷◌}
use Rattle.std.proofs.lemmas.Result.{err_from_is_err_and}
use Rattle.plcr_command.specs.Files.{File, named}
use Rattle.plcr_command.specs.Taking.{TookAll, Untaken}
use Rattle.plcr_command.proofs.Numbered.{files_of}
use Rattle.plcr_command.proofs.Takings.{took_twice, untaken_after, untaken_more}
use Rattle.plcr_command.proofs.jobs.take_job.Goals as goal

pub returns-in_err-core-clause-taken : goal.returns-in_err-core-clause-taken
returns-in_err-core-clause-taken g c =
    let p = err_from_is_err_and c.from_residual.result c.from_residual.ensures.1 in
    let old = g.D.Desk.told c.args.desk.now in
    let new = g.D.Desk.told c.take_file.new.desk in
    let refusal = c.in_err-core.field-0.0 in
    let scripts = files_of c.args.scripts.now in
    let P : File → Type 0 = λ file. Untaken (file ∷ scripts) old new refusal in
    rw (p.1, p.2) (subst P c.core_file.ensures (untaken_more (named c.core_file.result ∷ []) scripts refusal old new c.in_err-core.ensures.taken))

pub returns-in_err-scripts-clause-taken : goal.returns-in_err-scripts-clause-taken
returns-in_err-scripts-clause-taken g c =
    let p = err_from_is_err_and c.from_residual-in_err-scripts.result c.from_residual-in_err-scripts.ensures.1 in
    let old = g.D.Desk.told c.args.desk.now in
    let mid = g.D.Desk.told c.take_file.new.desk in
    let new = g.D.Desk.told c.take_scripts.new.desk in
    let refusal = c.in_err-scripts.field-0.0 in
    let core = named c.core_file.result in
    let scripts = files_of c.args.scripts.now in
    let P : File → Type 0 = λ file. Untaken (file ∷ scripts) old new refusal in
    let nothing = c.in_ok-core.ensures.nothing in
    let both = untaken_after (core ∷ []) scripts (c.in_ok-core.core ∷ []) refusal old mid new nothing.files nothing.take_faults c.in_ok-core.ensures.taken c.in_err-scripts.ensures.taken in
    rw (p.1, p.2) (subst P c.core_file.ensures both)

pub returns-clause-taken : goal.returns-clause-taken
returns-clause-taken g c =
    let old = g.D.Desk.told c.args.desk.now in
    let mid = g.D.Desk.told c.take_file.new.desk in
    let new = g.D.Desk.told c.take_scripts.new.desk in
    let core = named c.core_file.result in
    let scripts = files_of c.args.scripts.now in
    let P : File → Type 0 = λ file. TookAll (file ∷ scripts) (c.in_ok-core.core ∷ c.in_ok-scripts.scripts.items) old new in
    let nothing = c.in_ok-core.ensures.nothing in
    subst P c.core_file.ensures (took_twice (core ∷ []) scripts (c.in_ok-core.core ∷ []) c.in_ok-scripts.scripts.items old mid new nothing.files c.in_ok-core.ensures.taken c.in_ok-scripts.ensures.taken)

use Rattle.std.proofs.Common.{ℕ, ◌≡◌, ◌≤◌, subst}
use Rattle.plcr_base.proofs.Plain.{some_weaker}
use Rattle.plcr_core.specs.declared.read.Core.{Core}
use Rattle.plcr_command.specs.Jobs.{IsCore}
use Rattle.plcr_make.specs.declared.constants.TheConstants.{MOST_IMAGES}
use Rattle.plcr_make.specs.MadeScripts.{made_script}
use Rattle.plcr_make.specs.Scripts.{script_of}
use Rattle.plcr_script.specs.Scripts.{ScriptValue}
use Rattle.plcr_maker.specs.declared.runs.Ran.{Ran}
use Rattle.plcr_maker.specs.inner.Making.{IsRun}
use Rattle.plcr_maker.proofs.making.ran_of.Goals as goal

pub returns : goal.returns
returns c =
    let core = c.in_ok-core.core in
    let script = c.in_ok-script.script in
    some_weaker (IsRun core script)
    (λ (ran : Ran). (images : ℕ) → images ≤ MOST_IMAGES → c.args.script.now ≡ script_of images → (value : Core) × IsCore c.args.core.now value × IsRun value (made_script images) ran)
    (λ ran is images few spelled. (core, c.in_ok-core.ensures.core, subst (λ (s : ScriptValue). IsRun core s ran) (c.in_ok-script.ensures.is images few spelled) is))
    c.run_made.result c.run_made.ensures

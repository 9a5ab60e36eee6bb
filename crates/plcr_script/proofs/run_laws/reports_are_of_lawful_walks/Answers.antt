use Rattle.plcr_script.proofs.SoundRuns.{run_reports_lawful}
use Rattle.plcr_script.proofs.run_laws.reports_are_of_lawful_walks.Goals as goal

pub returns : goal.returns
returns c = run_reports_lawful

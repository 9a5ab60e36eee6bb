use Rattle.plcr_script.proofs.HeldRuns.{ends_follow}
use Rattle.plcr_script.proofs.KeptRuns.{run_keeps_lawfully, run_keeps_its_files}
use Rattle.plcr_script.proofs.run_laws.reports_are_kept_lawfully.Goals as goal

pub returns : goal.returns
returns c = record { lawfully = run_keeps_lawfully; files = run_keeps_its_files; ends = ends_follow }

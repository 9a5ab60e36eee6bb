use Rattle.plcr_decode.proofs.Scans.{scan_none, scan_step}
use Rattle.plcr_decode.proofs.laws.scan_by_parts.Goals as goal

pub returns : goal.returns
returns c = record { none = scan_none; step = scan_step }

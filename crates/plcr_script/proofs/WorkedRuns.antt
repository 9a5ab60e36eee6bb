-- Runs computed.
use Rattle.std.proofs.Common.{ℕ, List, refl}
use Rattle.plcr_macho.specs.Images.{Listed}
use Rattle.plcr_script.specs.Sayings.{table_in, set_in, load_in, unload_in, report_in, statement_in, saying_of}
use Rattle.plcr_script.specs.Splits.{first_word}
use Rattle.plcr_script.specs.Reading.{is_named, with_line, with_lines, script_in}
use Rattle.plcr_script.specs.RunTurns.{turn_of}
use Rattle.plcr_script.specs.Run.{run_of, end_after}
use Rattle.plcr_script.specs.Worked.{WorkedScripts, AreLengths, WorkedRuns}

pub worked_scripts : WorkedScripts
unfolding script_in with_lines with_line is_named saying_of statement_in table_in set_in load_in unload_in report_in first_word
worked_scripts = record { two_of_one_header = refl; sized = refl }

pub worked_runs : (report : List Listed → List ℕ) → AreLengths report → WorkedRuns report
unfolding run_of turn_of end_after
worked_runs report h = record {
  between = rw (h.empty, h.unnamed) refl;
  long = refl;
  too_long = refl;
  two = rw h.named_y refl;
  file = refl;
  opened = rw (h.empty, h.named_a) refl;
  counted = refl;
  held = refl;
  changed = rw h.five refl;
  one = refl;
  list = refl;
  busy_or_idle = refl;
  overlap = refl;
  never = refl;
  refused = refl;
}

use Rattle.std.proofs.Common.{◌≡◌, ◌+◌, ◌≤◌, length}
use Rattle.plcr_script.specs.Splits.{lines}
use Rattle.plcr_script.specs.Reading.{with_lines, no_lines}
use Rattle.plcr_script.specs.inner.Names.{IsIndexOf}
use Rattle.plcr_script.specs.inner.Fits.{IsLawfulDraft}
use Rattle.plcr_script.proofs.reading.read_lines.Given as goal

-- the lines that are left, read after those so far, make what all lines make
abbrev pub invariant-loop-rest : goal.invariant-loop-rest
invariant-loop-rest l = record {
  read : with_lines l.draft l.number (lines l.rest) ≡ with_lines (no_lines l.fn.mode l.before) 1 (lines l.bytes);
  index : IsIndexOf l.index l.draft;
  lawful : IsLawfulDraft l.draft;
  first : 1 ≤ l.number;
  count : l.number + length l.rest ≤ 1 + length l.bytes;
}

abbrev pub decreases-loop-rest : goal.decreases-loop-rest
decreases-loop-rest l = length l.rest

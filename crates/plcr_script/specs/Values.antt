-- The descriptive values of reports.
use Rattle.std.specs.Prelude.{false, codes}
use Rattle.plcr_script.specs.declared.values.DescriptiveValues.{DescriptiveValues}

-- the values of a script that sets none
abbrev pub default_values : DescriptiveValues
default_values = record {
  os = 0;
  os_version = codes "0";
  timestamp = 0;
  identifier = codes "app";
  version = codes "1";
  signal = codes "SIGABRT";
  code = codes "#0";
  address = 0;
  process = codes "app";
  pid = 0;
  ppid = 0;
  crashed = 0;
  user = false;
  bits = 64;
}

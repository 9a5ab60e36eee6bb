-- What is known of a desk over real files: how often its calls failed, and when these counts rise.
use Rattle.std.specs.Prelude.{ℕ, zero, suc, None, Result, Ok, Err}
use Rattle.plcr_io.specs.Counting.{next, count_after}
use Rattle.plcr_io.specs.Desk.{Told}
use Rattle.plcr_io.specs.declared.desks.TakeFault.{TakeFault}
use Rattle.plcr_io.specs.declared.desks.TakeFault.TheVariants.{Failed, TooLong, Memory}

pub record Counts : Type 0 where
  pub take_faults : ℕ
  pub out_faults : ℕ

-- it tells nothing else
abbrev pub tells : Counts → Told
tells counts = record {
  files = λ _. None;
  taken = None;
  made = None;
  kept = None;
  dropped = None;
  take_faults = counts.take_faults;
  out_faults = counts.out_faults;
}

-- the counts after a take with this answer: that of takes is one higher where it failed
abbrev pub after_take : {A : Type 0} → Counts → Result A TakeFault → Counts
after_take counts (Ok whole) = counts
after_take counts (Err Failed) = record counts { take_faults = next counts.take_faults }
after_take counts (Err (TooLong limit)) = counts
after_take counts (Err Memory) = counts

-- the counts after a make or a keep with this answer: that of outputs is one higher where it failed
abbrev pub after_output : {A E : Type 0} → Counts → Result A E → Counts
after_output counts answer = record counts { out_faults = count_after counts.out_faults answer }

-- the counts after an output was given up with so many faults: that of outputs is one higher where
-- there are some
abbrev pub after_abandon : Counts → ℕ → Counts
after_abandon counts zero = counts
after_abandon counts (suc n) = record counts { out_faults = next counts.out_faults }

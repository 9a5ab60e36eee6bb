use Rattle.std.proofs.Common.{◌∙◌, arith}
use Rattle.std.specs.Option.{option_to_list}
use Rattle.plcr_core.specs.declared.limits.TheConstants.{MOST_THREADS}
use Rattle.plcr_core.proofs.Kept.{kept_more, kept_full, kept_same}
use Rattle.plcr_core.proofs.gathered.add_thread.Goals as goal

pub returns-in_default : goal.returns-in_default
returns-in_default c = rw c.in_default.is (kept_same MOST_THREADS c.args.threads.now.items c.requires)

pub returns-then-len-ge-MOST_THREADS : goal.returns-then-len-ge-MOST_THREADS
returns-then-len-ge-MOST_THREADS c =
    kept_full MOST_THREADS c.args.threads.now.items (option_to_list c.args.thread.now) c.requires (omega arith)

pub returns : goal.returns
returns c =
    rw c.in-Some.is (c.in_ok-push.ensures.items ∙ kept_more MOST_THREADS c.args.threads.now.items c.in-Some.thread (omega arith))

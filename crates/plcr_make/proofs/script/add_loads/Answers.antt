use Rattle.std.proofs.Common.{string_bytes}
use Rattle.plcr_make.proofs.Joining.{joined_none, joined_on, joined_all}
use Rattle.plcr_make.specs.Scripts.{load_line}
use Rattle.plcr_make.proofs.script.add_loads.Goals as goal

pub loop-k-init : goal.loop-k-init
loop-k-init c = joined_none load_line (string_bytes c.args.text.now)

pub loop-k-preserved : goal.loop-k-preserved
loop-k-preserved c = joined_on load_line c.loop-k.k (string_bytes c.args.text.now) (string_bytes c.loop-k.text) (string_bytes c.add_load.new.text) c.loop-k.invariant c.in_ok-add_load.ensures

pub returns : goal.returns
returns c = joined_all load_line c.loop-k.k c.args.images (string_bytes c.args.text.now) (string_bytes c.loop-k.text) c.loop-k.auto.k-end c.loop-k-test.false c.loop-k.invariant

use Rattle.plcr_wire.proofs.Writing.{wrote_twice}
use Rattle.plcr_decode.specs.Text.{text_of}
use Rattle.plcr_decode.proofs.text.put_report.Goals as goal

pub returns : goal.returns
unfolding text_of
returns g c =
    rw (← c.deref.ensures, ← c.deref-2.ensures)
    (wrote_twice _ _ _ _ _ c.put_version.ensures (wrote_twice _ _ _ _ _ c.put_system.ensures (wrote_twice _ _ _ _ _ c.put_application.ensures (wrote_twice _ _ _ _ _ c.put_each.ensures
    (wrote_twice _ _ _ _ _ c.put_each-2.ensures (wrote_twice _ _ _ _ _ c.put_signal.ensures (wrote_twice _ _ _ _ _ c.put_process.ensures c.put_info.ensures)))))))

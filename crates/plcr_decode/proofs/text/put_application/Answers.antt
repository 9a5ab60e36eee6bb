use Rattle.plcr_decode.proofs.text.put_application.Goals as goal

pub returns : goal.returns
returns g c = rw (← c.deref.ensures, ← c.deref-2.ensures) c.put_line.ensures

use Rattle.std.proofs.Common.{true, cond, ap, ◌∙◌}
use Rattle.std.specs.Str.{bytes_eq}
use Rattle.std.proofs.lemmas.Map.Text.{is_eq-slice_cmp}
use Rattle.plcr_script.specs.inner.Names.{has}
use Rattle.plcr_script.proofs.Naming.{cond_or}
use Rattle.plcr_script.proofs.names.add_name.Goals as goal

pub returns-clause-added : goal.returns-clause-added
returns-clause-added c = λ q.
    c.in_ok-insert.ensures.updates.0 (record { ref_ptr = (0, 0); now = q })
    ∙ ap (λ b. cond b true (has c.args.names.now q)) (is_eq-slice_cmp c.args.name.now q)
    ∙ cond_or (bytes_eq c.args.name.now q) (has c.args.names.now q)

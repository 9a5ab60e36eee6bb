use Rattle.std.proofs.Common.{sym, ap, ◌∙◌}
use Rattle.std.specs.Io.KnownBytes.{append_known}
use Rattle.plcr_base.proofs.Appended.{append_twice}
use Rattle.plcr_io.proofs.gathered.Gathered.finish.Goals as goal

-- the bytes that still wait
pub returns-clause-short : goal.returns-clause-short
returns-clause-short g c =
    let parts = c.pass_on.ensures.parts in
    let old = g.K.Sink.written c.args.self.sink.now in (
      c.pass_on.new.room,
      ap (λ o. append_known o c.pass_on.new.room) parts.appended
          ∙ append_twice old parts.front c.pass_on.new.room
          ∙ ap (λ l. append_known old l) (sym parts.parts),
    )

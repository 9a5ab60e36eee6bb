use Rattle.std.proofs.Common.{map}
use Rattle.std.specs.Prelude.{string_bytes}
use Rattle.plcr_command.specs.Seen.{seen}
use Rattle.plcr_tool.proofs.Worded.{other_does, other_leaves, other_tells, side_does, side_leaves, side_tells}
use Rattle.plcr_tool.proofs.top.top.Goals as goal

pub returns-in-Some-clause-does : goal.returns-in-Some-clause-does
returns-in-Some-clause-does g c =
    side_does (map string_bytes c.args.words.now) (seen (g.D.Desk.told c.args.desk.now) (g.L.Sink.written c.args.lines.now) (g.L.Sink.faults c.args.lines.now))
    (seen (g.D.Desk.told c.threads_command.new.desk) (g.L.Sink.written c.threads_command.new.lines) (g.L.Sink.faults c.threads_command.new.lines)) c.threads_command.result _ _ c.in-Some.ensures.form c.threads_command.ensures.does

pub returns-in-None-clause-does : goal.returns-in-None-clause-does
returns-in-None-clause-does g c =
    other_does (map string_bytes c.args.words.now) (seen (g.D.Desk.told c.args.desk.now) (g.L.Sink.written c.args.lines.now) (g.L.Sink.faults c.args.lines.now))
    (seen (g.D.Desk.told c.alone.new.desk) (g.L.Sink.written c.alone.new.lines) (g.L.Sink.faults c.alone.new.lines)) c.alone.result c.in-None.ensures.none c.alone.ensures.does

pub returns-in-Some-clause-past : goal.returns-in-Some-clause-past
returns-in-Some-clause-past g c =
    side_leaves (map string_bytes c.args.words.now) (seen (g.D.Desk.told c.args.desk.now) (g.L.Sink.written c.args.lines.now) (g.L.Sink.faults c.args.lines.now))
    (seen (g.D.Desk.told c.threads_command.new.desk) (g.L.Sink.written c.threads_command.new.lines) (g.L.Sink.faults c.threads_command.new.lines)) c.threads_command.result c.threads_command.new.past _ _ c.in-Some.ensures.form c.threads_command.ensures.past

pub returns-in-None-clause-past : goal.returns-in-None-clause-past
returns-in-None-clause-past g c =
    other_leaves (map string_bytes c.args.words.now) (seen (g.D.Desk.told c.args.desk.now) (g.L.Sink.written c.args.lines.now) (g.L.Sink.faults c.args.lines.now))
    (seen (g.D.Desk.told c.alone.new.desk) (g.L.Sink.written c.alone.new.lines) (g.L.Sink.faults c.alone.new.lines)) c.alone.result c.alone.new.past c.in-None.ensures.none c.alone.ensures.past

pub returns-in-Some-clause-headline : goal.returns-in-Some-clause-headline
returns-in-Some-clause-headline g c =
    side_tells (map string_bytes c.args.words.now) (seen (g.D.Desk.told c.args.desk.now) (g.L.Sink.written c.args.lines.now) (g.L.Sink.faults c.args.lines.now))
    (seen (g.D.Desk.told c.threads_command.new.desk) (g.L.Sink.written c.threads_command.new.lines) (g.L.Sink.faults c.threads_command.new.lines)) c.threads_command.result c.threads_command.new.past _ _ c.in-Some.ensures.form c.threads_command.ensures.journal c.threads_command.ensures.ran c.threads_command.ensures.kept

pub returns-in-None-clause-headline : goal.returns-in-None-clause-headline
returns-in-None-clause-headline g c =
    other_tells (map string_bytes c.args.words.now) (seen (g.D.Desk.told c.args.desk.now) (g.L.Sink.written c.args.lines.now) (g.L.Sink.faults c.args.lines.now))
    (seen (g.D.Desk.told c.alone.new.desk) (g.L.Sink.written c.alone.new.lines) (g.L.Sink.faults c.alone.new.lines)) c.alone.result c.alone.new.past c.in-None.ensures.none c.alone.ensures.headline

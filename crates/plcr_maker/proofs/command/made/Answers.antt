use Rattle.plcr_maker.proofs.Whole.{made_by, left_by}
use Rattle.plcr_maker.proofs.command.made.Goals as goal

pub returns-in-Some-clause-did : goal.returns-in-Some-clause-did
returns-in-Some-clause-did g c =
    made_by c.args.n c.args.core.now c.args.script.now c.in-Some.made _ _ c.hand_out-ending.result c.in-Some.ensures c.hand_out-ending.ensures.goes_on.desk c.hand_out-ending.ensures.hands

pub returns-in-Some-clause-leaves : goal.returns-in-Some-clause-leaves
returns-in-Some-clause-leaves g c = left_by c.args.n c.in-Some.made _ _ _ _ c.hand_out-ending.result c.in-Some.ensures c.hand_out-ending.ensures.hands

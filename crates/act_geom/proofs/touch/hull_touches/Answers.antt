use Rattle.std.proofs.Common.{sym, ◌∙◌, arith}
use Rattle.act_geom.specs.Touch.{box_meets, all_left}
use Rattle.act_geom.proofs.BoxFacts.{box_turned, both_tests}
use Rattle.act_geom.proofs.touch.hull_touches.Goals as goal

pub line_misses-requires-else-a-b-clause-meets : goal.line_misses-requires-else-a-b-clause-meets
line_misses-requires-else-a-b-clause-meets c =
    box_turned c.args.hull c.args.a c.args.b ∙ sym c.boxes_meet.ensures ∙ grind arith

pub returns-else-a-b : goal.returns-else-a-b
returns-else-a-b c = both_tests (box_meets c.args.hull (record { a = c.args.a; b = c.args.b })) (all_left c.args.hull c.args.a c.args.b) (all_left c.args.hull c.args.b c.args.a) c.line_misses-else-a-b.result (sym c.boxes_meet.ensures ∙ grind arith) c.line_misses-else-a-b.ensures

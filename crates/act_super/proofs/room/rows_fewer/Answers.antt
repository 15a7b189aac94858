use Rattle.std.proofs.Common.{arith}
use Rattle.act_super.specs.Standings.{values}
use Rattle.act_super.proofs.RoomFacts.{added_rows, parted_rows}
use Rattle.act_super.proofs.room.rows_fewer.Goals as goal

pub overflow_sub-nodes : goal.overflow_sub-nodes
overflow_sub-nodes c = omega (arith, added_rows c.args.marks.now (values c.args.others.now) c.args.zone.now, c.requires.rows, c.chain_rows.ensures.is)

pub overflow_sub-result : goal.overflow_sub-result
overflow_sub-result c = omega (arith, added_rows c.args.marks.now (values c.args.others.now) c.args.zone.now, c.requires.rows, c.in_ok-shift.ensures.shift.rows, c.in_ok-shift.ensures.shift.fewer, c.in_ok-shift.ensures.shift.newer, c.chain_rows.ensures.is)

pub returns-clause-is : goal.returns-clause-is
returns-clause-is c = omega (arith, added_rows c.args.marks.now (values c.args.others.now) c.args.zone.now, parted_rows c.args.marks.now (values c.args.others.now), c.requires.rows, c.in_ok-shift.ensures.shift.rows, c.in_ok-shift.ensures.shift.fewer, c.in_ok-shift.ensures.shift.newer, c.chain_rows.ensures.is)

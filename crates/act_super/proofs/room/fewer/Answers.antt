use Rattle.std.proofs.Common.{arith, sym, subst, []}
use Rattle.act_super.specs.Shifts.{IsMost, added}
use Rattle.act_super.specs.Standings.{values}
use Rattle.act_super.proofs.LinkFacts.{most_within}
use Rattle.act_super.proofs.RoomFacts.{added_rows, most_without, plain_most, parted_rows}
use Rattle.act_super.proofs.StandingFacts.{length_values}
use Rattle.act_super.proofs.room.fewer.Goals as goal

pub overflow_sub-nodes : goal.overflow_sub-nodes
overflow_sub-nodes c =
    let shift = rw c.new-none.ensures at c.in_ok-shift.ensures.shift in
    omega (arith, added_rows [] (values c.args.others.now) c.args.zone.now, parted_rows [] (values c.args.others.now), c.requires.rows, shift.rows, shift.fewer, shift.newer, c.chain_rows-chain.ensures.is)

pub overflow_sub-result : goal.overflow_sub-result
overflow_sub-result c =
    let shift = rw c.new-none.ensures at c.in_ok-shift.ensures.shift in
    omega (arith, added_rows [] (values c.args.others.now) c.args.zone.now, parted_rows [] (values c.args.others.now), c.requires.rows, shift.rows, shift.fewer, shift.newer, c.chain_rows-chain.ensures.is)

pub returns-clause-rows : goal.returns-clause-rows
returns-clause-rows c =
    let shift = rw c.new-none.ensures at c.in_ok-shift.ensures.shift in
    omega (arith, added_rows [] (values c.args.others.now) c.args.zone.now, parted_rows [] (values c.args.others.now), c.requires.rows, shift.rows, shift.fewer, shift.newer, c.chain_rows-chain.ensures.is)

pub returns-clause-most : goal.returns-clause-most
returns-clause-most c =
    let shift = rw c.new-none.ensures at c.in_ok-shift.ensures.shift in
    subst (λ n. IsMost c.in_ok-shift.shift.without n) (sym (plain_most (values c.args.others.now))) (most_without _ _ _ _ c.in_ok-shift.shift shift (omega (arith, plain_most (added (values c.args.others.now) c.args.zone.now), c.requires.most)))

pub returns-clause-few : goal.returns-clause-few
returns-clause-few c =
    let shift = rw c.new-none.ensures at c.in_ok-shift.ensures.shift in
    omega (arith, shift.without_low, plain_most (values c.args.others.now), most_within (values c.args.others.now), length_values c.args.others.now, c.requires.few)

use Rattle.std.proofs.Common.{arith}
use Rattle.act_pool.proofs.Tidy.{tidy_room}
use Rattle.act_pool.proofs.pool.Pool.free.Goals as goal

pub overflow_cast-result : goal.overflow_cast-result
overflow_cast-result c =
    let few = c.self.invariant.few in
    let room = tidy_room _ c.self.invariant.tidy in
    let len = c.len.ensures in
    record { fits = omega arith }

use Rattle.std.proofs.Common.{ℕ, ◌-◌, arith, length, take, drop, sym, subst}
use Rattle.std.proofs.lemmas.List.{take-append-drop}
use Rattle.act_pool.specs.Pooled.{IsTidy}
use Rattle.act_pool.proofs.Tidy.{tidy_room, tidy_taken}
use Rattle.act_pool.proofs.pool.Pool.take.Goals as goal

pub overflow_cast-result : goal.overflow_cast-result
overflow_cast-result c =
    let few = c.self.invariant.few in
    let room = tidy_room _ c.self.invariant.tidy in
    let len = c.len-then-out-len.ensures in
    record { fits = omega arith }

pub invariant_of-self : goal.invariant_of-self
invariant_of-self c =
    let i = c.self.invariant in
    let s = c.self.inside in
    let a : ℕ = c.len-2.result - length c.args.out.now in
    let same = c.truncate.ensures.capacity in
    let room = i.room.0 in
    record {
      room = (omega arith, i.room.1);
      few = i.few;
      tidy = subst (λ z. IsTidy (record { rows = s.rows; free = z; retired = s.retired.items })) (sym c.truncate.ensures.items)
          (tidy_taken (record { rows = s.rows; free = s.free.items; retired = s.retired.items }) (take a s.free.items) (drop a s.free.items) i.tidy (sym (take-append-drop a s.free.items)));
    }

use Rattle.std.proofs.Common.{Some}
use Rattle.std.proofs.lemmas.List.Elements.{All-pop}
use Rattle.act_join.specs.Workers.{IsFoundAt}
use Rattle.act_join.proofs.team.put_all_found.Goals as goal

pub loop-preserved : goal.loop-preserved
loop-preserved c = λ before now batches f s.
    let inv = c.loop.invariant before now batches f s in
    let both = All-pop (IsFoundAt before now batches) c.loop.found.items c.pop.new.self.items (Some c.in-Some.one) c.in-Some.ensures.items inv.0 in
    (both.0, c.put_found.ensures before now batches both.1 inv.1)

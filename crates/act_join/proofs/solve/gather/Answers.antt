use Rattle.std.proofs.Common.{◌≡◌, ◌++◌, ◌∙◌, [], ap, drop, sym, take}
use Rattle.std.proofs.lemmas.List.{drop_all}
use Rattle.act_script.specs.Turns.{most_sampled}
use Rattle.act_script.specs.declared.segment.Batch.{Batch}
use Rattle.act_join.specs.Working.{points_of}
use Rattle.act_join.proofs.SolveFacts.{gathered_all, gathered_step}
use Rattle.act_join.proofs.solve.gather.Goals as goal

pub loop-batch-preserved : goal.loop-batch-preserved
loop-batch-preserved c =
    let now = c.loop-batch.list.items in
    let next = c.extend.new.list.items in
    let one : next ≡ take most_sampled (now ++ c.batch-item.result.points) = rw c.as_slice.ensures at c.in_ok-extend.ensures.ok in
    record {
      so = gathered_step now next c.args.batches.now c.loop-batch.batch-index c.batch-item.result _ c.loop-batch-test.true c.loop-batch.invariant.so
          (one ∙ ap (λ (z : Batch). take most_sampled (now ++ z.points)) c.batch-item.is);
      few = c.in_ok-extend.ensures.few;
    }

pub returns-clause-ok : goal.returns-clause-ok
returns-clause-ok c =
    let now = c.loop-batch.list.items in
    let none : drop c.loop-batch.batch-index c.args.batches.now ≡ [] = drop_all c.loop-batch.batch-index c.args.batches.now c.loop-batch-test.false in
    gathered_all now _ c.loop-batch.invariant.few (ap (λ z. take most_sampled (now ++ points_of z)) (sym none) ∙ c.loop-batch.invariant.so)

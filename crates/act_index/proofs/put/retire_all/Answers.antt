use Rattle.std.proofs.Common.{◌<◌, ◌++◌, take, length, get_or, ap, ◌∙◌, subst}
use Rattle.act_pool.specs.Pooled.{Pooled}
use Rattle.act_pool.specs.Retired.{placed}
use Rattle.act_index.specs.Written.{paired}
use Rattle.act_index.proofs.Writing.{retire_used, retired_more}
use Rattle.act_index.proofs.put.retire_all.Goals as goal

pub retire-requires : goal.retire-requires
retire-requires c =
    let p : Pooled = c.args.pool.now in
    let low = c.loop-row-test.true in
    let is = c.gone-row-items.ensures in
    rw (is, c.loop-row.invariant) (retire_used p c.args.plan.now.gone c.loop-row.row-index c.args.version c.requires.once c.requires.range (subst (λ z. c.loop-row.row-index < length z) is low))

pub loop-row-preserved : goal.loop-row-preserved
loop-row-preserved c =
    let p : Pooled = c.args.pool.now in
    let low = c.loop-row-test.true in
    let is = c.gone-row-items.ensures in
    c.retire.ensures ∙ (ap (λ (z : Pooled). record z { retired = placed (get_or c.gone-row-items.result.now c.loop-row.row-index 0) c.args.version z.retired }) c.loop-row.invariant
    ∙ (ap (λ z. record p { retired = placed (get_or z c.loop-row.row-index 0) c.args.version (p.retired ++ paired (take c.loop-row.row-index c.args.plan.now.gone) c.args.version) }) is
    ∙ ap (λ z. record p { retired = z }) (retired_more p c.args.plan.now.gone c.loop-row.row-index c.args.version c.requires.last (subst (λ z. c.loop-row.row-index < length z) is low))))

use Rattle.std.proofs.Common.{◌+◌, take, subst, sym}
use Rattle.act_image.specs.Paths.{StaysIn}
use Rattle.act_image.proofs.OldFacts.{stays_far, stays_none, stays_set}
use Rattle.act_image.proofs.path.stays_in.Goals.{in-Some+then-at-count, in-Some+else-at-count, in_default}
use Rattle.act_image.proofs.path.stays_in.Goals as goal

pub loop-i-preserved : goal.loop-i-preserved
loop-i-preserved c =
    let sources = c.args.sources.now in
    let i = c.loop-i.i in
    let count = c.args.count in
    let stays = c.loop-i.stays.items in
    elim c.match-sources-i.branch [
      | in-Some+then-at-count w ↦ subst (StaysIn (take (i + 1) sources) count) (sym (λ k. (w.stays-is k).items)) (stays_set sources i count stays c.loop-i.invariant c.loop-i-test.true w.in-Some.at w.in-Some.is w.if-at-count.true)
      | in-Some+else-at-count w ↦ subst (StaysIn (take (i + 1) sources) count) (sym (λ k. (w.stays-is k).items)) (stays_far sources i count stays c.loop-i.invariant c.loop-i-test.true w.in-Some.at w.in-Some.is w.if-at-count.false)
      | in_default w ↦ subst (StaysIn (take (i + 1) sources) count) (sym (λ k. (w.stays-is k).items)) (stays_none sources i count stays c.loop-i.invariant c.loop-i-test.true w.in_default.is)
    ]

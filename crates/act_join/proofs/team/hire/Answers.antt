use Rattle.std.proofs.Common.{[], ◌∙◌, refl, sym}
use Rattle.act_join.proofs.UpdatingFacts.{makes_more, makes_none}
use Rattle.act_join.proofs.WorkerFacts.{hired_more, hired_none}
use Rattle.act_join.proofs.team.hire.Goals as goal

pub loop-preserved : goal.loop-preserved
loop-preserved c =
    let inv = c.loop.invariant in
    let first = c.args.writer.now in
    let now = c.loop.writer in
    record {
      made = makes_more first now c.hire_one.new.writer [] [] inv.made c.in-Ok.ensures.made;
      pieces = c.in-Ok.ensures.pieces ∙ inv.pieces;
      works = λ batches same.
          hired_more first now batches c.loop.team.items c.push.new.self.items c.in-Ok.worker inv.made (inv.works batches same) (c.in-Ok.ensures.works batches (same ∙ sym inv.pieces))
          c.in_ok-push-in-Ok.ensures.items;
    }

pub loop-init : goal.loop-init
loop-init c = record {
  made = makes_none c.args.writer.now;
  pieces = refl;
  works = λ batches same. hired_none c.args.writer.now batches c.in_ok-team.team.items c.in_ok-team.ensures.items;
}

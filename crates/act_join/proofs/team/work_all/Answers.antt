use Rattle.std.proofs.Common.{◌≡◌, ◌∙◌, length, ap, subst, sym}
use Rattle.std.specs.Prelude.{All}
use Rattle.act_join.specs.Workers.{IsWorking}
use Rattle.act_join.proofs.WorkerFacts.{written_back}
use Rattle.act_join.proofs.team.work_all.Goals as goal

pub returns-then-not-is_empty : goal.returns-then-not-is_empty
returns-then-not-is_empty g c = record {
  works = λ table before all.
      let team = c.args.team.now in
      let same : length c.work_each.new.team ≡ length team.items = c.work_each.auto.team ∙ ap length c.as_mut_slice.ensures.value in
      subst (All (IsWorking table before c.args.batches.now)) (sym (written_back team.items c.work_each.new.team team.len same team.ok.0))
      (c.work_each.ensures.works table before (subst (All (IsWorking table before c.args.batches.now)) (sym c.as_mut_slice.ensures.value) all));
}

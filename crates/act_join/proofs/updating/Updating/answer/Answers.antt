use Rattle.std.proofs.Common.{◌≡◌, ◌∙◌, ap}
use Rattle.std.specs.Prelude.{All}
use Rattle.act_join.specs.declared.worker.Worker.{Worker}
use Rattle.act_join.proofs.FoundFacts.{all_later}
use Rattle.act_join.proofs.UpdatingFacts.{along_moved}
use Rattle.act_join.proofs.WorkerFacts.{begins_through, team_tables}
use Rattle.act_join.proofs.updating.Updating.answer.Goals as goal

pub collect-requires-clause-tables : goal.collect-requires-clause-tables
collect-requires-clause-tables g c =
    let old = c.args.self.now.writer in
    let now = c.run_beside.new.self.writer in
    let tables : All (λ (worker : Worker). worker.reader.table ≡ now.table) c.run_beside.new.team.items =
    team_tables now.table old.table old.desk.history c.args.batches.now c.run_beside.new.team.items
    (c.in-Ok-run_beside.ensures.table ∙ c.in-Ok-hire_team.ensures.made.table)
    (c.in-Ok-run_beside.ensures.works old.table old.desk.history c.in-Ok-hire_team.ensures.works) in
    search tables

pub returns-in-Ok-finish-clause-along : goal.returns-in-Ok-finish-clause-along
returns-in-Ok-finish-clause-along g c = λ start points updates along.
    let hired = c.hire_team.ensures.same in
    let back = c.collect.ensures.same in
    c.in-Ok-finish.ensures.along start points updates
    (along_moved start points updates c.run_beside.new.self c.collect.new.self
    (c.in-Ok-run_beside.ensures.along start points updates
    (along_moved start points updates c.args.self.now c.hire_team.new.self along c.in-Ok-hire_team.ensures.made (ap (λ v. v.items) hired.0) (ap (λ v. v.items) hired.1) (ap (λ v. v.items) hired.2) (ap (λ v. v.items) hired.3)))
    c.in-Ok-collect.ensures.made (ap (λ v. v.items) back.0) (ap (λ v. v.items) back.1) (ap (λ v. v.items) back.2) (ap (λ v. v.items) back.3))

pub returns-in-Ok-finish-clause-found : goal.returns-in-Ok-finish-clause-found
returns-in-Ok-finish-clause-found g c =
    let old = c.args.self.now.writer in
    let hired = c.hire_team.new.self.writer in
    let now = c.run_beside.new.self.writer in
    let back = c.collect.new.self.writer in
    let batches = c.args.batches.now in
    all_later old.desk.history back.desk.history c.finish.new.self.writer.desk.history batches c.in-Ok-collect.answers.items c.in-Ok-finish.ensures.grows
    (c.in-Ok-collect.ensures.found old.table old.desk.history
    (begins_through old hired now c.in-Ok-hire_team.ensures.made c.in-Ok-run_beside.ensures.grows)
    (c.in-Ok-run_beside.ensures.works old.table old.desk.history c.in-Ok-hire_team.ensures.works))

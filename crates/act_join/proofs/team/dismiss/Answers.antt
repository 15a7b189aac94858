use Rattle.std.proofs.Common.{◌≡◌, ◌∙◌, [], Some, sym}
use Rattle.std.proofs.lemmas.List.Elements.{All-pop, All-weaker}
use Rattle.act_join.specs.Workers.{IsWorking}
use Rattle.act_join.specs.declared.worker.Worker.{Worker}
use Rattle.act_join.proofs.UpdatingFacts.{makes_more}
use Rattle.act_join.proofs.team.dismiss.Goals as goal

pub returns-in_default-clause-settled : goal.returns-in_default-clause-settled
returns-in_default-clause-settled c = λ table before batches all s. (c.loop.invariant.settled table before batches all s).1

pub dismiss_one-requires : goal.dismiss_one-requires
dismiss_one-requires c = record {
  table = (All-pop (λ (worker : Worker). worker.reader.table ≡ c.loop.writer.table) c.loop.team.items c.pop.new.self.items (Some c.in-Some.worker) c.in-Some.ensures.items c.loop.invariant.tables).1;
}

pub loop-preserved : goal.loop-preserved
loop-preserved c =
    let inv = c.loop.invariant in
    let old = c.loop.writer in
    let new = c.dismiss_one.new.writer in
    let rest = c.pop.new.self.items in
    let made = c.dismiss_one.ensures.made in
    let tables = All-pop (λ (worker : Worker). worker.reader.table ≡ old.table) c.loop.team.items rest (Some c.in-Some.worker) c.in-Some.ensures.items inv.tables in
    record {
      tables = All-weaker (λ (worker : Worker). worker.reader.table ≡ old.table) (λ (worker : Worker). worker.reader.table ≡ new.table) (λ worker is. is ∙ sym made.table) rest tables.0;
      made = makes_more c.args.writer.now old new [] [] inv.made made;
      settled = λ table before batches all s.
          let so = inv.settled table before batches all s in
          let both = All-pop (IsWorking table before batches) c.loop.team.items rest (Some c.in-Some.worker) c.in-Some.ensures.items so.0 in
          (both.0, c.dismiss_one.ensures.settled table before batches both.1 so.1);
    }

pub returns-clause-settled : goal.returns-clause-settled
returns-clause-settled c = λ table before batches all s. (c.loop.invariant.settled table before batches all s).1

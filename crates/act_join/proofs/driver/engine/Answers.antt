use Rattle.act_join.proofs.EndFacts.{nothing_written}
use Rattle.act_join.proofs.driver.engine.Goals as goal

pub returns-in-Err : goal.returns-in-Err
returns-in-Err g c =
    nothing_written c.args.settings (g.S.Source.left c.args.input.now) (g.K.Sink.written c.args.out.now) (g.K.Sink.faults c.args.out.now) (g.K.Sink.faults c.args.out.now)

use Rattle.act_io.specs.Streams.{stream}
use Rattle.act_join.proofs.AnswerFacts.{ran, ran_front}
use Rattle.act_join.proofs.progress.run_given.Goals as goal

pub returns-in-Ok-clause-runs : goal.returns-in-Ok-clause-runs
returns-in-Ok-clause-runs g c =
    rw c.in-Some.is (ran c.args.run.now c.segment.new.self c.in-Some.segment (stream g.K.Sink.written g.K.Sink.faults c.args.out.now c.segment.new.out) c.in-Ok.ensures.kept c.in-Ok.ensures.text)

pub returns-in-Err-WriteFault-clause-runs : goal.returns-in-Err-WriteFault-clause-runs
returns-in-Err-WriteFault-clause-runs g c =
    let stop = rw c.in-Err-WriteFault.field-0-is at c.in-Err-WriteFault.ensures.text in
    rw c.in-Some.is (stop.1, ran_front c.args.run.now c.in-Some.segment (stream g.K.Sink.written g.K.Sink.faults c.args.out.now c.segment.new.out) stop.0)

pub returns-in-Err-NoMemory-clause-runs : goal.returns-in-Err-NoMemory-clause-runs
returns-in-Err-NoMemory-clause-runs g c =
    let stop = rw c.in-Err-NoMemory.field-0-is at c.in-Err-NoMemory.ensures.text in
    rw c.in-Some.is (ran_front c.args.run.now c.in-Some.segment (stream g.K.Sink.written g.K.Sink.faults c.args.out.now c.segment.new.out) stop)

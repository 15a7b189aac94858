use Rattle.std.proofs.Common.{◌∙◌}
use Rattle.act_script.specs.Turns.{turns_of}
use Rattle.act_join.specs.Replies.{replies_text}
use Rattle.act_join.proofs.ReplyFacts.{answers_written, unsolved}
use Rattle.act_join.proofs.SolveFacts.{on_any}
use Rattle.act_join.proofs.SolvedFacts.{solved_reply}
use Rattle.act_join.proofs.run.Run.segment.Goals as goal

pub returns-in-Ok-clause-text : goal.returns-in-Ok-clause-text
returns-in-Ok-clause-text g c =
    let kept = c.args.self.now in
    let turns = turns_of kept.points c.args.segment in
    answers_written kept.held turns _ (replies_text c.in-Ok.solved) c.write.result (solved_reply kept.held turns c.in-Ok.solved c.in-Ok.ensures.solves) c.write.ensures.text

pub returns-in-Ok-clause-kept : goal.returns-in-Ok-clause-kept
returns-in-Ok-clause-kept g c = on_any c.write.result _ (c.write.ensures.same ∙ c.in-Ok.ensures.kept)

pub returns-in-Err-clause-text : goal.returns-in-Err-clause-text
returns-in-Err-clause-text g c =
    let kept = c.args.self.now in
    unsolved kept.held (turns_of kept.points c.args.segment) (g.K.Sink.written c.args.out.now) (g.K.Sink.faults c.args.out.now) (g.K.Sink.faults c.args.out.now)
